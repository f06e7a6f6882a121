use Rattle.std.proofs.Common.{ℕ, List, Ok, map, refl}
use Rattle.bs_outside.specs.Plan.{Plan}
use Rattle.bs_top_files.specs.Causes.{Case}
use Rattle.bs_inspect_notes.specs.declared.name.Subject.TheVariants.{Flops}
use Rattle.bs_outside.specs.declared.file.File.TheVariants as files
use Rattle.bs_outside.proofs.TellingLemmas.{diagnosed_read, diagnosed_then}
use Rattle.bs_vcd.specs.declared.cycles.MarkedStates.{MarkedStates}
use Rattle.bs_inspect_values.specs.Simulated.{names_read}
use Rattle.bs_inspect_values.specs.Dumped.{states_of, taking_in}
use Rattle.bs_inspect_values.proofs.DumpedLemmas.{names_wide}
use Rattle.bs_inspect_values.proofs.WalkLemmas.{diagnosed_refused}
use Rattle.bs_inspect_values.proofs.dumping.load_by_names.Goals as goal

pub returns-in-Ok-clause-walks : goal.returns-in-Ok-clause-walks
returns-in-Ok-clause-walks g c =
    let keys : List (List ℕ) = map (λ k. k.now) c.args.keys.now in
    let plan : List (List ℕ) → Plan Case MarkedStates = λ ns. states_of keys ns (taking_in c.args.taking) in
    let view : List (List ℕ) → List (List ℕ) = λ ns. ns in
    diagnosed_then {view = view} plan
    (diagnosed_read {view = view} files.Map (names_read Flops c.args.path.now keys c.args.text.now) (Ok c.in-Ok.names) refl c.in-Ok.ensures.words
    c.in-Ok.ensures.note)
    c.load_spelled.ensures.walks

pub returns-in-Ok-clause-wide : goal.returns-in-Ok-clause-wide
returns-in-Ok-clause-wide g c =
    names_wide Flops c.args.path.now c.args.keys.now c.in-Ok.names c.args.text.now c.load_spelled.result c.in-Ok.ensures.words c.load_spelled.ensures.wide

pub returns-in-Err-clause-walks : goal.returns-in-Err-clause-walks
returns-in-Err-clause-walks g c =
    let keys : List (List ℕ) = map (λ k. k.now) c.args.keys.now in
    let plan : List (List ℕ) → Plan Case MarkedStates = λ ns. states_of keys ns (taking_in c.args.taking) in
    let view : List (List ℕ) → List (List ℕ) = λ ns. ns in
    rw c.settle_diagnostic.ensures
    (diagnosed_refused view files.Map (names_read Flops c.args.path.now keys c.args.text.now) plan c.in-Err.unread c.in-Err.ensures.words
    c.in-Err.ensures.note)

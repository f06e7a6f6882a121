use Rattle.std.proofs.Common.{ℕ, List, Bor, Vec, Ok, map, ap, refl, ◌∙◌}
use Rattle.bs_outside.specs.Plan.{Plan}
use Rattle.bs_top_files.specs.Causes.{Case}
use Rattle.bs_inspect_check.specs.declared.comparison.Comparison.{Comparison}
use Rattle.bs_inspect_notes.specs.declared.name.Subject.TheVariants.{Flops}
use Rattle.bs_outside.specs.declared.file.File.TheVariants as files
use Rattle.bs_outside.proofs.TellingLemmas.{diagnosed_read, diagnosed_then}
use Rattle.bs_inspect_values.specs.Simulated.{names_read}
use Rattle.bs_inspect_files.specs.Checked.{all_of, beside_in}
use Rattle.bs_inspect_values.proofs.WalkLemmas.{diagnosed_refused}
use Rattle.bs_inspect_files.proofs.NameLemmas.{few_names}
use Rattle.bs_inspect_files.proofs.naming.load_by_names.Goals as goal

pub load_spelled-requires-clause-flops : goal.load_spelled-requires-clause-flops
load_spelled-requires-clause-flops g c =
    few_names Flops c.args.path.now c.args.keys.now c.in-Ok.names c.args.text.now c.in-Ok.ensures.words c.requires.flops

pub returns-in-Ok : goal.returns-in-Ok
returns-in-Ok g c =
    let keys : List (List ℕ) = map (λ k. k.now) c.args.keys.now in
    let vcds : List (List ℕ) = map (λ s. s.now) c.args.vcds.now in
    let plan : List (List ℕ) → Plan Case (List Comparison) = λ ns. all_of keys ns (beside_in c.args.beside) vcds in
    let view : List (List ℕ) → List (List ℕ) = λ ns. ns in
    diagnosed_then {view = view} plan
    (diagnosed_read {view = view} files.Map (names_read Flops c.args.path.now keys c.args.text.now) (Ok c.in-Ok.names) refl c.in-Ok.ensures.words c.in-Ok.ensures.note)
    c.load_spelled.ensures

pub returns-in-Err : goal.returns-in-Err
returns-in-Err g c =
    let keys : List (List ℕ) = map (λ k. k.now) c.args.keys.now in
    let vcds : List (List ℕ) = map (λ s. s.now) c.args.vcds.now in
    let plan : List (List ℕ) → Plan Case (List Comparison) = λ ns. all_of keys ns (beside_in c.args.beside) vcds in
    let view : List (List ℕ) → List (List ℕ) = λ ns. ns in
    rw c.settle_diagnostic.ensures
    (diagnosed_refused view files.Map (names_read Flops c.args.path.now keys c.args.text.now) plan c.in-Err.unread c.in-Err.ensures.words c.in-Err.ensures.note)

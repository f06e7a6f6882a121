use Rattle.std.proofs.Common.{ℕ, List, Ok, map, refl}
use Rattle.bs_outside.specs.Plan.{Plan}
use Rattle.bs_top_files.specs.Causes.{Case}
use Rattle.bs_inspect_notes.specs.declared.name.Subject.TheVariants.{Inputs}
use Rattle.bs_outside.specs.declared.file.File.TheVariants as files
use Rattle.bs_outside.proofs.TellingLemmas.{diagnosed_read, diagnosed_then}
use Rattle.bs_inspect_values.specs.Simulated.{Sampled, clocked_in, names_read, sampled_of}
use Rattle.bs_inspect_values.proofs.WalkLemmas.{diagnosed_refused}
use Rattle.bs_inspect_values.proofs.simulated.load_by_names.Goals as goal

pub returns-in-Ok : goal.returns-in-Ok
returns-in-Ok g c =
    let keys : List (List ℕ) = map (λ k. k.now) c.args.keys.now in
    let vcds : List (List ℕ) = map (λ s. s.now) c.args.vcds.now in
    let plan : List (List ℕ) → Plan Case Sampled = λ ns. sampled_of keys ns (clocked_in c.args.at) vcds in
    let view : List (List ℕ) → List (List ℕ) = λ ns. ns in
    diagnosed_then {view = view} plan
    (diagnosed_read {view = view} files.Map (names_read Inputs c.args.path.now keys c.args.text.now) (Ok c.in-Ok.names) refl c.in-Ok.ensures.words
    c.in-Ok.ensures.note)
    c.load_spelled.ensures

pub returns-in-Err : goal.returns-in-Err
returns-in-Err g c =
    let keys : List (List ℕ) = map (λ k. k.now) c.args.keys.now in
    let vcds : List (List ℕ) = map (λ s. s.now) c.args.vcds.now in
    let plan : List (List ℕ) → Plan Case Sampled = λ ns. sampled_of keys ns (clocked_in c.args.at) vcds in
    let view : List (List ℕ) → List (List ℕ) = λ ns. ns in
    rw c.settle_diagnostic.ensures
    (diagnosed_refused view files.Map (names_read Inputs c.args.path.now keys c.args.text.now) plan c.in-Err.unread c.in-Err.ensures.words
    c.in-Err.ensures.note)

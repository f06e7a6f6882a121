use Rattle.std.proofs.Common.{◌≡◌, ℕ, List, subst}
use Rattle.std.specs.Prelude.{IfOk}
use Rattle.bs_call.proofs.NoteLemmas.{made_due}
use Rattle.bs_inspect_notes.specs.Simulations.{late_text}
use Rattle.bs_inspect_netlist_requests.proofs.asking.run_said.Goals as goal

pub returns : goal.returns
returns c =
    made_due _ _ _ c.note_made.ensures
    (subst (λ (name : List ℕ). IfOk c.late_note.result (λ note. note.items ≡ late_text name c.args.run.now.begin)) c.as_slice.ensures.value
    c.late_note.ensures)

use Rattle.std.proofs.Common.{◌≡◌}
use Rattle.bs_inspect_usages.specs.Usages.{unread_text}
use Rattle.bs_call.proofs.NoteLemmas.{made_due}
use Rattle.backspace_inspect.proofs.top.InspectProgram.unread_note.Goals as goal

pub returns : goal.returns
returns c = made_due (λ text. text ≡ unread_text) _ _ c.note_made-note.ensures c.unread_note.ensures

use Rattle.std.proofs.Common.{Option, subst}
use Rattle.std.specs.Prelude.{option_map}
use Rattle.bs_note_files.specs.Notes.{Saying}
use Rattle.bs_call.specs.Note.{DueText}
use Rattle.bs_inspect_plans.specs.Rejections.{meaning_text}
use Rattle.bs_inspect_plans.proofs.rejection.text_said.Goals as goal

pub returns : goal.returns
returns c =
    subst (λ (o : Option Saying). DueText (option_map meaning_text o) c.meaning_said.result) c.meaning_of-meaning.ensures c.meaning_said.ensures

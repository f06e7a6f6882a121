use Rattle.std.proofs.Common.{ℕ, List, subst}
use Rattle.bs_call.specs.Note.{DueText}
use Rattle.bs_inspect_plans.specs.Rejections.{rejected_text}
use Rattle.bs_inspect_plans.proofs.rejection.rejected_said.Goals as goal

pub returns : goal.returns
returns c =
    subst (λ (t : List ℕ). DueText (rejected_text c.args.what t) c.text_said.result) c.as_slice-text.ensures.value c.text_said.ensures

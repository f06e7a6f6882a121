use Rattle.std.proofs.Common.{ℕ, subst}
use Rattle.bs_call.specs.Note.{DueText}
use Rattle.bs_inspect_plans.specs.Asked.{window_of}
use Rattle.bs_inspect_plans.specs.Windows.{window_text}
use Rattle.bs_inspect_plans.proofs.window.window_said.Goals as goal

pub returns : goal.returns
returns c =
    subst (λ (n : ℕ). DueText (window_text (window_of c.args.window) n) c.count_said.result) c.len-count.ensures c.count_said.ensures

use Rattle.std.proofs.Common.{◌∙◌, ◌++◌, ◌∷◌, [], cond, sym, ap, List, ℕ, get_or, false}
use Rattle.bs_flat_meaning.proofs.MarkLemmas.{unmarked_more}
use Rattle.bs_flat_meaning.proofs.marks.unmarked.Goals as goal

pub modules-preserved : goal.modules-preserved
modules-preserved c =
    c.in_ok-push_unless.ensures
    ∙ (ap (λ (l : List ℕ). l ++ cond (get_or c.args.marks.now c.modules.module false) [] (c.modules.module ∷ [])) c.modules.invariant
    ∙ sym (unmarked_more c.args.marks.now c.modules.module))

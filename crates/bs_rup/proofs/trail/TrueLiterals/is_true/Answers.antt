use Rattle.std.proofs.Common.{ap, sym, ◌∙◌}
use Rattle.bs_clause.specs.Literal.{has_literal, same_literal}
use Rattle.bs_rup.specs.LiteralSet.{is_marked}
use Rattle.bs_rup.proofs.Lists.{list_any-reverse}
use Rattle.bs_rup.proofs.trail.TrueLiterals.is_true.Goals as goal

pub returns : goal.returns
returns c =
    c.has.ensures ∙ ap (is_marked c.self.inside.marks) c.code.ensures.code ∙ c.self.invariant.marked c.args.literal ∙
    sym (list_any-reverse (same_literal c.args.literal) c.self.inside.literals.items) ∙ ap (λ xs. has_literal xs c.args.literal) c.self.view_is

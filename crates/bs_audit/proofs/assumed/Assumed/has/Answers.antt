use Rattle.std.proofs.Common.{◌∙◌, ap}
use Rattle.bs_clause.specs.Literal.{Clause, has_literal}
use Rattle.bs_audit.proofs.CodeLemmas.{is_assumed}
use Rattle.bs_audit.proofs.assumed.Assumed.has.Goals as goal

pub returns : goal.returns
returns c =
    is_assumed c.self.inside.codes c.self.inside.literals.now c.args.literal c.code.result c.contains.result c.self.invariant c.code.ensures.code
    c.contains.ensures
    ∙ ap (λ (ls : Clause). has_literal ls c.args.literal) c.self.view_is

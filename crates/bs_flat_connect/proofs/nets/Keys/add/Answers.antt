use Rattle.std.proofs.Common.{sym, ◌∙◌}
use Rattle.bs_flat_connect.proofs.GrowLemmas.{stays, joins}
use Rattle.bs_flat_connect.proofs.nets.Keys.add.Goals as goal

pub returns-then-is_some : goal.returns-then-is_some
returns-then-is_some c =
    stays c.args.self.now c.args.key.now c.number.result c.number.ensures (sym c.is_some.ensures ∙ c.if-is_some.true)

pub returns : goal.returns
returns c =
    joins c.args.self.now c.append.new.self c.args.key.now c.number.result c.number.ensures (sym c.is_some.ensures ∙ c.if-is_some.false)
    c.in_ok-append.ensures.ok

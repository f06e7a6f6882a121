use Rattle.std.proofs.Common.{sym, ◌∙◌}
use Rattle.bs_flat_connect.proofs.GrowLemmas.{constant_added, constant_there}
use Rattle.bs_flat_connect.proofs.growing.add_constant.Goals as goal

pub returns-then-is_some : goal.returns-then-is_some
returns-then-is_some c =
    constant_there c.args.made.now.keys c.args.made.now.consts c.args.bit c.constant_key-key.result.now c.number.result c.constant_key-key.ensures
    c.number.ensures (sym c.is_some.ensures ∙ c.if-is_some.true)

pub returns : goal.returns
returns c =
    constant_added c.args.made.now.keys c.append.new.self c.args.made.now.consts c.push.new.self c.args.bit c.constant_key-key.result.now c.in_ok-net.net
    c.number.result c.constant_key-key.ensures c.number.ensures (sym c.is_some.ensures ∙ c.if-is_some.false) c.in_ok-net.ensures.ok c.in_ok-net.ensures.number
    c.in_ok-push.ensures.ok

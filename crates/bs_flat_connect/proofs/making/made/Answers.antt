use Rattle.std.proofs.Common.{refl}
use Rattle.bs_flat_connect.proofs.MakeLemmas.{made_is, made_takes}
use Rattle.bs_flat_connect.proofs.making.made.Goals as goal

pub returns-in_ok-block-in-Ok-clause-made : goal.returns-in_ok-block-in-Ok-clause-made
returns-in_ok-block-in-Ok-clause-made c =
    made_is c.args.own.now c.args.wiring c.args.children c.in-Ok.names c.args.wiring.consts c.without_parts-bare.result c.in_ok-block-in-Ok.block
    c.without_parts-bare.ensures c.in_ok-block-in-Ok.ensures.parts c.in-Ok.ensures refl

pub returns-in_ok-block-in-Ok-clause-takes : goal.returns-in_ok-block-in-Ok-clause-takes
returns-in_ok-block-in-Ok-clause-takes c =
    made_takes c.args.own.now c.args.children c.in-Ok.names c.args.wiring.consts c.without_parts-bare.result c.in_ok-block-in-Ok.block
    c.without_parts-bare.ensures c.in_ok-block-in-Ok.ensures.parts c.in_ok-block-in-Ok.ensures.takes

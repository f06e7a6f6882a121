-- The flat nets of a design have a name each.
use Rattle.std.proofs.Common.{length, map, arith}
use Rattle.std.proofs.lemmas.Bool.{ltb-false}
use Rattle.std.proofs.lemmas.List.{length-map}
use Rattle.bs_net.specs.declared.limits.TheConstants.{MAX_NETS}
use Rattle.bs_flat_meaning.specs.Flat.{flat_key, flat_nets, flat_parts}
use Rattle.bs_flat_modules.specs.Designs.{DesignsHaveFewNets}

pub designs_have_few_nets : DesignsHaveFewNets
unfolding flat_parts
designs_have_few_nets d few =
    omega (arith, ltb-false MAX_NETS (length (map (flat_key d) (flat_nets d))) few, length-map (flat_nets d) (flat_key d))

-- What a design counts that passes the limits.
use Rattle.std.specs.Prelude.{◌≡◌, ◌≤◌, ◌+◌, false, nat_lt, length}
use Rattle.bs_net.specs.declared.limits.TheConstants.{MAX_NETS}
use Rattle.bs_flat_meaning.specs.declared.limits.TheConstants.{MAX_PARTS}
use Rattle.bs_flat_meaning.specs.Design.{Design, paths}
use Rattle.bs_flat_meaning.specs.Flat.{flat_nets, flat_parts}
use Rattle.bs_flat_meaning.specs.Reading.{part_count}

-- a design of at most `MAX_PARTS` gates, flip-flops and instances has one path more at most
abbrev pub DesignsHaveFewPaths : Type 0
DesignsHaveFewPaths = (d : Design) → nat_lt MAX_PARTS (part_count d) ≡ false → length (paths d) ≤ MAX_PARTS + 1

-- the flat nets of a design whose flat parts have at most `MAX_NETS` names
abbrev pub DesignsHaveFewNets : Type 0
DesignsHaveFewNets = (d : Design) → nat_lt MAX_NETS (length (flat_parts d).names) ≡ false → length (flat_nets d) ≤ MAX_NETS

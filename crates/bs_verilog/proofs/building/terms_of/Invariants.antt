use Rattle.std.proofs.Common.{◌≡◌, take}
use Rattle.bs_verilog.proofs.building.terms_of.Given as goal

abbrev pub invariant-nets : goal.invariant-nets
invariant-nets l = l.terms ≡ take l.net-index l.nets

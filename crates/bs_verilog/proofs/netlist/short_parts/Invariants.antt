use Rattle.std.proofs.Common.{take}
use Rattle.bs_verilog.specs.Placement.{AreShort}
use Rattle.bs_verilog.proofs.netlist.short_parts.Given as goal

abbrev pub invariant-parts : goal.invariant-parts
invariant-parts l = AreShort (take l.part-index l.parts)

use Rattle.std.proofs.Common.{◌≡◌, drop}
use Rattle.bs_verilog_scope.specs.Checking.{looked}
use Rattle.bs_verilog.specs.Building.{each, with_part, with_parts}
use Rattle.bs_verilog.proofs.building.with_parts.Given as goal

abbrev pub invariant-parts : goal.invariant-parts
invariant-parts l =
    each (with_part l.table (looked l.scope)) l.built (drop l.part-index l.parts) ≡ with_parts l.table (looked l.scope) l.initial.built l.parts

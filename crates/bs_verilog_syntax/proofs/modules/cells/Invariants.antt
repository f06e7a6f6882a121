use Rattle.std.proofs.Common.{◌≡◌, ◌-◌, ◌+◌, length}
use Rattle.bs_verilog_syntax.specs.Modules as modules
use Rattle.bs_verilog_syntax.proofs.modules.cells.Given as goal

abbrev pub invariant-cells : goal.invariant-cells
invariant-cells l = modules.cells (l.bound - l.counter) l.rest ≡ modules.cells (length l.ts + 1) l.ts

use Rattle.std.proofs.Common.{◌≡◌, ◌-◌, ◌+◌, length}
use Rattle.bs_verilog_syntax.specs.Modules as modules
use Rattle.bs_verilog_syntax.proofs.modules.leading.Given as goal

abbrev pub invariant-cells : goal.invariant-cells
invariant-cells l = modules.leading (l.bound - l.counter) l.rest ≡ modules.leading (length l.ts + 1) l.ts

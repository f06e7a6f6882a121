use Rattle.std.proofs.Common.{◌≡◌, length}
use Rattle.bs_verilog_syntax.specs.Modules as modules
use Rattle.bs_verilog_syntax.proofs.modules.skipped.Given as goal

abbrev pub invariant-loop-rest : goal.invariant-loop-rest
invariant-loop-rest l = modules.skipped l.rest ≡ modules.skipped l.ts

abbrev pub decreases-loop-rest : goal.decreases-loop-rest
decreases-loop-rest l = length l.rest

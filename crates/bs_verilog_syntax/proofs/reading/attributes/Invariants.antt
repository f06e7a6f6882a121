use Rattle.std.proofs.Common.{◌≡◌, ◌≤◌, false, length}
use Rattle.bs_verilog_syntax.specs.Terms as terms
use Rattle.bs_verilog_syntax.proofs.reading.attributes.Given as goal

abbrev pub invariant-loop-rest : goal.invariant-loop-rest
invariant-loop-rest l = (length l.rest ≤ length l.ts) × (terms.attributes_from l.inside l.rest ≡ terms.attributes_from false l.ts)

abbrev pub decreases-loop-rest : goal.decreases-loop-rest
decreases-loop-rest l = length l.rest

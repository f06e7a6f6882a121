use Rattle.bs_verilog_scope.specs.Checking.{marked}
use Rattle.bs_flat_modules.specs.Copying.{part}
use Rattle.bs_flat_modules.specs.Owns as spec
use Rattle.bs_flat_modules.proofs.EachLemmas.{IsEach}
use Rattle.bs_flat_modules.proofs.owns.read_written.Given as goal

abbrev pub invariant-modules : goal.invariant-modules
invariant-modules l = IsEach (λ p. spec.written (marked l.marks) (part l.ts p.body p.stop)) l.all l.place-index l.modules

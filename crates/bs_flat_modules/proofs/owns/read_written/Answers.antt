use Rattle.std.proofs.lemmas.Result.{err_from_is_err_and}
use Rattle.bs_verilog_scope.specs.Checking.{marked}
use Rattle.bs_flat_modules.specs.declared.dealing.ModuleSpan.{ModuleSpan}
use Rattle.bs_flat_modules.specs.Copying.{part}
use Rattle.bs_flat_modules.specs.Owns as spec
use Rattle.bs_flat_modules.proofs.EachLemmas.{each_on_at, each_fault_at, each_end}
use Rattle.bs_flat_modules.proofs.owns.read_written.Goals as goal

abbrev nowhere : ModuleSpan
nowhere = record { before = 0; from = 0; body = 0; stop = 0 }

pub returns-in_err-written : goal.returns-in_err-written
returns-in_err-written c =
    let p = err_from_is_err_and c.from_residual.result c.from_residual.ensures.1 in
    rw (p.1, p.2) (each_fault_at (spec.written (marked c.args.marks.now)) (λ p. part c.args.ts.now p.body p.stop) c.modules.all c.modules.place-index
    c.args.modules.now nowhere _ _ c.modules-test.true c.part.ensures c.in_err-written.ensures c.modules.invariant)

pub modules-preserved : goal.modules-preserved
modules-preserved c =
    rw c.in_ok-push.ensures.ok (each_on_at (spec.written (marked c.args.marks.now)) (λ p. part c.args.ts.now p.body p.stop) c.modules.all
    c.modules.place-index c.args.modules.now nowhere _ c.in_ok-written.written c.modules-test.true c.part.ensures c.in_ok-written.ensures
    c.modules.invariant)

pub returns : goal.returns
returns c =
    each_end (λ p. spec.written (marked c.args.marks.now) (part c.args.ts.now p.body p.stop)) c.modules.all c.modules.place-index c.args.modules.now
    c.modules-test.false c.modules.invariant

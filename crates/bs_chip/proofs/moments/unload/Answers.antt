use Rattle.std.proofs.Common.{false, arith}
use Rattle.bs_chip.proofs.ReplayLemmas.{unload_more, unloaded}
use Rattle.bs_chip.proofs.moments.unload.Goals as goal

pub shifts-preserved : goal.shifts-preserved
shifts-preserved c =
    rw c.in_ok-push.ensures.ok
    (unload_more c.args.state c.shifts.bits c.shifts.chain c.shift.new.self c.shifts.counter c.shift.result false c.shifts.invariant
    c.shift.ensures.shifted c.shift.ensures.same_length)

pub returns : goal.returns
returns c =
    unloaded c.args.state c.shifts.bits c.shifts.chain c.shifts.counter c.shifts.invariant (omega (arith, c.shifts-test.false, c.len-count.ensures))
    (omega (arith, c.shifts.auto.counter-end, c.len-count.ensures))

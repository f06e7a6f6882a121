use Rattle.std.proofs.Common.{arith}
use Rattle.bs_vcd.specs.Levels.{known_in}
use Rattle.bs_vcd.proofs.LevelLemmas.{after_more}
use Rattle.bs_vcd.proofs.levels.apply.Goals as goal

pub changes-preserved : goal.changes-preserved
changes-preserved c =
    after_more (known_in c.args.known.now) c.changes.known c.insert.new.self c.args.changes.now c.changes.change-index _
    (omega (arith, c.changes-test.true)) c.changes.invariant c.in_ok-insert.ensures.updates.0

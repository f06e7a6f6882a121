use Rattle.std.proofs.Common.{◌+◌, get_or, arith}
use Rattle.std.proofs.lemmas.List.{get_or_default}
use Rattle.bs_net.specs.Circuit.{reset_state}
use Rattle.bs_net.specs.Netlist.{circuit}
use Rattle.bs_stim.specs.Runs.{inputs_of}
use Rattle.bs_inspect_near.specs.Nearest.{no_near}
use Rattle.bs_inspect_near.proofs.HintLemmas.{asked_there, shifted_more}
use Rattle.bs_inspect_near.proofs.hints.recorded_shifted.Goals as goal

pub shifts-preserved : goal.shifts-preserved
shifts-preserved c =
    shifted_more (circuit c.args._net.now) (inputs_of c.args._runs.now) (reset_state (circuit c.args._net.now)) c.args._seen.now c.args.nears.now
    c.shifts.i (get_or c.args.nears.now (2 + c.shifts.i) no_near) c.requires (omega (arith, c.shifts-test.true))
    (get_or_default c.args.nears.now (2 + c.shifts.i) no_near (get_or c.args.nears.now (2 + c.shifts.i) no_near)
    (asked_there (circuit c.args._net.now) (inputs_of c.args._runs.now) (reset_state (circuit c.args._net.now)) c.args._seen.now c.args.nears.now
    (2 + c.shifts.i) c.requires (omega (arith, c.shifts-test.true))))
    c.if-near-eq0.false c.shifts.invariant

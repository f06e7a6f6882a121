use Rattle.std.proofs.Common.{List, subst, ◌∙◌, arith}
use Rattle.bs_net.specs.Netlist.{circuit}
use Rattle.bs_stim.specs.Runs.{inputs_of}
use Rattle.bs_scan.specs.Moments.{Run}
use Rattle.bs_chip.specs.Lockstep.{IsLongest}
use Rattle.bs_inspect_near.specs.Known.{all_places}
use Rattle.bs_inspect_near.proofs.SetLemmas.{pass_room, pass_shows, pass_wide, sets_whole}
use Rattle.bs_inspect_near.proofs.sets.extend_cycles.Goals as goal

pub extend_cycle-requires-clause-shows : goal.extend_cycle-requires-clause-shows
extend_cycle-requires-clause-shows c =
    pass_shows (circuit c.args.run.now.net.now) (inputs_of c.args.run.now.runs.now) c.step_to.new.pass c.planes.result.now c.cycles.cycle
    (c.step_to.ensures.same.circuit ∙ c.cycles.invariant.machine) (c.step_to.ensures.same.runs ∙ c.cycles.invariant.runs) c.step_to.ensures.there
    c.planes.ensures

pub extend_cycle-requires-clause-wide : goal.extend_cycle-requires-clause-wide
extend_cycle-requires-clause-wide c =
    pass_wide (inputs_of c.args.run.now.runs.now) c.args.pass.now c.wide-wide.result c.requires.runs c.wide-wide.ensures.value

pub extend_cycle-requires-clause-room : goal.extend_cycle-requires-clause-room
extend_cycle-requires-clause-room c =
    pass_room (inputs_of c.args.run.now.runs.now) c.args.pass.now c.wide-wide.result c.count-count.result c.requires.runs c.wide-wide.ensures.value
    c.count-count.ensures.count c.count-count.ensures.room

pub cycles-preserved : goal.cycles-preserved
cycles-preserved c = record {
  machine = c.step_to.ensures.same.circuit ∙ c.cycles.invariant.machine;
  runs = c.step_to.ensures.same.runs ∙ c.cycles.invariant.runs;
  behind = omega (arith, c.step_to.ensures.there);
  near = omega (arith, c.step_to.ensures.there);
  size = c.extend_cycle.ensures.size;
  sets = c.in_ok-extend_cycle.ensures.sets;
}

pub returns : goal.returns
returns c =
    sets_whole (circuit c.args.run.now.net.now) (inputs_of c.args.run.now.runs.now) c.args.run.now.number c.cycles.cycle c.longest-most.result
    (all_places c.args.signals.now) c.cycles.sets.items (omega (arith, c.cycles-test.false))
    (subst (λ (rs : List Run). IsLongest rs c.longest-most.result) c.requires.runs c.longest-most.ensures.all) c.cycles.invariant.sets

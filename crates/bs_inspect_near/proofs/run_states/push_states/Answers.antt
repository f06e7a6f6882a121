use Rattle.std.proofs.Common.{◌∙◌, arith}
use Rattle.bs_net.specs.Netlist.{circuit}
use Rattle.bs_stim.specs.Runs.{inputs_of}
use Rattle.bs_inspect_near.proofs.OwnLemmas.{own_all, own_begin, own_more, own_run}
use Rattle.bs_inspect_near.proofs.run_states.push_states.Goals as goal

pub cycles-init : goal.cycles-init
cycles-init c = record {
  machine = c.requires.circuit;
  runs = c.requires.runs;
  behind = omega (arith, c.requires.reset);
  near = omega arith;
  own = own_begin (circuit c.args.run.now.net.now) (inputs_of c.args.run.now.runs.now) c.args.run.now.number c.args.own.now c.requires.none;
}

pub state_of-requires : goal.state_of-requires
state_of-requires c = record {
  circuit = c.step_to.ensures.same.circuit ∙ c.cycles.invariant.machine;
  runs = c.step_to.ensures.same.runs ∙ c.cycles.invariant.runs;
  from_one = c.requires.from_one;
  there = c.requires.there;
  lasts =
      omega (arith, c.step_to.ensures.there, c.cycles-test.true, own_run (inputs_of c.args.run.now.runs.now) c.args.pass.now.runs c.args.run.now.number c.cycles-cycles.result c.requires.runs c.cycles-cycles.ensures.count);
}

pub cycles-preserved : goal.cycles-preserved
cycles-preserved c = record {
  machine = c.step_to.ensures.same.circuit ∙ c.cycles.invariant.machine;
  runs = c.step_to.ensures.same.runs ∙ c.cycles.invariant.runs;
  behind = omega (arith, c.step_to.ensures.there);
  near = omega (arith, c.step_to.ensures.there);
  own =
      own_more (circuit c.args.run.now.net.now) (inputs_of c.args.run.now.runs.now) c.args.run.now.number c.cycles.cycle c.cycles.own c.push.new.self
      c.in_ok-state.state c.step_to.new.pass.cycle c.cycles.invariant.own c.step_to.ensures.there c.in_ok-state.ensures c.in_ok-push.ensures.ok;
}

pub returns : goal.returns
returns c =
    own_all (circuit c.args.run.now.net.now) (inputs_of c.args.run.now.runs.now) c.args.run.now.number c.cycles.cycle c.cycles-cycles.result c.cycles.own
    c.requires.from_one c.requires.there
    (own_run (inputs_of c.args.run.now.runs.now) c.args.pass.now.runs c.args.run.now.number c.cycles-cycles.result c.requires.runs c.cycles-cycles.ensures.count)
    (omega (arith, c.cycles-test.false)) (omega arith) c.cycles.invariant.own

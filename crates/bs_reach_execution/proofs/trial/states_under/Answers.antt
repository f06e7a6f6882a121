use Rattle.std.proofs.Common.{◌≡◌, ◌++◌, ◌∷◌, ◌∙◌, [], List, Bool, ap, sym, ◌+◌, zero-add, rules, get_or}
use Rattle.std.proofs.lemmas.List.{get_or_read_under}
use Rattle.std.proofs.lemmas.List.FromFn.{map-range_with_len_more}
use Rattle.bs_net.specs.Circuit.{next}
use Rattle.bs_net.specs.Netlist.{circuit}
use Rattle.bs_scan.specs.Moments.{state_at}
use Rattle.bs_reach_execution.proofs.TrialLemmas.{state_first, state_more}
use Rattle.bs_reach_execution.proofs.trial.states_under.Goals as goal

pub cycles-init : goal.cycles-init
cycles-init c =
    let first : c.in_ok-sim.sim.state ≡ state_at (circuit c.args.net.now) c.args.inputs.now 0 =
    state_first (circuit c.args.net.now) c.args.inputs.now c.in_ok-sim.sim.state c.in_ok-sim.ensures.state in
    let pushed : c.push.new.self ≡ c.in_ok-sim.sim.state ∷ [] = search rules in
    record {
      net = c.in_ok-sim.ensures.net;
      state = first;
      states = pushed ∙ ap (λ (s : List Bool). s ∷ []) first;
    }

pub cycles-preserved : goal.cycles-preserved
cycles-preserved c =
    let f = state_at (circuit c.args.net.now) c.args.inputs.now in
    let input : c.get.result.now ≡ get_or c.args.inputs.now c.cycles.i [] =
    get_or_read_under c.args.inputs.now c.cycles.i c.len-i-end.result c.get.result.now [] c.get.ensures.value c.cycles-test.true c.len-i-end.ensures in
    let moved : c.step.new.self.state ≡ f (c.cycles.i + 1) =
    c.step.ensures.state
    ∙ (ap (λ n. next (circuit n) c.cycles.sim.state c.get.result.now) c.cycles.invariant.net
    ∙ state_more (circuit c.args.net.now) c.args.inputs.now c.cycles.i c.cycles.sim.state c.get.result.now c.cycles.invariant.state input) in
    let pushed : c.push-in-cycles.new.self ≡ c.cycles.states ++ c.step.new.self.state ∷ [] = search rules in
    record {
      net = c.step.ensures.net ∙ c.cycles.invariant.net;
      state = moved;
      states = pushed
          ∙ (ap (λ (s : List Bool). c.cycles.states ++ s ∷ []) moved
          ∙ (ap (λ (l : List (List Bool)). l ++ f (c.cycles.i + 1) ∷ []) c.cycles.invariant.states
          ∙ sym (map-range_with_len_more f 0 (c.cycles.i + 1) (c.cycles.i + 1) (zero-add (c.cycles.i + 1)))));
    }

use Rattle.std.proofs.Common.{◌≡◌, ◌∙◌, length, ap, arith, get_or, List}
use Rattle.bs_net.specs.declared.net.NetId.{NetId}
use Rattle.bs_inspect_netlist.specs.Tallies.{counted}
use Rattle.bs_inspect_netlist.proofs.TallyLemmas.{ins_more, bound_gate}
use Rattle.bs_inspect_netlist.proofs.tally.count_inputs.Goals as goal

pub gates-preserved : goal.gates-preserved
gates-preserved c =
    let gate = c.index-gates-i.result in
    let ins : c.slice.result.now ≡ (get_or c.args.gates.now c.gates.i gate).ins = c.slice.ensures in
    record {
      counts =
          ins_more _ _ _ c.args.gates.now c.gates.i gate c.gates-test.true c.gates.invariant.counts
          (c.count_nets.ensures.counts ∙ ap (λ (ns : List NetId). counted c.gates.table.items ns) ins);
      wide = c.count_nets.ensures.wide ∙ c.gates.invariant.wide;
      small =
          bound_gate c.gates.i (length c.slice.result.now) _
          (let long : length c.slice.result.now ≡ length (get_or c.args.gates.now c.gates.i gate).ins = ap length ins in
          omega (arith, long, c.requires.narrow c.gates.i gate c.gates-test.true))
          c.count_nets.ensures.small;
    }

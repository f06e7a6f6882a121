use Rattle.std.proofs.Common.{◌≡◌, ◌+◌, ◌≤◌, map, drop, length}
use Rattle.std.specs.List.{count_by}
use Rattle.bs_net.specs.Order.{gates_in}
use Rattle.bs_net.specs.Steps.{run, gate_write}
use Rattle.bs_sim.specs.Events.{IsReady}
use Rattle.bs_sim.specs.Work.{has_change}
use Rattle.bs_sim.proofs.events.settle_changed.Given as goal

abbrev pub invariant-loop-i : goal.invariant-loop-i
invariant-loop-i l = record {
  gives :
      run (map gate_write (gates_in (drop l.i-index l.order) l.gates)) l.values
      ≡ run (map gate_write (gates_in l.order l.gates)) l.initial.values;
  ready : IsReady l.before l.values (gates_in (drop l.i-index l.order) l.gates);
  wide : length l.values ≡ length l.initial.values;
  counted :
      l.work + count_by (has_change l.before (run (map gate_write (gates_in l.order l.gates)) l.initial.values)) (gates_in (drop l.i-index l.order) l.gates)
      ≡ count_by (has_change l.before (run (map gate_write (gates_in l.order l.gates)) l.initial.values)) (gates_in l.order l.gates);
  bounded : l.work ≤ l.i-index;
}

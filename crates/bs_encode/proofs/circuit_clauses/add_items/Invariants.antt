use Rattle.std.proofs.Common.{◌≡◌, ◌≤◌, ◌+◌, ◌++◌, drop, map, true}
use Rattle.std.specs.Prelude.{sum_by}
use Rattle.bs_encode.specs.Tables.{lit}
use Rattle.bs_encode.specs.Transition.{item_helpers, items_clauses, item_vars}
use Rattle.bs_encode.proofs.circuit_clauses.add_items.Given as goal

abbrev pub invariant-items : goal.invariant-items
invariant-items l = record {
  some : 1 ≤ l.next;
  left : l.into ++ items_clauses l.states l.next (drop l.i l.choice.items) ≡ l.initial.into ++ items_clauses l.states l.fn.v l.choice.items;
  rest : l.own ++ map (λ u. lit u true) (item_vars l.next (drop l.i l.choice.items)) ≡ l.initial.own ++ map (λ u. lit u true) (item_vars l.fn.v l.choice.items);
  count : l.next + sum_by (λ item. item_helpers item + 1) (drop l.i l.choice.items) ≡ l.fn.v + sum_by (λ item. item_helpers item + 1) l.choice.items;
}

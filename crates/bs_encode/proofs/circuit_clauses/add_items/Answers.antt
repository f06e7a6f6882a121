use Rattle.std.proofs.Common.{◌≡◌, ℕ, ◌+◌, ◌<◌, List, ◌∷◌, drop, length, ap, sym, ◌∙◌, arith}
use Rattle.bs_encode.proofs.PartLemmas.{next_item, room_for_item, clauses_more, own_more, count_more}
use Rattle.bs_encode.proofs.circuit_clauses.add_items.Goals as goal

pub add_item-requires-clause-room : goal.add_item-requires-clause-room
add_item-requires-clause-room c =
    let items : List (List ℕ) = c.args.choice.now.items in
    let within : c.items.i < length items = omega (arith, c.items-test.true, c.items-i-end.ensures.count) in
    let e : drop c.items.i items ≡ c.slice.result.now ∷ drop (c.items.i + 1) items =
    next_item items c.items.i c.item-item.result.now within c.item-item.ensures.lookup ∙ ap (λ x. x ∷ drop (c.items.i + 1) items) (sym c.slice.ensures) in
    room_for_item items c.slice.result.now (drop (c.items.i + 1) items)
    (drop c.items.i items) c.items.next c.args.v e c.items.invariant.some c.items.invariant.count c.requires.room.1

pub items-preserved : goal.items-preserved
items-preserved c =
    let items : List (List ℕ) = c.args.choice.now.items in
    let item : List ℕ = c.slice.result.now in
    let rest : List (List ℕ) = drop (c.items.i + 1) items in
    let within : c.items.i < length items = omega (arith, c.items-test.true, c.items-i-end.ensures.count) in
    let e : drop c.items.i items ≡ item ∷ rest =
    next_item items c.items.i c.item-item.result.now within c.item-item.ensures.lookup ∙ ap (λ x. x ∷ rest) (sym c.slice.ensures) in
    record {
      some = omega (arith, c.in_ok-next.ensures.after);
      left = clauses_more c.args.states.now c.items.next c.in_ok-next.next item rest
          (drop c.items.i items) c.items.into c.add_item.new.into _ e c.in_ok-next.ensures.after c.in_ok-next.ensures.clauses c.items.invariant.left;
      rest = own_more c.items.next c.in_ok-next.next item rest
          (drop c.items.i items) c.items.own c.add_item.new.own _ e c.in_ok-next.ensures.after c.in_ok-next.ensures.own c.items.invariant.rest;
      count = count_more c.items.next c.in_ok-next.next _ item rest (drop c.items.i items) e c.in_ok-next.ensures.after c.items.invariant.count;
    }

-- What a checked netlist gives to the program that settles it.
use Rattle.std.proofs.Common.{◌≡◌, ℕ, ◌<◌, ◌==◌, not, Bool, List, [], ◌∷◌, ◌++◌, length, refl, sym, ◌∙◌, subst, zero-add}
use Rattle.std.specs.List.{All}
use Rattle.std.proofs.lemmas.List.Elements.{All-filter}
use Rattle.std.proofs.lemmas.List.FromFn.{length-range_with_len, get_or-range_with_len}
use Rattle.std.proofs.lemmas.List.Sorted.{All-permutation}
use Rattle.bs_net.specs.declared.net.NetId.{NetId}
use Rattle.bs_net.specs.declared.net.Gate.{Gate}
use Rattle.bs_net.specs.Netlist.{without}
use Rattle.bs_net.specs.Order.{IsOrder}
use Rattle.bs_net.specs.Steps.{Step, run}

pub without_placed : (clock : NetId) (ns : List NetId) (m : ℕ) → All (λ (n : NetId). n.0 < m) ns → All (λ (n : NetId). n.0 < m) (without clock ns)
without_placed clock ns m h = All-filter (λ (n : NetId). not (n.0 == clock.0)) (λ (n : NetId). n.0 < m) ns h

-- an order names gates of the list alone
pub order_below : (gates : List Gate) (order : List ℕ) → IsOrder gates order → All (λ i. i < length gates) order
order_below gates order o =
    All-permutation (λ i. i < length gates) _ _ o.each_once
    (λ k d lt.
    let below : k < length gates = rw length-range_with_len at lt in
    let P : ℕ → Type 0 = λ i. i < length gates in
    subst P (sym (get_or-range_with_len 0 (length gates) k d below ∙ zero-add k)) below)

-- one list of writes after another
pub run-append : (xs ys : List Step) (v : List Bool) → run (xs ++ ys) v ≡ run ys (run xs v)
run-append [] ys v = refl
run-append (x ∷ xs) ys v = run-append xs ys _

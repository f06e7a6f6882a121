use Rattle.std.proofs.Common.{◌≡◌, ◌∙◌, ℕ, List, ap, sym, subst, map}
use Rattle.std.proofs.lemmas.List.Sorted.{IsPermutation-refl}
use Rattle.bs_net.specs.declared.net.Gate.{Gate}
use Rattle.bs_net.specs.Netlist.{circuit}
use Rattle.bs_net.specs.Order.{IsOrder}
use Rattle.bs_lanes.specs.Levels.{AreKeys, AreRaised, number_in}
use Rattle.bs_lanes.proofs.LevelLemmas.{keys_order}
use Rattle.bs_lanes.proofs.levels.by_level.Goals as goal

pub returns : goal.returns
returns c =
    let it = circuit c.args.net.now in
    let gates : c.slice.result.now ≡ it.gates = c.slice.ensures ∙ ap (λ r. r.gates) c.raw-raw.ensures.parts in
    let levels : c.as_slice.result.now ≡ c.in_ok-levels.levels.items = c.as_slice.ensures.value in
    let keys : List ℕ = c.in_ok-keys.keys.items in
    let P : List Gate → Type 0 = λ gs. AreKeys c.as_slice.result.now gs keys in
    let Q : List ℕ → Type 0 = λ ls. AreRaised ls it.gates in
    let R : List ℕ → Type 0 = λ order. IsOrder it.gates order in
    let numbers : c.in_ok-order.order.items ≡ map number_in keys = c.in_ok-order.ensures ∙ ap (map number_in) c.as_slice-2.ensures.value in
    subst R (sym numbers)
    (keys_order c.as_slice.result.now it.gates keys keys (subst P gates c.in_ok-keys.ensures.keys) (IsPermutation-refl keys) c.in_ok-keys.ensures.sorted
    (subst Q (sym levels) c.in_ok-levels.ensures.raised))

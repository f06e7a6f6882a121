use Rattle.std.proofs.Common.{◌≡◌, ◌∙◌, ℕ, List, ap, arith, sym, subst, length}
use Rattle.std.specs.List.Sorted.{IsPermutation}
use Rattle.bs_lanes.specs.Levels.{AreKeys}
use Rattle.bs_lanes.proofs.LevelLemmas.{moved_keys, written}
use Rattle.bs_lanes.proofs.levels.sorted_keys.Goals as goal

pub returns-clause-keys : goal.returns-clause-keys
returns-clause-keys c =
    let items : c.as_mut_slice.result.now ≡ c.in_ok-keys.keys.items = c.as_mut_slice.ensures.value in
    let P : List ℕ → Type 0 = λ keys. AreKeys c.args.levels.now c.args.gates.now keys in
    let Q : List ℕ → Type 0 = λ keys. IsPermutation keys c.sort_keys.new.keys in
    subst P (sym (written c.sort_keys.new.keys c.in_ok-keys.keys.items c.in_ok-keys.keys.len (sym (c.sort_keys.auto.keys ∙ c.as_mut_slice.ensures.len))
    (omega (arith, ap length items, c.sort_keys.auto.keys))))
    (moved_keys c.args.levels.now c.args.gates.now c.in_ok-keys.keys.items c.sort_keys.new.keys c.in_ok-keys.ensures (subst Q items c.sort_keys.ensures.moved))

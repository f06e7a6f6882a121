-- A signal has no more bits than there are keys.
use Rattle.std.proofs.Common.{◌≡◌, ◌≤◌, ℕ, suc, ◌<◌, ◌+◌, ◌^◌, Bool, true, false, List, [], ◌∷◌, length, map, get_or, refl, ap, ◌∙◌, arith, Option}
use Rattle.std.specs.Prelude.{Vec, Result, IfOk}
use Rattle.std.specs.List.{All, flat_map}
use Rattle.std.specs.declared.alloc.Global.{Global}
use Rattle.std.proofs.lemmas.List.{length-map, get_or-map, length-append}
use Rattle.std.proofs.lemmas.List.Folds.{length-flat_map-take}
use Rattle.std.proofs.lemmas.List.Sorted.{length_permutation}
use Rattle.std.proofs.lemmas.Result.{IfOk-weaker}
use Rattle.bs_bits.specs.declared.memory.NoMemory.{NoMemory}
use Rattle.bs_inspect_view.specs.declared.signal.Signal.{Signal as CodeSignal}
use Rattle.bs_net_names.specs.Keys.{key_parts}
use Rattle.bs_inspect_view.specs.Signals.{AreSignals, Signal, bits_from, bits_of, is_wanted, lower, members_from, members_of, signal_in, wanted}

bits_count : (base : List ℕ) (high : Option ℕ) (ps : List ℕ) → length (bits_from base high ps) ≡ length ps
bits_count base high [] = refl
bits_count base high (p ∷ ps) = ap suc (bits_count base (lower high) ps)

one_wanted : (only : List (List ℕ)) (key : List ℕ) (place : ℕ) → length (wanted only key place) ≤ 1
one_wanted only key place = by (is_wanted only (key_parts key)) refl
  where
    by : (b : Bool) → is_wanted only (key_parts key) ≡ b → length (wanted only key place) ≤ 1
    by true e = rw e omega arith
    by false e = rw e omega arith

members_few : (only : List (List ℕ)) (place : ℕ) (keys : List (List ℕ)) → length (members_from only place keys) ≤ length keys
members_few only place [] = omega arith
members_few only place (key ∷ keys) =
    omega (arith, length-append (wanted only key place) (members_from only (place + 1) keys), one_wanted only key place, members_few only (place + 1) keys)

pub few_of : (only keys : List (List ℕ)) (signals : List CodeSignal) → length keys < 2 ^ 32 → AreSignals only keys (map signal_in signals) →
    All (λ s. length s.places < 2 ^ 32) signals
few_of only keys signals few are = λ k d lt.
    let xs : List Signal = map signal_in signals in
    let there : k < length xs = omega (arith, lt, length-map signals signal_in) in
    let part = length-flat_map-take bits_of xs k (signal_in d) there in
    let same : get_or xs k (signal_in d) ≡ signal_in (get_or signals k d) = get_or-map signal_in signals k d (signal_in d) lt in
    let bits : length (bits_of (get_or xs k (signal_in d))) ≡ length (get_or signals k d).places =
    ap (λ (s : Signal). length (bits_of s)) same ∙ bits_count (get_or signals k d).base.now (get_or signals k d).high (get_or signals k d).places in
    let whole : length (flat_map bits_of xs) ≡ length are.sorted = ap length are.bits in
    let moved : length are.sorted ≡ length (members_of only keys) = length_permutation (members_of only keys) are.sorted are.each_once in
    omega (arith, part, bits, whole, moved, members_few only 0 keys, few)

pub few_places : (r : Result (Vec CodeSignal Global) NoMemory) (only keys : List (List ℕ)) → length keys < 2 ^ 32 →
    IfOk r (λ signals. AreSignals only keys (map signal_in signals.items)) → IfOk r (λ signals. All (λ s. length s.places < 2 ^ 32) signals.items)
few_places r only keys few are =
    IfOk-weaker r (λ signals. AreSignals only keys (map signal_in signals.items)) (λ signals. All (λ s. length s.places < 2 ^ 32) signals.items)
    (λ signals h. few_of only keys signals.items few h) are

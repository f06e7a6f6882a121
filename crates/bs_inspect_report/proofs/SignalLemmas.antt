-- The bits and the lines of signals, one after another; and how many bits a signal has.
use Rattle.std.proofs.Common.{◌≡◌, ◌≤◌, ℕ, suc, ◌<◌, ◌+◌, ◌^◌, Bool, true, false, List, [], ◌∷◌, ◌++◌, length, map, take, get_or, refl, ap, sym, ◌∙◌}
use Rattle.std.proofs.Common.{arith, append_assoc, Option}
use Rattle.std.specs.Prelude.{Vec, Result, IfOk}
use Rattle.std.specs.List.{All, flat_map}
use Rattle.std.specs.declared.alloc.Global.{Global}
use Rattle.std.proofs.lemmas.Grind.{flat_map-append}
use Rattle.std.proofs.lemmas.List.{take_more, map-append, append-nil, length-map, get_or-map, length-append}
use Rattle.std.proofs.lemmas.List.Folds.{length-flat_map-take}
use Rattle.std.proofs.lemmas.List.Sorted.{length_permutation}
use Rattle.std.proofs.lemmas.Result.{IfOk-weaker}
use Rattle.bs_bits.specs.declared.memory.NoMemory.{NoMemory}
use Rattle.bs_inspect_view.specs.declared.signal.Signal.{Signal as CodeSignal}
use Rattle.bs_net_names.specs.Keys.{key_parts}
use Rattle.bs_inspect_view.specs.Signals.{AreSignals, Signal, bits_from, bits_of, is_wanted, lower, members_from, members_of, signal_in, wanted}
use Rattle.bs_inspect_report.specs.Signal.{bit_at, signal_bits, signal_piece, signals_lines}

pub bits_more : (bits : List Bool) (places : List ℕ) (i d : ℕ) (own : List Bool) → i < length places → own ≡ signal_bits bits (take i places) →
    own ++ bit_at bits (get_or places i d) ∷ [] ≡ signal_bits bits (take (i + 1) places)
bits_more bits places i d own lt e =
    ap (λ (bs : List Bool). bs ++ bit_at bits (get_or places i d) ∷ []) e
    ∙ (sym (map-append (bit_at bits) (take i places) (get_or places i d ∷ [])) ∙ ap (signal_bits bits) (sym (take_more places i d lt)))

-- the same of a list that is made bit by bit
pub row_more : (bits : List Bool) (places : List ℕ) (i d : ℕ) (own after : List Bool) (b : Bool) → i < length places →
    own ≡ signal_bits bits (take i places) → b ≡ bit_at bits (get_or places i d) → after ≡ own ++ b ∷ [] → after ≡ signal_bits bits (take (i + 1) places)
row_more bits places i d own after b lt e f g = g ∙ (ap (λ (x : Bool). own ++ x ∷ []) f ∙ bits_more bits places i d own lt e)

pub signals_more : (kind : List ℕ) (cycle : ℕ) (free before : Option (List Bool)) (now : List Bool) (signals : List CodeSignal) (i : ℕ) (d : CodeSignal)
    (old text after : List ℕ) → i < length signals → text ≡ old ++ signals_lines kind cycle free before now (map signal_in (take i signals)) →
    after ≡ text ++ signal_piece kind cycle free before now (signal_in (get_or signals i d)) →
    after ≡ old ++ signals_lines kind cycle free before now (map signal_in (take (i + 1) signals))
signals_more kind cycle free before now signals i d old text after lt e f =
    let piece : Signal → List ℕ = signal_piece kind cycle free before now in
    let more : map signal_in (take (i + 1) signals) ≡ map signal_in (take i signals) ++ signal_in (get_or signals i d) ∷ [] =
    ap (map signal_in) (take_more signals i d lt) ∙ map-append signal_in (take i signals) (get_or signals i d ∷ []) in
    let put : flat_map piece (map signal_in (take (i + 1) signals)) ≡ flat_map piece (map signal_in (take i signals)) ++ piece (signal_in
    (get_or signals i d)) =
    ap (flat_map piece) more
    ∙ (flat_map-append piece (map signal_in (take i signals)) (signal_in (get_or signals i d) ∷ [])
    ∙ ap (λ (t : List ℕ). flat_map piece (map signal_in (take i signals)) ++ t) (append-nil (piece (signal_in (get_or signals i d))))) in
    f ∙ (ap (λ (t : List ℕ). t ++ piece (signal_in (get_or signals i d))) e
    ∙ (append_assoc old (flat_map piece (map signal_in (take i signals))) (piece (signal_in (get_or signals i d))) ∙ ap (λ (t : List ℕ). old ++ t) (sym put)))

-- ---- a signal has no more bits than there are keys

bits_count : (base : List ℕ) (high : Option ℕ) (ps : List ℕ) → length (bits_from base high ps) ≡ length ps
bits_count base high [] = refl
bits_count base high (p ∷ ps) = ap suc (bits_count base (lower high) ps)

one_wanted : (only : List (List ℕ)) (key : List ℕ) (place : ℕ) → length (wanted only key place) ≤ 1
one_wanted only key place = by (is_wanted only (key_parts key)) refl
  where
    by : (b : Bool) → is_wanted only (key_parts key) ≡ b → length (wanted only key place) ≤ 1
    by true e = rw e omega arith
    by false e = rw e omega arith

members_few : (only : List (List ℕ)) (place : ℕ) (keys : List (List ℕ)) → length (members_from only place keys) ≤ length keys
members_few only place [] = omega arith
members_few only place (key ∷ keys) =
    omega (arith, length-append (wanted only key place) (members_from only (place + 1) keys), one_wanted only key place, members_few only (place + 1) keys)

pub few_of : (only keys : List (List ℕ)) (signals : List CodeSignal) → length keys < 2 ^ 32 → AreSignals only keys (map signal_in signals) →
    All (λ s. length s.places < 2 ^ 32) signals
few_of only keys signals few are = λ k d lt.
    let xs : List Signal = map signal_in signals in
    let there : k < length xs = omega (arith, lt, length-map signals signal_in) in
    let part = length-flat_map-take bits_of xs k (signal_in d) there in
    let same : get_or xs k (signal_in d) ≡ signal_in (get_or signals k d) = get_or-map signal_in signals k d (signal_in d) lt in
    let bits : length (bits_of (get_or xs k (signal_in d))) ≡ length (get_or signals k d).places =
    ap (λ (s : Signal). length (bits_of s)) same ∙ bits_count (get_or signals k d).base.now (get_or signals k d).high (get_or signals k d).places in
    let whole : length (flat_map bits_of xs) ≡ length are.sorted = ap length are.bits in
    let moved : length are.sorted ≡ length (members_of only keys) = length_permutation (members_of only keys) are.sorted are.each_once in
    omega (arith, part, bits, whole, moved, members_few only 0 keys, few)

pub few_places : (r : Result (Vec CodeSignal Global) NoMemory) (only keys : List (List ℕ)) → length keys < 2 ^ 32 →
    IfOk r (λ signals. AreSignals only keys (map signal_in signals.items)) → IfOk r (λ signals. All (λ s. length s.places < 2 ^ 32) signals.items)
few_places r only keys few are =
    IfOk-weaker r (λ signals. AreSignals only keys (map signal_in signals.items)) (λ signals. All (λ s. length s.places < 2 ^ 32) signals.items)
    (λ signals h. few_of only keys signals.items few h) are

-- The first signals that are told, one after another.
use Rattle.std.proofs.Common.{◌≡◌, ℕ, ◌<◌, ◌≤◌, ◌+◌, ◌^◌, Bool, true, false, cond, nat_lt, List, [], ◌∷◌, ◌++◌, length, map, take, filter, get_or, refl, ap, sym, subst, ◌∙◌, arith, append_assoc, append-nil, take_all, length-append}
use Rattle.std.specs.Prelude.{All}
use Rattle.std.specs.List.{flat_map}
use Rattle.std.proofs.lemmas.Bool.{cond-true, cond-false, ltb-true, ltb-false}
use Rattle.std.proofs.lemmas.Grind.{flat_map-append}
use Rattle.std.proofs.lemmas.List.{length_push, map_more, take-append-le}
use Rattle.std.proofs.lemmas.List.Elements.{filter-append}
use Rattle.bs_inspect_view.specs.Signals.{Signal, signal_in}
use Rattle.bs_inspect_view.specs.declared.signal.Signal.{Signal as CodeSignal}
use Rattle.bs_inspect_check.specs.declared.lines.TheConstants.{MAX_LINES}
use Rattle.bs_inspect_check.specs.Tallies.{one_if}
use Rattle.bs_inspect_check.specs.Text.{told_piece}

abbrev picked : (Signal → Bool) → List CodeSignal → ℕ → List Signal
picked p signals i = filter p (map signal_in (take i signals))

-- a signal more
picked_more : (p : Signal → Bool) (signals : List CodeSignal) (i : ℕ) (s : CodeSignal) (b : Bool) → i < length signals → s ≡ get_or signals i s →
    b ≡ p (signal_in s) → picked p signals (i + 1) ≡ picked p signals i ++ cond b (signal_in s ∷ []) []
picked_more p signals i s b lt at is =
    ap (filter p) (map_more signal_in signals i s lt ∙ ap (λ (x : CodeSignal). map signal_in (take i signals) ++ signal_in x ∷ []) (sym at))
    ∙ (filter-append p (map signal_in (take i signals)) (signal_in s ∷ [])
    ∙ ap (λ (t : Bool). picked p signals i ++ cond t (signal_in s ∷ []) []) (sym is))

cut : (line_of : Signal → List ℕ) (xs : List Signal) (x : Signal) (b : Bool) →
    flat_map line_of (take MAX_LINES (xs ++ cond b (x ∷ []) [])) ≡ flat_map line_of (take MAX_LINES xs) ++ told_piece line_of b (length xs) x
cut line_of xs x false =
    ap (λ (ys : List Signal). flat_map line_of (take MAX_LINES ys)) (append-nil xs) ∙ sym (append-nil (flat_map line_of (take MAX_LINES xs)))
cut line_of xs x true = by (nat_lt (length xs) MAX_LINES) refl
  where
    by : (t : Bool) → nat_lt (length xs) MAX_LINES ≡ t →
        flat_map line_of (take MAX_LINES (xs ++ x ∷ [])) ≡ flat_map line_of (take MAX_LINES xs) ++ cond (nat_lt (length xs) MAX_LINES) (line_of x) []
    by true e =
        ap (flat_map line_of)
        (take_all MAX_LINES (xs ++ x ∷ []) (omega (arith, length_push xs x, ltb-true (length xs) MAX_LINES e)))
        ∙ (flat_map-append line_of xs (x ∷ [])
        ∙ ((λ i. flat_map line_of (sym (take_all MAX_LINES xs (omega (arith, ltb-true (length xs) MAX_LINES e))) i) ++ append-nil (line_of x) i)
        ∙ ap (λ (l : List ℕ). flat_map line_of (take MAX_LINES xs) ++ l) (sym (cond-true (nat_lt (length xs) MAX_LINES) (line_of x) [] e))))
    by false e =
        ap (flat_map line_of) (take-append-le MAX_LINES xs (x ∷ []) (ltb-false (length xs) MAX_LINES e))
        ∙ (sym (append-nil (flat_map line_of (take MAX_LINES xs)))
        ∙ ap (λ (l : List ℕ). flat_map line_of (take MAX_LINES xs) ++ l) (sym (cond-false (nat_lt (length xs) MAX_LINES) (line_of x) [] e)))

pub told_more : (line_of : Signal → List ℕ) (p : Signal → Bool) (signals : List CodeSignal) (i told : ℕ) (s : CodeSignal) (b : Bool) (old text after : List ℕ) →
    i < length signals → told ≡ length (filter p (map signal_in (take i signals))) →
    text ≡ old ++ flat_map line_of (take MAX_LINES (filter p (map signal_in (take i signals)))) → s ≡ get_or signals i s → b ≡ p (signal_in s) →
    after ≡ text ++ told_piece line_of b told (signal_in s) →
    after ≡ old ++ flat_map line_of (take MAX_LINES (filter p (map signal_in (take (i + 1) signals))))
told_more line_of p signals i told s b old text after lt count e at is goes =
    let xs : List Signal = picked p signals i in
    goes
    ∙ ((λ j. e j ++ told_piece line_of b (count j) (signal_in s))
    ∙ (append_assoc old (flat_map line_of (take MAX_LINES xs)) (told_piece line_of b (length xs) (signal_in s))
    ∙ ap (λ (l : List ℕ). old ++ l)
    (sym (ap (λ (ys : List Signal). flat_map line_of (take MAX_LINES ys)) (picked_more p signals i s b lt at is) ∙ cut line_of xs (signal_in s) b))))

one_more : (xs : List Signal) (x : Signal) (b : Bool) → length (xs ++ cond b (x ∷ []) []) ≡ length xs + one_if b
one_more xs x true = length_push xs x
one_more xs x false = length-append xs []

pub count_more : (p : Signal → Bool) (signals : List CodeSignal) (i told r : ℕ) (s : CodeSignal) (b : Bool) → i < length signals →
    told ≡ length (filter p (map signal_in (take i signals))) → s ≡ get_or signals i s → b ≡ p (signal_in s) → r ≡ one_if b →
    told + r ≡ length (filter p (map signal_in (take (i + 1) signals)))
count_more p signals i told r s b lt count at is one =
    (λ j. count j + one j) ∙ sym (ap length (picked_more p signals i s b lt at is) ∙ one_more (picked p signals i) (signal_in s) b)

pub told_all : (line_of : Signal → List ℕ) (p : Signal → Bool) (signals : List CodeSignal) (i : ℕ) (old text : List ℕ) → length signals ≤ i →
    text ≡ old ++ flat_map line_of (take MAX_LINES (filter p (map signal_in (take i signals)))) →
    text ≡ old ++ flat_map line_of (take MAX_LINES (filter p (map signal_in signals)))
told_all line_of p signals i old text le e =
    e ∙ ap (λ (xs : List CodeSignal). old ++ flat_map line_of (take MAX_LINES (filter p (map signal_in xs)))) (take_all i signals le)

pub count_all : (p : Signal → Bool) (signals : List CodeSignal) (i told : ℕ) → length signals ≤ i →
    told ≡ length (filter p (map signal_in (take i signals))) → told ≡ length (filter p (map signal_in signals))
count_all p signals i told le e = e ∙ ap (λ (xs : List CodeSignal). length (filter p (map signal_in xs))) (take_all i signals le)

-- a signal among those that are narrow
pub narrow_at : (signals : List CodeSignal) (i : ℕ) (s : CodeSignal) → All (λ s. length s.places < 2 ^ 32) signals → i < length signals →
    s ≡ get_or signals i s → length s.places < 2 ^ 32
narrow_at signals i s all lt at = subst (λ (x : CodeSignal). length x.places < 2 ^ 32) (sym at) (all i s lt)

-- What stays of a text where more is appended.
use Rattle.std.proofs.Common.{◌≡◌, ℕ, suc, zero, ◌<◌, ◌≤◌, ◌+◌, Bool, false, List, [], ◌∷◌, ◌++◌, map, length, take, get_or, refl, arith, ap, sym}
use Rattle.std.proofs.Common.{◌∙◌, append_assoc, append-nil}
use Rattle.std.specs.List.{All, flat_map}
use Rattle.std.proofs.lemmas.List.{flat_map_more, map-append, take_all, take_more}
use Rattle.std.proofs.lemmas.Grind.{flat_map-append}
use Rattle.bs_bits.specs.Lines.{line}
use Rattle.bs_bits.specs.Text.{bits_text, digit_of}
use Rattle.bs_stim.specs.StimulusText.{inputs_text}
use Rattle.bs_stim.specs.Appending.{Begins}

pub begins_more : (old more : List ℕ) → Begins old (old ++ more)
begins_more [] more = refl
begins_more (b ∷ old) more = ap (λ t. b ∷ t) (begins_more old more)

-- what begins with more begins with less
pub begins_then : (old more new : List ℕ) → Begins (old ++ more) new → Begins old new
begins_then [] more new h = refl
begins_then (b ∷ old) more [] h = absurd cc
begins_then (b ∷ old) more (c ∷ new) h =
    let head : c ≡ b = cc in
    let tail : take (length (old ++ more)) new ≡ old ++ more = cc in
    ap (λ t. c ∷ t) (begins_then old more new tail) ∙ ap (λ x. x ∷ old) head

pub begins_after : (old more mid new : List ℕ) → mid ≡ old ++ more → Begins mid new → Begins old new
begins_after old more mid new e h = begins_then old more new (rw e at h)

-- ---- the text of inputs

taken_last : {X : Type 0} (xs : List X) (k : ℕ) (d : X) → k < length xs → take (k + 1) xs ≡ take k xs ++ get_or xs k d ∷ []
taken_last xs k d lt = let e : k + 1 ≡ suc k = omega arith in ap (λ n. take n xs) e ∙ by xs k lt
  where
    by : (ys : List _) (j : ℕ) → j < length ys → take (suc j) ys ≡ take j ys ++ get_or ys j d ∷ []
    by [] j h = absurd (omega (arith, h))
    by (y ∷ ys) zero h = refl
    by (y ∷ ys) (suc j) h = ap (λ zs. y ∷ zs) (by ys j (omega (arith, h)))

-- a text after one line more
pub one_more_line : (rows : List (List Bool)) (k : ℕ) (old mid new : List ℕ) → k < length rows → mid ≡ old ++ inputs_text (take k rows) →
    new ≡ mid ++ line (bits_text (get_or rows k [])) →
    new ≡ old ++ inputs_text (take (k + 1) rows)
one_more_line rows k old mid new lt e f =
    f ∙ (ap (λ t. t ++ line (bits_text (get_or rows k []))) e
    ∙ (append_assoc old (inputs_text (take k rows)) (line (bits_text (get_or rows k [])))
    ∙ ap (λ t. old ++ t) (joined ∙ ap inputs_text (sym (taken_last rows k [] lt)))))
  where
    joined : inputs_text (take k rows) ++ line (bits_text (get_or rows k [])) ≡ inputs_text (take k rows ++ get_or rows k [] ∷ [])
    joined =
        sym (flat_map-append (λ input. line (bits_text input)) (take k rows) (get_or rows k [] ∷ []) ∙ ap (λ t. inputs_text (take k rows) ++ t) (append-nil _))

pub one_more_digit : (row : List Bool) (k : ℕ) (bit : Bool) (old mid new : List ℕ) → k < length row → mid ≡ old ++ map digit_of (take k row) →
    bit ≡ get_or row k false → new ≡ mid ++ digit_of bit ∷ [] →
    new ≡ old ++ map digit_of (take (k + 1) row)
one_more_digit row k bit old mid new lt e same f =
    f ∙ (ap (λ t. t ++ digit_of bit ∷ []) e
    ∙ (append_assoc old (map digit_of (take k row)) (digit_of bit ∷ [])
    ∙ ap (λ t. old ++ t) (sym (map-append digit_of (take k row) (bit ∷ [])) ∙ ap (λ b. map digit_of (take k row ++ b ∷ [])) same
    ∙ ap (map digit_of) (sym (taken_last row k false lt)))))

no_bits_dot : (row : List Bool) → length row ≡ 0 → bits_text row ≡ 46 ∷ []
no_bits_dot [] e = refl
no_bits_dot (b ∷ row) e = absurd (omega (arith, e))

pub empty_row : (rows : List (List Bool)) (k width : ℕ) → All (λ (row : List Bool). length row ≡ width) rows → k < length rows → width ≡ 0 →
    46 ∷ [] ≡ bits_text (get_or rows k [])
empty_row rows k width each lt none = sym (no_bits_dot (get_or rows k []) (each k [] lt ∙ none))

all_taken : (row : List Bool) (k : ℕ) → length row ≤ k → 0 < length row → map digit_of (take k row) ≡ bits_text row
all_taken [] k le some = absurd (omega (arith, some))
all_taken (b ∷ row) k le some = ap (map digit_of) (take_all k (b ∷ row) le)

pub whole_row : (rows : List (List Bool)) (k n width : ℕ) → All (λ (row : List Bool). length row ≡ width) rows → k < length rows → width ≤ n →
    0 < width → map digit_of (take n (get_or rows k [])) ≡ bits_text (get_or rows k [])
whole_row rows k n width each lt le some = all_taken (get_or rows k []) n (omega (arith, each k [] lt, le)) (omega (arith, each k [] lt, some))

-- a text after one piece more
pub one_more_piece : {X : Type 0} (f : X → List ℕ) (xs : List X) (k : ℕ) (x : X) (old mid new : List ℕ) → k < length xs → x ≡ get_or xs k x →
    mid ≡ old ++ flat_map f (take k xs) → new ≡ mid ++ f x → new ≡ old ++ flat_map f (take (k + 1) xs)
one_more_piece f xs k x old mid new lt is e put =
    put
    ∙ (ap (λ t. t ++ f x) e
    ∙ (flat_map_more f old (take k xs) x ∙ ap (λ ys. old ++ flat_map f ys) (ap (λ y. take k xs ++ y ∷ []) is ∙ sym (take_more xs k x lt))))

-- Literals with the signs of bits, one more at a time.
use Rattle.std.proofs.Common.{◌≡◌, ℕ, zero, suc, ◌+◌, ◌<◌, Bool, true, false, not, List, [], ◌∷◌, ◌++◌, map, length, take, get_or, refl, ap, sym, ◌∙◌, arith, add-one}
use Rattle.std.specs.Prelude.{◌==◌}
use Rattle.std.proofs.lemmas.Bool.{eqb-true}
use Rattle.std.proofs.lemmas.List.{append_assoc, nil_from_length}
use Rattle.bs_clause.specs.Literal.{Literal}
use Rattle.bs_scan.specs.declared.seen.Seen.{Seen}
use Rattle.bs_scan.specs.Seen.{kept, kept_one}
use Rattle.bs_scan.proofs.KeptLemmas.{kept_nothing}
use Rattle.bs_encode.specs.Tables.{lit}
use Rattle.bs_encode.specs.Assuming.{signed, signed_seen}

more : (ls : List Literal) (bs : List Bool) (i : ℕ) (d : Literal) → i < length ls → i < length bs →
    signed (take (suc i) ls) (take (suc i) bs) ≡ signed (take i ls) (take i bs) ++ lit (get_or ls i d).variable (get_or bs i false) ∷ []
more [] bs i d ll lb = absurd (omega arith)
more (l ∷ ls) [] i d ll lb = absurd (omega arith)
more (l ∷ ls) (b ∷ bs) zero d ll lb = refl
more (l ∷ ls) (b ∷ bs) (suc i) d ll lb = ap (λ r. lit l.variable b ∷ r) (more ls bs i d (omega arith) (omega arith))

denied_more : (ls : List Literal) (bs : List Bool) (i : ℕ) (d : Literal) → i < length ls → i < length bs →
    signed (take (suc i) ls) (map not (take (suc i) bs)) ≡ signed (take i ls) (map not (take i bs)) ++ lit (get_or ls i d).variable (not (get_or bs i false))
    ∷ []
denied_more [] bs i d ll lb = absurd (omega arith)
denied_more (l ∷ ls) [] i d ll lb = absurd (omega arith)
denied_more (l ∷ ls) (b ∷ bs) zero d ll lb = refl
denied_more (l ∷ ls) (b ∷ bs) (suc i) d ll lb = ap (λ r. lit l.variable (not b) ∷ r) (denied_more ls bs i d (omega arith) (omega arith))

pub signed_step : (base into ls : List Literal) (bs : List Bool) (i : ℕ) (l : Literal) (b : Bool) → length ls ≡ length bs → i < length ls →
    l ≡ get_or ls i l → b ≡ get_or bs i false →
    into ≡ base ++ signed (take i ls) (take i bs) → into ++ lit l.variable b ∷ [] ≡ base ++ signed (take (i + 1) ls) (take (i + 1) bs)
signed_step base into ls bs i l b same lt is bit so_far =
    let S : List Literal = signed (take i ls) (take i bs) in
    rw add-one
    (ap (λ u. u ++ lit l.variable b ∷ []) so_far
    ∙ (append_assoc base S (lit l.variable b ∷ [])
    ∙ ap (λ u. base ++ u)
    (ap (λ (m : Literal). S ++ lit m.variable b ∷ []) is
    ∙ (ap (λ k. S ++ lit (get_or ls i l).variable k ∷ []) bit ∙ sym (more ls bs i l lt (omega (arith, same, lt)))))))

pub denied_step : (base into ls : List Literal) (bs : List Bool) (i : ℕ) (l : Literal) (b : Bool) → length ls ≡ length bs → i < length ls →
    l ≡ get_or ls i l → b ≡ get_or bs i false →
    into ≡ base ++ signed (take i ls) (map not (take i bs)) → into ++ lit l.variable (not b) ∷ [] ≡ base ++ signed (take (i + 1) ls) (map not (take (i + 1) bs))
denied_step base into ls bs i l b same lt is bit so_far =
    let S : List Literal = signed (take i ls) (map not (take i bs)) in
    rw add-one
    (ap (λ u. u ++ lit l.variable (not b) ∷ []) so_far
    ∙ (append_assoc base S (lit l.variable (not b) ∷ [])
    ∙ ap (λ u. base ++ u)
    (ap (λ (m : Literal). S ++ lit m.variable (not b) ∷ []) is
    ∙ (ap (λ k. S ++ lit (get_or ls i l).variable (not k) ∷ []) bit ∙ sym (denied_more ls bs i l lt (omega (arith, same, lt)))))))

-- ---- where a bit is known

pub nothing_known : (fs : List Bool) → signed (kept fs []) (kept fs []) ≡ []
nothing_known [] = refl
nothing_known (f ∷ fs) = refl

known_more : (fs : List Bool) (ls : List Literal) (bs : List Bool) (i : ℕ) (d : Literal) → i < length ls → i < length bs →
    signed (kept fs (take (suc i) ls)) (kept fs (take (suc i) bs))
    ≡ signed (kept fs (take i ls)) (kept fs (take i bs)) ++ kept_one (get_or fs i false) (lit (get_or ls i d).variable (get_or bs i false))
known_more [] ls bs i d ll lb = more ls bs i d ll lb
known_more (f ∷ fs) [] bs i d ll lb = absurd (omega arith)
known_more (f ∷ fs) (l ∷ ls) [] i d ll lb = absurd (omega arith)
known_more (true ∷ fs) (l ∷ ls) (b ∷ bs) zero d ll lb = λ i. signed (kept_nothing {A = Literal} fs i) (kept_nothing {A = Bool} fs i)
known_more (false ∷ fs) (l ∷ ls) (b ∷ bs) zero d ll lb = λ i. lit l.variable b ∷ signed (kept_nothing {A = Literal} fs i) (kept_nothing {A = Bool} fs i)
known_more (true ∷ fs) (l ∷ ls) (b ∷ bs) (suc i) d ll lb = known_more fs ls bs i d (omega arith) (omega arith)
known_more (false ∷ fs) (l ∷ ls) (b ∷ bs) (suc i) d ll lb = ap (λ r. lit l.variable b ∷ r) (known_more fs ls bs i d (omega arith) (omega arith))

pub seen_step : (base into ls : List Literal) (seen : Seen) (i : ℕ) (l : Literal) (b free : Bool) → length ls ≡ length seen.bits → i < length ls →
    l ≡ get_or ls i l → b ≡ get_or seen.bits i false → free ≡ get_or seen.free i false →
    into ≡ base ++ signed (kept seen.free (take i ls)) (kept seen.free (take i seen.bits)) →
    into ++ kept_one free (lit l.variable b) ≡ base ++ signed (kept seen.free (take (i + 1) ls)) (kept seen.free (take (i + 1) seen.bits))
seen_step base into ls seen i l b free same lt is bit at_free so_far =
    let S : List Literal = signed (kept seen.free (take i ls)) (kept seen.free (take i seen.bits)) in
    rw add-one
    (ap (λ u. u ++ kept_one free (lit l.variable b)) so_far
    ∙ (append_assoc base S (kept_one free (lit l.variable b))
    ∙ ap (λ u. base ++ u)
    (ap (λ (m : Literal). S ++ kept_one free (lit m.variable b)) is
    ∙ (ap (λ k. S ++ kept_one free (lit (get_or ls i l).variable k)) bit
    ∙ (ap (λ z. S ++ kept_one z (lit (get_or ls i l).variable (get_or seen.bits i false))) at_free
    ∙ sym (known_more seen.free ls seen.bits i l lt (omega (arith, same, lt))))))))

-- where no place is free
pub signed_whole : (ls : List Literal) (seen : Seen) → (length seen.free == 0) ≡ true → signed_seen ls seen ≡ signed ls seen.bits
signed_whole ls seen e =
    let none : seen.free ≡ [] = nil_from_length seen.free (eqb-true (length seen.free) 0 e) in
    ap (λ (fs : List Bool). signed (kept fs ls) (kept fs seen.bits)) none

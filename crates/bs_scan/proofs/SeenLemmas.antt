-- What is seen, and what a state shows.
use Rattle.std.proofs.Common.{◌≡◌, Bool, true, List, [], ◌∷◌, length, refl, ap, sym, ◌∙◌, arith}
use Rattle.std.specs.Prelude.{◌&&◌, ◌==◌}
use Rattle.std.specs.Cmp.{booleans_Decides}
use Rattle.std.specs.Cmp.Lexicographic.{pointwise_decides}
use Rattle.std.proofs.lemmas.Bool.{eqb-true, and_parts, and_from}
use Rattle.std.proofs.lemmas.List.{nil_from_length}
use Rattle.bs_bits.specs.Bits.{bits_eq}
use Rattle.bs_scan.specs.declared.seen.Seen.{Seen}
use Rattle.bs_scan.specs.Seen.{kept, whole, Shows, is_shown, seen_eq}

same_is : (s t : List Bool) → bits_eq s t ≡ true → s ≡ t
same_is s t e = (pointwise_decides booleans_Decides s t).0 e

same : (s t : List Bool) → s ≡ t → bits_eq s t ≡ true
same s t e = (pointwise_decides booleans_Decides s t).1 e

-- the test is right
pub shows_where : (seen : Seen) (state : List Bool) → is_shown seen state ≡ true → Shows seen state
shows_where seen state e = same_is (kept seen.free state) (kept seen.free seen.bits) e

pub shown_where : (seen : Seen) (state : List Bool) → Shows seen state → is_shown seen state ≡ true
shown_where seen state h = same (kept seen.free state) (kept seen.free seen.bits) h

pub seen_is : (a b : Seen) → seen_eq a b ≡ true → a ≡ b
seen_is a b e =
    let parts = and_parts (bits_eq a.bits b.bits) (bits_eq a.free b.free) e in
    let p : a.bits ≡ b.bits = same_is a.bits b.bits parts.0 in
    let q : a.free ≡ b.free = same_is a.free b.free parts.1 in
    λ i. record { bits = p i; free = q i }

pub seen_same : (a b : Seen) → a ≡ b → seen_eq a b ≡ true
seen_same a b e =
    and_from (bits_eq a.bits b.bits) (bits_eq a.free b.free) (same a.bits b.bits (ap (λ (s : Seen). s.bits) e))
    (same a.free b.free (ap (λ (s : Seen). s.free) e))

-- where no place is free, all is known
pub whole_is : (seen : Seen) → seen.free ≡ [] → seen ≡ whole seen.bits
whole_is seen e = λ i. record { bits = seen.bits; free = e i }

pub whole_where : (seen : Seen) → (length seen.free == 0) ≡ true → seen ≡ whole seen.bits
whole_where seen e = whole_is seen (nil_from_length seen.free (eqb-true (length seen.free) 0 e))

-- what was seen of a state that is known is shown by it alone
pub shows_itself : (seen : Seen) → Shows seen seen.bits
shows_itself seen = refl

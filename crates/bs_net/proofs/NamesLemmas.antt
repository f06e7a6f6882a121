-- A set of texts as the list of their bytes.
use Rattle.std.proofs.Common.{◌≡◌, ℕ, suc, ◌<◌, ◌≤◌, ◌+◌, Bool, true, false, not, cond, ◌||◌, List, [], ◌∷◌, ◌++◌, map, length, refl, arith, ap, sym}
use Rattle.std.proofs.Common.{◌∙◌, nat_lt, Option, Some, None, String, Global, eq-eqb, ◌⊎◌, ⊎_elim}
use Rattle.std.specs.Prelude.{position, if◌then◌else◌, IsSome}
use Rattle.std.specs.List.{list_any, position_or_len}
use Rattle.std.specs.Option.{option_map}
use Rattle.std.specs.Str.{bytes_eq}
use Rattle.std.specs.String.{string_bytes, string_eq}
use Rattle.std.specs.Cmp.Lexicographic.{bytes_decides}
use Rattle.std.proofs.lemmas.Bool.{ltb-false, true≢false}
use Rattle.std.proofs.lemmas.Bool.Decides.{nat_tests}
use Rattle.std.proofs.lemmas.List.{map-append, length-map, length-append}
use Rattle.std.proofs.lemmas.List.Folds.{list_any_at, list_any_none, position_or_len_push}
use Rattle.std.proofs.lemmas.List.Sums.{fails_before_first}
use Rattle.std.proofs.lemmas.List.Quantifiers.{position-Some}
use Rattle.bs_net.specs.declared.limits.TheConstants.{MAX_NETS}
use Rattle.bs_net.specs.declared.net.NetId.{NetId}
use Rattle.bs_net.specs.Names.{with_key, number_of, net}

abbrev Text : Type 0
Text = String Global

-- ---- the number of a name

first_place : (key : List ℕ) (ks : List Text) → position_or_len (bytes_eq key) (map string_bytes ks) ≡ position_or_len (λ k. bytes_eq key (string_bytes k)) ks
first_place key [] = refl
first_place key (k ∷ ks) = ap (λ n. cond (not (bytes_eq key (string_bytes k))) (1 + n) 0) (first_place key ks)

pub number_texts : (key : List ℕ) (ks : List Text) → number_of (map string_bytes ks) key ≡ position (λ k. bytes_eq key (string_bytes k)) ks
number_texts key ks =
    ap (λ n. cond (nat_lt n (length (map string_bytes ks))) (Some n) None) (first_place key ks)
    ∙ ap (λ m. cond (nat_lt (position_or_len (λ k. bytes_eq key (string_bytes k)) ks) m) (Some (position_or_len (λ k. bytes_eq key (string_bytes k)) ks)) None)
    (length-map ks string_bytes)

-- a name has a number below the count of names
pub number_within : (names : List (List ℕ)) (key : List ℕ) (i : ℕ) → number_of names key ≡ Some i → i < length names
number_within names key i e = (position-Some (bytes_eq key) names i [] e).0

not_some : {X : Type 0} (b : Bool) (x : X) → cond b (Some x) None ≡ None → b ≡ false
not_some true x e = absurd cc
not_some false x e = refl

past : (names : List (List ℕ)) (key : List ℕ) → number_of names key ≡ None → length names ≤ position_or_len (bytes_eq key) names
past names key e = ltb-false (position_or_len (bytes_eq key) names) (length names) (not_some _ _ e)

absent : (names : List (List ℕ)) (key : List ℕ) → number_of names key ≡ None → list_any (bytes_eq key) names ≡ false
absent names key e =
    list_any_none (bytes_eq key) names
    (λ i d lt. fails_before_first (bytes_eq key) names i d (omega (arith, lt, past names key e)))

present : (names : List (List ℕ)) (key : List ℕ) (i : ℕ) → number_of names key ≡ Some i → list_any (bytes_eq key) names ≡ true
present names key i e = let at = position-Some (bytes_eq key) names i [] e in list_any_at (bytes_eq key) names i [] at.0 at.1

-- ---- the names after one is added

pub kept : (names : List (List ℕ)) (key : List ℕ) (i : ℕ) → number_of names key ≡ Some i → names ≡ with_key names key
kept names key i e = sym (ap (λ b. if b then names else names ++ key ∷ []) (present names key i e))

pub appended : (names : List (List ℕ)) (key : List ℕ) → number_of names key ≡ None → names ++ key ∷ [] ≡ with_key names key
appended names key e = sym (ap (λ b. if b then names else names ++ key ∷ []) (absent names key e))

at_place : (q n m : ℕ) → q ≡ n → n < m → cond (nat_lt q m) (Some q) None ≡ Some n
at_place q n m e lt = ap (λ k. cond (nat_lt k m) (Some k) None) e ∙ ap (λ b. cond b (Some n) None) (below n m lt)
  where
    below : (n m : ℕ) → n < m → nat_lt n m ≡ true
    below n m lt = grind (arith, nat_tests)

first_le : (names : List (List ℕ)) (key : List ℕ) → position_or_len (bytes_eq key) names ≤ length names
first_le [] key = omega arith
first_le (n ∷ names) key = by (not (bytes_eq key n)) (first_le names key)
  where
    by : (b : Bool) → position_or_len (bytes_eq key) names ≤ length names → cond b (1 + position_or_len (bytes_eq key) names) 0 ≤ suc (length names)
    by true le = omega arith
    by false le = omega arith

at_end : (names : List (List ℕ)) (key : List ℕ) → number_of names key ≡ None → position_or_len (bytes_eq key) names ≡ length names
at_end names key e = omega (arith, past names key e, first_le names key)

-- a new name has the last number
pub appended_number : (names : List (List ℕ)) (key : List ℕ) → number_of names key ≡ None → number_of (names ++ key ∷ []) key ≡ Some (length names)
appended_number names key e =
    let q = position_or_len (bytes_eq key) names in
    let all : q ≡ length names = at_end names key e in
    let own : bytes_eq key key ≡ true = (bytes_decides key key).1 refl in
    let last : position_or_len (bytes_eq key) (names ++ key ∷ []) ≡ length names =
    position_or_len_push (bytes_eq key) names key
    ∙ (ap (λ b. cond b (length names + cond (bytes_eq key key) 0 1) q) (eq-eqb q (length names) all)
    ∙ (ap (λ b. length names + cond b 0 1) own ∙ omega arith)) in
    at_place _ _ _ last (omega (arith, length-append names (key ∷ [])))

pub with_key-grows : (names : List (List ℕ)) (key : List ℕ) → length names ≤ length (with_key names key)
with_key-grows names key = by (list_any (bytes_eq key) names)
  where
    by : (b : Bool) → length names ≤ length (if b then names else names ++ key ∷ [])
    by true = omega arith
    by false = omega (arith, length-append names (key ∷ []))

pub with_key-one_more : (names : List (List ℕ)) (key : List ℕ) → length (with_key names key) ≤ length names + 1
with_key-one_more names key = by (list_any (bytes_eq key) names)
  where
    by : (b : Bool) → length (if b then names else names ++ key ∷ []) ≤ length names + 1
    by true = omega arith
    by false = omega (arith, length-append names (key ∷ []))

-- a name that is not there has room
pub room_for : (names : List (List ℕ)) (key : List ℕ) → (length names < MAX_NETS) ⊎ IsSome (number_of names key) → number_of names key ≡ None →
    length names < MAX_NETS
room_for names key room e =
    ⊎_elim
    (λ (h : length names < MAX_NETS). h)
    (λ (h : IsSome (number_of names key)). absurd (none_there (number_of names key) e h))
    room
  where
    none_there : (o : Option ℕ) → o ≡ None → IsSome o → ⊥
    none_there None k h = true≢false (sym h)
    none_there (Some i) k h = absurd cc

-- a net that a look-up gives
pub found_number : (names : List (List ℕ)) (key : List ℕ) (n : NetId) → Some n ≡ option_map net (number_of names key) → number_of names key ≡ Some n.0
found_number names key n e = by (number_of names key) e
  where
    by : (o : Option ℕ) → Some n ≡ option_map net o → o ≡ Some n.0
    by None k = absurd cc
    by (Some i) k = let same : n ≡ record { 0 = i } = cc in ap (λ (m : NetId). Some m.0) (sym same)

-- ---- a new text

any-texts : (key : List ℕ) (ks : List Text) → list_any (bytes_eq key) (map string_bytes ks) ≡ list_any (λ k. bytes_eq key (string_bytes k)) ks
any-texts key [] = refl
any-texts key (k ∷ ks) = ap (λ b. bytes_eq key (string_bytes k) || b) (any-texts key ks)

new_text : (ks : List Text) (t : Text) (key : List ℕ) → string_bytes t ≡ key → number_of (map string_bytes ks) key ≡ None → list_any (string_eq t) ks ≡ false
new_text ks t key e none =
    sym (any-texts (string_bytes t) ks)
    ∙ (ap (λ b. list_any (bytes_eq b) (map string_bytes ks)) e ∙ absent (map string_bytes ks) key none)

pub keys_after : (ks : List Text) (t : Text) (key : List ℕ) → string_bytes t ≡ key → number_of (map string_bytes ks) key ≡ None →
    map string_bytes (if list_any (string_eq t) ks then ks else ks ++ t ∷ []) ≡ map string_bytes ks ++ key ∷ []
keys_after ks t key e none =
    ap (λ b. map string_bytes (if b then ks else ks ++ t ∷ [])) (new_text ks t key e none)
    ∙ (map-append string_bytes ks (t ∷ []) ∙ ap (λ b. map string_bytes ks ++ b ∷ []) e)

-- its place
pub place_after : (ks : List Text) (t : Text) (key : List ℕ) (i : ℕ) → string_bytes t ≡ key → number_of (map string_bytes ks) key ≡ None →
    i ≡ position_or_len (string_eq t) ks → i ≡ length (map string_bytes ks)
place_after ks t key i e none is =
    is
    ∙ (sym (first_place (string_bytes t) ks)
    ∙ (ap (λ b. position_or_len (bytes_eq b) (map string_bytes ks)) e ∙ at_end (map string_bytes ks) key none))

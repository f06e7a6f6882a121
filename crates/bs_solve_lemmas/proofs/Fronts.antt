-- What is true on a front of a trail, whatever its places keep besides their literals.
use Rattle.std.proofs.Common.{◌≡◌, ◌≢◌, ℕ, ◌<◌, ◌≤◌, arith, List, map, take, sym, ap, ◌∙◌, inl, inr, Some}
use Rattle.std.specs.Prelude.{slice_get}
use Rattle.std.proofs.lemmas.Bool.{cases_lt, cases_eq}
use Rattle.bs_clause.specs.Literal.{Literal, negation}
use Rattle.bs_watch.specs.Trail.{IsTrueOn, IsOpenOn}
use Rattle.bs_watch.proofs.Gets.{get_take, take_get, get_from_Contains, Contains_from_get, get_map_cases, get_map}
use Rattle.bs_watch.proofs.TableLemmas.{open_apart as literal_apart}

-- what is true is true later
pub true_later : {P : Type 0} (f : P → Literal) (places : List P) (i j : ℕ) (l : Literal) → i ≤ j → IsTrueOn (map f (take i places)) l →
    IsTrueOn (map f (take j places)) l
true_later {P} f places i j l h there =
    let (k, found) = get_from_Contains (map f (take i places)) l there in
    let (p, at, same) = get_map_cases f (take i places) k l found in
    let (before, in_all) = get_take i places k p at in
    Contains_from_get (map f (take j places)) k l (get_map f (take j places) k p (take_get j places k p (omega arith) in_all) ∙ ap Some same)

pub true_at_end : {P : Type 0} (f : P → Literal) (places : List P) (i : ℕ) (l : Literal) → IsTrueOn (map f (take i places)) l → IsTrueOn (map f places) l
true_at_end {P} f places i l there =
    let (k, found) = get_from_Contains (map f (take i places)) l there in
    let (p, at, same) = get_map_cases f (take i places) k l found in
    Contains_from_get (map f places) k l (get_map f places k p (get_take i places k p at).1 ∙ ap Some same)

pub open_earlier : {P : Type 0} (f : P → Literal) (places : List P) (i j : ℕ) (l : Literal) → i ≤ j → IsOpenOn (map f (take j places)) l →
    IsOpenOn (map f (take i places)) l
open_earlier {P} f places i j l h o = (
  (λ t. o.0 (true_later f places i j l h t)),
  (λ d. o.1 (true_later f places i j (negation l) h d)),
)

-- a true literal has a place
pub place_of : {P : Type 0} (f : P → Literal) (places : List P) (l : Literal) → IsTrueOn (map f places) l → (k : ℕ) × (p : P) × (slice_get places k ≡ Some p) × (f p ≡ l)
place_of {P} f places l there =
    let (k, found) = get_from_Contains (map f places) l there in
    let (p, at, same) = get_map_cases f places k l found in
    (k, p, at, same)

-- an open literal's variable is that of no place
pub open_apart : {P : Type 0} (f : P → Literal) (places : List P) (l : Literal) → IsOpenOn (map f places) l → (k : ℕ) (p : P) → slice_get places k ≡ Some p →
    (f p).variable ≢ l.variable
open_apart {P} f places l o k p at = literal_apart (map f places) l o k (f p) (get_map f places k p at)

-- no variable has two places, where each place is open on those before it
pub one_place : {P : Type 0} (f : P → Literal) (places : List P) → ((k : ℕ) (p : P) → slice_get places k ≡ Some p → IsOpenOn (map f (take k places)) (f p)) →
    (i j : ℕ) (p q : P) → slice_get places i ≡ Some p → slice_get places j ≡ Some q → (f p).variable ≡ (f q).variable → i ≡ j
one_place {P} f places s i j p q at_i at_j same = elim (cases_lt i j) [
  | inl before ↦ absurd (open_apart f (take j places) (f q) (s j q at_j) i p (take_get j places i p before at_i) same)
  | inr after ↦ elim (cases_eq i j) [
    | inl equal ↦ equal
    | inr different ↦
        let later : j < i = omega (arith, after, λ (e : i ≡ j). different e) in
        absurd (open_apart f (take i places) (f p) (s i p at_i) j q (take_get i places j q later at_j) (sym same))
  ]
]

-- What is read of literals, clauses and places.
use Rattle.std.proofs.Common.{◌≡◌, ℕ, ◌+◌, ◌-◌, ◌<◌, ◌≤◌, arith, Bool, true, false, List, suc, length, take, refl, sym, ap, subst, ◌∙◌, inl, inr, ◌⊎◌, Some, get_or}
use Rattle.std.specs.Prelude.{All, slice_get}
use Rattle.std.specs.Bool.{OnTrue}
use Rattle.std.proofs.lemmas.Option.{slice_get_read}
use Rattle.std.proofs.lemmas.Bool.{cases_lt}
use Rattle.std.proofs.lemmas.List.{take_all}
use Rattle.std.proofs.lemmas.List.Elements.{All-push}
use Rattle.bs_clause.specs.Literal.{Literal, Clause, negation, has_literal}
use Rattle.bs_watch.proofs.Gets.{take_push_at}
use Rattle.bs_reach_unrolled.specs.Chain.{IsBefore, IsNeeded, IsMade, AreMade}

pub read_literal : (literals : List Literal) (at : ℕ) (x l : Literal) → at < length literals → x ≡ get_or literals at x → x ≡ l →
    slice_get literals at ≡ Some l
read_literal literals at x l within is same = slice_get_read literals (length literals) at x refl within is ∙ ap Some same

pub one_more : (literals : List Literal) (clauses : List Clause) (places : List ℕ) (n : ℕ) → AreMade literals clauses places n →
    IsMade literals clauses places n → AreMade literals clauses places (n + 1)
one_more literals clauses places n made last = record {
  each = λ i low. elim (cases_lt i n) [
    | inl before ↦ made.each i before
    | inr past ↦ subst (IsMade literals clauses places) (let e : n ≡ i = omega (arith, low, past) in e) last
  ];
}

pub none_made : (literals : List Literal) (clauses : List Clause) (places : List ℕ) → AreMade literals clauses places 0
none_made literals clauses places = record { each = λ i low. absurd (omega (arith, low)) }

pub read_last : (literals : List Literal) (clauses : List Clause) (last : Literal) → length literals ≡ length clauses → 0 < length clauses →
    last ≡ get_or literals (length literals - 1) last → slice_get literals (length clauses - 1) ≡ Some last
read_last literals clauses last same some is =
    slice_get_read literals (length literals) (length clauses - 1) last refl (omega (arith, same, some))
    (is ∙ ap (λ n. get_or literals n last) (let e : length literals - 1 ≡ length clauses - 1 = omega (arith, same) in e))

pub all_more : (P : Literal → Type 0) (xs : List Literal) (n : ℕ) (x : Literal) → n < length xs → x ≡ get_or xs n x → All P (take n xs) → P x →
    All P (take (n + 1) xs)
all_more P xs n x within is all one =
    subst (λ m. All P (take m xs)) (let e : suc n ≡ n + 1 = omega arith in e)
    (subst (All P) (sym (take_push_at xs n x (slice_get_read xs (length xs) n x refl within is))) (All-push P (take n xs) x all one))

pub made_at : (literals : List Literal) (clauses : List Clause) (places : List ℕ) (i : ℕ) (l : Literal) (c d : Clause) (used : Bool) →
    i < length clauses → length literals ≡ length clauses → l ≡ get_or literals i l → c ≡ get_or clauses i c → d ≡ c → has_literal d l ≡ true →
    All (λ m. (m ≡ l) ⊎ IsBefore literals i (negation m)) d → slice_get places l.variable ≡ Some i →
    OnTrue used (i + 1 < length clauses → IsNeeded clauses i l) → OnTrue used (IsMade literals clauses places i)
made_at literals clauses places i l c d false within same is_l is_c is_d stands others place needed = tt
made_at literals clauses places i l c d true within same is_l is_c is_d stands others place needed = record {
  literal = l;
  clause = d;
  at = slice_get_read literals (length literals) i l refl (omega (arith, within, same)) is_l;
  clause_at = slice_get_read clauses (length clauses) i c refl within is_c ∙ ap Some (sym is_d);
  stands = stands;
  others = others;
  place = place;
  needed = λ low. needed (omega (arith, low, same));
}

pub all_of : (P : Literal → Type 0) (xs : List Literal) (n : ℕ) → length xs ≤ n → All P (take n xs) → All P xs
all_of P xs n past all = subst (All P) (take_all n xs past) all

-- What the step of each length assumes.
use Rattle.std.proofs.Common.{◌≡◌, ℕ, zero, suc, ◌+◌, ◌-◌, ◌*◌, ◌≤◌, Bool, true, List, [], ◌∷◌, ◌++◌, map, length, get_or, refl, sym, ap, ◌∙◌, arith}
use Rattle.std.specs.Prelude.{slice_get, unwrap_or}
use Rattle.std.specs.List.{range_with_len}
use Rattle.std.proofs.lemmas.List.{map-append}
use Rattle.std.proofs.lemmas.List.FromFn.{length-map-range_with_len, get_or-map-range_with_len}
use Rattle.bs_scan.specs.declared.seen.Seen.{Seen}
use Rattle.bs_bits.proofs.RangeLemmas.{range_more}
use Rattle.bs_clause.specs.Literal.{Literal, Clause}
use Rattle.bs_log.specs.Refusal.{assumptions_of}
use Rattle.bs_evidence.proofs.ProblemLemmas.{problem_over}
use Rattle.bs_encode.specs.Tables.{lit}
use Rattle.bs_encode.specs.Encoded.{Encoded}
use Rattle.bs_encode.specs.Assuming.{signed_seen}
use Rattle.bs_reach_unrolled.specs.Unrolled.{next_at, unrolled, length_assumes, reach_problem}

-- the activation literal of the length c + 1, and that time frame c leads to the state
pub is_assumed : (e : Encoded) (k : ℕ) (p : Seen) (c : ℕ) (activation : Literal) (all : Clause) → activation ≡ lit (k * e.variables + (c + 1)) true →
    all ≡ activation ∷ signed_seen (next_at e c) p → all ≡ length_assumes e k p (c + 1)
is_assumed e k p c activation all a is =
    let back : c ≡ c + 1 - 1 = omega arith in
    is ∙ (ap (λ (l : Literal). l ∷ signed_seen (next_at e c) p) a ∙ ap (λ (i : ℕ). lit (k * e.variables + (c + 1)) true ∷ signed_seen (next_at e i) p) back)

-- one length more
pub lengths_more : (f : ℕ → Clause) (all new : List Clause) (own : Clause) (c : ℕ) → all ≡ map f (range_with_len 1 c) → own ≡ f (c + 1) →
    new ≡ all ++ own ∷ [] → new ≡ map f (range_with_len 1 (c + 1))
lengths_more f all new own c so_far is grown =
    let next : c + 1 ≡ suc c = omega arith in
    let last : c + 1 ≡ 1 + c = omega arith in
    grown
    ∙ (ap (λ (l : List Clause). l ++ own ∷ []) so_far
    ∙ (ap (λ (o : Clause). map f (range_with_len 1 c) ++ o ∷ []) (is ∙ ap f last)
    ∙ (sym (map-append f (range_with_len 1 c) ((1 + c) ∷ []))
    ∙ (ap (map f) (sym (range_more 1 c)) ∙ ap (λ (n : ℕ). map f (range_with_len 1 n)) (sym next)))))

-- ---- of a problem

got : {X : Type 0} (xs : List X) (i : ℕ) (d : X) → unwrap_or (slice_get xs i) d ≡ get_or xs i d
got [] i d = refl
got (x ∷ xs) zero d = refl
got (x ∷ xs) (suc i) d = got xs i d

pub assumed_at : (e : Encoded) (reset : List Bool) (k : ℕ) (p : Seen) (count j : ℕ) → 1 ≤ j → j ≤ count →
    assumptions_of (reach_problem e reset k p count) j ≡ length_assumes e k p j
assumed_at e reset k p count j one few =
    got (map (length_assumes e k p) (range_with_len 1 count)) (j - 1) []
    ∙ get_or-map-range_with_len (length_assumes e k p) 1 count (j - 1) j [] (omega (arith, one, few)) (omega (arith, one))

pub steps_count : (e : Encoded) (reset : List Bool) (k : ℕ) (p : Seen) (count : ℕ) → length (reach_problem e reset k p count).steps ≡ count
steps_count e reset k p count = length-map-range_with_len (length_assumes e k p) 1 count

pub same_problem : (e : Encoded) (reset : List Bool) (k : ℕ) (p : Seen) (count vars : ℕ) (clauses steps : List Clause) → vars ≡ k * e.variables →
    clauses ≡ unrolled e reset k → steps ≡ map (length_assumes e k p) (range_with_len 1 count) → problem_over vars clauses steps ≡ reach_problem e reset k p count
same_problem e reset k p count vars clauses steps n a b = λ i. problem_over (n i) (a i) (b i)

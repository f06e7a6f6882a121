-- A lemma that denies one literal denies each list of literals that has it.
use Rattle.std.proofs.Common.{◌≡◌, ℕ, true, List, [], ◌∷◌, refl, subst, inl, inr, Some, None}
use Rattle.std.specs.Prelude.{Contains, slice_get, IfSome, Option}
use Rattle.std.proofs.lemmas.Bool.{and_parts, and_from}
use Rattle.bs_clause.specs.Literal.{Literal, Clause, negation, has_literal}
use Rattle.bs_log.specs.Refusal.{denies}
use Rattle.bs_watch.proofs.Gets.{Contains_from_get}
use Rattle.bs_solve_lemmas.proofs.Literals.{Contains-from_has, has-from_Contains}
use Rattle.bs_solve_lemmas.proofs.Clauses.{contains_cases, nothing_in}
use Rattle.bs_reach_unrolled.specs.declared.failure.Lemma.{Lemma}
use Rattle.bs_reach_unrolled.specs.Rows.{Refutes}

sole : (wanted l : Literal) → Contains (wanted ∷ []) l → wanted ≡ l
sole wanted l there = elim (contains_cases wanted [] l there) [ inl same ↦ same | inr later ↦ absurd (nothing_in l later) ]

still_denies : (a : Clause) (wanted : Literal) (lits : Clause) → Contains a wanted → denies (wanted ∷ []) lits ≡ true → denies a lits ≡ true
still_denies a wanted [] there all = refl
still_denies a wanted (l ∷ lits) there all =
    let parts = and_parts (has_literal (wanted ∷ []) (negation l)) (denies (wanted ∷ []) lits) all in
    let same : wanted ≡ negation l = sole wanted (negation l) (Contains-from_has (wanted ∷ []) (negation l) parts.0) in
    and_from (has_literal a (negation l)) (denies a lits) (has-from_Contains a (negation l) (subst (Contains a) same there))
    (still_denies a wanted lits there parts.1)

pub refutes_all : (all : List Clause) (a : Clause) (wanted : Literal) (f : ℕ) (d : Lemma) → slice_get a f ≡ Some wanted → Refutes all (wanted ∷ []) d →
    Refutes all a d
refutes_all all a wanted f d at r = record {
  literal = r.literal;
  one = r.one;
  clauses = r.clauses;
  rows = r.rows;
  proved = r.proved;
  ends = still_denies a wanted d.lits (Contains_from_get a f wanted at) r.ends;
}

pub refutes_found : (all : List Clause) (a : Clause) (wanted : Literal) (f : ℕ) (o : Option Lemma) → slice_get a f ≡ Some wanted →
    IfSome o (Refutes all (wanted ∷ [])) → IfSome o (Refutes all a)
refutes_found all a wanted f None at r = tt
refutes_found all a wanted f (Some d) at r = refutes_all all a wanted f d at r

-- Lemmas of lengths, one after another.
use Rattle.std.proofs.Common.{◌≡◌, ℕ, ◌+◌, ◌-◌, ◌*◌, Bool, true, List, [], ◌∷◌, ◌++◌, length, drop, arith, refl, ap, sym, subst, ◌∙◌, Option, Some, None}
use Rattle.std.proofs.lemmas.Bool.{and_parts, and_from, or_right}
use Rattle.std.specs.Prelude.{option_to_list, IsTrue}
use Rattle.bs_scan.specs.declared.seen.Seen.{Seen}
use Rattle.bs_clause.specs.Literal.{Literal, Clause, negation, has_literal, same_literal}
use Rattle.bs_encode.specs.Tables.{lit}
use Rattle.bs_encode.specs.Encoded.{Encoded}
use Rattle.bs_encode.specs.Assuming.{signed_seen}
use Rattle.bs_reach_unrolled.specs.Unrolled.{next_at, length_assumes}
use Rattle.bs_log.specs.Refusal.{has_distinct_variables, denies}
use Rattle.bs_log.specs.Propagation.{hints_are_unit, last_is_false}
use Rattle.bs_log.specs.Lean.{IsResolventOf}
use Rattle.bs_reach_unrolled.specs.declared.failure.Lemma.{Lemma}
use Rattle.bs_reach_unrolled.specs.Rows.{Refutes}
use Rattle.bs_reach_unrolled.proofs.NamedLemmas.{rows_named}
use Rattle.bs_solve.specs.declared.failure.FailedAssumption.{FailedAssumption}
use Rattle.bs_solve.specs.Failure.{FailsBy}
use Rattle.bs_reach.specs.FailedAssumptions.{AreFailedAssumptions}

-- a lemma by rows is one by the clauses of their ids
failed_assumption_right : (all : List Clause) (a : Clause) (d : Lemma) → Refutes all a d → FailsBy all a (record { lits = d.lits; hints = d.hints })
failed_assumption_right all a d r =
    let (named, same) = rows_named all d.hints r.clauses r.rows in
    record {
      learnt = record {
        named = named;
        distinct = ap has_distinct_variables r.one;
        unit = subst (λ cs. IsTrue (hints_are_unit d.lits cs)) (sym same) r.proved.unit;
        last = subst (λ cs. IsTrue (last_is_false d.lits cs)) (sym same) r.proved.last;
        resolvent = subst (IsResolventOf d.lits) (sym same) r.proved.resolvent;
      };
      ends = r.ends;
      few = let n = ap length r.one in omega (arith, n);
    }

-- what denies the state behind a time frame denies what the length assumes
fails_more : (g : Literal) (a lits : Clause) → denies a lits ≡ true → denies (g ∷ a) lits ≡ true
fails_more g a [] all = refl
fails_more g a (l ∷ lits) all =
    let parts = and_parts (has_literal a (negation l)) (denies a lits) all in
    and_from (has_literal (g ∷ a) (negation l)) (denies (g ∷ a) lits) (or_right (same_literal (negation l) g) (has_literal a (negation l)) parts.0)
    (fails_more g a lits parts.1)

pub length_denied : (all : List Clause) (e : Encoded) (k c : ℕ) (p : Seen) (d : Lemma) → Refutes all (signed_seen (next_at e c) p) d →
    FailsBy all (length_assumes e k p (c + 1)) (record { lits = d.lits; hints = d.hints })
length_denied all e k c p d r =
    let back : c ≡ (c + 1) - 1 = omega arith in
    let ends : denies (signed_seen (next_at e ((c + 1) - 1)) p) d.lits ≡ true =
    subst (λ (m : ℕ). denies (signed_seen (next_at e m) p) d.lits ≡ true) back r.ends in
    failed_assumption_right all (length_assumes e k p (c + 1)) d (record {
      literal = r.literal;
      one = r.one;
      clauses = r.clauses;
      rows = r.rows;
      proved = r.proved;
      ends = fails_more (lit (k * e.variables + (c + 1)) true) (signed_seen (next_at e ((c + 1) - 1)) p) d.lits ends;
    })

-- what an activation literal and the state of a time frame make
pub due_of : (e : Encoded) (k c : ℕ) (p : Seen) (activation : Literal) (a : Clause) → activation ≡ lit (k * e.variables + (c + 1)) true →
    a ≡ activation ∷ signed_seen (next_at e c) p → a ≡ length_assumes e k p (c + 1)
due_of e k c p activation a is are =
    let back : c ≡ (c + 1) - 1 = omega arith in
    are ∙ (ap (λ (l : Literal). l ∷ signed_seen (next_at e c) p) is ∙
    ap (λ (m : ℕ). lit (k * e.variables + (c + 1)) true ∷ signed_seen (next_at e m) p) back)

-- one more at the end
pub failed_assumptions_push : (cs : List Clause) (e : Encoded) (k : ℕ) (p : Seen) (c n : ℕ) (ds : List FailedAssumption) (d : FailedAssumption) → AreFailedAssumptions cs e k p c ds →
    c + length ds ≡ n → FailsBy cs (length_assumes e k p (n + 1)) d → AreFailedAssumptions cs e k p c (ds ++ d ∷ [])
failed_assumptions_push cs e k p c n [] d all is one =
    let same : n ≡ c = omega (arith, is) in
    (subst (λ m. FailsBy cs (length_assumes e k p (m + 1)) d) same one, tt)
failed_assumptions_push cs e k p c n (x ∷ ds) d all is one = (all.0, failed_assumptions_push cs e k p (c + 1) n ds d all.1 (omega (arith, is)) one)

-- where none comes out of a queue, none was in it
pub none_left : (old new : List FailedAssumption) → old ≡ [] ++ new → new ≡ drop 1 old → new ≡ []
none_left [] new same rest = rest
none_left (d ∷ ds) new same rest =
    let n = ap length same in
    let m = ap length rest in
    absurd (omega (arith, n, m))

-- the first of the lemmas, and those behind it
pub failed_assumptions_head : (cs : List Clause) (e : Encoded) (k : ℕ) (p : Seen) (c : ℕ) (old new : List FailedAssumption) (d : FailedAssumption) (o : Option FailedAssumption) →
    old ≡ option_to_list o ++ new → o ≡ Some d → AreFailedAssumptions cs e k p c old →
    FailsBy cs (length_assumes e k p (c + 1)) d × AreFailedAssumptions cs e k p (c + 1) new
failed_assumptions_head cs e k p c old new d o items is all =
    subst (AreFailedAssumptions cs e k p c) (items ∙ ap (λ (x : Option FailedAssumption). option_to_list x ++ new) is) all

pub failed_assumptions_none : (cs : List Clause) (e : Encoded) (k : ℕ) (p : Seen) (c : ℕ) (old new : List FailedAssumption) (o : Option FailedAssumption) →
    old ≡ option_to_list o ++ new → new ≡ drop 1 old → o ≡ None → AreFailedAssumptions cs e k p c new
failed_assumptions_none cs e k p c old new o items rest is =
    subst (AreFailedAssumptions cs e k p c) (sym (none_left old new (items ∙ ap (λ (x : Option FailedAssumption). option_to_list x ++ new) is) rest)) tt

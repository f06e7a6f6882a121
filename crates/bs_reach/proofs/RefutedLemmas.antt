-- One more length that a lemma refutes.
use Rattle.std.proofs.Common.{◌≡◌, ℕ, zero, suc, ◌+◌, ◌-◌, ◌*◌, ◌^◌, ◌<◌, ◌≤◌, arith, Bool, true, false, not, ◌||◌, ◌&&◌, List, [], ◌∷◌, ◌++◌, map, length, reverse}
use Rattle.std.proofs.Common.{refl, sym, ap, subst, ◌∙◌, inl, inr, Option, Some, None, unwrap_or, cond, leb}
use Rattle.std.specs.Prelude.{Any, Contains, slice_get, option_map, nat_le, nat_lt}
use Rattle.std.specs.List.{AllByRecursion, range_with_len, filter, cons_option}
use Rattle.std.proofs.lemmas.Bool.{or_right, and_from, false≢true, le-leb, le-ltb}
use Rattle.std.proofs.lemmas.List.{reverse-append, length-map, map-append}
use Rattle.std.proofs.lemmas.List.Elements.{All-contains, recursion_from_All}
use Rattle.bs_scan.specs.declared.seen.Seen.{Seen}
use Rattle.bs_bits.proofs.RangeLemmas.{range_more}
use Rattle.bs_clause.specs.Literal.{Clause, negation}
use Rattle.bs_clause.specs.Range.{IsWithin, HasVariables}
use Rattle.bs_log.specs.declared.line.Line.{Line}
use Rattle.bs_log.specs.declared.line.Line.TheVariants.{Solve, Lemma, Finish, Retire}
use Rattle.bs_log.specs.declared.origin.Origin.TheVariants.{Learnt, Retired}
use Rattle.bs_log.specs.History.{Problem, History, Entry, axioms_from, is_deleted, live, state_of, phase_of, step_of, activation_of}
use Rattle.bs_log.specs.Refusal.{assumptions_of, denies, entry_of, clauses_of, passes, is_lemma, is_lemma_or_block, in_order, is_between_steps, is_after_block}
use Rattle.bs_log.specs.Kept.{is_kept, is_free_lemma, has_retired_activation, is_long, newer_long}
use Rattle.bs_log.specs.Lean.{StepsLeaveKept}
use Rattle.bs_log.specs.LineForms.{HasVariable}
use Rattle.bs_log.proofs.Histories.{same_live, with_step}
use Rattle.bs_solve_lemmas.proofs.Deletions.{nothing_leaves_kept}
use Rattle.bs_solve_lemmas.proofs.Clauses.{nothing_in, contains_cases, contains_first, cons_contains, all_from, map_contains}
use Rattle.bs_solve_lemmas.specs.ProofLog.{ProofLog, IsRecorded, lemma_ids, with_line, with_lemma}
use Rattle.bs_solve_lemmas.proofs.ProofLogs.{recorded_solve, recorded_lemma, recorded_finish, recorded_retire, lemma_stands, retired_stands}
use Rattle.bs_solve_lemmas.proofs.Entries.{found_last, found_stands}
use Rattle.bs_solve_lemmas.proofs.Leavings.{leaves_begun}
use Rattle.bs_solve_lemmas.proofs.Lines.{recorded_member}
use Rattle.bs_solve_lemmas.proofs.Standing.{learnt_of_axioms}
use Rattle.bs_solve.specs.declared.failure.FailedAssumption.{FailedAssumption}
use Rattle.bs_solve.specs.Failure.{FailsBy}
use Rattle.bs_solve.proofs.Startings.{axiom_clauses}
use Rattle.bs_encode.specs.Encoded.{Encoded}
use Rattle.bs_reach_unrolled.specs.Unrolled.{unrolled, length_assumes}
use Rattle.bs_reach_unrolled.specs.Room.{IsUnrollable}
use Rattle.bs_reach_unrolled.proofs.UnrolledLemmas.{unrolled_range}
use Rattle.bs_watch.proofs.Gets.{get_map}
use Rattle.bs_reach.specs.Search.{problem_over}
use Rattle.bs_reach.specs.Refuted.{step_lines, trial_lines, IsPlain, AreTried, AreRefuted, IsLogOfLengths}

range_get : (a n i : ℕ) → i < n → slice_get (range_with_len a n) i ≡ Some (a + i)
range_get a zero i low = absurd (omega (arith, low))
range_get a (suc n) zero low = ap (λ m. Some m) (let e : a ≡ a + 0 = omega arith in e)
range_get a (suc n) (suc i) low = range_get (a + 1) n i (omega (arith, low)) ∙ ap (λ m. Some m) (let e : a + 1 + i ≡ a + suc i = omega arith in e)

pub length_range : (a n : ℕ) → length (range_with_len a n) ≡ n
length_range a zero = refl
length_range a (suc n) = let rest = length_range (a + 1) n in omega (arith, rest)

-- a clause of some ids is that of an entry
named_in : (es : List Entry) (ids : List ℕ) (c : Clause) → Contains (clauses_of es ids) c → Contains (map (λ (x : Entry). x.literals) es) c
named_in es [] c there = absurd (nothing_in c there)
named_in es (id ∷ ids) c there = by (entry_of es id) refl (λ later. named_in es ids c later) there
  where
    by : (o : Option Entry) → entry_of es id ≡ o → (Contains (clauses_of es ids) c → Contains (map (λ (x : Entry). x.literals) es) c) →
        Contains (cons_option (option_map (λ (x : Entry). x.literals) o) (clauses_of es ids)) c → Contains (map (λ (x : Entry). x.literals) es) c
    by None found below rest = below rest
    by (Some x) found below rest = elim (contains_cases x.literals (clauses_of es ids) c rest) [
      | inl same ↦ subst (Contains (map (λ (y : Entry). y.literals) es)) same (map_contains (λ (y : Entry). y.literals) es x (found_stands es id x found))
      | inr later ↦ below later
    ]

any_of : {X : Type 0} (P : X → Type 0) (xs : List X) → Any P xs → (x : X) × Contains xs x × P x
any_of P [] a = absurd (let h : a.0 < 0 = a.2 in omega (arith, h))
any_of P (x ∷ xs) (zero, y, h, e, p) = (x, contains_first x xs, subst P (sym e) p)
any_of P (x ∷ xs) (suc n, y, h, e, p) = let r = any_of P xs (n, y, omega (arith, h), e, p) in (r.0, cons_contains x xs r.0 r.1, r.2)

-- a lemma of one literal of the clauses' own variables is kept
module _ (q : Problem) where
  no_activation : (step : ℕ) (c : Clause) → AllByRecursion (IsWithin q.vars) c → has_retired_activation q step c ≡ false
  no_activation step [] all = refl
  no_activation step (l ∷ c) all =
      ap (λ t. t && leb l.variable (q.vars + step) || has_retired_activation q step c) (le-ltb q.vars l.variable (omega (arith, all.0.1))) ∙ no_activation step c all.1

  short : (c : Clause) (e : Entry) → e.literals ≡ c → length c < 2 → is_long e ≡ false
  short c e is few = ap (λ (d : Clause). is_long (record { id = e.id; origin = e.origin; literals = d })) is ∙ le-ltb 8 (length c) (omega (arith, few))

  own_kept : (e : Entry) → e.origin ≡ Learnt → length e.literals < 2 → AllByRecursion (IsWithin q.vars) e.literals →
      (step : ℕ) (entries : List Entry) → is_kept q step entries e ≡ true
  own_kept e learnt few own step entries =
      and_from (is_free_lemma q step e) (not (is_long e) || nat_lt (newer_long q step entries e) 20000) (and_from (is_lemma e) (not (has_retired_activation q step e.literals)) (lemma e learnt) (ap not (no_activation step e.literals own)))
      (ap (λ t. not t || nat_lt (newer_long q step entries e) 20000) (short e.literals e refl few))
    where
      lemma : (x : Entry) → x.origin ≡ Learnt → is_lemma x ≡ true
      lemma x is = ap (λ o. is_lemma (record { id = x.id; origin = o; literals = x.literals })) is

  axioms_plain : (n : ℕ) (cs : List Clause) → AllByRecursion (IsPlain q) (filter (λ (x : Entry). not (is_deleted [] x.id)) (axioms_from n cs))
  axioms_plain n [] = tt
  axioms_plain n (c ∷ cs) = ((λ other. absurd (false≢true other)), axioms_plain (n + 1) cs)

  push_plain : (es : List Entry) (e : Entry) → AllByRecursion (IsPlain q) es → IsPlain q e → AllByRecursion (IsPlain q) (es ++ e ∷ [])
  push_plain [] e all one = (one, tt)
  push_plain (x ∷ es) e all one = (all.0, push_plain es e all.1 one)

  -- where all are plain nothing goes
  none_goes : (step : ℕ) (entries es : List Entry) → AllByRecursion (IsPlain q) es →
      filter (λ e. not (is_kept q step entries e)) (filter is_lemma_or_block es) ≡ []
  none_goes step entries [] all = refl
  none_goes step entries (e ∷ es) all = by (is_lemma_or_block e) refl (none_goes step entries es all.1)
    where
      by : (t : Bool) → is_lemma_or_block e ≡ t → filter (λ x. not (is_kept q step entries x)) (filter is_lemma_or_block es) ≡ [] →
          filter (λ x. not (is_kept q step entries x)) (cond t (e ∷ filter is_lemma_or_block es) (filter is_lemma_or_block es)) ≡ []
      by true is rest =
          ap (λ t. cond (not t) (e ∷ filter (λ x. not (is_kept q step entries x)) (filter is_lemma_or_block es))
          (filter (λ x. not (is_kept q step entries x)) (filter is_lemma_or_block es))) (all.0 is step entries) ∙ rest
      by false is rest = rest

module _ (e : Encoded) (reset : List Bool) (p : Seen) (k b : ℕ) (u : IsUnrollable e k) (limit : 1 ≤ b) where
  -- with a step for each of so many lengths
  abbrev q : ℕ → Problem
  q n = problem_over (unrolled e reset k) e k p n

  -- the literal of a lemma is of the clauses' own variables
  own : (a : Clause) (d : FailedAssumption) → FailsBy (unrolled e reset k) a d → HasVariables (k * e.variables) d.lits
  own a d r = all_from (IsWithin (k * e.variables)) d.lits (λ l there.
      let (c, in_hints, in_c) = any_of (λ x. Contains x l) (clauses_of (axioms_from 1 (unrolled e reset k)) d.hints) ((r.learnt.resolvent.literals l).0 there).0 in
      let in_all : Contains (unrolled e reset k) c =
      subst (λ cs. Contains cs c) (axiom_clauses 1 (unrolled e reset k)) (named_in (axioms_from 1 (unrolled e reset k)) d.hints c in_hints) in
      All-contains (IsWithin (k * e.variables)) c l
      (All-contains (HasVariables (k * e.variables)) (unrolled e reset k) c (unrolled_range e reset k u) in_all) in_c)

  pub refuted_none : AreRefuted e reset p k b 0 (length (unrolled e reset k)) []
  refuted_none = record {
    tried = record {
      ids = lemma_ids (record { problem = q 0; history = [] });
      recorded = record { kept = record { right = tt; lean = tt; texts = tt }; last_is = refl; lemmas = refl };
      phase = refl;
      step = refl;
      no_block = refl;
      finished = refl;
      few = tt;
      leaves = tt;
    };
    plain = axioms_plain (q 0) 1 (unrolled e reset k);
  }

  assumed_is : (n c : ℕ) → c < n → assumptions_of (q n) (c + 1) ≡ length_assumes e k p (c + 1)
  assumed_is n c low =
      ap (λ o. unwrap_or o []) (ap (slice_get (q n).steps) (let z : c + 1 - 1 ≡ c = omega arith in z) ∙
      get_map (length_assumes e k p) (range_with_len 1 n) c (1 + c) (range_get 1 n c low)) ∙
      ap (length_assumes e k p) (let z : 1 + c ≡ c + 1 = omega arith in z)

  -- the assumptions of the length behind
  abbrev next : ℕ → Clause
  next c = length_assumes e k p (1 + c)

  -- one more step to come
  more_steps : (c : ℕ) → with_step (q c) (next c) ≡ q (c + 1)
  more_steps c =
      ap (λ (ss : List Clause). record { vars = k * e.variables; clauses = unrolled e reset k; steps = ss })
      (sym (ap (map (length_assumes e k p)) (ap (range_with_len 1) (let z : c + 1 ≡ suc c = omega arith in z) ∙ range_more 1 c) ∙
      map-append (length_assumes e k p) (range_with_len 1 c) ((1 + c) ∷ [])))

  -- all that a further length stands on
  record Ready (c last : ℕ) (ids : List ℕ) (h : History) : Type 0 where
    recorded : IsRecorded last ids (record { problem = q (c + 1); history = h })
    order : in_order (q (c + 1)) (state_of (q (c + 1)) h) Solve ≡ true
    assumed : assumptions_of (q (c + 1)) (step_of h) ≡ length_assumes e k p (c + 1)
    leaves : StepsLeaveKept (q (c + 1)) h
    plain : AllByRecursion (IsPlain (q (c + 1))) (live (q (c + 1)) h)

  ready : (c last : ℕ) (h : History) (r : AreRefuted e reset p k b c last h) → Ready c last r.tried.ids h
  ready c last h r = record {
    recorded = subst (λ (x : Problem). IsRecorded last r.tried.ids (record { problem = x; history = h })) (more_steps c)
        (recorded_member last r.tried.ids (record { problem = q c; history = h }) (next c) r.tried.recorded);
    order = or_right (is_after_block (phase_of h)) (is_between_steps (phase_of h) && nat_le (step_of h) (length (q (c + 1)).steps))
        (and_from (is_between_steps (phase_of h)) (nat_le (step_of h) (length (q (c + 1)).steps)) r.tried.phase
        (le-leb (step_of h) (length (q (c + 1)).steps)
        (let n = length-map (range_with_len 1 (c + 1)) (length_assumes e k p) in let m = length_range 1 (c + 1) in let s = r.tried.step in omega (arith, n, m, s))));
    assumed = ap (assumptions_of (q (c + 1))) r.tried.step ∙ assumed_is (c + 1) c (omega arith);
    leaves = subst (λ (x : Problem). StepsLeaveKept x h) (more_steps c)
        (leaves_begun true (record { problem = q c; history = h }) (next c) r.tried.leaves);
    plain = subst (λ (x : Problem). AllByRecursion (IsPlain x) (live x h)) (more_steps c)
        (subst (AllByRecursion (IsPlain (with_step (q c) (next c)))) (sym (same_live (q c) (next c) h)) r.plain);
  }

  -- the end of a step, behind which nothing goes
  ended_plain : (n last id : ℕ) (ids : List ℕ) (h : History) → IsRecorded last ids (record { problem = q n; history = h }) → id ≡ last + 1 →
      AllByRecursion (IsPlain (q n)) (live (q n) h) → AllByRecursion (IsPlain (q n)) (live (q n) (Retire id ∷ h))
  ended_plain n last id ids h r is plain =
      subst (AllByRecursion (IsPlain (q n))) (sym (retired_stands (record { problem = q n; history = h }) id r.kept (is ∙ ap (λ m. m + 1) r.last_is)))
      (push_plain (q n) (live (q n) h) (record { id = id; origin = Retired; literals = negation (activation_of (q n) (step_of h)) ∷ [] }) plain
      (λ other. absurd (false≢true other)))

  ended_leaves : (n id : ℕ) (h : History) → AllByRecursion (IsPlain (q n)) (live (q n) (Retire id ∷ h)) → StepsLeaveKept (q n) h →
      StepsLeaveKept (q n) (Retire id ∷ h)
  ended_leaves n id h plain leaves = (
    nothing_leaves_kept (q n) (step_of h) (Retire id ∷ h)
        (ap (map (λ (x : Entry). x.id)) (none_goes (q n) (step_of h) (live (q n) (Retire id ∷ h)) (live (q n) (Retire id ∷ h)) plain)),
    leaves,
  )

  pub refuted_more : (c last : ℕ) (h : History) (d : FailedAssumption) → AreRefuted e reset p k b c last h → last + 2 < 2 ^ 64 →
      FailsBy (unrolled e reset k) (length_assumes e k p (c + 1)) d →
      AreRefuted e reset p k b (c + 1) (last + 2) (Retire (last + 1 + 1) ∷ Finish (last + 1) ∷ Lemma (last + 1) d.lits d.hints ∷ Solve ∷ h)
  refuted_more c last h d r room failed_assumption = record {
    tried = record {
      ids = ids;
      recorded = subst (λ n. IsRecorded n ids b4) (let z : last + 1 + 1 ≡ last + 2 = omega arith in z) r4;
      phase = refl;
      step = ap (λ n. n + 1) r.tried.step;
      no_block = r.tried.no_block;
      finished = ap (λ ns. ns ++ step_of h ∷ []) r.tried.finished ∙
          (ap (λ m. range_with_len 1 c ++ m ∷ []) (r.tried.step ∙ (let z : c + 1 ≡ 1 + c = omega arith in z)) ∙
          sym (ap (range_with_len 1) (let more : c + 1 ≡ suc c = omega arith in more) ∙ range_more 1 c));
      few = (omega (arith, limit), r.tried.few);
      leaves = ended_leaves (c + 1) (last + 1 + 1) b3.history plain f.leaves;
    };
    plain = plain;
  }
    where
      f : Ready c last r.tried.ids h
      f = ready c last h r

      b0 : ProofLog
      b0 = record { problem = q (c + 1); history = h }

      b1 : ProofLog
      b1 = with_line b0 Solve

      b2 : ProofLog
      b2 = with_lemma b1 (last + 1) d.lits d.hints

      b3 : ProofLog
      b3 = with_line b2 (Finish (last + 1))

      b4 : ProofLog
      b4 = with_line b3 (Retire (last + 1 + 1))

      ids : List ℕ
      ids = r.tried.ids ++ (last + 1) ∷ []

      range : HasVariables (k * e.variables) d.lits
      range = own (length_assumes e k p (c + 1)) d failed_assumption

      r1 : IsRecorded last r.tried.ids b1
      r1 = recorded_solve last r.tried.ids b0 f.recorded f.order

      ends : denies (assumptions_of (q (c + 1)) (step_of h)) d.lits ≡ true
      ends = ap (λ a. denies a d.lits) f.assumed ∙ failed_assumption.ends

      r2 : IsRecorded (last + 1) ids b2
      r2 = recorded_lemma last (last + 1) r.tried.ids b1 d.lits d.hints r1 refl (omega (arith, room)) refl
          (learnt_of_axioms (q (c + 1)) (Solve ∷ h) d.lits d.hints r1.kept.right failed_assumption.learnt)
          (all_from HasVariable d.lits (λ l there.
          let w = All-contains (IsWithin (k * e.variables)) d.lits l range there in
          let most = u.room in (w.0, let z = w.1 in omega (arith, z, most))))
          (inl ends)

      entry : Entry
      entry = record { id = last + 1; origin = Learnt; literals = d.lits }

      stands : live (q (c + 1)) b2.history ≡ live (q (c + 1)) b1.history ++ entry ∷ []
      stands = lemma_stands b1 (last + 1) d.lits d.hints r1.kept (ap (λ n. n + 1) r1.last_is)

      found : entry_of (live (q (c + 1)) b2.history) (last + 1) ≡ Some entry
      found = found_last (q (c + 1)) b2.history (live (q (c + 1)) b1.history) entry r2.kept.right stands

      r3 : IsRecorded (last + 1) ids b3
      r3 = recorded_finish (last + 1) (last + 1) ids b2 r2 (omega (arith, room)) refl (ap (passes is_lemma) found)
          (ap (passes (λ x. denies (assumptions_of (q (c + 1)) (step_of h)) x.literals)) found ∙ ends)

      r4 : IsRecorded (last + 1 + 1) ids b4
      r4 = recorded_retire (last + 1) (last + 1 + 1) ids b3 r3 refl (omega (arith, room)) refl

      plain : AllByRecursion (IsPlain (q (c + 1))) (live (q (c + 1)) b4.history)
      plain = ended_plain (c + 1) (last + 1) (last + 1 + 1) ids b3.history r3 refl
          (subst (AllByRecursion (IsPlain (q (c + 1)))) (sym stands)
          (push_plain (q (c + 1)) (live (q (c + 1)) b1.history) entry f.plain
          (λ some. own_kept (q (c + 1)) entry refl failed_assumption.few (recursion_from_All (IsWithin (k * e.variables)) d.lits range))))

  -- a further length, which is tried and not refuted
  pub tried_more : (c last : ℕ) (h : History) → AreRefuted e reset p k b c last h → last + 1 < 2 ^ 64 →
      AreTried e reset p k b (c + 1) c (last + 1) (Retire (last + 1) ∷ Solve ∷ h)
  tried_more c last h r room = record {
    ids = r.tried.ids;
    recorded = recorded_retire last (last + 1) r.tried.ids b1 r1 refl (omega (arith, room)) refl;
    phase = refl;
    step = ap (λ n. n + 1) r.tried.step;
    no_block = r.tried.no_block;
    finished = r.tried.finished;
    few = r.tried.few;
    leaves = ended_leaves (c + 1) (last + 1) (Solve ∷ h) (ended_plain (c + 1) last (last + 1) r.tried.ids (Solve ∷ h) r1 refl f.plain) f.leaves;
  }
    where
      f : Ready c last r.tried.ids h
      f = ready c last h r

      b1 : ProofLog
      b1 = with_line (record { problem = q (c + 1); history = h }) Solve

      r1 : IsRecorded last r.tried.ids b1
      r1 = recorded_solve last r.tried.ids (record { problem = q (c + 1); history = h }) f.recorded f.order

-- the lines of a length at the end of a log
pub more_lines : (log : List Line) (id : ℕ) (d : FailedAssumption) →
    reverse (log ++ step_lines id d) ≡ Retire (id + 1) ∷ Finish id ∷ Lemma id d.lits d.hints ∷ Solve ∷ reverse log
more_lines log id d = reverse-append log (step_lines id d)

-- those of a length that no lemma refutes
pub more_trial : (log : List Line) (id : ℕ) → reverse (log ++ trial_lines id) ≡ Retire id ∷ Solve ∷ reverse log
more_trial log id = reverse-append log (trial_lines id)

-- a log of refuted lengths
pub logs_all : (e : Encoded) (reset : List Bool) (p : Seen) (k b c last : ℕ) (log : List Line) → AreRefuted e reset p k b c last (reverse log) →
    IsLogOfLengths e reset p k b c c log
logs_all e reset p k b c last log r = record { last = last; tried = r.tried }

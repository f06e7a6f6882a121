-- Answers are right.
use Rattle.std.proofs.Common.{◌≡◌, ◌≢◌, ℕ, ◌+◌, ◌-◌, ◌<◌, ◌≤◌, Bool, true, false, List, [], ◌∷◌, ◌++◌, length, reverse}
use Rattle.std.proofs.Common.{refl, ap, subst, sym, ◌∙◌, inl, inr, arith}
use Rattle.std.specs.Prelude.{Contains, All}
use Rattle.std.specs.List.{range_with_len}
use Rattle.std.proofs.lemmas.Bool.{cases_eq}
use Rattle.std.proofs.lemmas.List.{reverse-append, append_assoc}
use Rattle.std.proofs.lemmas.List.Elements.{All-nil, Contains-push_cases}
use Rattle.std.proofs.lemmas.List.FromFn.{length-range_with_len, get_or-range_with_len}
use Rattle.bs_scan.specs.declared.seen.Seen.{Seen}
use Rattle.bs_scan.specs.Seen.{Shows}
use Rattle.bs_clause.specs.Literal.{Literal, Clause, literal_value}
use Rattle.bs_log.specs.declared.line.Line.{Line}
use Rattle.bs_log.specs.declared.line.Line.TheVariants.{Solve, Lemma, Block, Finish, Retire, Delete}
use Rattle.bs_log.specs.History.{Problem, History, step_of}
use Rattle.bs_log.specs.Refusal.{history_of, IsAccepted}
use Rattle.bs_log.specs.Lean.{IsLean}
use Rattle.bs_log.specs.LineForms.{HasText}
use Rattle.bs_log.specs.Steps.{HasNoBlock, finished_in}
use Rattle.bs_net.specs.Circuit.{Circuit, reset_state}
use Rattle.bs_solve_lemmas.specs.declared.stage.Stage.TheVariants.{Idle}
use Rattle.bs_solve_lemmas.specs.Solver.{SolverState}
use Rattle.bs_solve_lemmas.specs.Values.{value_of}
use Rattle.bs_solve.specs.Budget.{HasFewLemmas}
use Rattle.bs_encode.specs.Encoded.{Encoded, encoding_of}
use Rattle.bs_encode.specs.Assuming.{signed_seen}
use Rattle.bs_reach.specs.declared.reach.Reach.{Reach}
use Rattle.bs_reach.specs.declared.reach.Outcome.{Outcome}
use Rattle.bs_reach.specs.declared.reach.Outcome.TheVariants as outcomes
use Rattle.bs_reach.specs.declared.search.End.{End}
use Rattle.bs_reach.specs.declared.search.End.TheVariants.{Reached, Unreached, Unknown}
use Rattle.bs_reach.specs.declared.telling.Verdict.{Verdict}
use Rattle.bs_scan.specs.Moments.{state_at}
use Rattle.bs_reach_unrolled.specs.Execution.{ReachedIn, NotBefore, IsExecution}
use Rattle.bs_reach_unrolled.specs.Unrolled.{next_at, unrolled, reach_problem}
use Rattle.bs_reach_unrolled.specs.Laws.{inputs_shown, SolutionsAreExecutions, FinishedIsNotReached}
use Rattle.bs_reach.specs.Search.{problem_over, IsTried, IsBetween, fresh_over}
use Rattle.bs_reach.specs.Ends.{EndsAs}
use Rattle.bs_reach.specs.Verdict.{Tells, EndFits}
use Rattle.bs_reach.specs.Reach.{IsReach}
use Rattle.bs_log.proofs.Finishes.{no_block_reversed}

-- ---- no cycle

no_inputs : (c : Circuit) (p : Seen) → ReachedIn c 0 p → Shows p (reset_state c)
unfolding state_at
no_inputs c p r = r.ends

pub reset_is_reached : (c : Circuit) (p : Seen) → Shows p (reset_state c) → IsExecution c 0 p (reset_state c ∷ []) []
unfolding state_at
reset_is_reached c p e =
    record {
      count = refl;
      widths = All-nil (λ (x : List Bool). length x ≡ length c.inputs);
      states_are = refl;
      ends = e;
    }

pub nothing_before : (c : Circuit) (p : Seen) → NotBefore c 0 p
nothing_before c p j lt r = omega (arith, lt)

pub not_at_once : (c : Circuit) (p : Seen) → (Shows p (reset_state c) → ⊥) → NotBefore c (0 + 1) p
not_at_once c p other j lt r = let none : j ≡ 0 = omega (arith, lt) in other (no_inputs c p (subst (λ (n : ℕ). ReachedIn c n p) none r))

-- ---- the finish line of a length

record Split (h : History) (j : ℕ) : Type 0 where
  newer : History
  id : ℕ
  earlier : History
  is : h ≡ newer ++ Finish id ∷ earlier
  step : step_of earlier ≡ j

later : (line : Line) (h : History) (j : ℕ) → Split h j → Split (line ∷ h) j
later line h j s = record { newer = line ∷ s.newer; id = s.id; earlier = s.earlier; is = ap (λ (t : History). line ∷ t) s.is; step = s.step }

split_at : (h : History) (j : ℕ) → Contains (finished_in h) j → Split h j
split_at [] j (k, lt, is) = absurd (omega (arith, lt))
split_at (Finish id ∷ h) j there = elim (Contains-push_cases (finished_in h) (step_of h) j there) [
  | inl before ↦ later (Finish id) h j (split_at h j before)
  | inr here ↦ record { newer = []; id = id; earlier = h; is = refl; step = here }
]
split_at (Solve ∷ h) j there = later Solve h j (split_at h j there)
split_at (Lemma id lits hints ∷ h) j there = later (Lemma id lits hints) h j (split_at h j there)
split_at (Block id lits ∷ h) j there = later (Block id lits) h j (split_at h j there)
split_at (Retire id ∷ h) j there = later (Retire id) h j (split_at h j there)
split_at (Delete ids ∷ h) j there = later (Delete ids) h j (split_at h j there)

twice : (h : List Line) → reverse (reverse h) ≡ h
twice [] = refl
twice (x ∷ h) = ap reverse (reverse-append (x ∷ []) h) ∙ (reverse-append (reverse h) (x ∷ []) ∙ ap (λ (t : List Line). x ∷ t) (twice h))

in_range : (a n j : ℕ) → a ≤ j → j < a + n → Contains (range_with_len a n) j
in_range a n j low high =
    let back : a + (j - a) ≡ j = omega (arith, low) in
    (j - a, rw (length-range_with_len a n) (omega (arith, low, high)), get_or-range_with_len a n (j - a) j (omega (arith, low, high)) ∙ back)

module _ (c : Circuit) (k : ℕ) (p : Seen) (law : FinishedIsNotReached c (encoding_of c [])) (s : SolverState) (log : List Line)
    (lines : history_of log ≡ s.proof.history) where
  abbrev e : Encoded
  e = encoding_of c []

  abbrev cs : List Clause
  cs = unrolled e (reset_state c) k

  log_is : log ≡ reverse s.proof.history
  log_is = sym (twice log) ∙ ap reverse lines

  pub none_in : (b tried refuted : ℕ) → IsTried cs e k p b tried refuted s → HasNoBlock log
  none_in b tried refuted t = subst HasNoBlock (sym log_is) (no_block_reversed s.proof.history t.no_block)

  not_reached : (b tried refuted : ℕ) → IsTried cs e k p b tried refuted s → tried ≤ k → IsAccepted (problem_over cs e k p tried) log → (j : ℕ) → 1 ≤ j →
      j ≤ refuted → ReachedIn c j p → ⊥
  not_reached b tried refuted t few ok j from to reached =
      let there : Contains (finished_in s.proof.history) j =
      subst (λ (ns : List ℕ). Contains ns j) (sym t.finished) (in_range 1 refuted j from (omega (arith, to))) in
      let spot : Split s.proof.history j = split_at s.proof.history j there in
      let before : List Line = reverse spot.earlier in
      let parts : log ≡ before ++ Finish spot.id ∷ reverse spot.newer =
      log_is ∙ (ap reverse spot.is ∙ (reverse-append spot.newer (Finish spot.id ∷ spot.earlier)
      ∙ (ap (λ (t : List Line). t ++ reverse spot.newer) (reverse-append (Finish spot.id ∷ []) spot.earlier)
      ∙ append_assoc before (Finish spot.id ∷ []) (reverse spot.newer)))) in
      law k tried p log before (reverse spot.newer) spot.id few ok (none_in b tried refuted t) parts
      (subst (λ (n : ℕ). ReachedIn c n p) (sym (ap step_of (twice spot.earlier) ∙ spot.step)) reached)

  pub not_before : (b tried refuted n : ℕ) → IsTried cs e k p b tried refuted s → tried ≤ k → IsAccepted (problem_over cs e k p tried) log → (Shows p (reset_state c) → ⊥) →
      n ≡ refuted + 1 → NotBefore c n p
  not_before b tried refuted n t few ok other is j lt reached = elim (cases_eq j 0) [
    | inl none ↦ other (no_inputs c p (subst (λ (m : ℕ). ReachedIn c m p) none reached))
    | inr some ↦ not_reached b tried refuted t few ok j (omega (arith, some)) (omega (arith, lt, is)) reached
  ]

  -- the parts of an answer that its log gives
  record Logged (b tried refuted : ℕ) : Type 0 where
    accepted : IsAccepted (reach_problem e (reset_state c) k p tried) log
    lean : IsLean (reach_problem e (reset_state c) k p tried) (history_of log)
    no_block : HasNoBlock log
    finished : finished_in (history_of log) ≡ range_with_len 1 refuted
    few : HasFewLemmas b (history_of log)

  logged : (b tried refuted : ℕ) → IsTried cs e k p b tried refuted s → (s.failed ≡ false → IsLean s.proof.problem (history_of log)) →
      (s.failed ≡ false → s.stage ≡ Idle → IsAccepted s.proof.problem log) →
      Logged b tried refuted
  logged b tried refuted t lean ok =
      record {
        accepted = subst (λ (q : Problem). IsAccepted q log) t.problem (ok t.well t.idle);
        lean = subst (λ (q : Problem). IsLean q (history_of log)) t.problem (lean t.well);
        no_block = none_in b tried refuted t;
        finished = ap finished_in lines ∙ t.finished;
        few = subst (HasFewLemmas b) (sym lines) t.few;
      }

  pub reach_is : (b : ℕ) (end : End) (told : Verdict) → SolutionsAreExecutions c e → length p.bits ≡ length c.flops → (Shows p (reset_state c) → ⊥) → EndsAs cs e k p b s end →
      Tells e end told →
      (s.failed ≡ false → IsLean s.proof.problem (history_of log)) → All HasText log → (s.failed ≡ false → s.stage ≡ Idle → IsAccepted s.proof.problem log) →
      IsReach c p k b (record { asked = k; conflicts = b; outcome = told.outcome; states = told.states; inputs = told.inputs; log = log })
  reach_is b (Reached i values) told sound wide other (lt, h) tells lean texts ok =
      let l : Logged b (i + 1) i = logged b (i + 1) i h.tried lean ok in
      let v : ℕ → Bool = value_of values in
      let back : i ≡ (i + 1) - 1 = omega arith in
      let ends : All (λ (q : Literal). literal_value v q ≡ true) (signed_seen (next_at e ((i + 1) - 1)) p) =
      subst (λ (m : ℕ). All (λ (q : Literal). literal_value v q ≡ true) (signed_seen (next_at e m) p)) back h.ends in
      let run = sound k (i + 1) v p (omega arith) (omega (arith, lt)) h.met ends wide in
      let first : IsExecution c (i + 1) p told.states told.inputs =
      subst (λ (xs : List (List Bool)). IsExecution c (i + 1) p told.states xs) (sym tells.inputs_are)
      (subst (λ (ss : List (List Bool)). IsExecution c (i + 1) p ss (inputs_shown e v (i + 1))) (sym tells.states_are) run) in
      let R : Outcome → Type 0 =
      λ o. IsReach c p k b (record { asked = k; conflicts = b; outcome = o; states = told.states; inputs = told.inputs; log = log }) in
      subst R (sym tells.outcome_is)
      (record {
        asked_is = refl;
        conflicts_is = refl;
        outcome_is = (omega (arith, lt), first, not_before b (i + 1) i (i + 1) h.tried (omega (arith, lt)) l.accepted other refl);
        accepted = l.accepted;
        lean = l.lean;
        texts = texts;
        no_block = l.no_block;
        finished = l.finished ∙ ap (range_with_len 1) back;
        few = l.few;
      })
  reach_is b Unreached told sound wide other h tells lean texts ok =
      let l : Logged b k k = logged b k k h.tried lean ok in
      let R : Outcome → Type 0 =
      λ o. IsReach c p k b (record { asked = k; conflicts = b; outcome = o; states = told.states; inputs = told.inputs; log = log }) in
      subst R (sym tells)
      (record {
        asked_is = refl;
        conflicts_is = refl;
        outcome_is = not_before b k k (k + 1) h.tried (omega arith) l.accepted other refl;
        accepted = l.accepted;
        lean = l.lean;
        texts = texts;
        no_block = l.no_block;
        finished = l.finished;
        few = l.few;
      })
  reach_is b (Unknown i) told sound wide other (lt, h) tells lean texts ok =
      let l : Logged b (i + 1) i = logged b (i + 1) i h.tried lean ok in
      let back : i ≡ (i + 1) - 1 = omega arith in
      let R : Outcome → Type 0 =
      λ o. IsReach c p k b (record { asked = k; conflicts = b; outcome = o; states = told.states; inputs = told.inputs; log = log }) in
      subst R (sym tells)
      (record {
        asked_is = refl;
        conflicts_is = refl;
        outcome_is = (
          omega (arith, lt),
          not_before b (i + 1) i (i + 1) h.tried (omega (arith, lt)) l.accepted other refl,
          record {
            earlier = h.earlier;
            lemmas = h.lemmas;
            id = h.id;
            later = h.later;
            history = lines ∙ h.history;
            step = h.step;
            count = h.count;
            open_yet = h.open_yet;
            bound = h.bound;
          },
        );
        accepted = l.accepted;
        lean = l.lean;
        texts = texts;
        no_block = l.no_block;
        finished = l.finished ∙ ap (range_with_len 1) back;
        few = l.few;
      })

-- ---- answers without a search

-- an answer that tells this
abbrev pub told_as : ℕ → ℕ → Outcome → List (List Bool) → List (List Bool) → List Line → Reach
told_as k b outcome states inputs log =
    record {
      asked = k;
      conflicts = b;
      outcome = outcome;
      states = states;
      inputs = inputs;
      log = log;
    }

pub at_reset_is : (c : Circuit) (p : Seen) (k b : ℕ) (states inputs : List (List Bool)) (log : List Line) → Shows p (reset_state c) →
    states ≡ reset_state c ∷ [] → inputs ≡ [] → log ≡ [] → IsReach c p k b (told_as k b (outcomes.Reached 0) states inputs log)
at_reset_is c p k b states inputs log e s x l =
    subst (λ (log : List Line). IsReach c p k b (told_as k b (outcomes.Reached 0) states inputs log)) (sym l)
    (subst (λ (inputs : List (List Bool)). IsReach c p k b (told_as k b (outcomes.Reached 0) states inputs [])) (sym x)
    (subst (λ (states : List (List Bool)). IsReach c p k b (told_as k b (outcomes.Reached 0) states [] [])) (sym s)
    (record {
      asked_is = refl;
      conflicts_is = refl;
      outcome_is = (omega arith, reset_is_reached c p e, nothing_before c p);
      accepted = record { lines = tt; complete = refl };
      lean = record { steps = tt; lemmas = tt };
      texts = All-nil HasText;
      no_block = refl;
      finished = refl;
      few = tt;
    })))

pub never_is : (c : Circuit) (p : Seen) (b : ℕ) (states inputs : List (List Bool)) (log : List Line) → (Shows p (reset_state c) → ⊥) → log ≡ [] →
    IsReach c p 0 b (told_as 0 b outcomes.Unreached states inputs log)
never_is c p b states inputs log other l =
    subst (λ (log : List Line). IsReach c p 0 b (told_as 0 b outcomes.Unreached states inputs log)) (sym l)
    (record {
      asked_is = refl;
      conflicts_is = refl;
      outcome_is = not_at_once c p other;
      accepted = record { lines = tt; complete = refl };
      lean = record { steps = tt; lemmas = tt };
      texts = All-nil HasText;
      no_block = refl;
      finished = refl;
      few = tt;
    })

-- ---- the start of a search

pub starts_between : (cs : List Clause) (e : Encoded) (k : ℕ) (p : Seen) (b : ℕ) (s : SolverState) → s ≡ fresh_over cs e k →
    IsBetween s.proof.problem.clauses e k p b 0 s
starts_between cs e k p b s is =
    subst (λ (t : SolverState). IsBetween t.proof.problem.clauses e k p b 0 t) (sym is)
    (record {
      tried = record { well = refl; idle = refl; problem = refl; no_block = refl; finished = refl; few = tt };
      activations = omega arith;
      number = refl;
    })

pub ends_over : (cs : List Clause) (e : Encoded) (k : ℕ) (p : Seen) (b : ℕ) (s1 s : SolverState) (end : End) → s1 ≡ fresh_over cs e k →
    EndsAs s1.proof.problem.clauses e k p b s end → EndsAs cs e k p b s end
ends_over ds e k p b s1 s end is h = subst (λ (t : SolverState). EndsAs t.proof.problem.clauses e k p b s end) is h

pub end_fits : (cs : List Clause) (e : Encoded) (k : ℕ) (p : Seen) (b : ℕ) (s : SolverState) (end : End) → EndsAs cs e k p b s end → EndFits e k end
end_fits ds e k p b s (Reached c values) h = (h.0, h.1.wide)
end_fits ds e k p b s Unreached h = tt
end_fits ds e k p b s (Unknown c) h = h.0

pub look_is : (c : Circuit) (k b : ℕ) (p : Seen) (reset : List Bool) (enc : Encoded) (s1 s : SolverState) (log : List Line) (end : End) (told : Verdict) →
    enc ≡ encoding_of c [] → reset ≡ reset_state c →
    FinishedIsNotReached c (encoding_of c []) → SolutionsAreExecutions c (encoding_of c []) → length p.bits ≡ length c.flops → (Shows p (reset_state c) → ⊥) →
    s1 ≡ fresh_over (unrolled enc reset k) enc k →
    EndsAs s1.proof.problem.clauses enc k p b s end → Tells enc end told → history_of log ≡ s.proof.history →
    (s.failed ≡ false → IsLean s.proof.problem (history_of log)) → All HasText log →
    (s.failed ≡ false → s.stage ≡ Idle → IsAccepted s.proof.problem log) →
    IsReach c p k b (record { asked = k; conflicts = b; outcome = told.outcome; states = told.states; inputs = told.inputs; log = log })
look_is c k b p reset enc s1 s log end told is starts law sound wide other fresh ends tells lines lean texts ok =
    let over : EndsAs (unrolled enc reset k) enc k p b s end = ends_over (unrolled enc reset k) enc k p b s1 s end fresh ends in
    let from : EndsAs (unrolled enc (reset_state c) k) enc k p b s end = subst (λ (r : List Bool). EndsAs (unrolled enc r k) enc k p b s end) starts over in
    reach_is c k p law s log lines b end told sound wide other
    (subst (λ (e : Encoded). EndsAs (unrolled e (reset_state c) k) e k p b s end) is from)
    (subst (λ (e : Encoded). Tells e end told) is tells) lean texts ok

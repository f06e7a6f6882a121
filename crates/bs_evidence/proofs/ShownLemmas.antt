-- The clauses of a length say that the state is reached in it.
use Rattle.std.proofs.Common.{◌≡◌, ℕ, ◌+◌, ◌-◌, ◌*◌, ◌≤◌, Bool, true, false, eqb, List, [], ◌∷◌, ◌++◌, length, take, drop, refl, sym, ap, subst, ◌∙◌}
use Rattle.std.proofs.Common.{arith, ◌||◌}
use Rattle.std.specs.Prelude.{All, Contains, IsTrue}
use Rattle.std.specs.Bool.{beq}
use Rattle.std.specs.List.{AllByRecursion as Each}
use Rattle.std.proofs.lemmas.Bool.{eq-eqb, ne_eqb, false≢true}
use Rattle.std.proofs.lemmas.List.{take-append-drop}
use Rattle.std.proofs.lemmas.List.Elements.{All-nil, All-cons, All-from_recursion, recursion_from_All}
use Rattle.bs_scan.specs.declared.seen.Seen.{Seen}
use Rattle.bs_clause.specs.Literal.{Literal, Clause, literal_value, negation, Satisfies}
use Rattle.bs_net.specs.Circuit.{Circuit, reset_state}
use Rattle.bs_log.specs.History.{Problem, History, activation_of}
use Rattle.bs_log.specs.Refusal.{history_of, assumptions_of, has_distinct_variables}
use Rattle.bs_log.specs.Refutation.{blocks_of}
use Rattle.bs_log.specs.Shown.{Basis, Shown}
use Rattle.bs_log.specs.Steps.{HasNoBlock}
use Rattle.bs_log.proofs.Finishes.{no_blocks, no_block_before, no_block_reversed}
use Rattle.bs_log.specs.Cnf.{units, behind, cnf_of}
use Rattle.bs_log.specs.ShownLaw.{BlocksOther}
use Rattle.bs_log.proofs.ShownLaws.{unlisted_meets, finished_is_unmet}
use Rattle.bs_evidence.specs.WholeLaw.{AreLed}
use Rattle.bs_evidence.proofs.Right.{whole_proofs_are_right, accepted_is_unmet}
use Rattle.bs_evidence.proofs.Unlisted.{unlisted_meets_whole}
use Rattle.bs_encode.specs.Cycle.{EncodesCycles}
use Rattle.bs_encode.specs.Tables.{lit}
use Rattle.bs_encode.specs.Transition.{variables}
use Rattle.bs_encode.specs.Encoded.{Encoded, encoding_of}
use Rattle.bs_encode.specs.Assuming.{signed_seen}
use Rattle.bs_reach_unrolled.specs.declared.limits.TheConstants.{MAX_FRAME_VARIABLES}
use Rattle.bs_reach_unrolled.specs.Execution.{ReachedIn, IsExecution}
use Rattle.bs_reach_unrolled.specs.Room.{IsUnrollable}
use Rattle.bs_reach_unrolled.specs.Unrolled.{next_at, unrolled, length_assumes}
use Rattle.bs_reach_unrolled.specs.Laws.{ShowsReached, ReachedIsShown, SolutionsAreExecutions, states_shown, inputs_shown}
use Rattle.bs_reach_unrolled.proofs.RaisedLemmas.{assumed_distinct}
use Rattle.bs_reach_unrolled.proofs.UnrolledLemmas.{one_frame, transition_unrolls}
use Rattle.bs_reach.specs.declared.reach.Reach.{Reach}
use Rattle.bs_reach.specs.Reach.{tried_of}
use Rattle.bs_reach_answer.specs.ReadingLaw.{HasAnswerText}
use Rattle.bs_evidence.specs.Lengths.{problem_for, HasTried}
use Rattle.bs_evidence.specs.LengthLaw.{ReachedMeets, MetIsReached, FinishedIsUnmet, ReachedMeetsAll, AnswerProofsAreRight}
use Rattle.bs_evidence.proofs.LengthLemmas.{assumed_at, steps_count}
use Rattle.bs_evidence.proofs.FlawLemmas.{tried_fit}

-- of the variables above the time frames the activation literal of a step alone
abbrev only : ℕ → ℕ → Bool
only activation v = eqb v activation

nothing : (t : List Bool) → length t ≡ 0 → t ≡ []
nothing [] e = refl
nothing (b ∷ t) e = absurd (omega (arith, e))

-- the log has no block in any step
no_block_in : (r : Reach) → HasAnswerText r → (j : ℕ) → blocks_of (history_of r.log) j ≡ []
no_block_in r h j = no_blocks (history_of r.log) j (no_block_reversed r.log h.no_block)

-- nor have its first lines
no_block_at : (r : Reach) (place : ℕ) → HasAnswerText r → (j : ℕ) → blocks_of (history_of (take place r.log)) j ≡ []
no_block_at r place h j =
    no_blocks (history_of (take place r.log)) j
    (no_block_reversed (take place r.log)
    (no_block_before (take place r.log) (drop place r.log) (subst HasNoBlock (sym (take-append-drop place r.log)) h.no_block)))

-- clauses with steps that block nothing
abbrev basis_for : Problem → Basis
basis_for q = record { problem = q; block = λ t. [] }

-- where the state is reached in a length that was tried, the step of the length shows it
shown_in : (c : Circuit) → ReachedIsShown c (encoding_of c []) → (p : Seen) (r : Reach) (j : ℕ) → HasAnswerText r → HasTried r j → ReachedIn c j p →
    Shown (basis_for (problem_for c p r)) 0 j []
shown_in c shows p r j text tried reached =
    let e : Encoded = encoding_of c [] in
    let k : ℕ = r.asked in
    let count : ℕ = tried_of k r.outcome in
    let base : ℕ = k * e.variables in
    let fit : count ≤ k = tried_fit r text in
    let low : 1 ≤ j = tried.0 in
    let high : j ≤ count = tried.1 in
    let s : ShowsReached c e k j p (only (base + j)) = shows k j p (only (base + j)) low (omega (arith, high, fit)) reached in
    let v : ℕ → Bool = s.value in
    let on : v (base + j) ≡ true = s.above (base + j) (omega (arith, low)) ∙ eq-eqb (base + j) (base + j) refl in
    let assumed : All (λ l. IsTrue (literal_value v l)) (length_assumes e k p j) =
    All-cons (λ l. IsTrue (literal_value v l)) (lit (base + j) true) (signed_seen (next_at e (j - 1)) p) (ap (λ b. beq b true) on) s.next in
    record {
      value = v;
      clauses = s.clauses;
      assumptions =
          subst (λ (a : Clause). All (λ l. IsTrue (literal_value v l)) a) (sym (assumed_at e (reset_state c) k p count j low high)) assumed;
      activation = on;
      other_activations =
          λ other from to differ.
          s.above (base + other) (omega (arith, from)) ∙ ne_eqb (base + other) (base + j) (λ same. differ (omega (arith, same)));
      blocks = λ t wide other. absurd (other (nothing t wide));
    }

-- the length is a step of the problem
last_in : (c : Circuit) (p : Seen) (r : Reach) (j : ℕ) → HasTried r j → j ≤ length (problem_for c p r).steps
last_in c p r j tried =
    let many = steps_count (encoding_of c []) (reset_state c) r.asked p (tried_of r.asked r.outcome) in
    let high = tried.1 in
    omega (arith, high, many)

pub reached_meets : (c : Circuit) → ReachedIsShown c (encoding_of c []) → ReachedMeets c
reached_meets c shows p r j place text tried reached =
    let basis : Basis = basis_for (problem_for c p r) in
    unlisted_meets basis 0 j [] (history_of (take place r.log)) tried.0 (last_in c p r j tried) (shown_in c shows p r j text tried reached)
    (subst (λ (cs : List Clause). All (BlocksOther basis 0 j []) cs) (sym (no_block_at r place text j)) (All-nil (BlocksOther basis 0 j [])))

-- ---- what meets them

each_front : {X : Type 0} (P : X → Type 0) (xs ys : List X) → Each P (xs ++ ys) → Each P xs
each_front P [] ys a = tt
each_front P (x ∷ xs) ys a = (a.0, each_front P xs ys a.1)

each_behind : {X : Type 0} (P : X → Type 0) (xs ys : List X) → Each P (xs ++ ys) → Each P ys
each_behind P [] ys a = a
each_behind P (x ∷ xs) ys a = each_behind P xs ys a.1

unit_value : (v : ℕ → Bool) (l : Literal) → Satisfies v (l ∷ []) → literal_value v l ≡ true
unit_value v l = by (literal_value v l)
  where
    by : (b : Bool) → (b || false) ≡ true → b ≡ true
    by true e = refl
    by false e = absurd (false≢true e)

units_hold : (v : ℕ → Bool) (ls : Clause) → Each (Satisfies v) (units ls) → Each (λ l. IsTrue (literal_value v l)) ls
units_hold v [] a = tt
units_hold v (l ∷ ls) a = (unit_value v l a.0, units_hold v ls a.1)

pub met_is_reached : (c : Circuit) → SolutionsAreExecutions c (encoding_of c []) → MetIsReached c
met_is_reached c executions p r j place v wide text tried met =
    let e : Encoded = encoding_of c [] in
    let k : ℕ = r.asked in
    let count : ℕ = tried_of k r.outcome in
    let q : Problem = problem_for c p r in
    let h : History = history_of (take place r.log) in
    let fit : count ≤ k = tried_fit r text in
    let low : 1 ≤ j = tried.0 in
    let high : j ≤ count = tried.1 in
    let each : Each (Satisfies v) (q.clauses ++ behind q h j) = recursion_from_All (Satisfies v) (cnf_of q h j) met in
    let all : All (Satisfies v) (unrolled e (reset_state c) k) =
    All-from_recursion (Satisfies v) q.clauses (each_front (Satisfies v) q.clauses (behind q h j) each) in
    let assumed : Each (λ l. IsTrue (literal_value v l)) (assumptions_of q j) =
    units_hold v (assumptions_of q j) (each_front (Satisfies v) (units (assumptions_of q j)) _ (each_behind (Satisfies v) q.clauses (behind q h j) each)) in
    let next : Each (λ l. IsTrue (literal_value v l)) (length_assumes e k p j) =
    subst (λ (a : Clause). Each (λ l. IsTrue (literal_value v l)) a) (assumed_at e (reset_state c) k p count j low high) assumed in
    let run : IsExecution c j p (states_shown e v j) (inputs_shown e v j) =
    executions k j v p low (omega (arith, high, fit)) all
    (All-from_recursion (λ l. IsTrue (literal_value v l)) (signed_seen (next_at e (j - 1)) p) next.1) wide in
    record { inputs = inputs_shown e v j; count = run.count; widths = run.widths; ends = run.ends }

-- ---- a finished length

first_stands : (l : Literal) (ls : Clause) → Contains (l ∷ ls) l
first_stands l ls = (0, omega arith, refl)

pub finished_is_unmet_in : (c : Circuit) → FinishedIsUnmet c
finished_is_unmet_in c p r j place id v tried ok fin met =
    let e : Encoded = encoding_of c [] in
    let k : ℕ = r.asked in
    let count : ℕ = tried_of k r.outcome in
    let q : Problem = problem_for c p r in
    finished_is_unmet q r.log j place id v ok fin
    (subst (λ (a : Clause). Contains a (activation_of q j)) (sym (assumed_at e (reset_state c) k p count j tried.0 tried.1))
    (first_stands (activation_of q j) (signed_seen (next_at e (j - 1)) p))) met

-- ---- all finished lengths

pub reached_meets_all : (c : Circuit) → ReachedIsShown c (encoding_of c []) → ReachedMeetsAll c
reached_meets_all c shows p r j text tried finished reached =
    let q : Problem = problem_for c p r in
    let h : History = history_of r.log in
    let basis : Basis = basis_for q in
    unlisted_meets_whole basis 0 j [] h tried.0 (last_in c p r j tried) finished (shown_in c shows p r j text tried reached)
    (subst (λ (cs : List Clause). All (BlocksOther basis 0 j []) cs) (sym (no_block_in r text j)) (All-nil (BlocksOther basis 0 j [])))
    (record {
      each =
          λ other from to differ.
          subst (λ (cs : List Clause). All (λ c. Contains c (negation (activation_of q other))) cs) (sym (no_block_in r text other))
          (All-nil (λ c. Contains c (negation (activation_of q other))));
    })

-- each step assumes its activation literal first, and no variable twice
led_in : (c : Circuit) → EncodesCycles c → (p : Seen) (r : Reach) → HasAnswerText r → r.asked * variables c [] ≤ MAX_FRAME_VARIABLES →
    AreLed (problem_for c p r)
led_in c cycles p r text room =
    let e : Encoded = encoding_of c [] in
    let k : ℕ = r.asked in
    let count : ℕ = tried_of k r.outcome in
    let many : length (problem_for c p r).steps ≡ count = steps_count e (reset_state c) k p count in
    let fit : count ≤ k = tried_fit r text in
    let u : IsUnrollable e k = transition_unrolls c e k (one_frame c cycles) text.most_asked room in
    record {
      each =
          λ step low high.
          let is : assumptions_of (problem_for c p r) step ≡ length_assumes e k p step =
          assumed_at e (reset_state c) k p count step low (omega (arith, high, many)) in
          let back : step - 1 + 1 ≡ step = omega (arith, low) in
          record {
            rest = signed_seen (next_at e (step - 1)) p;
            is = is;
            distinct =
                ap has_distinct_variables is
                ∙ assumed_distinct e k (step - 1) p (lit (k * e.variables + step) true) (length_assumes e k p step) u (omega (arith, low, high, many, fit))
                (ap (λ (n : ℕ). lit (k * e.variables + n) true) (sym back)) refl;
          };
    }

pub proofs_right : (c : Circuit) → EncodesCycles c → AnswerProofsAreRight c
proofs_right c cycles =
    record {
      right = λ p r text room ok. whole_proofs_are_right (problem_for c p r) r.log ok (led_in c cycles p r text room);
      unmet = λ p r v text room ok met. accepted_is_unmet (problem_for c p r) r.log v ok (led_in c cycles p r text room) met;
    }

-- What it says that no part of a report fails.
use Rattle.std.proofs.Common.{◌≡◌, ◌≢◌, ℕ, suc, zero, ◌<◌, ◌≤◌, ◌+◌, ◌-◌, Bool, true, false, cond, List, [], ◌∷◌, ◌++◌, map, length, get_or, refl, ap}
use Rattle.std.proofs.Common.{subst, sym, ◌∙◌, ◌⊎◌, inl, inr, Option, Some, None, arith}
use Rattle.std.specs.Prelude.{slice_get, option_map, ◌&&◌, ◌||◌, ◌==◌, nat_le, nat_lt}
use Rattle.std.specs.Option.{IsSomeAnd}
use Rattle.std.specs.List.{AllByRecursion as Each, range_with_len, last_or}
use Rattle.std.specs.Cmp.Lexicographic.{pointwise_decides}
use Rattle.std.proofs.Math.Nat.{eq-or-lt_of_le}
use Rattle.std.proofs.lemmas.Bool.{true≢false, false≢true, eqb-true, leb-true, ltb-true, eq-eqb}
use Rattle.bs_bits.specs.Bits.{bits_eq}
use Rattle.bs_net.proofs.NextLemmas.{bits_eq_Decides}
use Rattle.std.specs.Prelude.{All, not, count_by, filter, filter_map}
use Rattle.std.specs.List.{list_all, list_any}
use Rattle.std.specs.Cmp.{bool_cmp_total}
use Rattle.std.specs.Cmp.Lexicographic.{lists_total}
use Rattle.std.specs.declared.cmp.Ordering.{Ordering}
use Rattle.std.specs.declared.cmp.Ordering.TheVariants.{Less, Equal, Greater}
use Rattle.std.proofs.lemmas.List.Sums.{length-filter}
use Rattle.std.proofs.lemmas.List.Elements.{All-from_recursion}
use Rattle.std.proofs.lemmas.List.{length-map}
use Rattle.bs_clause.specs.Literal.{Clause}
use Rattle.bs_log.specs.declared.line.Line.{Line}
use Rattle.bs_log.specs.Refusal.{assumptions_of, denies}
use Rattle.bs_log.specs.Steps.{last_solve, is_lemma_line, lemma_of_line, finish_of_line, is_spent}
use Rattle.bs_report.specs.declared.report.Cand.{Cand}
use Rattle.std.specs.Ordering.{is_lt, bool_cmp}
use Rattle.std.specs.Cmp.Lexicographic.{slice_cmp}
use Rattle.std.proofs.lemmas.List.{get_or_default}
use Rattle.bs_scan.specs.declared.seen.Seen.{Seen}
use Rattle.bs_scan.specs.Seen.{Shows, is_shown}
use Rattle.bs_scan.proofs.SeenLemmas.{seen_is, shows_where}
use Rattle.bs_net.specs.Circuit.{next}
use Rattle.bs_net.proofs.NextLemmas.{next_is_led}
use Rattle.bs_scan.specs.Choice.{depth_of}
use Rattle.bs_scan.specs.Signature.{signature, agrees}
use Rattle.bs_scan.proofs.SignatureLemmas.{bits_same_is, is_predecessor}
use Rattle.bs_scan.proofs.CrashLemmas.{depth_is}
use Rattle.bs_log.specs.declared.why.Why.{Why}
use Rattle.bs_log.specs.FirstRefused.{first_refused}
use Rattle.bs_report.specs.declared.part.Part.{Part}
use Rattle.bs_report.specs.declared.part.Part.TheVariants as parts
use Rattle.bs_report.specs.declared.report.HitLine.{HitLine}
use Rattle.bs_report.specs.declared.report.ListEnd.{ListEnd}
use Rattle.bs_report.specs.declared.report.ListEnd.TheVariants.{Finished, Candidates, Conflicts}
use Rattle.bs_report.specs.declared.report.Step.{Step}
use Rattle.bs_report.specs.declared.report.Stop.{Stop}
use Rattle.bs_report.specs.declared.report.Stop.TheVariants as stops
use Rattle.bs_report.specs.declared.report.Budgets.{Budgets}
use Rattle.bs_report.specs.declared.report.Report.{Report}
use Rattle.bs_scan.specs.Crash.{Crash, IsCrash}
use Rattle.bs_report.specs.Step.{stored_of, listed, hit_of, asked_of, Ascend, IsCandidate, IsRightStep, IsRightEnd}
use Rattle.bs_report.specs.Good.{IsGood}
use Rattle.bs_scan.specs.Present.{Present, present_in}
use Rattle.bs_report.specs.Chain.{present_of, present_of_hit, present_after, last_present, Follow, IsChain}
use Rattle.bs_report.specs.Stop.{StopsFor, IsFinished}
use Rattle.bs_report.specs.Trace.{IsTrace, trace_end, trace_states, trace_inputs}
use Rattle.bs_log.specs.Shown.{Basis}
use Rattle.bs_report.specs.Valid.{unless, all_bits_eq, due_at, has_state, has_stored, is_right_cand, is_right_count, same_hit, step_parts, log_parts}
use Rattle.bs_report.specs.Valid.{each_step, parts_of, first_of_all, first_failing, is_cause, cause_of, cause_at, cause_after, cause_of_end}
use Rattle.bs_report.specs.Valid.{stop_number, is_right_trace, IsValid, cand_at, no_cand, is_right_before, is_right_finish, lines_at}
use Rattle.bs_report.proofs.BeforeLemmas.{agrees_where_right}

abbrev pub IsRight : Option Part → Type 0
IsRight part = part ≡ None

none_fails : (parts : List (Option Part)) → first_of_all parts ≡ None → Each IsRight parts
none_fails [] e = tt
none_fails (None ∷ parts) e = (refl, none_fails parts e)
none_fails (Some part ∷ parts) e = cc

each_left : {X : Type 0} (P : X → Type 0) (xs ys : List X) → Each P (xs ++ ys) → Each P xs
each_left P [] ys h = tt
each_left P (x ∷ xs) ys h = (h.0, each_left P xs ys h.1)

each_right : {X : Type 0} (P : X → Type 0) (xs ys : List X) → Each P (xs ++ ys) → Each P ys
each_right P [] ys h = h
each_right P (x ∷ xs) ys h = each_right P xs ys h.1

pub holds : (b : Bool) (part : Part) → unless b part ≡ None → b ≡ true
holds true part e = refl
holds false part e = cc

pub both : (a b : Bool) → (a && b) ≡ true → (a ≡ true) × (b ≡ true)
both true true e = (refl, refl)
both true false e = absurd (false≢true e)
both false b e = absurd (false≢true e)

-- the parts of the step at a place
at_step : (rule : ℕ → Step → List (Option Part)) (i : ℕ) (steps : List Step) → Each IsRight (each_step rule i steps) →
    (k j : ℕ) (step : Step) → slice_get steps k ≡ Some step → j ≡ i + k → Each IsRight (rule j step)
at_step rule i [] h k j step e n = cc
at_step rule i (s ∷ ss) h zero j step e n =
    let same : s ≡ step = cc in
    let place : i ≡ j = omega arith in
    subst (λ (s : Step). Each IsRight (rule j s)) same
    (subst (λ (k : ℕ). Each IsRight (rule k s)) place (each_left IsRight (rule i s) (each_step rule (i + 1) ss) h))
at_step rule i (s ∷ ss) h (suc k) j step e n = at_step rule (i + 1) ss (each_right IsRight (rule i s) (each_step rule (i + 1) ss) h) k j step e (omega arith)

-- the tests over a range
in_range : (test : ℕ → Bool) (part : ℕ → Part) (a n : ℕ) → Each IsRight (map (λ j. unless (test j) (part j)) (range_with_len a n)) → (j : ℕ) → a ≤ j →
    j < a + n → test j ≡ true
in_range test part a zero h j low high = absurd (omega arith)
in_range test part a (suc n) h j low high = by (cases a j low) (λ lt. in_range test part (a + 1) n h.1 j (omega (arith, lt)) (omega arith))
  where
    cases : (a j : ℕ) → a ≤ j → (a ≡ j) ⊎ (a < j)
    cases a j le = eq-or-lt_of_le le

    by : (a ≡ j) ⊎ (a < j) → (a < j → test j ≡ true) → test j ≡ true
    by (inl same) rest = ap test (sym same) ∙ holds (test a) (part a) h.0
    by (inr lt) rest = rest lt

-- what is right of a step
pub record StepIsRight (crash : Crash) (r : Report) (i : ℕ) (step : Step) : Type 0 where
  pub state : has_state (due_at crash r.steps i) step.present ≡ true
  pub stored : has_stored (due_at crash r.steps i) (stored_of step) ≡ true
  pub cands : (j : ℕ) → j < length step.cands → is_right_cand crash r.budgets step j ≡ true
  pub count : is_right_count r.budgets step.end (length step.cands) ≡ true
  pub hit : same_hit step.hit (hit_of crash step.cands) ≡ true

step_is_right : (crash : Crash) (r : Report) (i : ℕ) (step : Step) → Each IsRight (step_parts crash r i step) → StepIsRight crash r i step
step_is_right crash r i step h =
    let cands : List (Option Part) =
    map (λ j. unless (is_right_cand crash r.budgets step j) (parts.Candidate (i + 1) (j + 1))) (range_with_len 0 (length step.cands)) in
    let ends : List (Option Part) =
    unless (is_right_count r.budgets step.end (length step.cands)) (parts.Listed (i + 1))
    ∷ unless (same_hit step.hit (hit_of crash step.cands)) (parts.Hit (i + 1)) ∷ [] in
    let front : Each IsRight cands = each_left IsRight cands ends h.1.1 in
    let rest : Each IsRight ends = each_right IsRight cands ends h.1.1 in
    record {
      state = holds (has_state (due_at crash r.steps i) step.present) (parts.Present (i + 1)) h.0;
      stored = holds (has_stored (due_at crash r.steps i) (stored_of step)) (parts.Stored (i + 1)) h.1.0;
      cands = λ j lt. in_range (λ j. is_right_cand crash r.budgets step j) (λ j. parts.Candidate (i + 1) (j + 1)) 0 (length step.cands) front j (omega arith)
          (omega arith);
      count = holds (is_right_count r.budgets step.end (length step.cands)) (parts.Listed (i + 1)) rest.0;
      hit = holds (same_hit step.hit (hit_of crash step.cands)) (parts.Hit (i + 1)) rest.1.0;
    }

-- what is right of the whole report
pub record AllIsRight (crash : Crash) (basis : Basis) (r : Report) : Type 0 where
  pub format : (r.depth == depth_of crash.choice) ≡ true
  pub steps : (k : ℕ) (step : Step) → slice_get r.steps k ≡ Some step → StepIsRight crash r k step
  pub few : nat_le (length r.steps) r.budgets.steps ≡ true
  pub cause : is_cause r.stop (cause_of crash r.budgets r.steps) ≡ true
  pub states : all_bits_eq r.states (trace_states (trace_end crash r.steps).bits r.steps) ≡ true
  pub free : bits_eq r.free (trace_end crash r.steps).free ≡ true
  pub inputs : all_bits_eq r.inputs (trace_inputs r.steps) ≡ true
  pub log : first_refused basis.problem r.log ≡ None
  pub logs : (k : ℕ) (step : Step) → slice_get r.steps k ≡ Some step → Each IsRight (log_parts basis r k step)

no_part : (o : Option (ℕ × Why)) → option_map (λ (x : ℕ × Why). parts.Log x.0 x.1) o ≡ None → o ≡ None
no_part None e = refl
no_part (Some x) e = cc

pub all_is_right : (crash : Crash) (basis : Basis) (r : Report) → IsValid crash basis r → AllIsRight crash basis r
unfolding first_failing
all_is_right crash basis r valid =
    let all : Each IsRight (parts_of crash basis r) = none_fails (parts_of crash basis r) valid in
    let steps : List (Option Part) = each_step (step_parts crash r) 0 r.steps in
    let others : List (Option Part) =
    unless (nat_le (length r.steps) r.budgets.steps && is_cause r.stop (cause_of crash r.budgets r.steps)) parts.Stop ∷
    unless (is_right_trace (trace_end crash r.steps) r) parts.Trace ∷
    option_map (λ refused. parts.Log refused.0 refused.1) (first_refused basis.problem r.log) ∷
    each_step (log_parts basis r) 0 r.steps in
    let front : Each IsRight steps = each_left IsRight steps others all.1 in
    let back : Each IsRight others = each_right IsRight steps others all.1 in
    let stop = both (nat_le (length r.steps) r.budgets.steps) (is_cause r.stop (cause_of crash r.budgets r.steps))
    (holds (nat_le (length r.steps) r.budgets.steps && is_cause r.stop (cause_of crash r.budgets r.steps)) parts.Stop back.0) in
    let last : Seen = trace_end crash r.steps in
    let trace = both (all_bits_eq r.states (trace_states last.bits r.steps) && bits_eq r.free last.free) (all_bits_eq r.inputs (trace_inputs r.steps))
    (holds (is_right_trace last r) parts.Trace back.1.0) in
    let states = both (all_bits_eq r.states (trace_states last.bits r.steps)) (bits_eq r.free last.free) trace.0 in
    record {
      format = holds (r.depth == depth_of crash.choice) parts.Format all.0;
      steps = λ k step e. step_is_right crash r k step (at_step (step_parts crash r) 0 r.steps front k k step e (omega arith));
      few = stop.0;
      cause = stop.1;
      states = states.0;
      free = states.1;
      inputs = trace.1;
      log = no_part (first_refused basis.problem r.log) back.1.1.0;
      logs = λ k step e. at_step (log_parts basis r) 0 r.steps back.1.1.1 k k step e (omega arith);
    }

-- ---- the chain

pub all_same_is : (xs ys : List (List Bool)) → all_bits_eq xs ys ≡ true → xs ≡ ys
all_same_is xs ys e = (pointwise_decides bits_eq_Decides xs ys).0 e

due_is : (o : Option Present) (step : Step) → has_state o step.present ≡ true → has_stored o (stored_of step) ≡ true → o ≡ Some (present_of step)
due_is None step e f = absurd (false≢true e)
due_is (Some due) step e f =
    let p : step.present ≡ due.state = seen_is step.present due.state e in
    let q : stored_of step ≡ due.stored = all_same_is (stored_of step) due.stored f in
    sym (λ i. Some (record { state = p i; stored = q i }))

follow_from : (crash : Crash) (now : Option Present) (steps : List Step) →
    ((k : ℕ) (step : Step) → slice_get steps k ≡ Some step → get_or (now ∷ map (present_after crash) steps) k None ≡ Some (present_of step)) →
    Follow crash now steps
follow_from crash now [] h = tt
follow_from crash now (s ∷ ss) h = (h 0 s refl, follow_from crash (present_after crash s) ss (λ k step e. h (suc k) step e))

pub chain_is : (crash : Crash) (basis : Basis) (r : Report) → AllIsRight crash basis r → IsChain crash r.budgets r.steps
chain_is crash basis r h =
    record {
      few = leb-true (length r.steps) r.budgets.steps h.few;
      follow = follow_from crash (Some (present_in crash.dump)) r.steps
          (λ k step e. due_is (due_at crash r.steps k) step (h.steps k step e).state (h.steps k step e).stored);
    }

pub trace_is : (crash : Crash) (basis : Basis) (r : Report) → AllIsRight crash basis r → IsTrace crash r
trace_is crash basis r h = record {
  states = all_same_is r.states (trace_states (trace_end crash r.steps).bits r.steps) h.states;
  inputs = all_same_is r.inputs (trace_inputs r.steps) h.inputs;
  free = bits_same_is r.free (trace_end crash r.steps).free h.free;
}

-- ---- the stop

stop_named : ℕ → Stop
stop_named zero = stops.Reset
stop_named (suc zero) = stops.Length
stop_named (suc (suc zero)) = stops.Nohit
stop_named (suc (suc (suc zero))) = stops.Empty
stop_named (suc (suc (suc (suc zero)))) = stops.Candidates
stop_named (suc (suc (suc (suc (suc n))))) = stops.Conflicts

named : (stop : Stop) → stop_named (stop_number stop) ≡ stop
unfolding stop_named
named stops.Reset = refl
named stops.Length = refl
named stops.Nohit = refl
named stops.Empty = refl
named stops.Candidates = refl
named stops.Conflicts = refl

cause_is : (stop : Stop) (o : Option Stop) → is_cause stop o ≡ true → o ≡ Some stop
cause_is stop None e = absurd (false≢true e)
cause_is stop (Some cause) e =
    let same : stop_number stop ≡ stop_number cause = eqb-true (stop_number stop) (stop_number cause) e in
    ap Some (sym (named cause) ∙ (ap stop_named (sym same) ∙ named stop))

no_length : {X : Type 0} (xs : List X) → (length xs == 0) ≡ true → xs ≡ []
no_length [] e = refl
no_length (x ∷ xs) e = let none : length (x ∷ xs) ≡ 0 = eqb-true _ _ e in absurd (omega arith)

some_length : {X : Type 0} (xs : List X) → (length xs == 0) ≡ false → xs ≢ []
some_length [] e h = absurd (true≢false e)
some_length (x ∷ xs) e h = cc

pub record LastStep (crash : Crash) (o : Option Step) (now : Option Present) : Type 0 where
  pub last : Step
  pub is : o ≡ Some last
  pub present : now ≡ present_after crash last

pub last_step : (crash : Crash) (now : Option Present) (s : Step) (steps : List Step) →
    LastStep crash (last_or (Some s) steps) (last_present crash (present_after crash s) steps)
last_step crash now s [] = record { last = s; is = refl; present = refl }
last_step crash now s (t ∷ ts) = last_step crash now t ts

-- the cause at a stand
stands : (crash : Crash) (budgets : Budgets) (steps : List Step) (stop : Stop) (now : Present) →
    last_present crash (Some (present_in crash.dump)) steps ≡ Some now → cause_at budgets (length steps) now.stored ≡ Some stop →
    StopsFor crash budgets steps stop
stands crash budgets steps stop now e h = by (length now.stored == 0) refl (length steps == budgets.steps) refl h
  where
    by : (a : Bool) → (length now.stored == 0) ≡ a → (b : Bool) → (length steps == budgets.steps) ≡ b →
        cond a (Some stops.Reset) (cond b (Some stops.Length) None) ≡ Some stop → StopsFor crash budgets steps stop
    by true ea b eb h =
        let same : stops.Reset ≡ stop = cc in
        subst (StopsFor crash budgets steps) same
        (subst (λ (o : Option Present). IsSomeAnd o (λ (now : Present). now.stored ≡ [])) (sym e) (no_length now.stored ea))
    by false ea true eb h =
        let same : stops.Length ≡ stop = cc in
        subst (StopsFor crash budgets steps) same (
          eqb-true (length steps) budgets.steps eb,
          subst (λ (o : Option Present). IsSomeAnd o (λ (now : Present). now.stored ≢ [])) (sym e) (some_length now.stored ea),
        )
    by false ea false eb h = cc

no_hit : (crash : Crash) (step : Step) → None ≡ present_after crash step → step.hit ≡ None
no_hit crash step e = by step.hit refl e
  where
    by : (o : Option HitLine) → step.hit ≡ o → None ≡ option_map (present_of_hit crash) o → step.hit ≡ None
    by None h e = h
    by (Some hit) h e = cc

-- the cause after a step without a hit
unhit : (crash : Crash) (budgets : Budgets) (steps : List Step) (stop : Stop) (last : Step) → last_or None steps ≡ Some last → last.hit ≡ None →
    (e : ListEnd) → last.end ≡ e → cause_of_end last e ≡ stop → StopsFor crash budgets steps stop
unhit crash budgets steps stop last is none (Finished id) e h = by (length last.cands == 0) refl h
  where
    finished : IsFinished last.end
    finished = subst IsFinished (sym e) tt

    by : (b : Bool) → (length last.cands == 0) ≡ b → cond b stops.Empty stops.Nohit ≡ stop → StopsFor crash budgets steps stop
    by true eb h =
        subst (StopsFor crash budgets steps) h
        (subst (λ (o : Option Step). IsSomeAnd o (λ (step : Step). IsFinished step.end × (step.cands ≡ []))) (sym is) (finished, no_length last.cands eb))
    by false eb h =
        subst (StopsFor crash budgets steps) h
        (subst (λ (o : Option Step). IsSomeAnd o (λ (step : Step). (step.hit ≡ None) × IsFinished step.end × (step.cands ≢ []))) (sym is)
        (none, finished, some_length last.cands eb))
unhit crash budgets steps stop last is none Candidates e h =
    subst (StopsFor crash budgets steps) h
    (subst (λ (o : Option Step). IsSomeAnd o (λ (step : Step). (step.hit ≡ None) × (step.end ≡ Candidates))) (sym is) (none, e))
unhit crash budgets steps stop last is none Conflicts e h =
    subst (StopsFor crash budgets steps) h
    (subst (λ (o : Option Step). IsSomeAnd o (λ (step : Step). (step.hit ≡ None) × (step.end ≡ Conflicts))) (sym is) (none, e))

pub stop_is : (crash : Crash) (budgets : Budgets) (steps : List Step) (stop : Stop) → cause_of crash budgets steps ≡ Some stop →
    StopsFor crash budgets steps stop
stop_is crash budgets steps stop h = by (last_present crash (Some (present_in crash.dump)) steps) refl steps refl h
  where
    by : (o : Option Present) → last_present crash (Some (present_in crash.dump)) steps ≡ o → (all : List Step) → steps ≡ all →
        cause_after budgets steps o ≡ Some stop → StopsFor crash budgets steps stop
    by (Some now) e all same h = stands crash budgets steps stop now e h
    by None e [] same h = let none : last_present crash (Some (present_in crash.dump)) [] ≡ None =
        subst (λ (l : List Step). last_present crash (Some (present_in crash.dump)) l ≡ None) same e in cc
    by None e (s ∷ ss) same h =
        let last = last_step crash (Some (present_in crash.dump)) s ss in
        let is : last_or None steps ≡ Some last.last = ap (last_or None) same ∙ last.is in
        let none : None ≡ present_after crash last.last =
        sym (subst (λ (l : List Step). last_present crash (Some (present_in crash.dump)) l ≡ None) same e) ∙ last.present in
        let cause : Some (cause_of_end last.last last.last.end) ≡ Some stop = sym (ap (option_map (λ (step : Step). cause_of_end step step.end)) is) ∙ h in
        let stop_same : cause_of_end last.last last.last.end ≡ stop = cc in
        unhit crash budgets steps stop last.last is (no_hit crash last.last none) last.last.end refl stop_same

-- ---- a step

hit_is : (a b : Option HitLine) → same_hit a b ≡ true → a ≡ b
hit_is None None e = refl
hit_is None (Some b) e = absurd (false≢true e)
hit_is (Some a) None e = absurd (false≢true e)
hit_is (Some a) (Some b) e =
    let h = both ((a.run == b.run) && (a.cycle == b.cycle)) (bits_eq a.state b.state) e in
    let k = both (a.run == b.run) (a.cycle == b.cycle) h.0 in
    let p : a.run ≡ b.run = eqb-true a.run b.run k.0 in
    let q : a.cycle ≡ b.cycle = eqb-true a.cycle b.cycle k.1 in
    let s : a.state ≡ b.state = bits_same_is a.state b.state h.1 in
    λ i. Some (record { run = p i; cycle = q i; state = s i })

pub record CandIsRight (crash : Crash) (budgets : Budgets) (step : Step) (j : ℕ) : Type 0 where
  pub greater : ((j == 0) || is_lt (slice_cmp bool_cmp (cand_at step (j - 1)).state (cand_at step j).state)) ≡ true
  pub state : length (cand_at step j).state ≡ length crash.circuit.flops
  pub input : length (cand_at step j).input ≡ length crash.circuit.inputs
  pub signature : bits_eq (signature crash.choice (cand_at step j).state) step.stored ≡ true
  pub leads : Shows step.present (next crash.circuit (cand_at step j).state (cand_at step j).input)
  pub within : j < budgets.candidates
  pub before : is_right_before crash.circuit crash.choice step.older (cand_at step j).state (cand_at step j).before ≡ true

pub cand_is : (crash : Crash) (budgets : Budgets) (step : Step) (j : ℕ) → is_right_cand crash budgets step j ≡ true → CandIsRight crash budgets step j
cand_is crash budgets step j e =
    let g = both _ (is_right_before crash.circuit crash.choice step.older (cand_at step j).state (cand_at step j).before) e in
    let a = both _ (nat_lt j budgets.candidates) g.0 in
    let b = both _ (is_shown step.present (next crash.circuit (cand_at step j).state (cand_at step j).input)) a.0 in
    let c = both _ (bits_eq (signature crash.choice (cand_at step j).state) step.stored) b.0 in
    let d = both _ (length (cand_at step j).input == length crash.circuit.inputs) c.0 in
    let f = both _ (length (cand_at step j).state == length crash.circuit.flops) d.0 in
    record {
      greater = f.0;
      state = eqb-true _ _ f.1;
      input = eqb-true _ _ d.1;
      signature = c.1;
      leads = shows_where step.present (next crash.circuit (cand_at step j).state (cand_at step j).input) b.1;
      within = ltb-true _ _ a.1;
      before = g.1;
    }

pub cands_are : (crash : Crash) → IsCrash crash → (budgets : Budgets) (step : Step) →
    ((j : ℕ) → j < length step.cands → is_right_cand crash budgets step j ≡ true) →
    All (IsCandidate crash.circuit crash.choice step.present (stored_of step)) step.cands
cands_are crash is budgets step h k d lt =
    let right = cand_is crash budgets step k (h k lt) in
    let s : List Bool = (cand_at step k).state in
    let x : List Bool = (cand_at step k).input in
    let agree : agrees crash.circuit crash.choice (stored_of step) s ≡ true =
    agrees_where_right crash.circuit crash.choice step.stored step.older s (cand_at step k).before
    (depth_is crash.circuit crash.choice crash.dump is.fits) right.signature right.before in
    subst (IsCandidate crash.circuit crash.choice step.present (stored_of step)) (get_or_default step.cands k no_cand d lt)
    (record {
      predecessor = is_predecessor crash.circuit crash.choice step.present (stored_of step) s x right.state right.input agree right.leads;
      leads =
          record {
            there = next crash.circuit s x;
            leads = (next_is_led crash.circuit s x (next crash.circuit s x) is.checked right.state right.input).1 refl;
            shown = right.leads;
          };
    })

-- ---- ascending

less_is : (o : Ordering) → is_lt o ≡ true → o ≡ Less
less_is Less e = refl
less_is Equal e = absurd (false≢true e)
less_is Greater e = absurd (false≢true e)

pairs : (f : ℕ → List Bool) (n : ℕ) → ((j : ℕ) → suc j < n → slice_cmp bool_cmp (f j) (f (suc j)) ≡ Less) → (i j : ℕ) → i < j → j < n →
    slice_cmp bool_cmp (f i) (f j) ≡ Less
pairs f n adjacent i zero lt le = absurd (omega arith)
pairs f n adjacent i (suc j) lt le = by (eq-or-lt_of_le (let h : i ≤ j = omega arith in h)) (λ less. pairs f n adjacent i j less (omega arith))
  where
    by : (i ≡ j) ⊎ (i < j) → (i < j → slice_cmp bool_cmp (f i) (f j) ≡ Less) → slice_cmp bool_cmp (f i) (f (suc j)) ≡ Less
    by (inl same) rest = ap (λ (k : ℕ). slice_cmp bool_cmp (f k) (f (suc j))) same ∙ adjacent j le
    by (inr less) rest = (lists_total bool_cmp_total).trans (f i) (f j) (f (suc j)) (rest less) (adjacent j le)

later_one : (b t : Bool) → (b || t) ≡ true → b ≢ true → t ≡ true
later_one true t e n = absurd (n refl)
later_one false t e n = e

next_greater : (crash : Crash) (budgets : Budgets) (step : Step) (j : ℕ) → CandIsRight crash budgets step (suc j) →
    slice_cmp bool_cmp (cand_at step j).state (cand_at step (suc j)).state ≡ Less
next_greater crash budgets step j h =
    let before : suc j - 1 ≡ j = omega arith in
    let test : is_lt (slice_cmp bool_cmp (cand_at step (suc j - 1)).state (cand_at step (suc j)).state) ≡ true =
    later_one (suc j == 0) _ h.greater (λ e. let none : suc j ≡ 0 = eqb-true (suc j) 0 e in absurd (omega arith)) in
    less_is _ (subst (λ (k : ℕ). is_lt (slice_cmp bool_cmp (cand_at step k).state (cand_at step (suc j)).state) ≡ true) before test)

pub state_at_place : (cands : List Cand) (i : ℕ) (d : List Bool) → i < length (listed cands) → get_or (listed cands) i d ≡ (get_or cands i no_cand).state
state_at_place [] i d lt = absurd (omega arith)
state_at_place (c ∷ cs) zero d lt = refl
state_at_place (c ∷ cs) (suc i) d lt = state_at_place cs i d (omega arith)

pub ascend_is : (crash : Crash) (budgets : Budgets) (step : Step) → ((j : ℕ) → j < length step.cands → is_right_cand crash budgets step j ≡ true) →
    Ascend (listed step.cands)
ascend_is crash budgets step h i j d lt le =
    let long : length (listed step.cands) ≡ length step.cands = length-map step.cands (λ (c : Cand). c.state) in
    let less = pairs (λ (k : ℕ). (cand_at step k).state) (length step.cands)
    (λ j below. next_greater crash budgets step j (cand_is crash budgets step (suc j) (h (suc j) below))) i j lt (omega arith) in
    ap (λ (s : List Bool). slice_cmp bool_cmp s (get_or (listed step.cands) j d)) (state_at_place step.cands i d (omega arith))
    ∙ (ap (slice_cmp bool_cmp (cand_at step i).state) (state_at_place step.cands j d le) ∙ less)

pub right_step : (crash : Crash) → IsCrash crash → (r : Report) (i : ℕ) (step : Step) → StepIsRight crash r i step → IsRightStep crash step
right_step crash is r i step h =
    record {
      ascend = ascend_is crash r.budgets step h.cands;
      candidates = cands_are crash is r.budgets step h.cands;
      hit = hit_is step.hit (hit_of crash step.cands) h.hit;
    }

-- ---- the end of a list

within_budget : (crash : Crash) (budgets : Budgets) (step : Step) (n : ℕ) → n ≡ length step.cands →
    ((j : ℕ) → j < length step.cands → is_right_cand crash budgets step j ≡ true) → length step.cands ≤ budgets.candidates
within_budget crash budgets step zero e h = omega arith
within_budget crash budgets step (suc n) e h = let last = (cand_is crash budgets step n (h n (omega arith))).within in omega (arith, last)

not_met : (a b : ℕ) → a ≤ b → not (a == b) ≡ true → a < b
not_met a b le e = by (eq-or-lt_of_le le)
  where
    by : (a ≡ b) ⊎ (a < b) → a < b
    by (inl same) = absurd (false≢true (sym (ap not (eq-eqb a b same)) ∙ e))
    by (inr lt) = lt

all_pass : {X : Type 0} (p : X → Bool) (xs : List X) → list_all p xs ≡ true → filter p xs ≡ xs
all_pass p [] e = refl
all_pass {X} p (x ∷ xs) e = by (p x) refl e (all_pass p xs)
  where
    by : (b : Bool) → p x ≡ b → (b && list_all p xs) ≡ true → (list_all p xs ≡ true → filter p xs ≡ xs) → cond b (x ∷ filter p xs) (filter p xs) ≡ x ∷ xs
    by true t e rest = ap (λ (l : List X). x ∷ l) (rest e)
    by false t e rest = absurd (false≢true e)

pub spent_is : (b : ℕ) (assumptions : Clause) (o : Option (List Line)) → is_spent b assumptions o ≡ true → option_map (count_by is_lemma_line) o ≡ Some b
spent_is b assumptions None e = absurd (false≢true e)
spent_is b assumptions (Some lines) e =
    let h = both _ (not (list_any (denies assumptions) (filter_map lemma_of_line lines))) e in
    let k = both (length lines == b) (list_all is_lemma_line lines) h.0 in
    ap Some (sym (length-filter is_lemma_line lines) ∙ (ap length (all_pass is_lemma_line lines k.1) ∙ eqb-true (length lines) b k.0))

-- where a finished list is whole, its end is right
pub right_end : (crash : Crash) (basis : Basis) (r : Report) (i : ℕ) (step : Step) → StepIsRight crash r i step → Each IsRight (log_parts basis r i step) →
    (IsFinished step.end → listed step.cands ≡ asked_of crash step) → (e : ListEnd) → step.end ≡ e →
    IsRightEnd (asked_of crash step) r.budgets.candidates r.budgets.conflicts (lines_at r i) step.cands e
right_end crash basis r i step h l whole (Finished id) e = (
  whole (subst IsFinished (sym e) tt),
  not_met (length step.cands) r.budgets.candidates (within_budget crash r.budgets step (length step.cands) refl h.cands)
      (subst (λ (x : ListEnd). is_right_count r.budgets x (length step.cands) ≡ true) e h.count),
)
right_end crash basis r i step h l whole Candidates e =
    eqb-true (length step.cands) r.budgets.candidates (subst (λ (x : ListEnd). is_right_count r.budgets x (length step.cands) ≡ true) e h.count)
right_end crash basis r i step h l whole Conflicts e =
    let finish = holds (is_right_finish r.budgets.conflicts (assumptions_of basis.problem (i + 1)) (lines_at r i) step.end
    (filter_map finish_of_line (lines_at r i))) (parts.Ended (i + 1)) l.1.0 in
    let spent = both _ (is_spent r.budgets.conflicts (assumptions_of basis.problem (i + 1)) (last_solve (lines_at r i)))
    (subst (λ (x : ListEnd). is_right_finish r.budgets.conflicts (assumptions_of basis.problem (i + 1)) (lines_at r i) x
    (filter_map finish_of_line (lines_at r i)) ≡ true) e finish) in (
      not_met (length step.cands) r.budgets.candidates (within_budget crash r.budgets step (length step.cands) refl h.cands)
          (subst (λ (x : ListEnd). is_right_count r.budgets x (length step.cands) ≡ true) e h.count),
      spent_is r.budgets.conflicts (assumptions_of basis.problem (i + 1)) (last_solve (lines_at r i)) spent.1,
    )

-- each finished list is whole
abbrev pub FinishedAreWhole : Crash → Report → Type 0
FinishedAreWhole crash r = (k : ℕ) (step : Step) → slice_get r.steps k ≡ Some step → IsFinished step.end → listed step.cands ≡ asked_of crash step

-- a step at a place, and each step
each_place : (P : Step → Type 0) (steps : List Step) → ((k : ℕ) (step : Step) → slice_get steps k ≡ Some step → P step) → Each P steps
each_place P [] h = tt
each_place P (s ∷ ss) h = (h 0 s refl, each_place P ss (λ k step e. h (suc k) step e))

pub good_where_whole : (crash : Crash) (basis : Basis) (r : Report) → IsCrash crash → IsValid crash basis r → FinishedAreWhole crash r → IsGood crash r
good_where_whole crash basis r is valid whole =
    let h = all_is_right crash basis r valid in
    record {
      steps = All-from_recursion (IsRightStep crash) r.steps
          (each_place (IsRightStep crash) r.steps (λ k step e. right_step crash is r k step (h.steps k step e)));
      ends = λ i step e. right_end crash basis r i step (h.steps i step e) (h.logs i step e) (whole i step e) step.end refl;
      chain = chain_is crash basis r h;
      stop = stop_is crash r.budgets r.steps r.stop (cause_is r.stop (cause_of crash r.budgets r.steps) h.cause);
      trace = trace_is crash basis r h;
    }

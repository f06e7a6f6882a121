-- The ranges that a report's text asks for.
use Rattle.std.proofs.Common.{◌≡◌, ℕ, suc, zero, ◌+◌, ◌-◌, ◌<◌, ◌≤◌, ◌^◌, Bool, true, List, [], ◌∷◌, length, get_or, refl, ap, subst, sym, ◌∙◌, Option}
use Rattle.std.proofs.Common.{inl, Some, None, arith}
use Rattle.std.specs.Prelude.{slice_get, slice_index_or, filter_map, option_map, nat_eq, reverse, All, IfSome, IsTrue}
use Rattle.std.specs.List.{AllByRecursion as Each, cons_option}
use Rattle.std.specs.Cmp.Lexicographic.{pointwise, same_text}
use Rattle.std.proofs.lemmas.Bool.{false≢true}
use Rattle.std.proofs.lemmas.List.{get_or_at, length-append, length-reverse}
use Rattle.std.proofs.lemmas.List.Elements.{All-from_recursion, All-get_or, All-weaker, recursion_from_All}
use Rattle.bs_log.specs.declared.line.Line.{Line}
use Rattle.bs_log.specs.declared.line.Line.TheVariants.{Solve, Lemma, Block, Finish, Retire, Delete}
use Rattle.bs_log.specs.LineForms.{IsId, HasText}
use Rattle.bs_log.specs.Steps.{onto_step, steps_of, finish_of_line}
use Rattle.bs_scan.specs.declared.seen.Seen.{Seen}
use Rattle.bs_scan.specs.Seen.{IsSeen}
use Rattle.bs_net.specs.Circuit.{Circuit}
use Rattle.bs_scan.specs.Choice.{Chosen, depth_of, IsDepth}
use Rattle.bs_scan.specs.Crash.{Recording, IsRecording, Crash, crash_of}
use Rattle.bs_scan.specs.declared.dump.Dump.{Dump}
use Rattle.bs_scan.proofs.MomentLemmas.{each_from}
use Rattle.bs_scan.specs.Moments.{Run, run_of}
use Rattle.bs_scan.specs.Present.{Present, present_in}
use Rattle.bs_report.specs.declared.limits.TheConstants.{MAX_STEPS}
use Rattle.bs_report.specs.declared.report.Before.{Before}
use Rattle.bs_report.specs.declared.report.Cand.{Cand}
use Rattle.bs_report.specs.declared.report.HitLine.{HitLine}
use Rattle.bs_report.specs.declared.report.ListEnd.{ListEnd}
use Rattle.bs_report.specs.declared.report.ListEnd.TheVariants.{Finished, Candidates, Conflicts}
use Rattle.bs_report.specs.declared.report.Step.{Step}
use Rattle.bs_report.specs.declared.report.Budgets.{Budgets}
use Rattle.bs_report.specs.declared.report.Report.{Report}
use Rattle.bs_clause.specs.Literal.{Clause}
use Rattle.bs_encode.specs.Assuming.{assumptions_for}
use Rattle.bs_report.specs.Chain.{present_after, present_of, present_of_hit, Follow}
use Rattle.bs_report.specs.Trace.{hit_state, led_to, end_or, trace_end, IsTrace}
use Rattle.bs_report.specs.Step.{IsRightStep}
use Rattle.bs_report.specs.Text.{state_at, IsOfDepth, HasEndText, HasHitText, HasStepText, HasReportText}
use Rattle.bs_report.proofs.TraceLemmas.{last_state}
use Rattle.bs_report.specs.Valid.{is_right_before, HaveBefores, finishes_in, is_right_finish}
use Rattle.bs_report.proofs.ProgressLemmas.{hit_at, all_at}
use Rattle.bs_preimage.specs.Preimage.{PreimageState}
use Rattle.bs_loop.specs.Budget.{IsBudget}
use Rattle.bs_loop.specs.Made.{encoding_in, activation_at}
use Rattle.bs_loop.proofs.GoodLemmas.{IsReportOf, logged_in, is_good}
use Rattle.bs_loop.proofs.TraceLemmas.{input_behind, one_state_more}

-- ---- the lines of a step

onto : (line : Line) (ss : List (List Line)) → HasText line → ((k : ℕ) → Each HasText (get_or ss k [])) → (k : ℕ) →
    Each HasText (get_or (onto_step line ss) k [])
onto line [] t h k = h k
onto line (s ∷ ss) t h zero = (t, h zero)
onto line (s ∷ ss) t h (suc k) = h (suc k)

step_texts : (log : List Line) → Each HasText log → (k : ℕ) → Each HasText (get_or (steps_of log) k [])
step_texts [] t zero = tt
step_texts [] t (suc k) = tt
step_texts (Solve ∷ rest) t k = onto Solve (steps_of rest) t.0 (step_texts rest t.1) k
step_texts (Lemma id lits hints ∷ rest) t k = onto (Lemma id lits hints) (steps_of rest) t.0 (step_texts rest t.1) k
step_texts (Block id lits ∷ rest) t k = onto (Block id lits) (steps_of rest) t.0 (step_texts rest t.1) k
step_texts (Finish id ∷ rest) t k = onto (Finish id) (steps_of rest) t.0 (step_texts rest t.1) k
step_texts (Retire id ∷ rest) t zero = tt
step_texts (Retire id ∷ rest) t (suc k) = step_texts rest t.1 k
step_texts (Delete ids ∷ rest) t k = step_texts rest t.1 k

named : (lines : List Line) (id : ℕ) → Each HasText lines → pointwise nat_eq (finishes_in lines) (id ∷ []) ≡ true → IsId id
named [] id t e = absurd (false≢true e)
named (Solve ∷ rest) id t e = named rest id t.1 e
named (Lemma i lits hints ∷ rest) id t e = named rest id t.1 e
named (Block i lits ∷ rest) id t e = named rest id t.1 e
named (Retire i ∷ rest) id t e = named rest id t.1 e
named (Delete ids ∷ rest) id t e = named rest id t.1 e
named (Finish i ∷ rest) id t e =
    let all : i ∷ filter_map finish_of_line rest ≡ id ∷ [] = same_text (i ∷ filter_map finish_of_line rest) (id ∷ []) (sym e) in
    let same : i ≡ id = cc in
    subst IsId same t.0

end_text : (b : ℕ) (assumptions : Clause) (lines : List Line) (end : ListEnd) → Each HasText lines →
    is_right_finish b assumptions lines end (finishes_in lines) ≡ true → HasEndText end
end_text b assumptions lines (Finished id) t e = named lines id t e
end_text b assumptions lines Candidates t e = tt
end_text b assumptions lines Conflicts t e = tt

-- ---- the hits

hit_text : (r : Recording) (dump : Dump) (step : Step) → IsRecording r → IsRightStep (crash_of r dump) step → HasHitText step.hit
hit_text r dump step sound right = by step.hit refl
  where
    by : (o : Option HitLine) → step.hit ≡ o → HasHitText o
    by None e = tt
    by (Some hit) e =
        let at = (hit_at (crash_of r dump) step hit (sym e ∙ right.hit)).run_cycle in
        let below : hit.run - 1 < length r.runs = omega (arith, at.from_one, at.recorded) in
        let cycles : length (run_of r.runs hit.run) ≤ 65536 = All-get_or (λ (run : Run). length run ≤ 65536) r.runs (hit.run - 1) [] below sound.few_cycles in
        (at.from_one, omega (arith, at.recorded, sound.few_runs), omega (arith, at.lasts, cycles))

-- ---- the whole report

no_longer : (f : Step → Option (List Bool)) (steps : List Step) → length (filter_map f steps) ≤ length steps
no_longer f [] = omega arith
no_longer f (step ∷ steps) = by (f step) refl (no_longer f steps)
  where
    by : (o : Option (List Bool)) → f step ≡ o → length (filter_map f steps) ≤ length steps → length (filter_map f (step ∷ steps)) ≤ length (step ∷ steps)
    by None e less =
        let same : length (filter_map f (step ∷ steps)) ≡ length (filter_map f steps) =
        ap (λ (o : Option (List Bool)). length (cons_option o (filter_map f steps))) e in
        omega (arith, same, less)
    by (Some x) e less =
        let same : length (filter_map f (step ∷ steps)) ≡ suc (length (filter_map f steps)) =
        ap (λ (o : Option (List Bool)). length (cons_option o (filter_map f steps))) e in
        omega (arith, same, less)

no_before : (c : Circuit) (choice : Chosen) (older : Option (List Bool)) (s : List Bool) (before : Option Before) → older ≡ None →
    is_right_before c choice older s before ≡ true → before ≡ None
no_before c choice older s None e right = refl
no_before c choice None s (Some before) e right = absurd (false≢true right)
no_before c choice (Some older) s (Some before) e right = cc

-- where the depth is 1, no state before a candidate is named
unnamed : (crash : Crash) (step : Step) (depth : ℕ) → IsOfDepth depth step.older → HaveBefores crash.circuit crash.choice step.older step.cands →
    All (λ cand. IsOfDepth depth cand.before) step.cands
unnamed crash step depth older befores =
    All-weaker (λ (cand : Cand). IsTrue (is_right_before crash.circuit crash.choice step.older cand.state cand.before))
    (λ (cand : Cand). IsOfDepth depth cand.before)
    (λ cand right one. no_before crash.circuit crash.choice step.older cand.state cand.before (older one) right) step.cands befores

-- ---- what is seen

hit_seen : (crash : Crash) (hit : Option HitLine) → IfSome (option_map (present_of_hit crash) hit) (λ (p : Present). IsSeen p.state)
hit_seen crash None = tt
hit_seen crash (Some hit) = inl refl

presents_seen : (crash : Crash) (now : Option Present) (steps : List Step) → IfSome now (λ (p : Present). IsSeen p.state) → Follow crash now steps →
    Each (λ step. IsSeen step.present) steps
presents_seen crash now [] seen follow = tt
presents_seen crash now (step ∷ steps) seen follow = (
  subst (λ (o : Option Present). IfSome o (λ (p : Present). IsSeen p.state)) follow.0 seen,
  presents_seen crash (present_after crash step) steps (hit_seen crash step.hit) follow.1,
)

end_seen : (crash : Crash) (steps : List Step) → IsSeen crash.dump.state → IsSeen (trace_end crash steps)
end_seen crash [] seen = seen
end_seen crash (step ∷ steps) seen = by (led_to crash.circuit step)
  where
    by : (o : Option (List Bool)) → IsSeen (end_or crash.dump.state o)
    by None = seen
    by (Some s) = inl refl

-- the last state of a trace
last_seen : (crash : Crash) (r : Report) → IsTrace crash r → length r.states ≡ length r.inputs + 1 → IsSeen crash.dump.state →
    IsSeen (state_at r (length r.inputs))
last_seen crash r trace count seen =
    let end : Seen = trace_end crash r.steps in
    let hits : List (List Bool) = reverse (filter_map hit_state r.steps) in
    let many : length r.inputs + 1 ≡ length hits + 1 = sym count ∙ (ap length trace.states ∙ length-append hits (end.bits ∷ [])) in
    let place : length r.inputs ≡ length hits = omega (arith, many) in
    let there : get_or r.states (length r.inputs) [] ≡ end.bits =
    ap (λ (ss : List (List Bool)). get_or ss (length r.inputs) []) trace.states ∙ get_or_at hits end.bits [] [] (length r.inputs) (sym place) in
    subst IsSeen (last_state r (length r.inputs) end.bits refl (sym there))
    (subst (λ (free : List Bool). IsSeen (record { bits = end.bits; free = free })) (sym trace.free) (end_seen crash r.steps seen))

step_text : (chip : Recording) (dump : Dump) (budgets : Budgets) (s : PreimageState) (r : Report) → IsRecording chip → IsSeen dump.state →
    IsReportOf (crash_of chip dump) budgets s r → Each HasText r.log →
    (i : ℕ) (step : Step) → slice_get r.steps i ≡ Some step → HasStepText r.depth step
step_text chip dump budgets s r sound seen of texts i step is =
    let lines : List Line = slice_index_or (steps_of r.log) i [] in
    let crash : Crash = crash_of chip dump in
    let older : IsOfDepth (depth_of crash.choice) step.older =
    all_at (λ (step : Step). IsOfDepth (depth_of crash.choice) step.older) r.steps i step of.ended.made.older is in
    let befores : HaveBefores crash.circuit crash.choice step.older step.cands =
    all_at (λ (step : Step). HaveBefores crash.circuit crash.choice step.older step.cands) r.steps i step of.ended.made.befores is in
    record {
      present = all_at (λ (step : Step). IsSeen step.present) r.steps i step
          (All-from_recursion (λ (step : Step). IsSeen step.present) r.steps
          (presents_seen crash (Some (present_in dump)) r.steps seen of.ended.made.follow)) is;
      older = λ one. older (sym of.depth ∙ one);
      befores = unnamed crash step r.depth (λ one. older (sym of.depth ∙ one)) befores;
      list =
          end_text r.budgets.conflicts
          (assumptions_for (encoding_in (crash_of chip dump)) (activation_at (crash_of chip dump) i) (present_of step)) lines step.end (step_texts r.log texts i)
          (logged_in (crash_of chip dump) budgets s r of i step is).finish;
      hit = hit_text chip dump step sound (all_at (IsRightStep (crash_of chip dump)) r.steps i step of.ended.made.right is);
    }

pub readable : (chip : Recording) (dump : Dump) (budgets : Budgets) (s : PreimageState) (r : Report) → IsRecording chip → IsSeen dump.state → IsBudget budgets →
    IsReportOf (crash_of chip dump) budgets s r →
    All HasText r.log → length r.log < 2 ^ 64 → HasReportText r
readable chip dump budgets s r sound seen range of texts lines =
    let asked : IsBudget r.budgets = subst IsBudget (sym of.asked) range in
    let steps : length r.steps ≤ budgets.steps = of.ended.few in
    let most : budgets.steps ≤ MAX_STEPS = range.steps.1 in
    let inputs : length r.inputs ≡ length (filter_map input_behind r.steps) = ap length of.trace.inputs ∙ length-reverse (filter_map input_behind r.steps) in
    let fewer : length (filter_map input_behind r.steps) ≤ length r.steps = no_longer input_behind r.steps in
    let more : length r.states ≡ length r.inputs + 1 = one_state_more (crash_of chip dump) r (is_good (crash_of chip dump) budgets s r of) in
    record {
      depth = subst IsDepth (sym of.depth) sound.kept;
      some_steps = asked.steps.0;
      max_steps = asked.steps.1;
      some_candidates = asked.candidates.0;
      max_candidates = asked.candidates.1;
      some_conflicts = asked.conflicts.0;
      max_conflicts = asked.conflicts.1;
      each_step =
          All-from_recursion (HasStepText r.depth) r.steps
          (each_from (HasStepText r.depth) r.steps (step_text chip dump budgets s r sound seen of (recursion_from_All HasText r.log texts)));
      few_steps = omega (arith, steps, most);
      one_state_more = more;
      few_inputs = omega (arith, steps, most, inputs, fewer);
      last = last_seen (crash_of chip dump) r of.trace more seen;
      each_line = texts;
      few_lines = lines;
    }

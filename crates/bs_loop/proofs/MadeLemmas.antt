-- One more step of a backtrace.
use Rattle.std.proofs.Common.{◌≡◌, ℕ, suc, zero, ◌+◌, ◌-◌, ◌<◌, ◌≤◌, ◌^◌, Bool, true, Option, List, [], ◌∷◌, ◌++◌, map, length, reverse, ap, subst, sym}
use Rattle.std.proofs.Common.{◌∙◌, ◌≢◌, ◌⊎◌, inl, inr, Some, None, arith}
use Rattle.std.specs.Prelude.{slice_get, slice_index_or, option_map, option_and_then}
use Rattle.std.specs.Option.{option_to_list}
use Rattle.std.specs.List.{last_or}
use Rattle.std.proofs.lemmas.List.{length-append, length-map, map-append}
use Rattle.std.proofs.lemmas.List.Elements.{All-append, All-from_recursion}
use Rattle.bs_clause.specs.UnitRun.{IsUnitRun}
use Rattle.bs_clause.specs.Literal.{Literal}
use Rattle.bs_clause.specs.Range.{HasVariables}
use Rattle.bs_log.specs.declared.line.Line.{Line}
use Rattle.bs_log.specs.Steps.{steps_of}
use Rattle.bs_scan.specs.declared.dump.Dump.{Dump}
use Rattle.bs_scan.specs.Choice.{depth_of}
use Rattle.bs_scan.specs.Dump.{signatures_of}
use Rattle.bs_scan.specs.Present.{Present, present_in}
use Rattle.bs_scan.specs.Crash.{Recording, Crash, crash_of, DumpFits}
use Rattle.bs_chip.specs.declared.first_hit.Hit.{Hit}
use Rattle.bs_encode.specs.Tables.{lit}
use Rattle.bs_encode.specs.Assuming.{assumptions_for, block_for, steps_from, problem_of}
use Rattle.bs_encode.proofs.AssumingLemmas.{length_steps_from, steps_from_more}
use Rattle.bs_scan.specs.Moments.{Moment, moment, is_listed}
use Rattle.bs_report.specs.declared.report.Cand.{Cand}
use Rattle.bs_report.specs.declared.report.HitLine.{HitLine}
use Rattle.bs_report.specs.declared.report.ListEnd.TheVariants.{Candidates, Conflicts}
use Rattle.bs_report.specs.declared.report.Step.{Step}
use Rattle.bs_report.specs.declared.report.Budgets.{Budgets}
use Rattle.bs_report.specs.Text.{IsOfDepth}
use Rattle.bs_report.specs.Step.{listed, IsRightStep}
use Rattle.bs_report.specs.Chain.{present_of}
use Rattle.bs_report.specs.Valid.{HaveBefores, blocks_due, are_right_blocks, blocks_in, is_right_finish, finishes_in}
use Rattle.bs_report.specs.Progress.{ListsBefore}
use Rattle.bs_report.proofs.LoopLemmas.{follow_more, before_more}
use Rattle.bs_preimage.specs.declared.listing.Listing.{Listing}
use Rattle.bs_preimage.specs.Preimage.{PreimageState, next_activation}
use Rattle.bs_preimage.specs.Listed.{HasListed}
use Rattle.bs_loop.specs.Made.{encoding_in, activation_at, IsLoggedStep, state_after, HasMade, StandsAt}
use Rattle.bs_loop.specs.HitInput.{TakesRecorded}
use Rattle.bs_loop.specs.Recorded.{last_moment}
use Rattle.bs_loop.specs.declared.known.SearchAnswer.{SearchAnswer}
use Rattle.bs_loop.specs.declared.known.SearchExtent.{SearchExtent}
use Rattle.bs_loop.specs.KnownCand.{HasSooner, IsAnswered, IsAsked}
use Rattle.bs_loop.specs.Turn.{step_of, HasLookedBack, HasLookedFrom, IsStepBack}

-- ---- the lines of the steps

at_more : (P : ℕ → List Line → Step → Type 0) (steps : List Step) (step : Step) (ls : List (List Line)) (l : List Line) → length ls ≡ length steps →
    ((i : ℕ) (s : Step) → slice_get steps i ≡ Some s → P i (slice_index_or ls i []) s) → P (length steps) l step →
    (i : ℕ) (s : Step) → slice_get (steps ++ step ∷ []) i ≡ Some s → P i (slice_index_or (ls ++ l ∷ []) i []) s
at_more P [] step [] l e h p zero s is = let same : step ≡ s = cc in subst (λ (x : Step). P 0 l x) same p
at_more P [] step [] l e h p (suc i) s is = cc
at_more P [] step (k ∷ ks) l e h p i s is = absurd (omega (arith, e))
at_more P (t ∷ ts) step [] l e h p i s is = absurd (omega (arith, e))
at_more P (t ∷ ts) step (k ∷ ks) l e h p zero s is = h zero s is
at_more P (t ∷ ts) step (k ∷ ks) l e h p (suc i) s is =
    at_more (λ n. P (suc n)) ts step ks l (omega (arith, e)) (λ j x q. h (suc j) x q) p i s is

-- ---- one more step

activation_next : (crash : Crash) (steps : List Step) → next_activation (problem_of (encoding_in crash) (map present_of steps)) ≡ activation_at crash (length steps)
activation_next crash steps =
    ap (λ (n : ℕ). lit ((encoding_in crash).variables + (n + 1)) true)
    (length_steps_from (encoding_in crash) 1 (map present_of steps) ∙ length-map steps present_of)

problem_more : (crash : Crash) (steps : List Step) (step : Step) →
    steps_from (encoding_in crash) 1 (map present_of steps) ++ assumptions_for (encoding_in crash)
    (next_activation (problem_of (encoding_in crash) (map present_of steps))) (present_of step) ∷ []
    ≡ steps_from (encoding_in crash) 1 (map present_of (steps ++ step ∷ []))
problem_more crash steps step =
    let e = encoding_in crash in
    let qs : List Present = map present_of steps in
    let few : length (steps_from e 1 qs) ≡ length qs = length_steps_from e 1 qs in
    let number : length (steps_from e 1 qs) + 1 ≡ 1 + length qs = omega (arith, few) in
    ap (λ (n : ℕ). steps_from e 1 qs ++ assumptions_for e (lit (e.variables + n) true) (present_of step) ∷ []) number
    ∙ sym (steps_from_more e 1 qs (present_of step))
    ∙ ap (steps_from e 1) (sym (map-append present_of steps (step ∷ [])))

-- where a list ended by its count, something was asked
known_there : (r : Recording) (now : Dump) (stored : List Bool) (b : ℕ) (at : Option Moment) (known : Option Cand) (answer : Option SearchAnswer)
    (listing : Listing) → IsAnswered r now stored b at listing.end known answer → listing.end ≡ Candidates → (m : Moment) → at ≡ Some m →
    1 ≤ m.cycle → HasSooner r known m
known_there r now stored b at known answer listing answered ended m here low = by answered.either
  where
    by : ((answer ≡ None) × (listing.end ≢ Candidates)) ⊎ IsAsked r now stored b at known answer → HasSooner r known m
    by (inl none) = absurd (none.1 ended)
    by (inr asked) = asked.known_is.sooner m here low

-- where the last hit is above cycle 0, a candidate of an earlier moment is known, and so a list that ends by its count has it
lists_before : (r : Recording) (dump : Dump) (steps : List Step) (old new : PreimageState) (now : Dump) (at : Option Moment) (stored : List Bool)
    (known : Option Cand) (answer : Option SearchAnswer) (k b : ℕ) (listing : Listing) (hit : Option Hit) → at ≡ last_moment steps →
    IsAnswered r now stored b at listing.end known answer →
    HasListed old new now.state stored now.older known k b listing → (earlier : Step) → last_or None steps ≡ Some earlier →
    listing.end ≡ Candidates → ListsBefore (crash_of r dump) earlier (step_of now stored listing hit)
lists_before r dump steps old new now at stored known answer k b listing hit last answered l earlier there ended =
    record {
      before = λ h is low.
          let here : at ≡ Some (moment h.run h.cycle) =
          last ∙ (ap (option_and_then (λ (s : Step). option_map (λ (x : HitLine). moment x.run x.cycle) s.hit)) there
          ∙ ap (option_map (λ (x : HitLine). moment x.run x.cycle)) is) in
          let s : HasSooner r known (moment h.run h.cycle) =
          known_there r now stored b at known answer listing answered ended (moment h.run h.cycle) here low in
          record {
            there = s.there;
            recorded = s.recorded;
            sooner = s.sooner;
            is = subst (λ (x : List Bool). is_listed (listed listing.cands) x ≡ true) s.state (l.with_known s.cand s.is ended);
          };
    }

step_made : (r : Recording) (dump : Dump) (budgets : Budgets) (steps : List Step) (old new : PreimageState) (now : Dump) (at : Option Moment)
    (stored : List Bool) (listing : Listing) (hit : Option Hit) (reach : SearchExtent) →
    HasMade (crash_of r dump) budgets steps old → StandsAt (crash_of r dump) steps now → DumpFits r.circuit r.choice now → at ≡ last_moment steps →
    signatures_of now ≡ stored ∷ option_to_list now.older →
    HasLookedFrom r budgets old new now stored at listing hit reach → TakesRecorded r.circuit r.runs (step_of now stored listing hit) →
    HasMade (crash_of r dump) budgets (steps ++ step_of now stored listing hit ∷ []) new
step_made r dump budgets steps old new now at stored listing hit reach made stands fits last held from takes =
    let back : HasLookedBack r budgets old new now stored from.known listing hit = from.back in
    let crash : Crash = crash_of r dump in
    let step : Step = step_of now stored listing hit in
    let more : List Step = steps ++ step ∷ [] in
    let l : HasListed (state_after crash steps old.history) new now.state stored now.older from.known budgets.candidates budgets.conflicts listing =
    subst (λ (s : PreimageState). HasListed s new now.state stored now.older from.known budgets.candidates budgets.conflicts listing)
    made.state back.listed in
    let problem : new.problem ≡ problem_of (encoding_in crash) (map present_of more) =
    λ i. record { vars = l.goes_on.vars i; clauses = l.goes_on.clauses i; steps = (l.steps ∙ problem_more crash steps step) i } in
    let calls : new.calls ≡ length more =
    back.calls ∙ ap (λ (s : PreimageState). s.calls + 1) made.state ∙ sym (length-append steps (step ∷ [])) in
    let present : present_in now ≡ present_of step =
    λ i. record { state = now.state; stored = held i } in
    let logged : IsLoggedStep crash budgets (length steps) l.lines step =
    record {
      ends = l.ends;
      blocks =
          subst (λ (g : Literal). are_right_blocks (blocks_due g (block_for (encoding_in crash)) listing.cands) (blocks_in l.lines) ≡ true)
          (activation_next crash steps) l.blocks;
      finish =
          subst (λ (g : Literal). is_right_finish budgets.conflicts (assumptions_for (encoding_in crash) g (present_of step)) l.lines listing.end
          (finishes_in l.lines) ≡ true)
          (activation_next crash steps) l.finish;
      bound = subst (λ (g : Literal). listing.end ≡ Conflicts → (run : List Literal) → HasVariables (encoding_in crash).variables run →
          IsUnitRun (encoding_in crash).clauses (assumptions_for (encoding_in crash) g (present_of step)) run →
          budgets.conflicts < 2 ^ ((encoding_in crash).variables - length run)) (activation_next crash steps) l.bound;
    } in
    record {
      state = λ i. record {
        circuit = l.goes_on.circuit i;
        choice = l.goes_on.choice i;
        problem = problem i;
        history = new.history;
        calls = calls i;
        failed = l.well i;
      };
      right = All-append (IsRightStep crash) steps (step ∷ []) made.right
          (All-from_recursion (IsRightStep crash) (step ∷ []) (record { ascend = l.ascend; candidates = l.candidates; hit = back.line }, tt));
      older = All-append (λ (step : Step). IsOfDepth (depth_of crash.choice) step.older) steps (step ∷ []) made.older
          (All-from_recursion (λ (step : Step). IsOfDepth (depth_of crash.choice) step.older) (step ∷ []) (λ one. fits.sound.alone (fits.depth ∙ one), tt));
      befores = All-append (λ (step : Step). HaveBefores crash.circuit crash.choice step.older step.cands) steps (step ∷ []) made.befores
          (All-from_recursion (λ (step : Step). HaveBefores crash.circuit crash.choice step.older step.cands) (step ∷ []) (l.befores, tt));
      takes = All-append (TakesRecorded crash.circuit crash.runs) steps (step ∷ []) made.takes
          (All-from_recursion (TakesRecorded crash.circuit crash.runs) (step ∷ []) (takes, tt));
      back = before_more crash steps step made.back
          (lists_before r dump steps (state_after crash steps old.history) new now at stored from.known from.answer budgets.candidates budgets.conflicts listing
          hit last from.answered l);
      few = l.few made.few;
      follow = follow_more crash (Some (present_in crash.dump)) steps step made.follow (stands ∙ ap Some present);
      count =
          ap length l.step_lines
          ∙ length-append (steps_of (reverse old.history)) (l.lines ∷ [])
          ∙ ap (λ (n : ℕ). n + 1) made.count
          ∙ sym (length-append steps (step ∷ []));
      logged =
          subst (λ (ls : List (List Line)). (i : ℕ) (s : Step) → slice_get more i ≡ Some s → IsLoggedStep crash budgets i (slice_index_or ls i []) s)
          (sym l.step_lines)
          (at_more (λ i ls s. IsLoggedStep crash budgets i ls s) steps step (steps_of (reverse old.history)) l.lines made.count made.logged logged);
    }

pub made_more : (r : Recording) (dump : Dump) (budgets : Budgets) (steps : List Step) (old new : PreimageState) (now : Dump) (at : Option Moment)
    (step : Step) (hit : Option Hit) →
    HasMade (crash_of r dump) budgets steps old → StandsAt (crash_of r dump) steps now → DumpFits r.circuit r.choice now → at ≡ last_moment steps →
    IsStepBack r budgets old new now at step hit →
    HasMade (crash_of r dump) budgets (steps ++ step ∷ []) new
made_more r dump budgets steps old new now at step hit made stands fits last is =
    subst (λ (s : Step). HasMade (crash_of r dump) budgets (steps ++ s ∷ []) new) (sym is.step_is)
    (step_made r dump budgets steps old new now at is.stored is.listing hit is.reach made stands fits last is.held is.from
    (subst (TakesRecorded r.circuit r.runs) is.step_is is.takes))

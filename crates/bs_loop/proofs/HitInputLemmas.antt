-- A list in which a state hit has its recorded input.
use Rattle.std.proofs.Common.{◌≡◌, ℕ, suc, ◌+◌, ◌<◌, Bool, true, false, cond, List, [], ◌∷◌, length, map, refl, ap, subst, sym, ◌∙◌, Option, Some, None, arith}
use Rattle.std.specs.Prelude.{All, IfSome, IsTrue, ◌==◌, nat_lt, ◌&&◌, if◌then◌else◌, find, option_map, option_and_then, slice_get, slice_index_or}
use Rattle.std.specs.List.{AllByRecursion as Each}
use Rattle.std.specs.Option.{option_to_list}
use Rattle.std.proofs.lemmas.Bool.{and_from, and_parts, lt-ltb, ltb-true, ne_eqb}
use Rattle.std.proofs.lemmas.List.{length-map, nil_from_length}
use Rattle.std.proofs.lemmas.List.Elements.{All-from_recursion, recursion_from_All}
use Rattle.std.proofs.lemmas.Option.{get_or_from_slice_get, slice_get_within}
use Rattle.bs_bits.specs.Bits.{bits_eq}
use Rattle.bs_scan.specs.declared.seen.Seen.{Seen}
use Rattle.bs_scan.specs.Seen.{is_shown, whole, Shows}
use Rattle.bs_scan.proofs.SeenLemmas.{shown_where, shows_where}
use Rattle.bs_clause.specs.Literal.{Literal, Clause, negation}
use Rattle.bs_log.specs.declared.line.Line.{Line}
use Rattle.bs_net.specs.Circuit.{Circuit, next}
use Rattle.bs_scan.specs.Choice.{Chosen}
use Rattle.bs_scan.specs.Crash.{Recording, IsRecording, Crash, crash_of}
use Rattle.bs_scan.specs.declared.dump.Dump.{Dump}
use Rattle.bs_scan.specs.Moments.{Run, Moment, moment, IsMoment, run_of, state_at, state_of, first_moment, is_listed}
use Rattle.bs_scan.specs.Present.{LeadsInto}
use Rattle.bs_scan.specs.Signature.{predecessors}
use Rattle.bs_scan.proofs.SignatureLemmas.{bits_same_is}
use Rattle.bs_chip.specs.declared.first_hit.Hit.{Hit}
use Rattle.bs_encode.specs.Assuming.{block_for}
use Rattle.bs_report.specs.declared.report.Before.{Before}
use Rattle.bs_report.specs.declared.report.Budgets.{Budgets}
use Rattle.bs_report.specs.declared.report.Cand.{Cand}
use Rattle.bs_report.specs.declared.report.HitLine.{HitLine}
use Rattle.bs_report.specs.declared.report.ListEnd.{ListEnd}
use Rattle.bs_report.specs.declared.report.Step.{Step}
use Rattle.bs_report.specs.declared.report.ListEnd.TheVariants.{Finished, Candidates, Conflicts}
use Rattle.bs_report.specs.Step.{listed, hit_of, Ascend, IsCandidate, IsRightStep, IsRightEnd}
use Rattle.bs_report.specs.Trace.{end_or, input_for, trace_end}
use Rattle.bs_report.specs.Valid.{is_right_before, HaveBefores, blocks_due, are_right_blocks, blocks_in}
use Rattle.bs_report.proofs.ExecutionLemmas.{cand_for}
use Rattle.bs_report.proofs.ProgressLemmas.{hit_at}
use Rattle.bs_preimage.specs.declared.listing.Listing.{Listing}
use Rattle.bs_preimage.specs.Listed.{HasListed}
use Rattle.bs_preimage.specs.Preimage.{PreimageState, encoding_in, next_activation}
use Rattle.bs_preimage_recorded.proofs.OwnLemmas.{leads_on, state_next}
use Rattle.bs_loop.specs.declared.known.SearchExtent.{SearchExtent}
use Rattle.bs_loop.specs.KnownCand.{IsAnswered}
use Rattle.bs_loop.specs.HitInput.{goes_to, own_at, own_input, put_input, put_own, TakesRecorded, TracesEndAsRecorded}
use Rattle.bs_loop.specs.Recorded.{recorded_at}
use Rattle.bs_loop.specs.Turn.{line_of, step_of, HasItsDump, HasLookedBack, HasLookedFrom}

-- ---- the list

listed_put : (own : Before) (cands : List Cand) → listed (map (put_input own) cands) ≡ listed cands
listed_put own [] = refl
listed_put own (cand ∷ cands) = ap (λ (ss : List (List Bool)). cand.state ∷ ss) (listed_put own cands)

listed_own : (own : Option Before) (cands : List Cand) → listed (put_own own cands) ≡ listed cands
listed_own None cands = refl
listed_own (Some own) cands = listed_put own cands

length_own : (own : Option Before) (cands : List Cand) → length (put_own own cands) ≡ length cands
length_own None cands = refl
length_own (Some own) cands = length-map cands (put_input own)

each_put : (P : Cand → Type 0) (own : Before) (cands : List Cand) → ((cand : Cand) → P cand → P (put_input own cand)) → Each P cands →
    Each P (map (put_input own) cands)
each_put P own [] h all = tt
each_put P own (cand ∷ cands) h all = (h cand all.0, each_put P own cands h all.1)

put_candidate : (c : Circuit) (choice : Chosen) (present : Seen) (t : List (List Bool)) (own : Before) → LeadsInto c own.state own.input present →
    (cand : Cand) → IsCandidate c choice present t cand → IsCandidate c choice present t (put_input own cand)
put_candidate c choice present t own leads cand is = record { predecessor = is.predecessor; leads = by (bits_eq cand.state own.state) refl }
  where
    by : (b : Bool) → bits_eq cand.state own.state ≡ b → LeadsInto c cand.state (if b then own.input else cand.input) present
    by true e = subst (λ (s : List Bool). LeadsInto c s own.input present) (sym (bits_same_is cand.state own.state e)) leads
    by false e = is.leads

candidates_own : (c : Circuit) (choice : Chosen) (present : Seen) (t : List (List Bool)) (own : Option Before) (cands : List Cand) →
    IfSome own (λ o. LeadsInto c o.state o.input present) → All (IsCandidate c choice present t) cands →
    All (IsCandidate c choice present t) (put_own own cands)
candidates_own c choice present t None cands leads all = all
candidates_own c choice present t (Some own) cands leads all =
    All-from_recursion (IsCandidate c choice present t) (map (put_input own) cands)
    (each_put (IsCandidate c choice present t) own cands (put_candidate c choice present t own leads)
    (recursion_from_All (IsCandidate c choice present t) cands all))

befores_own : (c : Circuit) (choice : Chosen) (older : Option (List Bool)) (own : Option Before) (cands : List Cand) → HaveBefores c choice older cands →
    HaveBefores c choice older (put_own own cands)
befores_own c choice older None cands all = all
befores_own c choice older (Some own) cands all =
    let Right : Cand → Type 0 = λ cand. IsTrue (is_right_before c choice older cand.state cand.before) in
    All-from_recursion Right (map (put_input own) cands) (each_put Right own cands (λ cand right. right) (recursion_from_All Right cands all))

ends_own : (asked : List (List Bool)) (k b : ℕ) (lines : List Line) (own : Option Before) (cands : List Cand) (end : ListEnd) →
    IsRightEnd asked k b lines cands end → IsRightEnd asked k b lines (put_own own cands) end
ends_own asked k b lines own cands (Finished id) h =
    (listed_own own cands ∙ h.0, subst (λ (n : ℕ). n < k) (sym (length_own own cands)) h.1)
ends_own asked k b lines own cands Candidates h = length_own own cands ∙ h
ends_own asked k b lines own cands Conflicts h = (subst (λ (n : ℕ). n < k) (sym (length_own own cands)) h.0, h.1)

blocks_own : (activation : Literal) (block : List Bool → Clause) (own : Option Before) (cands : List Cand) →
    blocks_due activation block (put_own own cands) ≡ blocks_due activation block cands
blocks_own activation block own cands = ap (map (λ (s : List Bool). negation activation ∷ block s)) (listed_own own cands)

-- the line of the first moment in one of these states
abbrev hit_listed : Crash → List (List Bool) → Option HitLine
hit_listed crash ss =
    option_map (λ m. record { run = m.run; cycle = m.cycle; state = state_of crash.circuit crash.runs m }) (first_moment crash.circuit crash.runs ss)

hit_own : (crash : Crash) (own : Option Before) (cands : List Cand) → hit_of crash cands ≡ hit_of crash (put_own own cands)
hit_own crash own cands = ap (hit_listed crash) (sym (listed_own own cands))

-- the list that takes an input is as right as before
listed_with : (old new : PreimageState) (present : Seen) (stored : List Bool) (older : Option (List Bool)) (known : Option Cand) (k b : ℕ)
    (listing after : Listing) (own : Option Before) → HasListed old new present stored older known k b listing →
    IfSome own (λ o. LeadsInto old.circuit o.state o.input present) → after.end ≡ listing.end → after.cands ≡ put_own own listing.cands →
    HasListed old new present stored older known k b after
listed_with old new present stored older known k b listing after own l leads ended cands =
    let same : after ≡ record { cands = put_own own listing.cands; end = listing.end } = λ i. record { cands = cands i; end = ended i } in
    let names : listed listing.cands ≡ listed (put_own own listing.cands) = sym (listed_own own listing.cands) in
    subst (HasListed old new present stored older known k b) (sym same)
    (record {
      was_well = l.was_well;
      well = l.well;
      goes_on = l.goes_on;
      steps = l.steps;
      lines = l.lines;
      step_lines = l.step_lines;
      ascend = subst Ascend names l.ascend;
      candidates = candidates_own old.circuit old.choice present (stored ∷ option_to_list older) own listing.cands leads l.candidates;
      befores = befores_own old.circuit old.choice older own listing.cands l.befores;
      ends = ends_own (predecessors old.circuit old.choice present (stored ∷ option_to_list older)) k b l.lines own listing.cands listing.end l.ends;
      blocks = subst (λ (due : List Clause). are_right_blocks due (blocks_in l.lines) ≡ true)
          (sym (blocks_own (next_activation old.problem) (block_for (encoding_in old)) own listing.cands)) l.blocks;
      finish = l.finish;
      with_known = λ cand is counted.
          subst (λ (ss : List (List Bool)). is_listed ss cand.state ≡ true) names (l.with_known cand is counted);
      few = l.few;
      bound = l.bound;
    })

-- ---- the input

next_moment : (r : Recording) (present : Seen) (run cycle : ℕ) → IsMoment r.runs (moment run cycle) → goes_to r present run cycle ≡ true →
    IsMoment r.runs (moment run (suc cycle))
next_moment r present run cycle there e =
    let parts = and_parts (nat_lt cycle (length (run_of r.runs run))) (is_shown present (state_at r.circuit (run_of r.runs run) (cycle + 1))) e in
    let less : cycle < length (run_of r.runs run) = ltb-true cycle (length (run_of r.runs run)) parts.0 in
    record { from_one = there.from_one; recorded = there.recorded; lasts = omega (arith, less) }

-- what `recorded_at` asks for
pub recorded_next : (r : Recording) (present : Seen) (run cycle : ℕ) → IsMoment r.runs (moment run cycle) → goes_to r present run cycle ≡ true →
    IsMoment r.runs (moment run (cycle + 1))
recorded_next r present run cycle there e =
    let at : IsMoment r.runs (moment run (suc cycle)) = next_moment r present run cycle there e in
    let low = at.lasts in
    record { from_one = at.from_one; recorded = at.recorded; lasts = omega (arith, low) }

goes_leads : (r : Recording) (present : Seen) (run cycle : ℕ) → IsRecording r → IsMoment r.runs (moment run cycle) → goes_to r present run cycle ≡ true →
    LeadsInto r.circuit (state_at r.circuit (run_of r.runs run) cycle) (slice_index_or (run_of r.runs run) cycle []) present
goes_leads r present run cycle sound there e =
    let parts = and_parts (nat_lt cycle (length (run_of r.runs run))) (is_shown present (state_at r.circuit (run_of r.runs run) (cycle + 1))) e in
    let same : cycle + 1 ≡ suc cycle = omega arith in
    record {
      there = state_at r.circuit (run_of r.runs run) (suc cycle);
      leads = leads_on r run cycle sound (next_moment r present run cycle there e);
      shown = shows_where present (state_at r.circuit (run_of r.runs run) (suc cycle))
          (subst (λ (n : ℕ). is_shown present (state_at r.circuit (run_of r.runs run) n) ≡ true) same parts.1);
    }

own_leads : (r : Recording) (present : Seen) (hit : Option Hit) → IsRecording r → IfSome hit (λ k. IsMoment r.runs (moment k.run k.cycle)) →
    IfSome (own_input r present hit) (λ o. LeadsInto r.circuit o.state o.input present)
own_leads r present None sound there = tt
own_leads r present (Some hit) sound there = by (length present.free == 0) (goes_to r present hit.run hit.cycle) refl
  where
    by : (a b : Bool) → goes_to r present hit.run hit.cycle ≡ b →
        IfSome (if a then None else (if b then Some (recorded_at r hit.run hit.cycle) else None)) (λ (o : Before). LeadsInto r.circuit o.state o.input present)
    by true b e = tt
    by false false e = tt
    by false true e = goes_leads r present hit.run hit.cycle sound there e

-- whether a run goes on, by its length
pub goes_shows : (r : Recording) (present : Seen) (run cycle cycles : ℕ) (shows : Bool) → cycles ≡ length (run_of r.runs run) → cycle < cycles →
    shows ≡ is_shown present (state_at r.circuit (run_of r.runs run) (cycle + 1)) → shows ≡ goes_to r present run cycle
goes_shows r present run cycle cycles shows many less is =
    is
    ∙ sym (ap (λ (b : Bool). b && is_shown present (state_at r.circuit (run_of r.runs run) (cycle + 1)))
    (lt-ltb cycle (length (run_of r.runs run)) (subst (λ (n : ℕ). cycle < n) many less)))

pub goes_not : (r : Recording) (present : Seen) (run cycle cycles : ℕ) → cycles ≡ length (run_of r.runs run) → (cycle < cycles → ⊥) →
    false ≡ goes_to r present run cycle
goes_not r present run cycle cycles many past = by (nat_lt cycle (length (run_of r.runs run))) refl
  where
    by : (b : Bool) → nat_lt cycle (length (run_of r.runs run)) ≡ b →
        false ≡ (b && is_shown present (state_at r.circuit (run_of r.runs run) (cycle + 1)))
    by true e = absurd (past (subst (λ (n : ℕ). cycle < n) (sym many) (ltb-true cycle (length (run_of r.runs run)) e)))
    by false e = refl

-- ---- the list has it

-- a candidate, with another input if it is to have it
abbrev put_if : Before → Cand → Bool → Cand
put_if own cand has = record { state = cand.state; input = if has then own.input else cand.input; before = cand.before }

found_own : (own : Before) (cands : List Cand) (cand : Cand) → find (λ (c : Cand). bits_eq c.state own.state) cands ≡ Some cand →
    option_map (λ (c : Cand). c.input) (find (λ (c : Cand). bits_eq c.state own.state) (map (put_input own) cands)) ≡ Some own.input
found_own own [] cand e = cc
found_own own (c ∷ cs) cand e = by (bits_eq c.state own.state) e (found_own own cs cand)
  where
    by : (b : Bool) → cond b (Some c) (find (λ (x : Cand). bits_eq x.state own.state) cs) ≡ Some cand →
        (find (λ (x : Cand). bits_eq x.state own.state) cs ≡ Some cand →
        option_map (λ (x : Cand). x.input) (find (λ (x : Cand). bits_eq x.state own.state) (map (put_input own) cs)) ≡ Some own.input) →
        option_map (λ (x : Cand). x.input) (cond b (Some (put_if own c b)) (find (λ (x : Cand). bits_eq x.state own.state) (map (put_input own) cs)))
        ≡ Some own.input
    by true e later = refl
    by false e later = later e

each_same : (cands : List Cand) → Each (λ cand. cand ≡ cand) cands
each_same [] = tt
each_same (cand ∷ cands) = (refl, each_same cands)

-- a recorded input leads to the state that the run has next
led_on : (c : Circuit) (line : Run) (cycle : ℕ) (x : List Bool) → slice_get line cycle ≡ Some x →
    next c (state_at c line cycle) x ≡ state_at c line (cycle + 1)
led_on c line cycle x there =
    let same : suc cycle ≡ cycle + 1 = omega arith in
    ap (next c (state_at c line cycle)) (sym (get_or_from_slice_get line cycle x [] there)) ∙ (state_next c line cycle ∙ ap (state_at c line) same)

goes_own : (r : Recording) (present : Seen) (run cycle : ℕ) (x : List Bool) → slice_get (run_of r.runs run) cycle ≡ Some x →
    Shows present (next r.circuit (state_at r.circuit (run_of r.runs run) cycle) x) → goes_to r present run cycle ≡ true
goes_own r present run cycle x there shows =
    let line : Run = run_of r.runs run in
    and_from (nat_lt cycle (length line)) (is_shown present (state_at r.circuit line (cycle + 1)))
    (lt-ltb cycle (length line) (slice_get_within line cycle x there))
    (shown_where present (state_at r.circuit line (cycle + 1)) (subst (Shows present) (led_on r.circuit line cycle x there) shows))

own_found : (r : Recording) (present : Seen) (cands : List Cand) (run cycle : ℕ) (x : List Bool) → (present.free ≡ [] → ⊥) →
    slice_get (run_of r.runs run) cycle ≡ Some x → Shows present (next r.circuit (state_at r.circuit (run_of r.runs run) cycle) x) →
    is_listed (listed cands) (state_at r.circuit (run_of r.runs run) cycle) ≡ true →
    option_map (λ (c : Cand). c.input)
    (find (λ (c : Cand). bits_eq c.state (state_at r.circuit (run_of r.runs run) cycle)) (put_own (own_at r present run cycle) cands)) ≡ Some x
own_found r present cands run cycle x partly there shows reached =
    let own : Before = recorded_at r run cycle in
    let is : own_at r present run cycle ≡ Some own =
    ap (λ (b : Bool). if b then None else (if goes_to r present run cycle then Some own else None))
    (ne_eqb (length present.free) 0 (λ none. partly (nil_from_length present.free none)))
    ∙ ap (λ (b : Bool). if b then Some own else None) (goes_own r present run cycle x there shows) in
    let f = cand_for (λ (c : Cand). c ≡ c) cands own.state (each_same cands) reached in
    subst (λ (o : Option Before). option_map (λ (c : Cand). c.input) (find (λ (c : Cand). bits_eq c.state own.state) (put_own o cands)) ≡ Some x) (sym is)
    (found_own own cands f.cand f.first ∙ ap Some (get_or_from_slice_get (run_of r.runs run) cycle x [] there))

takes_own : (r : Recording) (now : Dump) (stored : List Bool) (listing : Listing) (hit : Option Hit) →
    ((k : Hit) → hit ≡ Some k → HasItsDump r k) → option_map line_of hit ≡ hit_of (crash_of r now) listing.cands →
    TakesRecorded r.circuit r.runs
    (step_of now stored (record { cands = put_own (own_input r now.state hit) listing.cands; end = listing.end }) hit)
takes_own r now stored listing None dump line = record { takes = λ h x partly is there shows. cc }
takes_own r now stored listing (Some k) dump line =
    let step = step_of now stored (record { cands = put_own (own_input r now.state (Some k)) listing.cands; end = listing.end }) (Some k) in
    let at = hit_at (crash_of r now) (step_of now stored listing (Some k)) (line_of k) line in
    let Takes : HitLine → Type 0 =
    λ h. (x : List Bool) → slice_get (run_of r.runs h.run) h.cycle ≡ Some x → Shows now.state (next r.circuit h.state x) → input_for step h.state ≡ Some x in
    record {
      takes = λ h x partly is there shows.
          let same : line_of k ≡ h = cc in
          let own : Takes (line_of k) =
          λ y t s.
          subst (λ (u : List Bool). option_map (λ (c : Cand). c.input) (find (λ (c : Cand). bits_eq c.state u)
          (put_own (own_at r now.state k.run k.cycle) listing.cands)) ≡ Some y) at.state
          (own_found r now.state listing.cands k.run k.cycle y partly t
          (subst (λ (u : List Bool). Shows now.state (next r.circuit u y)) (sym at.state) s)
          (subst (λ (u : List Bool). is_listed (listed listing.cands) u ≡ true) (sym at.state) at.reached)) in
          subst Takes same own x there shows;
    }

-- ---- what was looked back

pub hit_moments : (r : Recording) (now : Dump) (stored : List Bool) (listing : Listing) (hit : Option Hit) →
    option_map line_of hit ≡ hit_of (crash_of r now) listing.cands → IfSome hit (λ k. IsMoment r.runs (moment k.run k.cycle))
hit_moments r now stored listing None line = tt
hit_moments r now stored listing (Some k) line = (hit_at (crash_of r now) (step_of now stored listing (Some k)) (line_of k) line).run_cycle

pub looked_with : (r : Recording) (budgets : Budgets) (old new : PreimageState) (now : Dump) (stored : List Bool) (at : Option Moment)
    (listing after : Listing) (hit : Option Hit) (reach : SearchExtent) → IsRecording r → old.circuit ≡ r.circuit →
    HasLookedFrom r budgets old new now stored at listing hit reach → after.end ≡ listing.end →
    after.cands ≡ put_own (own_input r now.state hit) listing.cands → HasLookedFrom r budgets old new now stored at after hit reach
looked_with r budgets old new now stored at listing after hit reach sound circuits from ended cands =
    let own : Option Before = own_input r now.state hit in
    let back : HasLookedBack r budgets old new now stored from.known listing hit = from.back in
    record {
      known = from.known;
      answer = from.answer;
      answered = subst (λ (e : ListEnd). IsAnswered r now stored budgets.conflicts at e from.known from.answer) (sym ended) from.answered;
      reach_is = from.reach_is;
      back = record {
        listed = listed_with old new now.state stored now.older from.known budgets.candidates budgets.conflicts listing after own back.listed
            (subst (λ (c : Circuit). IfSome own (λ o. LeadsInto c o.state o.input now.state)) (sym circuits)
            (own_leads r now.state hit sound (hit_moments r now stored listing hit back.line))) ended cands;
        calls = back.calls;
        line = back.line ∙ (hit_own (crash_of r now) own listing.cands ∙ ap (hit_of (crash_of r now)) (sym cands));
        dump = back.dump;
      };
    }

pub takes_with : (r : Recording) (budgets : Budgets) (old new : PreimageState) (now : Dump) (stored : List Bool) (at : Option Moment)
    (listing after : Listing) (hit : Option Hit) (reach : SearchExtent) → HasLookedFrom r budgets old new now stored at listing hit reach →
    after.end ≡ listing.end → after.cands ≡ put_own (own_input r now.state hit) listing.cands →
    TakesRecorded r.circuit r.runs (step_of now stored after hit)
takes_with r budgets old new now stored at listing after hit reach from ended cands =
    let same : record { cands = put_own (own_input r now.state hit) listing.cands; end = listing.end } ≡ after =
    λ i. record { cands = (sym cands) i; end = (sym ended) i } in
    subst (λ (l : Listing). TakesRecorded r.circuit r.runs (step_of now stored l hit)) same
    (takes_own r now stored listing hit from.back.dump from.back.line)

-- ---- where the trace ends

ends_listed : (crash : Crash) (step : Step) (steps : List Step) (hit : HitLine) (x : List Bool) → step.hit ≡ Some hit → input_for step hit.state ≡ Some x →
    trace_end crash (step ∷ steps) ≡ whole (next crash.circuit hit.state x)
ends_listed crash step steps hit x e is =
    ap (λ (o : Option HitLine). end_or crash.dump.state (option_and_then (λ (s : List Bool). option_map (next crash.circuit s) (input_for step s))
    (option_map (λ (h : HitLine). h.state) o))) e
    ∙ ap (λ (o : Option (List Bool)). end_or crash.dump.state (option_map (next crash.circuit hit.state) o)) is

ends_by : (crash : Crash) (steps : List Step) → Each (IsRightStep crash) steps → Each (TakesRecorded crash.circuit crash.runs) steps →
    (first : Step) (hit : HitLine) (x : List Bool) → slice_get steps 0 ≡ Some first → (first.present.free ≡ [] → ⊥) → first.hit ≡ Some hit →
    slice_get (run_of crash.runs hit.run) hit.cycle ≡ Some x → Shows first.present (next crash.circuit hit.state x) →
    trace_end crash steps ≡ whole (state_at crash.circuit (run_of crash.runs hit.run) (hit.cycle + 1))
ends_by crash [] right takes first hit x at partly is there shows = cc
ends_by crash (step ∷ steps) right takes first hit x at partly is there shows =
    let c : Circuit = crash.circuit in
    let line : Run = run_of crash.runs hit.run in
    let same : first ≡ step = cc in
    let hit_is : step.hit ≡ Some hit = subst (λ (s : Step). s.hit ≡ Some hit) same is in
    let before : state_at c line hit.cycle ≡ hit.state = (hit_at crash step hit (sym hit_is ∙ right.0.hit)).state in
    let input : input_for step hit.state ≡ Some x =
    takes.0.takes hit x (subst (λ (s : Step). s.present.free ≡ [] → ⊥) same partly) hit_is there
    (subst (λ (s : Step). Shows s.present (next c hit.state x)) same shows) in
    ends_listed crash step steps hit x hit_is input
    ∙ ap whole (ap (λ (s : List Bool). next c s x) (sym before) ∙ led_on c line hit.cycle x there)

pub ends_as_recorded : TracesEndAsRecorded
ends_as_recorded crash r good takes =
    ends_by crash r.steps (recursion_from_All (IsRightStep crash) r.steps good.steps)
    (recursion_from_All (TakesRecorded crash.circuit crash.runs) r.steps takes)

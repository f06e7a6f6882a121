-- A good report whose log is right is valid.
use Rattle.std.proofs.Common.{◌≡◌, ◌≢◌, ℕ, suc, zero, ◌<◌, ◌≤◌, ◌+◌, ◌-◌, Bool, true, false, List, [], ◌∷◌, ◌++◌, map, length, get_or, refl, ap}
use Rattle.std.proofs.Common.{subst, sym, ◌∙◌, Option, Some, None, arith}
use Rattle.std.specs.Prelude.{slice_get, option_map, not, ◌&&◌, ◌||◌, ◌==◌, nat_le, if◌then◌else◌}
use Rattle.std.specs.Option.{IsSomeAnd, option_to_list}
use Rattle.std.specs.List.{AllByRecursion as Each, range_with_len, last_or}
use Rattle.std.specs.Ordering.{is_lt, bool_cmp}
use Rattle.std.specs.Cmp.Lexicographic.{slice_cmp, pointwise_decides}
use Rattle.std.proofs.lemmas.Bool.{false≢true, and_from, or_right, not_from_false, lt-ltb, le-leb, eq-eqb, ne_eqb}
use Rattle.std.proofs.lemmas.List.{length-map}
use Rattle.std.proofs.lemmas.List.Elements.{recursion_from_All}
use Rattle.bs_bits.specs.Bits.{bits_eq}
use Rattle.bs_net.proofs.NextLemmas.{bits_eq_Decides}
use Rattle.bs_scan.specs.declared.seen.Seen.{Seen}
use Rattle.bs_scan.specs.Seen.{is_shown}
use Rattle.bs_scan.proofs.SeenLemmas.{seen_same, shown_where}
use Rattle.bs_net.specs.Circuit.{all_bits}
use Rattle.bs_scan.specs.Moments.{is_listed}
use Rattle.bs_scan.specs.Choice.{depth_of}
use Rattle.bs_scan.specs.Present.{Present, present_in}
use Rattle.bs_scan.specs.Signature.{signature, may_hold, agrees, some_input_shows, predecessors}
use Rattle.bs_scan.proofs.SignatureLemmas.{bits_same}
use Rattle.bs_log.specs.declared.line.Line.{Line}
use Rattle.bs_log.specs.declared.why.Why.{Why}
use Rattle.bs_log.specs.FirstRefused.{first_refused}
use Rattle.bs_log.specs.Shown.{Basis}
use Rattle.bs_log.proofs.FirstRefusals.{not_refused}
use Rattle.bs_report.specs.declared.part.Part.{Part}
use Rattle.bs_report.specs.declared.part.Part.TheVariants as parts
use Rattle.bs_report.specs.declared.report.Cand.{Cand}
use Rattle.bs_report.specs.declared.report.HitLine.{HitLine}
use Rattle.bs_report.specs.declared.report.ListEnd.{ListEnd}
use Rattle.bs_report.specs.declared.report.ListEnd.TheVariants.{Finished, Candidates, Conflicts}
use Rattle.bs_report.specs.declared.report.Step.{Step}
use Rattle.bs_report.specs.declared.report.Stop.{Stop}
use Rattle.bs_report.specs.declared.report.Stop.TheVariants as stops
use Rattle.bs_report.specs.declared.report.Budgets.{Budgets}
use Rattle.bs_report.specs.declared.report.Report.{Report}
use Rattle.bs_scan.specs.Crash.{Crash, IsCrash}
use Rattle.bs_report.specs.Step.{stored_of, listed, asked_of, hit_of, Ascend, IsRightStep, IsRightEnd}
use Rattle.bs_report.specs.Chain.{present_of, present_of_hit, present_after, last_present, Follow}
use Rattle.bs_report.specs.Stop.{StopsFor, LastIs, IsFinished}
use Rattle.bs_report.specs.Trace.{trace_end, trace_states, trace_inputs}
use Rattle.bs_report.specs.Good.{IsGood}
use Rattle.bs_report.specs.Valid.{unless, all_bits_eq, due_at, has_state, has_stored, is_right_cand, is_right_count, same_hit, step_parts, log_parts}
use Rattle.bs_report.specs.Valid.{each_step, parts_of, first_of_all, first_failing, is_cause, cause_of, cause_at, cause_after, cause_of_end}
use Rattle.bs_report.specs.Valid.{stop_number, is_right_trace, cand_at, no_cand, lines_at, HaveBefores, NamesBefores, IsLogged, IsValid}
use Rattle.bs_report.specs.ValidLaw.{GoodIsValid}
use Rattle.bs_report.proofs.ProgressLemmas.{all_at, hit_at}
use Rattle.bs_report.proofs.ExecutionLemmas.{leads_next, led_widths}
use Rattle.bs_report.proofs.GoodLemmas.{listed_member, filter_member}
use Rattle.bs_report.proofs.ValidLemmas.{IsRight, StepIsRight, AllIsRight, last_step, state_at_place}

-- ---- the parts

none_there : (all : List (Option Part)) → Each IsRight all → first_of_all all ≡ None
none_there [] h = refl
none_there (None ∷ others) h = none_there others h.1
none_there (Some part ∷ others) h = let e : Some part ≡ None = h.0 in cc

each_joined : {X : Type 0} (P : X → Type 0) (xs ys : List X) → Each P xs → Each P ys → Each P (xs ++ ys)
each_joined P [] ys hx hy = hy
each_joined P (x ∷ xs) ys hx hy = (hx.0, each_joined P xs ys hx.1 hy)

right : (b : Bool) (part : Part) → b ≡ true → unless b part ≡ None
right true part e = refl
right false part e = absurd (false≢true e)

all_in_range : (test : ℕ → Bool) (part : ℕ → Part) (a n : ℕ) → ((j : ℕ) → a ≤ j → j < a + n → test j ≡ true) →
    Each IsRight (map (λ j. unless (test j) (part j)) (range_with_len a n))
all_in_range test part a zero h = tt
all_in_range test part a (suc n) h =
    (right (test a) (part a) (h a (omega arith) (omega arith)), all_in_range test part (a + 1) n (λ j low high. h j (omega (arith, low)) (omega (arith, high))))

each_rule : (rule : ℕ → Step → List (Option Part)) (i : ℕ) (steps : List Step) →
    ((k j : ℕ) (step : Step) → slice_get steps k ≡ Some step → j ≡ i + k → Each IsRight (rule j step)) → Each IsRight (each_step rule i steps)
each_rule rule i [] h = tt
each_rule rule i (s ∷ ss) h =
    each_joined IsRight (rule i s) (each_step rule (i + 1) ss) (h 0 i s refl (omega arith))
    (each_rule rule (i + 1) ss (λ k j step e n. h (suc k) j step e (omega (arith, n))))

parts_of_step : (crash : Crash) (r : Report) (i : ℕ) (step : Step) → StepIsRight crash r i step → Each IsRight (step_parts crash r i step)
parts_of_step crash r i step h = (
  right (has_state (due_at crash r.steps i) step.present) (parts.Present (i + 1)) h.state,
  (right (has_stored (due_at crash r.steps i) (stored_of step)) (parts.Stored (i + 1)) h.stored, rest),
)
  where
    cands : List (Option Part)
    cands = map (λ j. unless (is_right_cand crash r.budgets step j) (parts.Candidate (i + 1) (j + 1))) (range_with_len 0 (length step.cands))

    ends : List (Option Part)
    ends = unless (is_right_count r.budgets step.end (length step.cands)) (parts.Listed (i + 1))
        ∷ unless (same_hit step.hit (hit_of crash step.cands)) (parts.Hit (i + 1)) ∷ []

    ends_right : Each IsRight ends
    ends_right = (
      right (is_right_count r.budgets step.end (length step.cands)) (parts.Listed (i + 1)) h.count,
      (right (same_hit step.hit (hit_of crash step.cands)) (parts.Hit (i + 1)) h.hit, tt),
    )

    rest : Each IsRight (cands ++ ends)
    rest =
        each_joined IsRight cands ends
        (all_in_range (λ j. is_right_cand crash r.budgets step j) (λ j. parts.Candidate (i + 1) (j + 1)) 0 (length step.cands)
        (λ j low high. h.cands j (omega (arith, high))))
        ends_right

no_part : (o : Option (ℕ × Why)) → o ≡ None → option_map (λ (x : ℕ × Why). parts.Log x.0 x.1) o ≡ None
no_part o e = ap (option_map (λ (x : ℕ × Why). parts.Log x.0 x.1)) e

pub valid_of_right : (crash : Crash) (basis : Basis) (r : Report) → AllIsRight crash basis r → IsValid crash basis r
unfolding first_failing
valid_of_right crash basis r h =
    none_there (parts_of crash basis r) (
      right (r.depth == depth_of crash.choice) parts.Format h.format,
      each_joined IsRight (each_step (step_parts crash r) 0 r.steps) others steps_right
          others_right,
    )
  where
    others : List (Option Part)
    others =
        unless (nat_le (length r.steps) r.budgets.steps && is_cause r.stop (cause_of crash r.budgets r.steps)) parts.Stop ∷
        unless (is_right_trace (trace_end crash r.steps) r) parts.Trace ∷
        option_map (λ refused. parts.Log refused.0 refused.1) (first_refused basis.problem r.log) ∷
        each_step (log_parts basis r) 0 r.steps

    steps_right : Each IsRight (each_step (step_parts crash r) 0 r.steps)
    steps_right =
        each_rule (step_parts crash r) 0 r.steps
        (λ k j step e n. let place : k ≡ j = omega (arith, n) in
        subst (λ (j : ℕ). Each IsRight (step_parts crash r j step)) place (parts_of_step crash r k step (h.steps k step e)))

    logs_right : Each IsRight (each_step (log_parts basis r) 0 r.steps)
    logs_right =
        each_rule (log_parts basis r) 0 r.steps
        (λ k j step e n. let place : k ≡ j = omega (arith, n) in subst (λ (j : ℕ). Each IsRight (log_parts basis r j step)) place (h.logs k step e))

    others_right : Each IsRight others
    others_right = (
      right (nat_le (length r.steps) r.budgets.steps && is_cause r.stop (cause_of crash r.budgets r.steps)) parts.Stop (and_from _ _ h.few h.cause),
      (
        right (is_right_trace (trace_end crash r.steps) r) parts.Trace (and_from _ _ (and_from _ _ h.states h.free) h.inputs),
        (no_part (first_refused basis.problem r.log) h.log, logs_right),
      ),
    )

-- ---- the chain

due_of : (crash : Crash) (now : Option Present) (steps : List Step) → Follow crash now steps → (k : ℕ) (step : Step) → slice_get steps k ≡ Some step →
    get_or (now ∷ map (present_after crash) steps) k None ≡ Some (present_of step)
due_of crash now [] f k step e = cc
due_of crash now (s ∷ ss) f zero step e = let same : s ≡ step = cc in subst (λ (s : Step). now ≡ Some (present_of s)) same f.0
due_of crash now (s ∷ ss) f (suc k) step e = due_of crash (present_after crash s) ss f.1 k step e

all_same : (xs : List (List Bool)) → all_bits_eq xs xs ≡ true
all_same xs = (pointwise_decides bits_eq_Decides xs xs).1 refl

-- ---- a candidate

signature_where_listed : (crash : Crash) (step : Step) (s : List Bool) → is_listed (asked_of crash step) s ≡ true →
    bits_eq (signature crash.choice s) step.stored ≡ true
unfolding predecessors
signature_where_listed crash step s e =
    let q : List Bool → Bool = λ s. agrees crash.circuit crash.choice (stored_of step) s && some_input_shows crash.circuit s step.present in
    left (bits_eq (signature crash.choice s) step.stored) (may_hold crash.circuit crash.choice (depth_of crash.choice - 1) (option_to_list step.older) s)
    (left (agrees crash.circuit crash.choice (stored_of step) s) (some_input_shows crash.circuit s step.present)
    (filter_member q s (all_bits (length crash.circuit.flops)) (listed_member s (asked_of crash step) e)).0)
  where
    left : (a b : Bool) → (a && b) ≡ true → a ≡ true
    left true b e = refl
    left false b e = e

greater_at : (step : Step) → Ascend (listed step.cands) → (j : ℕ) → j < length step.cands →
    ((j == 0) || is_lt (slice_cmp bool_cmp (cand_at step (j - 1)).state (cand_at step j).state)) ≡ true
greater_at step asc zero lt = refl
greater_at step asc (suc k) lt =
    let before : k ≡ suc k - 1 = omega arith in
    let long : length (listed step.cands) ≡ length step.cands = length-map step.cands (λ (c : Cand). c.state) in
    or_right (suc k == 0) _
    (subst (λ (i : ℕ). is_lt (slice_cmp bool_cmp (cand_at step i).state (cand_at step (suc k)).state) ≡ true) before
    (ap (λ (s : List Bool). is_lt (slice_cmp bool_cmp s (cand_at step (suc k)).state)) (sym (state_at_place step.cands k [] (omega (arith, lt, long))))
    ∙ (ap (λ (s : List Bool). is_lt (slice_cmp bool_cmp (get_or (listed step.cands) k []) s))
    (sym (state_at_place step.cands (suc k) [] (omega (arith, lt, long))))
    ∙ ap is_lt (asc k (suc k) [] (omega arith) (omega (arith, lt, long))))))

cand_right : (crash : Crash) → IsCrash crash → (budgets : Budgets) (step : Step) → IsRightStep crash step →
    HaveBefores crash.circuit crash.choice step.older step.cands →
    length step.cands ≤ budgets.candidates → (j : ℕ) → j < length step.cands → is_right_cand crash budgets step j ≡ true
cand_right crash is budgets step h befores few j lt =
    let cand = h.candidates j no_cand lt in
    let s : List Bool = (cand_at step j).state in
    let x : List Bool = (cand_at step j).input in
    let widths = led_widths crash.circuit s x cand.leads.there cand.leads.leads in
    and_from _ _
    (and_from _ _
    (and_from _ _
    (and_from _ _
    (and_from _ _
    (and_from _ _ (greater_at step h.ascend j lt) (eq-eqb _ _ widths.0))
    (eq-eqb _ _ widths.1))
    (signature_where_listed crash step s cand.predecessor))
    (ap (is_shown step.present) (leads_next crash.circuit s x cand.leads.there is.checked cand.leads.leads)
    ∙ shown_where step.present cand.leads.there cand.leads.shown))
    (lt-ltb j budgets.candidates (omega (arith, lt, few))))
    (befores j no_cand lt)

-- ---- the end of a list and its hit

within_budget : (asked : List (List Bool)) (k b : ℕ) (lines : List Line) (cands : List Cand) (e : ListEnd) → IsRightEnd asked k b lines cands e →
    length cands ≤ k
within_budget asked k b lines cands (Finished id) h = omega (arith, h.1)
within_budget asked k b lines cands Candidates h = omega (arith, h)
within_budget asked k b lines cands Conflicts h = omega (arith, h.0)

other_count : (a b : ℕ) → a < b → not (a == b) ≡ true
other_count a b lt = not_from_false (a == b) (ne_eqb a b (λ e. omega (arith, e, lt)))

count_right : (asked : List (List Bool)) (budgets : Budgets) (lines : List Line) (cands : List Cand) (e : ListEnd) →
    IsRightEnd asked budgets.candidates budgets.conflicts lines cands e → is_right_count budgets e (length cands) ≡ true
count_right asked budgets lines cands (Finished id) h = other_count (length cands) budgets.candidates h.1
count_right asked budgets lines cands Candidates h = eq-eqb (length cands) budgets.candidates h
count_right asked budgets lines cands Conflicts h = other_count (length cands) budgets.candidates h.0

same_self : (o : Option HitLine) → same_hit o o ≡ true
same_self None = refl
same_self (Some a) = and_from _ _ (and_from _ _ (eq-eqb a.run a.run refl) (eq-eqb a.cycle a.cycle refl)) (bits_same a.state)

step_right : (crash : Crash) (r : Report) → IsCrash crash → IsGood crash r → NamesBefores crash r → (k : ℕ) (step : Step) → slice_get r.steps k ≡ Some step →
    StepIsRight crash r k step
step_right crash r is good names k step e =
    let h = all_at (IsRightStep crash) r.steps k step good.steps e in
    let due : due_at crash r.steps k ≡ Some (present_of step) = due_of crash (Some (present_in crash.dump)) r.steps good.chain.follow k step e in
    let few = within_budget (asked_of crash step) r.budgets.candidates r.budgets.conflicts (lines_at r k) step.cands step.end (good.ends k step e) in
    record {
      state = ap (λ (o : Option Present). has_state o step.present) due ∙ seen_same step.present step.present refl;
      stored = ap (λ (o : Option Present). has_stored o (stored_of step)) due ∙ all_same (stored_of step);
      cands = cand_right crash is r.budgets step h (all_at (λ
          (step : Step). HaveBefores crash.circuit crash.choice step.older step.cands) r.steps k step names.befores e) few;
      count = count_right (asked_of crash step) r.budgets (lines_at r k) step.cands step.end (good.ends k step e);
      hit = ap (λ (o : Option HitLine). same_hit o (hit_of crash step.cands)) h.hit ∙ same_self (hit_of crash step.cands);
    }

-- ---- the stop

record Last (crash : Crash) (steps : List Step) (P : Step → Type 0) : Type 0 where
  last : Step
  is : last_or None steps ≡ Some last
  there : P last
  right : IsRightStep crash last
  present : last_present crash (Some (present_in crash.dump)) steps ≡ present_after crash last

last_each : (P : Step → Type 0) (s : Step) (ss : List Step) → P s → Each P ss → IsSomeAnd (last_or (Some s) ss) P
last_each P s [] h hs = h
last_each P s (t ∷ ts) h hs = last_each P t ts hs.0 hs.1

last_of : (crash : Crash) (steps : List Step) (P : Step → Type 0) → LastIs steps P → Each (IsRightStep crash) steps → Last crash steps P
last_of crash [] P h each = absurd h
last_of crash (s ∷ ss) P h each =
    let l = last_step crash (Some (present_in crash.dump)) s ss in
    record {
      last = l.last;
      is = l.is;
      there = subst (λ (o : Option Step). IsSomeAnd o P) l.is h;
      right = subst (λ (o : Option Step). IsSomeAnd o (IsRightStep crash)) l.is (last_each (IsRightStep crash) s ss each.0 each.1);
      present = l.present;
    }

-- the cause behind a last step without a hit
cause_unhit : (crash : Crash) (budgets : Budgets) (steps : List Step) (P : Step → Type 0) (l : Last crash steps P) → l.last.hit ≡ None →
    cause_of crash budgets steps ≡ Some (cause_of_end l.last l.last.end)
cause_unhit crash budgets steps P l none =
    ap (cause_after budgets steps) (l.present ∙ ap (option_map (present_of_hit crash)) none)
    ∙ ap (option_map (λ (step : Step). cause_of_end step step.end)) l.is

some_at : {X : Type 0} (x : X) (xs : List X) → (length (x ∷ xs) == 0) ≡ false
some_at x xs = ne_eqb (length (x ∷ xs)) 0 (λ e. omega (arith, e))

empty_or_not : (step : Step) (e : ListEnd) → IsFinished e →
    (step.cands ≢ [] → cause_of_end step e ≡ stops.Nohit) × (step.cands ≡ [] → cause_of_end step e ≡ stops.Empty)
empty_or_not step (Finished id) f = (by step.cands, λ e. ap (λ (cands : List Cand). if length cands == 0 then stops.Empty else stops.Nohit) e)
  where
    by : (cands : List Cand) → cands ≢ [] → (if length cands == 0 then stops.Empty else stops.Nohit) ≡ stops.Nohit
    by [] some = absurd (some refl)
    by (c ∷ cs) some = ap (λ (b : Bool). if b then stops.Empty else stops.Nohit) (some_at c cs)
empty_or_not step Candidates f = absurd f
empty_or_not step Conflicts f = absurd f

-- nothing is hit from an empty list
unhit_if_empty : (crash : Crash) (step : Step) → IsRightStep crash step → step.cands ≡ [] → step.hit ≡ None
unhit_if_empty crash step right none = by step.hit refl
  where
    by : (o : Option HitLine) → step.hit ≡ o → step.hit ≡ None
    by None e = e
    by (Some hit) e =
        absurd (false≢true (sym (ap (λ (cands : List Cand). is_listed (listed cands) hit.state) none) ∙ (hit_at crash step hit (sym e ∙ right.hit)).reached))

stands_at : (crash : Crash) (budgets : Budgets) (steps : List Step) (P : List (List Bool) → Type 0) (stop : Stop) (o : Option Present) →
    IsSomeAnd o (λ (now : Present). P now.stored) →
    ((stored : List (List Bool)) → P stored → cause_at budgets (length steps) stored ≡ Some stop) → cause_after budgets steps o ≡ Some stop
stands_at crash budgets steps P stop None h f = absurd h
stands_at crash budgets steps P stop (Some now) h f = f now.stored h

by_length : (budgets : Budgets) (n : ℕ) → n ≡ budgets.steps → (stored : List (List Bool)) → stored ≢ [] → cause_at budgets n stored ≡ Some stops.Length
by_length budgets n e [] some = absurd (some refl)
by_length budgets n e (t ∷ ts) some =
    ap (λ (b : Bool). if b then Some stops.Reset else (if n == budgets.steps then Some stops.Length else None)) (some_at t ts)
    ∙ ap (λ (b : Bool). if b then Some stops.Length else None) (eq-eqb n budgets.steps e)

abbrev IsUnhit : Step → Type 0
IsUnhit step = (step.hit ≡ None) × IsFinished step.end × (step.cands ≢ [])

pub cause_due : (crash : Crash) (budgets : Budgets) (steps : List Step) → Each (IsRightStep crash) steps → (stop : Stop) → StopsFor crash budgets steps stop →
    cause_of crash budgets steps ≡ Some stop
cause_due crash budgets steps each stops.Reset h =
    stands_at crash budgets steps (λ stored. stored ≡ []) stops.Reset (last_present crash (Some (present_in crash.dump)) steps) h
    (λ stored e. ap (cause_at budgets (length steps)) e)
cause_due crash budgets steps each stops.Length h =
    stands_at crash budgets steps (λ stored. stored ≢ []) stops.Length (last_present crash (Some (present_in crash.dump)) steps) h.1
    (by_length budgets (length steps) h.0)
cause_due crash budgets steps each stops.Nohit h =
    let l = last_of crash steps IsUnhit h each in
    cause_unhit crash budgets steps IsUnhit l l.there.0 ∙ ap Some ((empty_or_not l.last l.last.end l.there.1).0 l.there.2)
cause_due crash budgets steps each stops.Empty h =
    let l = last_of crash steps (λ (step : Step). IsFinished step.end × (step.cands ≡ [])) h each in
    cause_unhit crash budgets steps _ l (unhit_if_empty crash l.last l.right l.there.1) ∙ ap Some ((empty_or_not l.last l.last.end l.there.0).1 l.there.1)
cause_due crash budgets steps each stops.Candidates h =
    let l = last_of crash steps (λ (step : Step). (step.hit ≡ None) × (step.end ≡ Candidates)) h each in
    cause_unhit crash budgets steps _ l l.there.0 ∙ ap (λ (e : ListEnd). Some (cause_of_end l.last e)) l.there.1
cause_due crash budgets steps each stops.Conflicts h =
    let l = last_of crash steps (λ (step : Step). (step.hit ≡ None) × (step.end ≡ Conflicts)) h each in
    cause_unhit crash budgets steps _ l l.there.0 ∙ ap (λ (e : ListEnd). Some (cause_of_end l.last e)) l.there.1

is_the_cause : (stop : Stop) (o : Option Stop) → o ≡ Some stop → is_cause stop o ≡ true
is_the_cause stop o e = ap (is_cause stop) e ∙ eq-eqb (stop_number stop) (stop_number stop) refl

-- ---- the whole report

log_right : (basis : Basis) (r : Report) → IsLogged basis r → (k : ℕ) (step : Step) → slice_get r.steps k ≡ Some step → Each IsRight (log_parts basis r k step)
log_right basis r logged k step e = (right _ (parts.Blocks (k + 1)) (logged.blocks k step e), (right _ (parts.Ended (k + 1)) (logged.finish k step e), tt))

pub good_is_valid : GoodIsValid
good_is_valid crash basis r is good names logged =
    valid_of_right crash basis r
    (record {
      format = eq-eqb r.depth (depth_of crash.choice) names.depth;
      steps = step_right crash r is good names;
      few = le-leb (length r.steps) r.budgets.steps good.chain.few;
      cause = is_the_cause r.stop (cause_of crash r.budgets r.steps)
          (cause_due crash r.budgets r.steps (recursion_from_All (IsRightStep crash) r.steps good.steps) r.stop good.stop);
      states = ap (λ (xs : List (List Bool)). all_bits_eq xs (trace_states (trace_end crash r.steps).bits r.steps)) good.trace.states
          ∙ all_same (trace_states (trace_end crash r.steps).bits r.steps);
      free = ap (λ (s : List Bool). bits_eq s (trace_end crash r.steps).free) good.trace.free ∙ bits_same (trace_end crash r.steps).free;
      inputs = ap (λ (xs : List (List Bool)). all_bits_eq xs (trace_inputs r.steps)) good.trace.inputs ∙ all_same (trace_inputs r.steps);
      log = not_refused basis.problem r.log logged.accepted;
      logs = log_right basis r logged;
    })

-- A trace ends an execution from reset.
use Rattle.std.proofs.Common.{◌≡◌, ℕ, suc, zero, ◌<◌, ◌+◌, Bool, true, false, cond, List, [], ◌∷◌, ◌++◌, map, reverse, take, length, get_or, refl, ap}
use Rattle.std.proofs.Common.{subst, sym, ◌∙◌, ◌⊎◌, inl, inr, ⊎_elim, Option, Some, None, arith, add-one, append_assoc}
use Rattle.std.specs.Prelude.{option_map, option_and_then, filter_map, find, ◌||◌}
use Rattle.std.specs.List.{AllByRecursion as Each, range_with_len, cons_option, last_or}
use Rattle.std.proofs.lemmas.Bool.{true≢false, false≢true}
use Rattle.std.proofs.lemmas.List.{length-map, length-append, length-take-le, get_or-take, get_or_append_left, get_or_at, reverse-append, append-nil}
use Rattle.std.proofs.lemmas.List.Elements.{recursion_from_All}
use Rattle.bs_bits.specs.Bits.{bits_eq}
use Rattle.bs_scan.specs.declared.seen.Seen.{Seen}
use Rattle.bs_scan.specs.Seen.{whole, Shows}
use Rattle.bs_net.specs.declared.net.Flop.{Flop}
use Rattle.bs_net.specs.declared.net.NetId.{NetId}
use Rattle.bs_net.specs.Circuit.{Circuit, Leads, next, state_nets, bit_at}
use Rattle.bs_net.specs.Order.{IsChecked}
use Rattle.bs_net.proofs.NextLemmas.{next_is_led}
use Rattle.bs_scan.specs.declared.moment.Moment.{Moment}
use Rattle.bs_scan.specs.Moments.{Run, moment, IsMoment, run_of, state_at, state_of, is_listed}
use Rattle.bs_scan.proofs.SignatureLemmas.{bits_same, bits_same_is}
use Rattle.bs_report.specs.declared.report.Cand.{Cand}
use Rattle.bs_report.specs.declared.report.HitLine.{HitLine}
use Rattle.bs_report.specs.declared.report.Step.{Step}
use Rattle.bs_report.specs.declared.report.Report.{Report}
use Rattle.bs_scan.specs.Crash.{Crash, IsCrash}
use Rattle.bs_report.specs.Step.{stored_of, listed, IsRightStep, IsCandidate}
use Rattle.bs_scan.specs.Present.{Present, LeadsInto, present_in}
use Rattle.bs_report.specs.Chain.{present_of, present_of_hit, present_after, Follow}
use Rattle.bs_report.specs.Trace.{hit_state, input_for, led_to, end_or, trace_end}
use Rattle.bs_report.specs.Good.{IsGood}
use Rattle.bs_report.specs.GoodLaw.{continued, EndsExecution, TracesEndExecutions, WholeDumpsEndTraces, WholeStatesAreLedTo}
use Rattle.bs_report.proofs.ProgressLemmas.{hit_at}

-- ---- executions

-- the states through which inputs lead
abbrev visited : Circuit → List Bool → Run → List (List Bool)
visited c s [] = s ∷ []
visited c s (x ∷ xs) = s ∷ visited c (next c s x) xs

-- the state into which inputs lead
abbrev final : Circuit → List Bool → Run → List Bool
final c s [] = s
final c s (x ∷ xs) = final c (next c s x) xs

-- a state rests on the inputs before it alone
state_rests : (c : Circuit) (a b : Run) (k : ℕ) → ((j : ℕ) → j < k → get_or a j [] ≡ get_or b j []) → state_at c a k ≡ state_at c b k
unfolding state_at
state_rests c a b zero h = refl
state_rests c a b (suc k) h =
    let before : state_at c a k ≡ state_at c b k = state_rests c a b k (λ j lt. h j (omega arith)) in
    ap (λ (s : List Bool). next c s (get_or a k [])) before ∙ ap (next c (state_at c b k)) (h k (omega arith))

one_more : (c : Circuit) (before xs : Run) (x s : List Bool) → state_at c (before ++ x ∷ xs) (length before) ≡ s →
    state_at c (before ++ x ∷ xs) (suc (length before)) ≡ next c s x
unfolding state_at
one_more c before xs x s e =
    ap (λ (s : List Bool). next c s (get_or (before ++ x ∷ xs) (length before) [])) e ∙ ap (next c s) (get_or_at before x xs [] (length before) refl)

longer : (before : Run) (x : List Bool) → length (before ++ x ∷ []) ≡ length before + 1
longer before x = length-append before (x ∷ [])

moved : (before xs : Run) (x : List Bool) → (before ++ x ∷ []) ++ xs ≡ before ++ x ∷ xs
moved before xs x = append_assoc before (x ∷ []) xs

pub visits : (c : Circuit) (before xs : Run) (s : List Bool) → state_at c (before ++ xs) (length before) ≡ s →
    map (state_at c (before ++ xs)) (range_with_len (length before) (suc (length xs))) ≡ visited c s xs
visits c before [] s e = ap (λ (s : List Bool). s ∷ []) e
visits c before (x ∷ xs) s e =
    let here : state_at c ((before ++ x ∷ []) ++ xs) (length (before ++ x ∷ [])) ≡ next c s x =
    rw (moved before xs x, longer before x, add-one) (one_more c before xs x s e) in
    let rest : map (state_at c (before ++ x ∷ xs)) (range_with_len (length before + 1) (suc (length xs))) ≡ visited c (next c s x) xs =
    subst (λ (n : ℕ). map (state_at c (before ++ x ∷ xs)) (range_with_len n (suc (length xs))) ≡ visited c (next c s x) xs) (longer before x)
    (subst (λ (run : Run). map (state_at c run) (range_with_len (length (before ++ x ∷ [])) (suc (length xs))) ≡ visited c (next c s x) xs) (moved before xs x)
    (visits c (before ++ x ∷ []) xs (next c s x) here)) in
    ap (λ (s : List Bool). s ∷ map (state_at c (before ++ x ∷ xs)) (range_with_len (length before + 1) (suc (length xs)))) e ∙ ap (λ l. s ∷ l) rest

pub ends_at : (c : Circuit) (before xs : Run) (s : List Bool) → state_at c (before ++ xs) (length before) ≡ s →
    state_at c (before ++ xs) (length before + length xs) ≡ final c s xs
ends_at c before [] s e = let same : length before + 0 ≡ length before = omega arith in ap (state_at c (before ++ [])) same ∙ e
ends_at c before (x ∷ xs) s e =
    let here : state_at c ((before ++ x ∷ []) ++ xs) (length (before ++ x ∷ [])) ≡ next c s x =
    rw (moved before xs x, longer before x, add-one) (one_more c before xs x s e) in
    let place : length before + suc (length xs) ≡ length (before ++ x ∷ []) + length xs = omega (arith, longer before x) in
    ap (state_at c (before ++ x ∷ xs)) place
    ∙ (ap (λ (run : Run). state_at c run (length (before ++ x ∷ []) + length xs)) (sym (moved before xs x)) ∙ ends_at c (before ++ x ∷ []) xs (next c s x) here)

-- ---- the input of a hit

pub led_widths : (c : Circuit) (s x p : List Bool) → Leads c s x p → (length s ≡ length c.flops) × (length x ≡ length c.inputs)
led_widths c s x p led = (
  ap length (sym led.1.state) ∙ (length-map (state_nets c) (λ (n : NetId). bit_at led.0 n.0) ∙ length-map c.flops (λ (f : Flop). f.q)),
  ap length (sym led.1.input) ∙ length-map c.inputs (λ (n : NetId). bit_at led.0 n.0),
)

pub leads_next : (c : Circuit) (s x p : List Bool) → IsChecked c → Leads c s x p → next c s x ≡ p
leads_next c s x p checked led =
    let widths = led_widths c s x p led in
    sym ((next_is_led c s x p checked widths.0 widths.1).0 led)

pub record CandFor (P : Cand → Type 0) (cands : List Cand) (s : List Bool) : Type 0 where
  pub cand : Cand
  pub first : find (λ (c : Cand). bits_eq c.state s) cands ≡ Some cand
  pub state : cand.state ≡ s
  pub right : P cand

pub cand_for : (P : Cand → Type 0) (cands : List Cand) (s : List Bool) → Each P cands → is_listed (listed cands) s ≡ true → CandFor P cands s
cand_for P [] s h e = absurd (false≢true e)
cand_for P (c ∷ cs) s h e = by (bits_eq c.state s) refl (bits_eq s c.state) refl e (cand_for P cs s h.1)
  where
    by : (a : Bool) → bits_eq c.state s ≡ a → (b : Bool) → bits_eq s c.state ≡ b → (b || is_listed (listed cs) s) ≡ true →
        (is_listed (listed cs) s ≡ true → CandFor P cs s) → CandFor P (c ∷ cs) s
    by true a b eb e rest = record {
      cand = c;
      first = ap (λ t. cond t (Some c) (find (λ (c : Cand). bits_eq c.state s) cs)) a;
      state =
          bits_same_is c.state s a;
      right = h.0;
    }
    by false a true eb e rest =
        let same : s ≡ c.state = bits_same_is s c.state eb in
        absurd (true≢false (sym (bits_same s) ∙ (ap (λ (t : List Bool). bits_eq t s) same ∙ a)))
    by false a false eb e rest =
        let f = rest e in
        record { cand = f.cand; first = ap (λ t. cond t (Some c) (find (λ (c : Cand). bits_eq c.state s) cs)) a ∙ f.first; state = f.state; right = f.right }

record InputFor (crash : Crash) (step : Step) (s : List Bool) : Type 0 where
  input : List Bool
  is : input_for step s ≡ Some input
  leads : Shows step.present (next crash.circuit s input)

input_of : (crash : Crash) → IsChecked crash.circuit → (step : Step) (hit : HitLine) → IsRightStep crash step → step.hit ≡ Some hit →
    InputFor crash step hit.state
input_of crash checked step hit right e =
    let reached : is_listed (listed step.cands) hit.state ≡ true = (hit_at crash step hit (sym e ∙ right.hit)).reached in
    let f = cand_for (IsCandidate crash.circuit crash.choice step.present (stored_of step)) step.cands hit.state
    (recursion_from_All (IsCandidate crash.circuit crash.choice step.present (stored_of step)) step.cands right.candidates) reached in
    record {
      input = f.cand.input;
      is = ap (option_map (λ (c : Cand). c.input)) f.first;
      leads =
          subst (Shows step.present)
          (sym (ap (λ (s : List Bool). next crash.circuit s f.cand.input) (sym f.state)
          ∙ leads_next crash.circuit f.cand.state f.cand.input f.right.leads.there checked f.right.leads.leads)) f.right.leads.shown;
    }

-- ---- the steps

-- the state of the last hit, or else this
abbrev last_state : List Bool → List Step → List Bool
last_state s [] = s
last_state s (step ∷ steps) = elim step.hit [ None ↦ s | Some hit ↦ last_state hit.state steps ]

abbrev hit_states : List Step → List (List Bool)
hit_states steps = filter_map hit_state steps

abbrev hit_inputs : List Step → Run
hit_inputs steps = filter_map (λ step. option_and_then (input_for step) (hit_state step)) steps

-- nothing follows a step without a hit
no_more : (crash : Crash) (steps : List Step) → Follow crash None steps → steps ≡ []
no_more crash [] f = refl
no_more crash (step ∷ steps) f = cc

reverse_first : {X : Type 0} (x : X) (xs ys : List X) → reverse (x ∷ xs) ++ ys ≡ reverse xs ++ x ∷ ys
reverse_first {X} x xs ys = ap (λ (l : List X). l ++ ys) (reverse-append (x ∷ []) xs) ∙ append_assoc (reverse xs) (x ∷ []) ys

-- what the steps give, where the trace goes on from a state
record Traced (crash : Crash) (steps : List Step) (s : List Bool) (tail : Run) : Type 0 where
  visits : visited crash.circuit (last_state s steps) (reverse (hit_inputs steps) ++ tail) ≡ reverse (hit_states steps) ++ visited crash.circuit s tail
  ends : final crash.circuit (last_state s steps) (reverse (hit_inputs steps) ++ tail) ≡ final crash.circuit s tail

-- the same over what the first step gives
make : (crash : Crash) (step : Step) (steps : List Step) (s : List Bool) (tail : Run) (last : List Bool) (inputs : Run) (states : List (List Bool)) →
    last_state s (step ∷ steps) ≡ last → hit_inputs (step ∷ steps) ≡ inputs → hit_states (step ∷ steps) ≡ states →
    visited crash.circuit last (reverse inputs ++ tail) ≡ reverse states ++ visited crash.circuit s tail →
    final crash.circuit last (reverse inputs ++ tail) ≡ final crash.circuit s tail → Traced crash (step ∷ steps) s tail
make crash step steps s tail last inputs states l i h v f =
    record {
      visits =
          ap (λ (b : List Bool). visited crash.circuit b (reverse (hit_inputs (step ∷ steps)) ++ tail)) l
          ∙ (ap (λ (xs : Run). visited crash.circuit last (reverse xs ++ tail)) i
          ∙ (v ∙ ap (λ (ss : List (List Bool)). reverse ss ++ visited crash.circuit s tail) (sym h)));
      ends =
          ap (λ (b : List Bool). final crash.circuit b (reverse (hit_inputs (step ∷ steps)) ++ tail)) l
          ∙ (ap (λ (xs : Run). final crash.circuit last (reverse xs ++ tail)) i ∙ f);
    }

last_by : (s : List Bool) (step : Step) (steps : List Step) (o : Option HitLine) → step.hit ≡ o →
    last_state s (step ∷ steps) ≡ elim o [ None ↦ s | Some hit ↦ last_state hit.state steps ]
last_by s step steps o e = ap (λ (o : Option HitLine). elim o [ None ↦ s | Some hit ↦ last_state hit.state steps ]) e

states_by : (step : Step) (steps : List Step) (o : Option HitLine) → step.hit ≡ o →
    hit_states (step ∷ steps) ≡ cons_option (option_map (λ (h : HitLine). h.state) o) (hit_states steps)
states_by step steps o e = ap (λ (o : Option HitLine). cons_option (option_map (λ (h : HitLine). h.state) o) (hit_states steps)) e

inputs_by : (step : Step) (steps : List Step) (o : Option HitLine) → step.hit ≡ o →
    hit_inputs (step ∷ steps) ≡ cons_option (option_and_then (input_for step) (option_map (λ (h : HitLine). h.state) o)) (hit_inputs steps)
inputs_by step steps o e = ap (λ (o : Option HitLine). cons_option (option_and_then (input_for step) (option_map (λ (h : HitLine). h.state) o))
    (hit_inputs steps)) e

-- a step without a hit, behind which nothing follows
unhit_traced : (crash : Crash) (step : Step) (steps : List Step) (s : List Bool) (tail : Run) → step.hit ≡ None → Follow crash None steps →
    Traced crash (step ∷ steps) s tail
unhit_traced crash step steps s tail e follow =
    let none = no_more crash steps follow in
    make crash step steps s tail s [] [] (last_by s step steps None e)
    (inputs_by step steps None e ∙ ap hit_inputs none) (states_by step steps None e ∙ ap hit_states none) refl refl

-- a step with a hit, which leads to a state from which the trace goes on
hit_traced : (crash : Crash) (step : Step) (steps : List Step) (hit : HitLine) (input s : List Bool) (tail : Run) → step.hit ≡ Some hit →
    input_for step hit.state ≡ Some input → next crash.circuit hit.state input ≡ s → Traced crash steps hit.state (input ∷ tail) →
    Traced crash (step ∷ steps) s tail
hit_traced crash step steps hit input s tail e is to_now before =
    make crash step steps s tail (last_state hit.state steps) (input ∷ hit_inputs steps) (hit.state ∷ hit_states steps)
    (last_by s step steps (Some hit) e)
    (inputs_by step steps (Some hit) e ∙ ap (λ (o : Option (List Bool)). cons_option o (hit_inputs steps)) is)
    (states_by step steps (Some hit) e)
    (ap (visited crash.circuit (last_state hit.state steps)) (reverse_first input (hit_inputs steps) tail)
    ∙ (before.visits
    ∙ (ap (λ (s : List Bool). reverse (hit_states steps) ++ hit.state ∷ visited crash.circuit s tail) to_now
    ∙ sym (reverse_first hit.state (hit_states steps) (visited crash.circuit s tail)))))
    (ap (final crash.circuit (last_state hit.state steps)) (reverse_first input (hit_inputs steps) tail)
    ∙ (before.ends ∙ ap (λ (s : List Bool). final crash.circuit s tail) to_now))

first_present : (crash : Crash) (now : Present) (step : Step) (steps : List Step) → Follow crash (Some now) (step ∷ steps) → step.present ≡ now.state
first_present crash now step steps f = let same : now ≡ present_of step = cc in sym (ap (λ (p : Present). p.state) same)

traced : (crash : Crash) → IsChecked crash.circuit → (steps : List Step) (now : Present) (s : List Bool) (tail : Run) → now.state ≡ whole s →
    Follow crash (Some now) steps → Each (IsRightStep crash) steps → Traced crash steps s tail
traced crash checked [] now s tail known f right = record { visits = refl; ends = refl }
traced crash checked (step ∷ steps) now s tail known f right =
    by step.hit refl f.1 (λ hit tail f. traced crash checked steps (present_of_hit crash hit) hit.state tail refl f right.1)
  where
    here : step.present ≡ whole s
    here = first_present crash now step steps f ∙ known

    by : (o : Option HitLine) → step.hit ≡ o → Follow crash (option_map (present_of_hit crash) o) steps →
        ((hit : HitLine) (tail : Run) → Follow crash (Some (present_of_hit crash hit)) steps → Traced crash steps hit.state tail) →
        Traced crash (step ∷ steps) s tail
    by None e follow rest = unhit_traced crash step steps s tail e follow
    by (Some hit) e follow rest =
        let x = input_of crash checked step hit right.0 e in
        let to_now : next crash.circuit hit.state x.input ≡ s = subst (λ (p : Seen). Shows p (next crash.circuit hit.state x.input)) here x.leads in
        hit_traced crash step steps hit x.input s tail e x.is to_now (rest hit (x.input ∷ tail) follow)

-- where a hit of the first step leads
led_by : (crash : Crash) (step : Step) (hit : HitLine) (input : List Bool) → step.hit ≡ Some hit → input_for step hit.state ≡ Some input →
    led_to crash.circuit step ≡ Some (next crash.circuit hit.state input)
led_by crash step hit input e is =
    ap (λ (o : Option HitLine). option_and_then (λ (s : List Bool). option_map (next crash.circuit s) (input_for step s))
    (option_map (λ (h : HitLine). h.state) o)) e
    ∙ ap (option_map (next crash.circuit hit.state)) is

ends_there : (crash : Crash) (step : Step) (steps : List Step) (hit : HitLine) (input : List Bool) → step.hit ≡ Some hit →
    input_for step hit.state ≡ Some input → trace_end crash (step ∷ steps) ≡ whole (next crash.circuit hit.state input)
ends_there crash step steps hit input e is = ap (end_or crash.dump.state) (led_by crash step hit input e is)

-- the whole trace
whole_traced : (crash : Crash) → IsChecked crash.circuit → (steps : List Step) → Follow crash (Some (present_in crash.dump)) steps →
    Each (IsRightStep crash) steps → Traced crash steps (trace_end crash steps).bits []
whole_traced crash checked [] f right = record { visits = refl; ends = refl }
whole_traced crash checked (step ∷ steps) f right = by step.hit refl f.1
  where
    by : (o : Option HitLine) → step.hit ≡ o → Follow crash (option_map (present_of_hit crash) o) steps →
        Traced crash (step ∷ steps) (trace_end crash (step ∷ steps)).bits []
    by None e follow = unhit_traced crash step steps (trace_end crash (step ∷ steps)).bits [] e follow
    by (Some hit) e follow =
        let x = input_of crash checked step hit right.0 e in
        hit_traced crash step steps hit x.input (trace_end crash (step ∷ steps)).bits [] e x.is
        (sym (ap (λ (p : Seen). p.bits) (ends_there crash step steps hit x.input e x.is)))
        (traced crash checked steps (present_of_hit crash hit) hit.state (x.input ∷ []) refl follow right.1)

abbrev hits : List Step → List HitLine
hits steps = filter_map (λ step. step.hit) steps

hits_by : (step : Step) (steps : List Step) (o : Option HitLine) → step.hit ≡ o → hits (step ∷ steps) ≡ cons_option o (hits steps)
hits_by step steps o e = ap (λ (o : Option HitLine). cons_option o (hits steps)) e

-- the last of a list, whatever stands before it
last_still : (before : Option HitLine) (all : List HitLine) (hit : HitLine) → last_or None all ≡ Some hit → last_or before all ≡ Some hit
last_still before [] hit e = cc
last_still before (h ∷ hs) hit e = e

-- the last hit is at a moment
record LastHit (crash : Crash) (s : List Bool) (steps : List Step) : Type 0 where
  hit : HitLine
  last : last_or None (hits steps) ≡ Some hit
  recorded : IsMoment crash.runs (moment hit.run hit.cycle)
  state : state_of crash.circuit crash.runs (moment hit.run hit.cycle) ≡ last_state s steps

record NoHit (s : List Bool) (steps : List Step) : Type 0 where
  none : hits steps ≡ []
  inputs : hit_inputs steps ≡ []
  state : last_state s steps ≡ s

hit_or_none : (crash : Crash) (steps : List Step) (now : Option Present) (s : List Bool) → Follow crash now steps → Each (IsRightStep crash) steps →
    NoHit s steps ⊎ LastHit crash s steps
hit_or_none crash [] now s f right = inl (record { none = refl; inputs = refl; state = refl })
hit_or_none crash (step ∷ steps) now s f right = by step.hit refl f.1 (λ s. hit_or_none crash steps (present_after crash step) s f.1 right.1)
  where
    by : (o : Option HitLine) → step.hit ≡ o → Follow crash (present_after crash step) steps → ((s : List Bool) → NoHit s steps ⊎ LastHit crash s steps) →
        NoHit s (step ∷ steps) ⊎ LastHit crash s (step ∷ steps)
    by None e follow rest =
        let none = no_more crash steps (subst (λ (o : Option HitLine). Follow crash (option_map (present_of_hit crash) o) steps) e follow) in
        inl
        (record {
          none = hits_by step steps None e ∙ ap (λ (l : List Step). hits l) none;
          inputs = inputs_by step steps None e ∙ ap hit_inputs none;
          state = last_by s step steps None e;
        })
    by (Some hit) e follow rest =
        let here = hit_at crash step hit (sym e ∙ right.0.hit) in
        let same = last_by s step steps (Some hit) e in
        let all = hits_by step steps (Some hit) e in
        ⊎_elim
        (λ (n : NoHit hit.state steps).
        inr
        (record {
          hit = hit;
          last = ap (last_or None) all ∙ ap (last_or (Some hit)) n.none;
          recorded = here.run_cycle;
          state = here.state ∙ (sym n.state ∙ sym same);
        }))
        (λ (l : LastHit crash hit.state steps).
        inr
        (record {
          hit = l.hit;
          last = ap (last_or None) all ∙ last_still (Some hit) (hits steps) l.hit l.last;
          recorded = l.recorded;
          state = l.state ∙ sym same;
        }))
        (rest hit.state)

-- ---- from reset

-- the inputs up to a moment lead to its state
at_front : (c : Circuit) (runs : List Run) (m : Moment) (xs : Run) → IsMoment runs m → state_at c (continued runs m xs) m.cycle ≡ state_of c runs m
at_front c runs m xs h =
    let long : length (take m.cycle (run_of runs m.run)) ≡ m.cycle = length-take-le m.cycle (run_of runs m.run) h.lasts in
    state_rests c (continued runs m xs) (run_of runs m.run) m.cycle
    (λ j lt.
    get_or_append_left (take m.cycle (run_of runs m.run)) xs [] j (omega (arith, long)) ∙ get_or-take m.cycle (run_of runs m.run) j [] lt)

-- where the trace ends behind a hit
record IsEnd (crash : Crash) (steps : List Step) : Type 0 where
  shown : Shows crash.dump.state (trace_end crash steps).bits
  known : (trace_end crash steps).free ≡ []

end_is : (crash : Crash) → IsChecked crash.circuit → (steps : List Step) (hit : HitLine) → Follow crash (Some (present_in crash.dump)) steps →
    Each (IsRightStep crash) steps → last_or None (hits steps) ≡ Some hit → IsEnd crash steps
end_is crash checked [] hit f right l = cc
end_is crash checked (step ∷ steps) hit f right l = by step.hit refl f.1
  where
    by : (o : Option HitLine) → step.hit ≡ o → Follow crash (option_map (present_of_hit crash) o) steps → IsEnd crash (step ∷ steps)
    by None e follow =
        let none : hits (step ∷ steps) ≡ [] = hits_by step steps None e ∙ ap (λ (l : List Step). hits l) (no_more crash steps follow) in
        let never : None ≡ Some hit = sym (ap (last_or None) none) ∙ l in
        cc
    by (Some first) e follow =
        let x = input_of crash checked step first right.0 e in
        let there : trace_end crash (step ∷ steps) ≡ whole (next crash.circuit first.state x.input) = ends_there crash step steps first x.input e x.is in
        let led : Shows crash.dump.state (next crash.circuit first.state x.input) =
        subst (λ (p : Seen). Shows p (next crash.circuit first.state x.input)) (first_present crash (present_in crash.dump) step steps f) x.leads in
        record {
          shown = subst (Shows crash.dump.state) (sym (ap (λ (p : Seen). p.bits) there)) led;
          known = ap (λ (p : Seen). p.free) there;
        }

from_reset : (crash : Crash) (r : Report) → IsGood crash r → (s : List Bool) → s ≡ (trace_end crash r.steps).bits → IsEnd crash r.steps →
    (l : LastHit crash s r.steps) →
    length (take l.hit.cycle (run_of crash.runs l.hit.run)) ≡ l.hit.cycle →
    state_at crash.circuit (continued crash.runs (moment l.hit.run l.hit.cycle) r.inputs) l.hit.cycle ≡ last_state s r.steps →
    Traced crash r.steps s [] → EndsExecution crash r
from_reset crash r good s is end l long front way =
    let c : Circuit = crash.circuit in
    let m : Moment = moment l.hit.run l.hit.cycle in
    let before : Run = take m.cycle (run_of crash.runs m.run) in
    let last : List Bool = last_state s r.steps in
    let start : state_at c (before ++ r.inputs) (length before) ≡ last = ap (state_at c (before ++ r.inputs)) long ∙ front in
    let inputs : reverse (hit_inputs r.steps) ++ [] ≡ r.inputs = append-nil (reverse (hit_inputs r.steps)) ∙ sym good.trace.inputs in
    let ranges : range_with_len (length before) (suc (length r.inputs)) ≡ range_with_len m.cycle (length r.inputs + 1) =
    ap (λ (n : ℕ). range_with_len n (suc (length r.inputs))) long ∙ ap (range_with_len m.cycle) (sym (add-one (length r.inputs))) in
    let place : m.cycle + length r.inputs ≡ length before + length r.inputs = omega (arith, long) in
    let there : state_at c (before ++ r.inputs) (m.cycle + length r.inputs) ≡ s =
    ap (state_at c (before ++ r.inputs)) place
    ∙ (ends_at c before r.inputs last start ∙ (sym (ap (final c last) inputs) ∙ way.ends)) in
    record {
      reached = m;
      last = ap (option_map (λ (hit : HitLine). moment hit.run hit.cycle)) l.last;
      recorded = l.recorded;
      states =
          good.trace.states
          ∙ (ap (λ (t : List Bool). reverse (hit_states r.steps) ++ t ∷ []) (sym is)
          ∙ (sym way.visits
          ∙ (ap (visited c last) inputs
          ∙ (sym (visits c before r.inputs last start)
          ∙ ap (map (state_at c (before ++ r.inputs))) ranges))));
      ends = subst (Shows crash.dump.state) (sym (there ∙ is)) end.shown;
      known = good.trace.free ∙ end.known;
    }

pub executed : TracesEndExecutions
executed crash r is good some =
    let right = recursion_from_All (IsRightStep crash) r.steps good.steps in
    let s : List Bool = (trace_end crash r.steps).bits in
    let way = whole_traced crash is.checked r.steps good.chain.follow right in
    ⊎_elim
    (λ (n : NoHit s r.steps). absurd (some (good.trace.inputs ∙ ap reverse n.inputs)))
    (λ (l : LastHit crash s r.steps).
    let long : length (take l.hit.cycle (run_of crash.runs l.hit.run)) ≡ l.hit.cycle =
    length-take-le l.hit.cycle (run_of crash.runs l.hit.run) l.recorded.lasts in
    from_reset crash r good s refl (end_is crash is.checked r.steps l.hit good.chain.follow right l.last) l long
    (at_front crash.circuit crash.runs (moment l.hit.run l.hit.cycle) r.inputs l.recorded ∙ l.state) way)
    (hit_or_none crash r.steps (Some (present_in crash.dump)) s good.chain.follow right)

-- ---- a dump of which all is known

unhit_end : (crash : Crash) (step : Step) (steps : List Step) → step.hit ≡ None → trace_end crash (step ∷ steps) ≡ crash.dump.state
unhit_end crash step steps e =
    ap (λ (o : Option HitLine). end_or crash.dump.state (option_and_then (λ (s : List Bool). option_map (next crash.circuit s) (input_for step s))
    (option_map (λ (h : HitLine). h.state) o))) e

known_end : (crash : Crash) → IsChecked crash.circuit → (steps : List Step) → Follow crash (Some (present_in crash.dump)) steps →
    Each (IsRightStep crash) steps → crash.dump.state.free ≡ [] → trace_end crash steps ≡ crash.dump.state
known_end crash checked [] f right known = refl
known_end crash checked (step ∷ steps) f right known = by step.hit refl
  where
    by : (o : Option HitLine) → step.hit ≡ o → trace_end crash (step ∷ steps) ≡ crash.dump.state
    by None e = unhit_end crash step steps e
    by (Some hit) e =
        let x = input_of crash checked step hit right.0 e in
        let t : List Bool = next crash.circuit hit.state x.input in
        let led : Shows crash.dump.state t = subst (λ (p : Seen). Shows p t) (first_present crash (present_in crash.dump) step steps f) x.leads in
        let same : t ≡ crash.dump.state.bits = subst (λ (fs : List Bool). Shows (record { bits = crash.dump.state.bits; free = fs }) t) known led in
        ends_there crash step steps hit x.input e x.is ∙ (λ i. record { bits = same i; free = sym known i })

pub whole_ends : WholeDumpsEndTraces
whole_ends crash r is good known =
    known_end crash is.checked r.steps good.chain.follow (recursion_from_All (IsRightStep crash) r.steps good.steps) known

pub whole_led : WholeStatesAreLedTo
whole_led c s x p = (λ (l : LeadsInto c s x (whole p)). subst (Leads c s x) l.shown l.leads, λ (l : Leads c s x p). record { there = p; leads = l; shown = refl })

-- An answer that has a text is read back from it.
use Rattle.std.proofs.Common.{◌≡◌, ℕ, suc, ◌<◌, ◌+◌, ◌-◌, ◌^◌, Bool, false, cond, List, [], ◌∷◌, ◌++◌, length, get_or, refl, arith, ap, sym, subst}
use Rattle.std.proofs.Common.{◌∙◌, Option, Some, append_assoc}
use Rattle.std.specs.Prelude.{codes, decimal, option_map, Err}
use Rattle.std.specs.List.{AllByRecursion as Each, flat_map, range_with_len}
use Rattle.std.proofs.lemmas.Bool.{ne_eqb}
use Rattle.std.proofs.lemmas.List.{append-nil}
use Rattle.std.proofs.lemmas.List.Elements.{recursion_from_All}
use Rattle.bs_bits.specs.Text.{bits_text}
use Rattle.bs_bits.specs.Lines.{line, pieces_of}
use Rattle.bs_bits.specs.Reading.{◌>>=◌}
use Rattle.bs_bits.proofs.LineTextLemmas.{Lacks, lacks_append, piece_first, bits_lack, number_lacks}
use Rattle.bs_log.specs.declared.line.Line.{Line}
use Rattle.bs_log.specs.LineForms.{HasText}
use Rattle.bs_log.specs.LineText.{line_text}
use Rattle.bs_report.specs.declared.fault.ReportFault.TheVariants as faults
use Rattle.bs_report.proofs.FormLemmas.{count_again, bits_line_again, words_of_count, words_of_bits, log_line_lacks}
use Rattle.bs_reach.specs.declared.reach.Outcome.{Outcome}
use Rattle.bs_reach.specs.declared.reach.Outcome.TheVariants.{Reached, Unreached, Unknown}
use Rattle.bs_reach.specs.declared.reach.Reach.{Reach}
use Rattle.bs_reach.specs.Text.{asked_text, outcome_text, state_text, cycle_text, states_text, execution_text, head_text, log_text}
use Rattle.bs_reach_answer.specs.declared.place.NextLine.{NextLine}
use Rattle.bs_reach_answer.specs.declared.place.NextLine.TheVariants as places
use Rattle.bs_reach_answer.specs.Reading.{Progress, behind_outcome, behind_state, log_place, taken, is_done, line_or_fault, answer_from, nothing_read, answer_in}
use Rattle.bs_reach_answer.specs.ReadingLaw.{HasExecution, HasAnswerText, AnswersReadBack}
use Rattle.bs_reach_answer.proofs.FormLemmas.{asked_words, outcome_words, Within, asked_again, asked_lacks, outcome_again, outcome_lacks, HasPlainText, line_again, plain_lines}
use Rattle.bs_reach_answer.proofs.ReadingLemmas.{line_from}

-- ---- lines one after another

-- reading goes on from one place to another
record Goes (place : NextLine) (r : Reach) (text : List ℕ) (next : NextLine) (after : Reach) (rest : List ℕ) : Type 0 where
  to : (n : ℕ) → (m : ℕ) × (answer_from n place r (pieces_of text) ≡ answer_from m next after (pieces_of rest))

stays : (place : NextLine) (r : Reach) (text : List ℕ) → Goes place r text place r text
stays place r text = record { to = λ n. (n, refl) }

on : {place next last : NextLine} {r after end : Reach} {text rest behind : List ℕ} → Goes place r text next after rest → Goes next after rest last end behind →
    Goes place r text last end behind
on g h = record { to = λ n. let a = g.to n in let b = h.to a.0 in (b.0, a.1 ∙ b.1) }

-- one line
one : (place next : NextLine) (r after : Reach) (a rest : List ℕ) → Lacks 10 a → is_done place ≡ false → taken place r a ≡ Some (next, after) →
    Goes place r (line a ++ rest) next after rest
one place next r after a rest lacks undone t =
    record {
      to = λ n. (
        n + 1,
        ap (answer_from n place r) (piece_first a rest lacks)
            ∙ (line_from n place r a rest
            ∙ (ap (λ (b : Bool). ◌>>=◌ (cond b (Err faults.Extra) (line_or_fault n (taken place r a)))
            (λ (y : Progress). answer_from (n + 1) y.0 y.1 (pieces_of rest))) undone
            ∙ ap (λ (o : Option Progress). ◌>>=◌ (line_or_fault n o) (λ (y : Progress). answer_from (n + 1) y.0 y.1 (pieces_of rest))) t)),
      );
    }

-- one line of more
one_of : (place next : NextLine) (r after : Reach) (a b rest : List ℕ) → Lacks 10 a → is_done place ≡ false → taken place r a ≡ Some (next, after) →
    Goes place r ((line a ++ b) ++ rest) next after (b ++ rest)
one_of place next r after a b rest lacks undone t =
    subst (λ (text : List ℕ). Goes place r text next after (b ++ rest)) (sym (append_assoc (line a) b rest))
    (one place next r after a (b ++ rest) lacks undone t)

-- ---- the execution

abbrev with_execution : Reach → List (List Bool) → List (List Bool) → Reach
with_execution r states inputs = record r { states = states; inputs = inputs }

state_goes : (r : Reach) (s : List Bool) (left : ℕ) (rest : List ℕ) →
    Goes (places.State left) r (state_text s ++ rest) (behind_state left) (with_execution r (r.states ++ s ∷ []) r.inputs) rest
state_goes r s left rest =
    one (places.State left) (behind_state left) r (with_execution r (r.states ++ s ∷ []) r.inputs) (codes "state " ++ bits_text s) rest
    (lacks_append 10 (codes "state ") (bits_text s) (refl, (refl, (refl, (refl, (refl, (refl, tt)))))) (bits_lack 10 s (omega arith))) refl
    (ap (option_map (λ (s : List Bool). (behind_state left, record r { states = r.states ++ s ∷ [] })))
    (bits_line_again (codes "state") (codes "state " ++ bits_text s) s (words_of_bits (codes "state") s refl) refl))

input_goes : (r : Reach) (x : List Bool) (left : ℕ) (b rest : List ℕ) →
    Goes (places.Input left) r ((line (codes "input " ++ bits_text x) ++ b) ++ rest) (places.State (left - 1)) (with_execution r r.states (r.inputs ++ x ∷ []))
    (b ++ rest)
input_goes r x left b rest =
    one_of (places.Input left) (places.State (left - 1)) r (with_execution r r.states (r.inputs ++ x ∷ [])) (codes "input " ++ bits_text x) b rest
    (lacks_append 10 (codes "input ") (bits_text x) (refl, (refl, (refl, (refl, (refl, (refl, tt)))))) (bits_lack 10 x (omega arith))) refl
    (ap (option_map (λ (x : List Bool). (places.State (left - 1), record r { inputs = r.inputs ++ x ∷ [] })))
    (bits_line_again (codes "input") (codes "input " ++ bits_text x) x (words_of_bits (codes "input") x refl) refl))

-- the cycles of an execution, over its inputs and the states behind them
abbrev pub cycles_text : List (List Bool) → List (List Bool) → List ℕ
cycles_text [] ss = []
cycles_text (x ∷ xs) [] = []
cycles_text (x ∷ xs) (s ∷ ss) = (line (codes "input " ++ bits_text x) ++ state_text s) ++ cycles_text xs ss

behind_cycle : (left : ℕ) → behind_state (suc left) ≡ places.Input (suc left)
behind_cycle left = ap (λ (b : Bool). cond b places.Log (places.Input (suc left))) (ne_eqb (suc left) 0 (λ e. omega (arith, e)))

-- from a state that is behind, with these inputs and states to come
cycles_go : (r : Reach) (xs ss : List (List Bool)) (rest : List ℕ) → length ss ≡ length xs →
    Goes (behind_state (length xs)) r (cycles_text xs ss ++ rest) places.Log (with_execution r (r.states ++ ss) (r.inputs ++ xs)) rest
cycles_go r [] [] rest e =
    subst (λ (states : List (List Bool)). Goes places.Log r rest places.Log (with_execution r states (r.inputs ++ [])) rest) (sym (append-nil r.states))
    (subst (λ (inputs : List (List Bool)). Goes places.Log r rest places.Log (with_execution r r.states inputs) rest) (sym (append-nil r.inputs))
    (stays places.Log r rest))
cycles_go r [] (s ∷ ss) rest e = absurd (omega (arith, e))
cycles_go r (x ∷ xs) [] rest e = absurd (omega (arith, e))
cycles_go r (x ∷ xs) (s ∷ ss) rest e =
    subst (λ (place : NextLine). Goes place r (cycles_text (x ∷ xs) (s ∷ ss) ++ rest) places.Log
    (with_execution r (r.states ++ s ∷ ss) (r.inputs ++ x ∷ xs)) rest)
    (sym (behind_cycle (length xs)))
    (subst (λ (text : List ℕ). Goes (places.Input (suc (length xs))) r text places.Log (with_execution r (r.states ++ s ∷ ss) (r.inputs ++ x ∷ xs)) rest)
    (sym (append_assoc (line (codes "input " ++ bits_text x) ++ state_text s) (cycles_text xs ss) rest))
    (on (input_goes r x (suc (length xs)) (state_text s) (cycles_text xs ss ++ rest))
    (subst (λ (left : ℕ). Goes (places.State left) (with_execution r r.states (r.inputs ++ x ∷ [])) (state_text s ++ (cycles_text xs ss ++ rest)) places.Log
    (with_execution r (r.states ++ s ∷ ss) (r.inputs ++ x ∷ xs)) rest) fewer
    (on (state_goes (with_execution r r.states (r.inputs ++ x ∷ [])) s (length xs) (cycles_text xs ss ++ rest))
    (subst (λ (states : List (List Bool)). Goes (behind_state (length xs)) (with_execution r (r.states ++ s ∷ []) (r.inputs ++ x ∷ []))
    (cycles_text xs ss ++ rest) places.Log (with_execution r states (r.inputs ++ x ∷ xs)) rest) (append_assoc r.states (s ∷ []) ss)
    (subst (λ (inputs : List (List Bool)). Goes (behind_state (length xs)) (with_execution r (r.states ++ s ∷ []) (r.inputs ++ x ∷ []))
    (cycles_text xs ss ++ rest) places.Log (with_execution r ((r.states ++ s ∷ []) ++ ss) inputs) rest) (append_assoc r.inputs (x ∷ []) xs)
    (cycles_go (with_execution r (r.states ++ s ∷ []) (r.inputs ++ x ∷ [])) xs ss rest (omega (arith, e)))))))))
  where
    fewer : length xs ≡ suc (length xs) - 1
    fewer = omega arith

-- the same by places
pub range_cycles : (r : Reach) (xs ss : List (List Bool)) (a : ℕ) → ((i : ℕ) → get_or r.inputs (a + i) [] ≡ get_or xs i []) →
    ((i : ℕ) → get_or r.states (a + i + 1) [] ≡ get_or ss i []) → length ss ≡ length xs →
    flat_map (cycle_text r) (range_with_len a (length xs)) ≡ cycles_text xs ss
range_cycles r [] ss a hx hs e = refl
range_cycles r (x ∷ xs) [] a hx hs e = absurd (omega (arith, e))
range_cycles r (x ∷ xs) (s ∷ ss) a hx hs e =
    let at_a : a ≡ a + 0 = omega arith in
    let input : get_or r.inputs a [] ≡ x = ap (λ (i : ℕ). get_or r.inputs i []) at_a ∙ hx 0 in
    let state : get_or r.states (a + 1) [] ≡ s = ap (λ (i : ℕ). get_or r.states (i + 1) []) at_a ∙ hs 0 in
    ap (λ (t : List Bool). (line (codes "input " ++ bits_text t) ++ state_text (get_or r.states (a + 1) []))
    ++ flat_map (cycle_text r) (range_with_len (a + 1) (length xs))) input
    ∙ (ap (λ (t : List Bool). (line (codes "input " ++ bits_text x) ++ state_text t) ++ flat_map (cycle_text r) (range_with_len (a + 1) (length xs))) state
    ∙ ap (λ (t : List ℕ). (line (codes "input " ++ bits_text x) ++ state_text s) ++ t)
    (range_cycles r xs ss (a + 1)
    (λ i. let place : a + 1 + i ≡ a + suc i = omega arith in ap (λ (k : ℕ). get_or r.inputs k []) place ∙ hx (suc i))
    (λ i. let place : a + 1 + i + 1 ≡ a + suc i + 1 = omega arith in ap (λ (k : ℕ). get_or r.states k []) place ∙ hs (suc i))
    (omega (arith, e))))

-- the states of an answer, the first one apart
pub record FirstState (r : Reach) : Type 0 where
  pub first : List Bool
  pub others : List (List Bool)
  pub states : r.states ≡ first ∷ others
  pub long : length others ≡ length r.inputs
  pub spells : states_text r ≡ state_text first ++ cycles_text r.inputs others

pub first_state : (r : Reach) → length r.states ≡ length r.inputs + 1 → FirstState r
first_state r e = by r.states refl e
  where
    by : (states : List (List Bool)) → r.states ≡ states → length states ≡ length r.inputs + 1 → FirstState r
    by [] same e = absurd (omega (arith, e))
    by (s ∷ ss) same e =
        let long : length ss ≡ length r.inputs = omega (arith, e) in
        let begin : get_or r.states 0 [] ≡ s = ap (λ (ts : List (List Bool)). get_or ts 0 []) same in
        let cycles : flat_map (cycle_text r) (range_with_len 0 (length r.inputs)) ≡ cycles_text r.inputs ss =
        range_cycles r r.inputs ss 0 (λ i. let at : 0 + i ≡ i = omega arith in ap (λ (k : ℕ). get_or r.inputs k []) at)
        (λ i. let at : 0 + i + 1 ≡ suc i = omega arith in
        ap (λ (k : ℕ). get_or r.states k []) at ∙ ap (λ (ts : List (List Bool)). get_or ts (suc i) []) same) long in
        record {
          first = s;
          others = ss;
          states = same;
          long = long;
          spells =
              ap (λ (t : List Bool). state_text t ++ flat_map (cycle_text r) (range_with_len 0 (length r.inputs))) begin
              ∙ ap (λ (t : List ℕ). state_text s ++ t) cycles;
        }

states_go : (q r : Reach) (rest : List ℕ) → q.states ≡ [] → q.inputs ≡ [] → length r.states ≡ length r.inputs + 1 →
    Goes (places.State (length r.inputs)) q (states_text r ++ rest) places.Log (with_execution q r.states r.inputs) rest
states_go q r rest no_states no_inputs e =
    let f = first_state r e in
    let n : ℕ = length r.inputs in
    let start : q.states ++ f.first ∷ [] ≡ f.first ∷ [] = ap (λ (ss : List (List Bool)). ss ++ f.first ∷ []) no_states in
    let go : Goes (behind_state n) (with_execution q (f.first ∷ []) q.inputs) (cycles_text r.inputs f.others ++ rest) places.Log
    (with_execution q (f.first ∷ f.others) (q.inputs ++ r.inputs)) rest =
    cycles_go (with_execution q (f.first ∷ []) q.inputs) r.inputs f.others rest f.long in
    subst (λ (t : List ℕ). Goes (places.State n) q (t ++ rest) places.Log (with_execution q r.states r.inputs) rest) (sym f.spells)
    (subst (λ (t : List ℕ). Goes (places.State n) q t places.Log (with_execution q r.states r.inputs) rest)
    (sym (append_assoc (state_text f.first) (cycles_text r.inputs f.others) rest))
    (on
    (subst (λ (ss : List (List Bool)). Goes (places.State n) q (state_text f.first ++ (cycles_text r.inputs f.others ++ rest)) (behind_state n)
    (with_execution q ss q.inputs) (cycles_text r.inputs f.others ++ rest)) start
    (state_goes q f.first n (cycles_text r.inputs f.others ++ rest)))
    (subst (λ (ss : List (List Bool)). Goes (behind_state n) (with_execution q (f.first ∷ []) q.inputs) (cycles_text r.inputs f.others ++ rest) places.Log
    (with_execution q ss r.inputs) rest) (sym f.states)
    (subst (λ (xs : List (List Bool)). Goes (behind_state n) (with_execution q (f.first ∷ []) q.inputs) (cycles_text r.inputs f.others ++ rest) places.Log
    (with_execution q (f.first ∷ f.others) xs) rest)
    (ap (λ (xs : List (List Bool)). xs ++ r.inputs) no_inputs) go))))

-- where the state is not reached
nothing_goes : (q r : Reach) (rest : List ℕ) → q.states ≡ r.states → q.inputs ≡ r.inputs →
    Goes places.Log q rest places.Log (with_execution q r.states r.inputs) rest
nothing_goes q r rest ss xs =
    subst (λ (states : List (List Bool)). Goes places.Log q rest places.Log (with_execution q states r.inputs) rest) ss
    (subst (λ (inputs : List (List Bool)). Goes places.Log q rest places.Log (with_execution q q.states inputs) rest) xs (stays places.Log q rest))

-- from behind the outcome to the log
execution_goes : (o : Outcome) (q r : Reach) (rest : List ℕ) → q.states ≡ [] → q.inputs ≡ [] → HasExecution r.asked o r.states r.inputs →
    Goes (behind_outcome o) q (execution_text o r ++ rest) places.Log (with_execution q r.states r.inputs) rest
execution_goes (Reached j) q r rest no_states no_inputs h =
    let more : length r.states ≡ length r.inputs + 1 = omega (arith, h.1, h.2) in
    subst (λ (n : ℕ). Goes (places.State n) q (states_text r ++ rest) places.Log (with_execution q r.states r.inputs) rest) h.1
    (states_go q r rest no_states no_inputs more)
execution_goes Unreached q r rest no_states no_inputs h = nothing_goes q r rest (no_states ∙ sym h.0) (no_inputs ∙ sym h.1)
execution_goes (Unknown j) q r rest no_states no_inputs h = nothing_goes q r rest (no_states ∙ sym h.1) (no_inputs ∙ sym h.2)

-- ---- the log

abbrev with_log : Reach → List Line → Reach
with_log r log = record r { log = log }

behind_line : (left : ℕ) → log_place (suc left) ≡ places.Lines (suc left)
behind_line left = ap (λ (b : Bool). cond b places.End (places.Lines (suc left))) (ne_eqb (suc left) 0 (λ e. omega (arith, e)))

lines_go : (r : Reach) (log : List Line) (rest : List ℕ) → Each HasPlainText log →
    Goes (log_place (length log)) r (flat_map (λ l. line (line_text l)) log ++ rest) places.End (with_log r (r.log ++ log)) rest
lines_go r [] rest h = subst (λ (log : List Line). Goes places.End r rest places.End (with_log r log) rest) (sym (append-nil r.log)) (stays places.End r rest)
lines_go r (l ∷ ls) rest h =
    subst (λ (place : NextLine). Goes place r (flat_map (λ l. line (line_text l)) (l ∷ ls) ++ rest) places.End (with_log r (r.log ++ l ∷ ls)) rest)
    (sym (behind_line (length ls)))
    (on
    (one_of (places.Lines (suc (length ls))) (log_place (length ls)) r (with_log r (r.log ++ l ∷ [])) (line_text l)
    (flat_map (λ l. line (line_text l)) ls) rest (log_line_lacks l h.0.0) refl
    (ap (option_map (λ (l : Line). (log_place (suc (length ls) - 1), record r { log = r.log ++ l ∷ [] }))) (line_again l h.0)
    ∙ ap (λ (left : ℕ). Some (log_place left, with_log r (r.log ++ l ∷ []))) fewer))
    (subst (λ (log : List Line). Goes (log_place (length ls)) (with_log r (r.log ++ l ∷ [])) (flat_map (λ l. line (line_text l)) ls ++ rest) places.End
    (with_log r log) rest) (append_assoc r.log (l ∷ []) ls)
    (lines_go (with_log r (r.log ++ l ∷ [])) ls rest h.1)))
  where
    fewer : suc (length ls) - 1 ≡ length ls
    fewer = omega arith

log_goes : (q r : Reach) → q.log ≡ [] → Each HasPlainText r.log → length r.log < 2 ^ 64 → Goes places.Log q (log_text r) places.Done (with_log q r.log) []
unfolding log_text
log_goes q r no_log each few =
    let n : ℕ = length r.log in
    on
    (one places.Log (log_place n) q q (codes "log " ++ decimal n) (flat_map (λ l. line (line_text l)) r.log ++ line (codes "end"))
    (lacks_append 10 (codes "log ") (decimal n) (refl, (refl, (refl, (refl, tt)))) (number_lacks 10 n (omega arith) few)) undone
    (ap (option_map (λ (n : ℕ). (log_place n, q)))
    (count_again (codes "log") (codes "log " ++ decimal n) n (words_of_count (codes "log") n refl few) refl few)))
    (on
    (subst (λ (log : List Line). Goes (log_place n) q (flat_map (λ l. line (line_text l)) r.log ++ line (codes "end")) places.End (with_log q log)
    (line (codes "end"))) (ap (λ (log : List Line). log ++ r.log) no_log) (lines_go q r.log (line (codes "end")) each))
    (one places.End places.Done (with_log q r.log) (with_log q r.log) (codes "end") [] (refl, (refl, (refl, tt))) refl refl))
  where
    undone : is_done places.Log ≡ false
    undone = refl

-- ---- the whole text

abbrev with_asked : Reach → ℕ → ℕ → Reach
with_asked r asked conflicts = record r { asked = asked; conflicts = conflicts }

abbrev with_outcome : Reach → Outcome → Reach
with_outcome r outcome = record r { outcome = outcome }

pub is_within : (asked : ℕ) (o : Outcome) (states inputs : List (List Bool)) → HasExecution asked o states inputs → Within asked o
is_within asked (Reached j) states inputs h = h.0
is_within asked Unreached states inputs h = tt
is_within asked (Unknown j) states inputs h = h.0

pub outcome_line : (o : Outcome) → outcome_text o ≡ line (outcome_words o)
outcome_line (Reached j) = refl
outcome_line Unreached = refl
outcome_line (Unknown j) = refl

head_goes : (r : Reach) (rest : List ℕ) → HasAnswerText r →
    Goes places.Title nothing_read (head_text r ++ rest) (behind_outcome r.outcome)
    (with_outcome (with_asked nothing_read r.asked r.conflicts) r.outcome) rest
unfolding head_text
head_goes r rest h =
    on
    (one_of places.Title places.Asked nothing_read nothing_read (codes "reach 1") (asked_text r.asked r.conflicts ++ outcome_text r.outcome) rest
    (refl, (refl, (refl, (refl, (refl, (refl, (refl, tt))))))) refl refl)
    (on
    (one_of places.Asked places.Outcome nothing_read first (asked_words r.asked r.conflicts) (outcome_text r.outcome) rest
    (asked_lacks r.asked r.conflicts h.most_asked h.most_conflicts) refl
    (ap (option_map (λ (asked : ℕ × ℕ). (places.Outcome, record nothing_read { asked = asked.0; conflicts = asked.1 })))
    (asked_again r.asked r.conflicts h.most_asked h.some_conflicts h.most_conflicts)))
    (subst (λ (text : List ℕ). Goes places.Outcome first (text ++ rest) (behind_outcome r.outcome) (with_outcome first r.outcome) rest)
    (sym (outcome_line r.outcome))
    (one places.Outcome (behind_outcome r.outcome) first (with_outcome first r.outcome) (outcome_words r.outcome) rest
    (outcome_lacks r.asked r.outcome h.most_asked short) refl
    (ap (option_map (λ (outcome : Outcome). (behind_outcome outcome, record first { outcome = outcome })))
    (outcome_again r.asked r.outcome h.most_asked short)))))
  where
    first : Reach
    first = with_asked nothing_read r.asked r.conflicts

    short : Within r.asked r.outcome
    short = is_within r.asked r.outcome r.states r.inputs h.execution

pub read_back : AnswersReadBack
unfolding answer_in
read_back r h =
    let q : Reach = with_outcome (with_asked nothing_read r.asked r.conflicts) r.outcome in
    let g =
    on (head_goes r (execution_text r.outcome r ++ log_text r) h)
    (on (execution_goes r.outcome q r (log_text r) refl refl h.execution)
    (log_goes (with_execution q r.states r.inputs) r refl (plain_lines r.log (recursion_from_All HasText r.log h.each_line) h.no_block) h.few_lines)) in
    (g.to 1).1

-- A step of the log is a right list.
use Rattle.std.proofs.Common.{◌≡◌, ◌≢◌, ℕ, ◌+◌, ◌-◌, ◌<◌, ◌≤◌, Bool, true, false, cond, List, [], ◌∷◌, ◌++◌, length, reverse, get_or, refl, ap, subst, sym}
use Rattle.std.proofs.Common.{◌∙◌, inl, inr, append_assoc, arith, Option, Some, None}
use mathlib.Core.List.{reverse_aux}
use Rattle.std.specs.Prelude.{◌^◌, Contains, All, IfSome, ◌==◌, ◌||◌, ◌&&◌, filter_map, slice_get, IsTrue}
use Rattle.std.specs.Option.{option_to_list}
use Rattle.std.specs.List.{AllByRecursion as Each}
use Rattle.std.specs.List.Sorted.{IsPermutation}
use Rattle.std.proofs.lemmas.Bool.{true≢false, and_from, or_right, eq-eqb}
use Rattle.std.proofs.lemmas.List.{length-append, reverse-reverse}
use Rattle.std.proofs.lemmas.List.Elements.{All-weaker, All-map, All-from_recursion, recursion_from_All}
use Rattle.std.proofs.lemmas.List.Sorted.{IsPermutation-map, IsPermutation-sym, length_permutation, list_any-IsPermutation, All-permutation}
use Rattle.bs_bits.specs.Bits.{bits_eq}
use Rattle.bs_scan.specs.declared.seen.Seen.{Seen}
use Rattle.bs_scan.proofs.SeenLemmas.{shows_where}
use Rattle.bs_scan.specs.Seen.{Shows, is_shown}
use Rattle.bs_clause.specs.Literal.{Literal, Clause, negation, literal_value, Satisfies}
use Rattle.bs_clause.specs.UnitRun.{IsUnitRun}
use Rattle.bs_clause.specs.Range.{HasVariables}
use Rattle.bs_log.specs.declared.line.Line.{Line}
use Rattle.bs_log.specs.declared.line.Line.TheVariants.{Retire}
use Rattle.bs_log.specs.History.{Problem, History, step_of, activation_of}
use Rattle.bs_log.specs.Refusal.{history_of, assumptions_of, IsAccepted, NoneRefused}
use Rattle.bs_log.specs.Refutation.{Suits, blocks_of}
use Rattle.bs_log.specs.Shown.{Shown}
use Rattle.bs_log.specs.Steps.{steps_of, block_of_line, finish_of_line}
use Rattle.bs_log.proofs.Laws.{finished_steps_are_refuted}
use Rattle.bs_log.proofs.StepLemmas.{finish_at}
use Rattle.bs_net.specs.Circuit.{Circuit, next, reset_state, all_bits}
use Rattle.bs_net.proofs.NextLemmas.{Member}
use Rattle.bs_scan.specs.Choice.{Chosen, depth_of, IsDepth}
use Rattle.bs_scan.specs.Present.{Present}
use Rattle.bs_scan.specs.Moments.{is_listed}
use Rattle.bs_scan.specs.Signature.{agrees, some_input_shows, predecessors}
use Rattle.bs_scan.proofs.MomentLemmas.{each_member}
use Rattle.bs_scan.proofs.SignatureLemmas.{bits_same, bits_same_is, is_predecessor}
use Rattle.bs_solve_lemmas.specs.ProofLog.{ProofLog, standing, next_id, without}
use Rattle.bs_solve_lemmas.specs.Solver.{SolverState, finished, retired, leaving}
use Rattle.bs_encode.specs.Encoded.{Encoded}
use Rattle.bs_encode.specs.Depth.{encoding_by}
use Rattle.bs_encode.specs.Assuming.{assumptions_for, block_for, asking, AreWide}
use Rattle.bs_encode.specs.Cycle.{bits_on}
use Rattle.bs_encode.specs.Listing.{IsTidy, PredecessorsAreShown, SolutionsArePredecessors, IsPredecessor, IsBefore, joins}
use Rattle.bs_report.specs.declared.report.Cand.{Cand}
use Rattle.bs_report.specs.declared.report.ListEnd.{ListEnd}
use Rattle.bs_report.specs.declared.report.ListEnd.TheVariants.{Finished, Candidates, Conflicts}
use Rattle.bs_report.specs.Step.{listed, IsCandidate}
use Rattle.bs_report.specs.Valid.{is_right_before, HaveBefores, blocks_due, are_right_blocks, is_right_finish, blocks_in, finishes_in}
use Rattle.bs_report.proofs.ExecutionLemmas.{led_widths}
use Rattle.bs_report.proofs.SortedLemmas.{asc_of_pairs, asc_filter, asc_all_bits, same_lists}
use Rattle.bs_report.proofs.ValidLemmas.{both}
use Rattle.bs_report.proofs.GoodLemmas.{listed_member, filter_member, passing, all_bits_length}
use Rattle.bs_preimage.specs.declared.listing.Listing.{Listing}
use Rattle.bs_preimage.specs.Preimage.{next_activation}
use Rattle.bs_preimage.specs.Rest.{IsAbout, IsAtRest, AreWholeSteps}
use Rattle.bs_solve.specs.Budget.{HasFewLemmas}
use Rattle.bs_preimage.specs.Listed.{IsRightCand}
use Rattle.bs_preimage.specs.Turn.{IsReadable, IsShownIn, IsOneOf, activation_in}
use Rattle.bs_preimage.specs.Finding.{EndedBy}
use Rattle.bs_preimage.specs.Order.{IsInOrder}
use Rattle.bs_preimage.specs.Step.{HasSought, HasMadeStep, assumptions_at, ending_of}
use Rattle.bs_solve_lemmas.proofs.Clauses.{contains_first}
use Rattle.bs_solve_lemmas.proofs.CallerLemmas.{bound_is, axioms_stand_still, activations_stay_retired}
use Rattle.bs_preimage.proofs.OrderLemmas.{in_order_ascend}
use Rattle.bs_preimage.proofs.StepLinesLemmas.{is_in_step, finish_lines, in_step, step_kept, step_lines_are, whole_after, get_last, slice_get_last}
use Rattle.bs_preimage.proofs.StepLinesLemmas.{blocks_are_due, right_blocks, one_finish, finish_is, end_is}
use Rattle.bs_preimage.proofs.StepLinesLemmas.{delete_lines, without_history, without_problem, step_deleted, lines_deleted, whole_deleted}

-- all that is known after a step
pub record Sought : Type 0 where
  pub c : Circuit
  pub choice : Chosen
  pub e : Encoded
  pub old : SolverState
  pub new : SolverState
  pub present : Seen
  pub stored : List Bool
  pub older : Option (List Bool)
  pub known : Option Cand
  pub k : ℕ
  pub b : ℕ
  pub found : List Cand
  pub cands : List Cand
  pub end : ListEnd
  pub about : IsAbout c choice e old.proof
  pub rest : IsAtRest old
  pub state : length present.bits ≡ length c.flops
  pub signature : length stored ≡ length choice.items
  pub older_wide : AreWide (length choice.items) older
  pub alone : depth_of choice ≡ 1 → older ≡ None
  pub kept : IsDepth (depth_of choice)
  pub known_right : IfSome known (IsRightCand c choice present stored older)
  pub sought : HasSought e old new present stored older known k b found end
  pub order : IsInOrder found cands
  pub accepted : IsAccepted new.proof.problem (reverse new.proof.history)
  pub shown : PredecessorsAreShown c choice e
  pub solutions : SolutionsArePredecessors c choice e

-- ---- the problem and the lines

pub finished_problem : (b : ProofLog) (end : Option ℕ) → (finished b end).problem ≡ b.problem
finished_problem b None = refl
finished_problem b (Some id) = refl

pub finished_history : (b : ProofLog) (end : Option ℕ) → (finished b end).history ≡ finish_lines end ++ b.history
finished_history b None = refl
finished_history b (Some id) = refl

abbrev asked : Sought → Present
asked t = asking t.present t.stored t.older

abbrev assumed_by : Sought → Clause
assumed_by t = assumptions_at t.e t.old.proof t.present t.stored t.older

-- the lines of the step, the newest first, without its retire line
abbrev lines_by : Sought → List Line
lines_by t = finish_lines (ending_of t.end) ++ t.sought.search.logged.lines

-- the proof log with the line of the lemma that ends the step
abbrev finished_by : Sought → ProofLog
finished_by t = finished t.sought.middle.proof (ending_of t.end)

-- the id of the retire line
abbrev retired_by : Sought → ℕ
retired_by t = next_id (finished_by t)

-- the delete line, if there is one
abbrev gone_by : Sought → List Line
gone_by t = delete_lines (leaving (finished_by t))

problem_is : (t : Sought) → t.new.proof.problem ≡ t.sought.middle.proof.problem
problem_is t =
    ap (λ (b : ProofLog). b.problem) t.sought.ended.proof ∙
    (without_problem (retired (finished_by t)) (leaving (finished_by t)) ∙ finished_problem t.sought.middle.proof (ending_of t.end))

vars_are : (t : Sought) → t.new.proof.problem.vars ≡ t.old.proof.problem.vars
vars_are t = ap (λ (p : Problem). p.vars) (problem_is t) ∙ t.sought.search.logged.vars

clauses_are : (t : Sought) → t.new.proof.problem.clauses ≡ t.old.proof.problem.clauses
clauses_are t = ap (λ (p : Problem). p.clauses) (problem_is t) ∙ t.sought.search.logged.clauses

steps_are : (t : Sought) → t.new.proof.problem.steps ≡ t.old.proof.problem.steps ++ assumed_by t ∷ []
steps_are t = ap (λ (p : Problem). p.steps) (problem_is t) ∙ t.sought.search.steps

history_is : (t : Sought) → t.new.proof.history ≡ gone_by t ++ Retire (retired_by t) ∷ (lines_by t ++ t.old.proof.history)
history_is t =
    ap (λ (b : ProofLog). b.history) t.sought.ended.proof
    ∙ (without_history (retired (finished_by t)) (leaving (finished_by t))
    ∙ ap (λ (h : History). gone_by t ++ Retire (retired_by t) ∷ h)
    (finished_history t.sought.middle.proof (ending_of t.end)
    ∙ (ap (λ (h : History). finish_lines (ending_of t.end) ++ h) t.sought.search.logged.history
    ∙ sym (append_assoc (finish_lines (ending_of t.end)) t.sought.search.logged.lines t.old.proof.history))))

inside : (t : Sought) → Each (λ line. is_in_step line ≡ true) (lines_by t)
inside t = in_step (ending_of t.end) t.sought.search.logged.lines t.sought.search.logged.inner

whole_before : (t : Sought) → AreWholeSteps (reverse (Retire (retired_by t) ∷ (lines_by t ++ t.old.proof.history)))
whole_before t = whole_after (lines_by t) t.old.proof.history (retired_by t) t.rest.whole (inside t)

step_lines : (t : Sought) → steps_of (reverse t.new.proof.history) ≡ steps_of (reverse t.old.proof.history) ++ reverse (lines_by t) ∷ []
step_lines t =
    ap (λ (h : History). steps_of (reverse h)) (history_is t)
    ∙ (lines_deleted (leaving (finished_by t)) (Retire (retired_by t) ∷ (lines_by t ++ t.old.proof.history)) (whole_before t)
    ∙ step_lines_are (lines_by t) t.old.proof.history (retired_by t) t.rest.whole (inside t))

one_longer : (t : Sought) → length t.new.proof.problem.steps ≡ length t.old.proof.problem.steps + 1
one_longer t = ap length (steps_are t) ∙ length-append t.old.proof.problem.steps (assumed_by t ∷ [])

number_now : (t : Sought) → step_of t.new.proof.history ≡ length t.new.proof.problem.steps + 1
number_now t =
    ap step_of (history_is t)
    ∙ (step_deleted (leaving (finished_by t)) (Retire (retired_by t) ∷ (lines_by t ++ t.old.proof.history))
    ∙ (ap (λ (n : ℕ). n + 1) (step_kept (lines_by t) t.old.proof.history (inside t) ∙ t.rest.number) ∙ ap (λ (n : ℕ). n + 1) (sym (one_longer t))))

right_by : (t : Sought) → NoneRefused t.new.proof.problem t.new.proof.history
right_by t = subst (NoneRefused t.new.proof.problem) (reverse-reverse t.new.proof.history) t.accepted.lines

rests : (t : Sought) → IsAtRest t.new
rests t =
    record {
      well = t.sought.ended.well;
      idle = t.sought.ended.stage;
      activations = omega (arith, t.sought.ended.vars, t.sought.search.logged.activations, t.rest.activations, vars_are t, one_longer t);
      number =
          number_now t;
      count =
          ap length (step_lines t)
          ∙ (length-append (steps_of (reverse t.old.proof.history)) (reverse (lines_by t) ∷ []) ∙ (ap (λ (n : ℕ). n + 1) t.rest.count ∙ sym (one_longer t)));
      stand = λ c there. axioms_stand_still t.new.proof.problem t.new.proof.history c (right_by t) there;
      retired = λ n low high. activations_stay_retired t.new.proof.problem t.new.proof.history n (right_by t) low (omega (arith, high, number_now t));
      whole = subst (λ (h : History). AreWholeSteps (reverse h)) (sym (history_is t))
          (whole_deleted (leaving (finished_by t)) (Retire (retired_by t) ∷ (lines_by t ++ t.old.proof.history)) (whole_before t));
    }

-- ---- the candidates

pub one_stored : (s : List Bool) (ts : List (List Bool)) → 0 < length (s ∷ ts)
one_stored s ts = omega arith

both_wide : (t : Sought) → All (λ u. length u ≡ length t.choice.items) (t.stored ∷ option_to_list t.older)
both_wide t =
    All-from_recursion (λ (u : List Bool). length u ≡ length t.choice.items) (t.stored ∷ option_to_list t.older)
    (t.signature, recursion_from_All (λ (u : List Bool). length u ≡ length t.choice.items) (option_to_list t.older) t.older_wide)

-- what a candidate shows, with what it shows of the cycle before
record ShowsPredecessor (t : Sought) (cand : Cand) : Type 0 where
  state : List Bool
  input : List Bool
  joined : Bool
  is : IsPredecessor t.c t.choice (asked t) cand.state cand.input state input joined
  before : cand.before ≡ cond joined (Some (record { state = state; input = input })) None

shows : (t : Sought) (cand : Cand) → IsShownIn t.e (assumed_by t) cand → ShowsPredecessor t cand
shows t cand h =
    record {
      state = bits_on h.value t.e.older_states;
      input = bits_on h.value t.e.older_inputs;
      joined = joins h.value t.e.link;
      is =
          subst (λ (s : List Bool). IsPredecessor t.c t.choice (asked t) s cand.input (bits_on h.value t.e.older_states) (bits_on h.value t.e.older_inputs)
          (joins h.value t.e.link)) (sym h.state)
          (subst (λ (x : List Bool). IsPredecessor t.c t.choice (asked t) (bits_on h.value t.e.states) x (bits_on h.value t.e.older_states)
          (bits_on h.value t.e.older_inputs) (joins h.value t.e.link)) (sym h.input)
          (t.solutions h.value (next_activation t.old.proof.problem) (asked t) t.state (one_stored t.stored (option_to_list t.older)) (both_wide t)
          h.clauses h.holds));
      before = h.before;
    }

candidate_of : (t : Sought) (cand : Cand) → ShowsPredecessor t cand → IsCandidate t.c t.choice t.present (t.stored ∷ option_to_list t.older) cand
candidate_of t cand shown =
    let p = shown.is in
    record {
      predecessor = is_predecessor t.c t.choice t.present (t.stored ∷ option_to_list t.older) cand.state cand.input p.state_width p.input_width p.agrees p.next;
      leads = p.leads;
    }

-- ---- the states before the candidates

pub named_right : (c : Circuit) (choice : Chosen) (older s u y : List Bool) → IsBefore c choice older s u y →
    is_right_before c choice (Some older) s (Some (record { state = u; input = y })) ≡ true
named_right c choice older s u y h =
    and_from _ _
    (and_from _ _ (and_from _ _ (eq-eqb (length u) (length c.flops) h.state_width) (eq-eqb (length y) (length c.inputs) h.input_width))
    (ap (λ (t : List Bool). bits_eq t older) h.signature ∙ bits_same older))
    (ap (λ (t : List Bool). bits_eq t s) h.next ∙ bits_same s)

pub right_before : (c : Circuit) (choice : Chosen) (older : Option (List Bool)) (q : Present) (s x u y : List Bool) (joined : Bool) → IsDepth (depth_of choice) →
    (depth_of choice ≡ 1 → older ≡ None) → slice_get q.stored 1 ≡ older → IsPredecessor c choice q s x u y joined →
    is_right_before c choice older s (cond joined (Some (record { state = u; input = y })) None) ≡ true
right_before c choice None q s x u y joined (inl one) alone held p =
    ap (λ (b : Bool). is_right_before c choice None s (cond b (Some (record { state = u; input = y })) None)) (p.alone one)
    ∙ ap (λ (b : Bool). b || bits_eq s (reset_state c)) (eq-eqb (depth_of choice) 1 one)
right_before c choice (Some older) q s x u y joined (inl one) alone held p = let none : Some older ≡ None = alone one in absurd (cc)
right_before c choice None q s x u y joined (inr two) alone held p =
    let first = p.first two held in
    ap (λ (b : Bool). is_right_before c choice None s (cond b (Some (record { state = u; input = y })) None)) first.0
    ∙ or_right (depth_of choice == 1) (bits_eq s (reset_state c)) (ap (λ (t : List Bool). bits_eq t (reset_state c)) first.1 ∙ bits_same (reset_state c))
right_before c choice (Some older) q s x u y joined (inr two) alone held p =
    let later = p.later older two held in
    ap (λ (b : Bool). is_right_before c choice (Some older) s (cond b (Some (record { state = u; input = y })) None)) later.0
    ∙ named_right c choice older s u y later.1

pub second_held : (stored : List Bool) (older : Option (List Bool)) → slice_get (stored ∷ option_to_list older) 1 ≡ older
second_held stored None = refl
second_held stored (Some older) = refl

-- a candidate that is shown or known
right_cand : (t : Sought) (cand : Cand) → IsOneOf t.e (assumed_by t) t.known cand → IsRightCand t.c t.choice t.present t.stored t.older cand
right_cand t cand (inl is) =
    let h : ShowsPredecessor t cand = shows t cand is in
    record {
      candidate = candidate_of t cand h;
      before =
          ap (is_right_before t.c t.choice t.older cand.state) h.before
          ∙ right_before t.c t.choice t.older (asked t) cand.state cand.input h.state h.input h.joined t.kept t.alone (second_held t.stored t.older) h.is;
    }
right_cand t cand (inr is) = subst (λ (o : Option Cand). IfSome o (IsRightCand t.c t.choice t.present t.stored t.older)) is t.known_right

all_right : (t : Sought) → All (IsRightCand t.c t.choice t.present t.stored t.older) t.cands
all_right t =
    All-permutation (IsRightCand t.c t.choice t.present t.stored t.older) t.found t.cands t.order.same
    (All-weaker (IsOneOf t.e (assumed_by t) t.known) (IsRightCand t.c t.choice t.present t.stored t.older) (right_cand t) t.found
    t.sought.search.cands.shown)

befores : (t : Sought) → HaveBefores t.c t.choice t.older t.cands
befores t =
    All-weaker (IsRightCand t.c t.choice t.present t.stored t.older)
    (λ (cand : Cand). IsTrue (is_right_before t.c t.choice t.older cand.state cand.before)) (λ cand h. h.before) t.cands (all_right t)

-- ---- the blocks

activation_same : (t : Sought) → activation_in t.old.proof ≡ next_activation t.old.proof.problem
activation_same t = ap (activation_of t.old.proof.problem) t.rest.number

due_blocks : (t : Sought) → IsPermutation (blocks_due (next_activation t.old.proof.problem) (block_for t.e) t.cands) (blocks_in (reverse (lines_by t)))
due_blocks t =
    blocks_are_due (next_activation t.old.proof.problem) (block_for t.e) t.found t.cands (ending_of t.end) t.sought.search.logged.lines t.order.same
    (t.sought.search.logged.blocks ∙ ap (λ (g : Literal). blocks_due g (block_for t.e) (reverse t.found)) (activation_same t))

-- ---- a finished list is whole

activation_now : (t : Sought) → activation_of t.new.proof.problem (length t.old.proof.problem.steps + 1) ≡ next_activation t.old.proof.problem
activation_now t = λ i. record { variable = vars_are t i + (length t.old.proof.problem.steps + 1); positive = true }

not_listed : (cands : List Cand) (s : List Bool) → is_listed (listed cands) s ≡ false → Each (λ cand. cand.state ≢ s) cands
not_listed [] s e = tt
not_listed (x ∷ cands) s e = by (bits_eq s x.state) refl e (not_listed cands s)
  where
    by : (b : Bool) → bits_eq s x.state ≡ b → (b || is_listed (listed cands) s) ≡ false →
        (is_listed (listed cands) s ≡ false → Each (λ cand. cand.state ≢ s) cands) →
        (x.state ≢ s) × Each (λ cand. cand.state ≢ s) cands
    by true b e rest = absurd (true≢false e)
    by false b e rest = (λ same. true≢false (sym (ap (bits_eq s) same ∙ bits_same s) ∙ b), rest e)

state_width : (t : Sought) (cand : Cand) → IsRightCand t.c t.choice t.present t.stored t.older cand → length cand.state ≡ length t.c.flops
state_width t cand h = (led_widths t.c cand.state cand.input h.candidate.leads.there h.candidate.leads.leads).0

blocks_hold : (t : Sought) (v : ℕ → Bool) (s : List Bool) → is_listed (listed t.cands) s ≡ false →
    ((u : List Bool) → length u ≡ length t.c.flops → u ≢ s → Satisfies v (negation (next_activation t.old.proof.problem) ∷ block_for t.e u)) →
    Each (Satisfies v) (blocks_in (reverse (lines_by t)))
blocks_hold t v s out f =
    let g : Literal = next_activation t.old.proof.problem in
    let apart : All (λ cand. cand.state ≢ s) t.cands = All-from_recursion (λ (cand : Cand). cand.state ≢ s) t.cands (not_listed t.cands s out) in
    let each : All (λ cand. Satisfies v (negation g ∷ block_for t.e cand.state)) t.cands = λ i d lt.
    f (get_or t.cands i d).state (state_width t (get_or t.cands i d) (all_right t i d lt)) (apart i d lt) in
    recursion_from_All (Satisfies v) (blocks_in (reverse (lines_by t)))
    (All-permutation (Satisfies v) (blocks_due g (block_for t.e) t.cands) (blocks_in (reverse (lines_by t))) (due_blocks t)
    (All-map (Satisfies v) (λ (s : List Bool). negation g ∷ block_for t.e s) (listed t.cands)
    (All-map (λ (s : List Bool). Satisfies v (negation g ∷ block_for t.e s)) (λ (c : Cand). c.state) t.cands each)))

named_is : (t : Sought) (id : ℕ) → t.end ≡ Finished id → finishes_in (reverse (lines_by t)) ≡ id ∷ []
named_is t id e =
    ap (λ (end : ListEnd). finishes_in (reverse (finish_lines (ending_of end) ++ t.sought.search.logged.lines))) e
    ∙ one_finish id t.sought.search.logged.lines t.sought.search.logged.inner

lines_now : (t : Sought) → get_or (steps_of (reverse t.new.proof.history)) (length t.old.proof.problem.steps) [] ≡ reverse (lines_by t)
lines_now t =
    ap (λ (ss : List (List Line)). get_or ss (length t.old.proof.problem.steps) []) (step_lines t)
    ∙ get_last (steps_of (reverse t.old.proof.history)) (reverse (lines_by t)) (length t.old.proof.problem.steps) [] (sym t.rest.count)

refuted : (t : Sought) (id : ℕ) → t.end ≡ Finished id → (s x : List Bool) → length s ≡ length t.c.flops → length x ≡ length t.c.inputs →
    agrees t.c t.choice (t.stored ∷ option_to_list t.older) s ≡ true → Shows t.present (next t.c s x) → is_listed (listed t.cands) s ≡ false → ⊥
refuted t id fin s x ls lx ag nx out =
    let p : Problem = t.new.proof.problem in
    let i : ℕ = length t.old.proof.problem.steps in
    let log : List Line = reverse t.new.proof.history in
    let step : slice_get p.steps i ≡ Some (assumptions_for t.e (activation_of p (i + 1)) (asked t)) =
    ap (λ (cs : List Clause). slice_get cs i) (steps_are t)
    ∙ (slice_get_last t.old.proof.problem.steps (assumed_by t) i refl ∙ ap (λ (g : Literal). Some (assumptions_for t.e g (asked t))) (sym (activation_now t))) in
    let shown : Shown (record { problem = p; block = block_for t.e }) (length t.c.flops) (i + 1) s =
    t.shown p i (asked t) s x (vars_are t ∙ t.about.vars) (clauses_are t ∙ t.about.clauses) step ls lx ag nx in
    let v : ℕ → Bool = shown.value in
    let blocks : Each (Satisfies v) (blocks_in (reverse (lines_by t))) =
    blocks_hold t v s out (λ u lu apart. subst (λ (g : Literal). Satisfies v (negation g ∷ block_for t.e u)) (activation_now t) (shown.blocks u lu apart)) in
    let spot =
    finish_at (Satisfies v) id log [] i (i + 1) (omega arith) (ap (filter_map finish_of_line) (lines_now t) ∙ named_is t id fin)
    (subst (λ (ls : List Line). Each (Satisfies v) (filter_map block_of_line ls)) (sym (lines_now t)) blocks) tt in
    let suits : Suits p (history_of spot.before) (i + 1) v = record {
      in_range = omega (arith, one_longer t);
      clauses = shown.clauses;
      blocks = All-from_recursion (Satisfies v) (blocks_of (reverse_aux spot.before []) (i + 1)) spot.blocks;
      activation = shown.activation;
      other_activations = shown.other_activations;
    } in
    finished_steps_are_refuted p log spot.before spot.after id v t.accepted spot.parts
    (subst (λ (n : ℕ). Suits p (history_of spot.before) n v) (sym {a = step_of (reverse_aux spot.before [])} spot.step) suits)
    (subst (λ (n : ℕ). All (λ l. IsTrue (literal_value v l)) (assumptions_of p n)) (sym {a = step_of (reverse_aux spot.before [])} spot.step) shown.assumptions)

each_listed : (asked : List (List Bool)) (cands : List Cand) → Each (λ cand. is_listed asked cand.state ≡ true) cands →
    Each (λ s. is_listed asked s ≡ true) (listed cands)
each_listed asked [] h = tt
each_listed asked (c ∷ cs) h = (h.0, each_listed asked cs h.1)

candidates : (t : Sought) → All (IsCandidate t.c t.choice t.present (t.stored ∷ option_to_list t.older)) t.cands
candidates t =
    All-weaker (IsRightCand t.c t.choice t.present t.stored t.older) (IsCandidate t.c t.choice t.present (t.stored ∷ option_to_list t.older))
    (λ cand h. h.candidate) t.cands (all_right t)

whole : (t : Sought) (id : ℕ) → t.end ≡ Finished id → listed t.cands ≡ predecessors t.c t.choice t.present (t.stored ∷ option_to_list t.older)
unfolding predecessors
whole t id fin =
    let q : List Bool → Bool = λ s. agrees t.c t.choice (t.stored ∷ option_to_list t.older) s && some_input_shows t.c s t.present in
    let all : List (List Bool) = all_bits (length t.c.flops) in
    let asked_for : List (List Bool) = predecessors t.c t.choice t.present (t.stored ∷ option_to_list t.older) in
    same_lists (listed t.cands) asked_for
    (asc_of_pairs (listed t.cands) (in_order_ascend t.found t.cands t.order t.sought.search.cands.apart))
    (asc_filter q all (asc_all_bits (length t.c.flops)))
    (λ s m.
    listed_member s asked_for
    (each_member (λ (s : List Bool). is_listed asked_for s ≡ true) s (listed t.cands)
    (each_listed asked_for t.cands
    (recursion_from_All (λ (cand : Cand). is_listed asked_for cand.state ≡ true) t.cands (λ i d lt. (candidates t i d lt).predecessor))) m))
    (λ s m.
    let found = filter_member q s all m in
    let tests = both (agrees t.c t.choice (t.stored ∷ option_to_list t.older) s) (some_input_shows t.c s t.present) found.0 in
    let x = passing (λ (x : List Bool). is_shown t.present (next t.c s x)) (all_bits (length t.c.inputs)) tests.1 in
    by s (is_listed (listed t.cands) s) refl
    (refuted t id fin s x.item (all_bits_length (length t.c.flops) s found.1) (all_bits_length (length t.c.inputs) x.item x.member) tests.0
    (shows_where t.present (next t.c s x.item) x.passes)))
  where
    by : (s : List Bool) (b : Bool) → is_listed (listed t.cands) s ≡ b → (is_listed (listed t.cands) s ≡ false → ⊥) → Member s (listed t.cands)
    by s true e out = listed_member s (listed t.cands) e
    by s false e out = absurd (out e)

-- ---- the bound

bounded : (t : Sought) → t.end ≡ Conflicts → (run : List Literal) → HasVariables t.e.variables run → IsUnitRun t.e.clauses (assumed_by t) run →
    t.b < 2 ^ (t.e.variables - length run)
bounded t ended run range unit =
    let p : Problem = t.old.proof.problem in
    subst (λ (n : ℕ). t.b < 2 ^ (n - length run)) t.about.vars
    (bound_is p t.e.clauses (standing t.old.proof) (assumed_by t) t.b (length p.steps) (t.old.vars + 1)
    (λ c there. t.rest.stand c (subst (λ (cs : List Clause). Contains cs c) (sym t.about.clauses) there)) t.rest.retired (contains_first (next_activation p) _)
    (omega (arith, t.rest.activations))
    (t.sought.search.bound ended) run (subst (λ (n : ℕ). HasVariables n run) (sym t.about.vars) range) unit)

-- ---- the known candidate

full : (k b : ℕ) (a : Clause) (s : SolverState) (lines : List Line) (count : ℕ) (end : ListEnd) → end ≡ Candidates → EndedBy k b a s lines count end →
    k ≤ count
full k b a s lines count end is h =
    let ended : EndedBy k b a s lines count Candidates = subst (EndedBy k b a s lines count) is h in omega (arith, ended.1)

has_known : (t : Sought) (cand : Cand) → t.known ≡ Some cand → t.end ≡ Candidates → is_listed (listed t.cands) cand.state ≡ true
has_known t cand is ended =
    let search = t.sought.search in
    list_any-IsPermutation (bits_eq cand.state) (listed t.cands) (listed t.found)
    (IsPermutation-map (λ (c : Cand). c.state) t.cands t.found (IsPermutation-sym t.found t.cands t.order.same))
    ∙ search.with_known.there cand is (full t.k t.b (assumed_by t) t.sought.middle search.logged.lines (length t.found) t.end ended search.ended)

-- ---- the lemmas of the solves

finished_few : (limit : ℕ) (b : ProofLog) (end : Option ℕ) → HasFewLemmas limit b.history → HasFewLemmas limit (finished b end).history
finished_few limit b None few = few
finished_few limit b (Some id) few = few

without_few : (limit : ℕ) (b : ProofLog) (ids : List ℕ) → HasFewLemmas limit b.history → HasFewLemmas limit (without b ids).history
without_few limit b [] few = few
without_few limit b (id ∷ ids) few = few

few_after : (t : Sought) → HasFewLemmas t.b t.old.proof.history → HasFewLemmas t.b t.new.proof.history
few_after t few =
    subst (λ (b : ProofLog). HasFewLemmas t.b b.history) (sym t.sought.ended.proof)
    (without_few t.b (retired (finished_by t)) (leaving (finished_by t))
    (finished_few t.b t.sought.middle.proof (ending_of t.end) (t.sought.search.limited.few few)))

-- ---- the step

pub made_step : (t : Sought) (listing : Listing) → listing ≡ record { cands = t.cands; end = t.end } →
    HasMadeStep t.c t.choice t.old t.new t.present t.stored t.older t.known t.k t.b listing
made_step t listing e = subst (HasMadeStep t.c t.choice t.old t.new t.present t.stored t.older t.known t.k t.b) (sym e) (record {
  rest = rests t;
  count = one_longer t;
  listed = record {
    was_well = refl;
    well = refl;
    goes_on = record {
      circuit = refl;
      choice = refl;
      vars = vars_are t;
      clauses = clauses_are t;
      more = gone_by t ++ Retire (retired_by t) ∷ lines_by t;
      history = history_is t ∙ sym (append_assoc (gone_by t) (Retire (retired_by t) ∷ lines_by t) t.old.proof.history);
    };
    steps = steps_are t ∙ ap (λ (e : Encoded). t.old.proof.problem.steps ++ assumptions_for e (next_activation t.old.proof.problem) (asked t) ∷ []) t.about.encoding;
    lines = reverse (lines_by t);
    step_lines = step_lines t;
    ascend = in_order_ascend t.found t.cands t.order t.sought.search.cands.apart;
    candidates = candidates t;
    befores = befores t;
    ends = end_is (predecessors t.c t.choice t.present (t.stored ∷ option_to_list t.older)) t.k t.b (assumed_by t) t.sought.middle t.sought.search.logged.lines
        (length t.found) t.cands t.end
        (length_permutation t.found t.cands t.order.same) t.sought.search.ended (whole t);
    blocks =
        ap (λ (e : Encoded). are_right_blocks (blocks_due (next_activation t.old.proof.problem) (block_for e) t.cands) (blocks_in (reverse (lines_by t))))
        (sym t.about.encoding)
        ∙ right_blocks (blocks_due (next_activation t.old.proof.problem) (block_for t.e) t.cands) (blocks_in (reverse (lines_by t))) (due_blocks t);
    finish =
        ap (λ (e : Encoded). is_right_finish t.b (assumptions_for e (next_activation t.old.proof.problem) (asked t)) (reverse (lines_by t)) t.end
        (finishes_in (reverse (lines_by t)))) (sym t.about.encoding)
        ∙ finish_is t.k t.b (assumed_by t) t.sought.middle t.sought.search.logged.lines
        (length t.found) t.end t.sought.search.logged.inner t.sought.search.ended;
    with_known = has_known t;
    few = few_after t;
    bound = subst
        (λ (e : Encoded). t.end ≡ Conflicts → (run : List Literal) → HasVariables e.variables run →
        IsUnitRun e.clauses (assumptions_for e (next_activation t.old.proof.problem) (asked t)) run →
        t.b < 2 ^ (e.variables - length run)) t.about.encoding (bounded t);
  };
})

-- ---- what the laws of the encoding give

pub readable_by : (c : Circuit) (choice : Chosen) (e : Encoded) → e ≡ encoding_by c choice → IsTidy c choice (encoding_by c choice) → IsReadable e
readable_by c choice e is tidy = subst IsReadable (sym is) (record {
  room = tidy.room;
  assumptions_range = tidy.assumptions_range;
  assumptions_distinct = tidy.assumptions_distinct;
  states = tidy.states_range;
  inputs = tidy.inputs_range;
  link = tidy.link_range;
  older_states = tidy.older_states_range;
  older_inputs = tidy.older_inputs_range;
  block_range = tidy.block_range;
  block_distinct = tidy.block_distinct;
})

pub next_width : (c : Circuit) (choice : Chosen) (e : Encoded) → e ≡ encoding_by c choice → IsTidy c choice (encoding_by c choice) → (n : ℕ) →
    n ≡ length c.flops → n ≡ length e.next
next_width c choice e is tidy n w = w ∙ (sym tidy.next_width ∙ ap (λ (e : Encoded). length e.next) (sym is))

pub signature_width : (c : Circuit) (choice : Chosen) (e : Encoded) → e ≡ encoding_by c choice → IsTidy c choice (encoding_by c choice) → (n : ℕ) →
    n ≡ length choice.items → n ≡ length e.signatures
signature_width c choice e is tidy n w = w ∙ (sym tidy.signatures_width ∙ ap (λ (e : Encoded). length e.signatures) (sym is))

pub older_width : (c : Circuit) (choice : Chosen) (e : Encoded) (older : Option (List Bool)) → e ≡ encoding_by c choice →
    IsTidy c choice (encoding_by c choice) → IsDepth (depth_of choice) → (depth_of choice ≡ 1 → older ≡ None) → AreWide (length choice.items) older →
    AreWide (length e.older_signatures) older
older_width c choice e older is tidy (inl one) alone wide =
    subst (AreWide (length e.older_signatures)) (sym (alone one)) (All-from_recursion (λ (t : List Bool). length t ≡ length e.older_signatures) [] tt)
older_width c choice e older is tidy (inr two) alone wide =
    subst (λ (n : ℕ). AreWide n older) (sym (tidy.older_signatures_width two) ∙ ap (λ (e : Encoded). length e.older_signatures) (sym is)) wide

pub shown_by : (c : Circuit) (choice : Chosen) (e : Encoded) → e ≡ encoding_by c choice → PredecessorsAreShown c choice (encoding_by c choice) →
    PredecessorsAreShown c choice e
shown_by c choice e is h = subst (λ (e : Encoded). PredecessorsAreShown c choice e) (sym is) h

pub solutions_by : (c : Circuit) (choice : Chosen) (e : Encoded) → e ≡ encoding_by c choice →
    SolutionsArePredecessors c choice (encoding_by c choice) → SolutionsArePredecessors c choice e
solutions_by c choice e is h = subst (λ (e : Encoded). SolutionsArePredecessors c choice e) (sym is) h

pub accepted_by : (p : Problem) (h : History) (log : List Line) → history_of log ≡ h → IsAccepted p log → IsAccepted p (reverse h)
accepted_by p h log e ok = subst (IsAccepted p) (sym (ap reverse (sym e) ∙ reverse-reverse log)) ok

pub known_width : (c : Circuit) (choice : Chosen) (e : Encoded) (present : Seen) (stored : List Bool) (older : Option (List Bool)) (known : Option Cand) →
    e ≡ encoding_by c choice → IsTidy c choice (encoding_by c choice) → IfSome known (IsRightCand c choice present stored older) →
    IfSome known (λ cand. length cand.state ≡ length e.states)
known_width c choice e present stored older None is tidy right = tt
known_width c choice e present stored older (Some cand) is tidy right =
    (led_widths c cand.state cand.input right.candidate.leads.there right.candidate.leads.leads).0 ∙ (sym tidy.states_width ∙ ap (λ (e : Encoded). length e.states) (sym is))

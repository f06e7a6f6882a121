-- When a report is valid: a test by replay of the runs and by the check of its log.
use Rattle.std.specs.Prelude.{◌≡◌, ℕ, ◌+◌, ◌-◌, ◌==◌, nat_eq, nat_le, nat_lt, Bool, true, false, not, ◌&&◌, ◌||◌, List, [], ◌∷◌, ◌++◌, length, map}
use Rattle.std.specs.Prelude.{filter_map, Option, Some, None, option_map, if◌then◌else◌, slice_get, slice_index_or, All, IsTrue}
use Rattle.std.specs.Option.{option_or}
use Rattle.std.specs.Ordering.{is_lt, bool_cmp}
use Rattle.std.specs.Cmp.Lexicographic.{pointwise, slice_cmp}
use Rattle.std.specs.List.{list_all, list_any, range_with_len, last_or}
use Rattle.bs_bits.specs.Bits.{bits_eq}
use Rattle.bs_scan.specs.declared.seen.Seen.{Seen}
use Rattle.bs_scan.specs.Seen.{is_shown, seen_eq}
use Rattle.bs_net.specs.Circuit.{Circuit, next, reset_state}
use Rattle.bs_scan.specs.Choice.{Chosen, depth_of}
use Rattle.bs_scan.specs.Signature.{signature}
use Rattle.bs_clause.specs.Literal.{Literal, Clause, negation, same_literal}
use Rattle.bs_log.specs.declared.line.Line.{Line}
use Rattle.bs_log.specs.History.{activation_of}
use Rattle.bs_log.specs.Refusal.{assumptions_of, IsAccepted}
use Rattle.bs_log.specs.FirstRefused.{first_refused}
use Rattle.bs_log.specs.Shown.{Basis}
use Rattle.bs_log.specs.Steps.{steps_of, last_solve, is_spent, block_of_line, finish_of_line}
use Rattle.bs_report.specs.declared.report.Before.{Before}
use Rattle.bs_report.specs.declared.report.Cand.{Cand}
use Rattle.bs_report.specs.declared.report.HitLine.{HitLine}
use Rattle.bs_report.specs.declared.report.ListEnd.{ListEnd}
use Rattle.bs_report.specs.declared.report.ListEnd.TheVariants.{Finished, Candidates as ByCandidates, Conflicts as ByConflicts}
use Rattle.bs_report.specs.declared.report.Step.{Step}
use Rattle.bs_report.specs.declared.report.Stop.{Stop}
use Rattle.bs_report.specs.declared.report.Stop.TheVariants as stops
use Rattle.bs_report.specs.declared.report.Budgets.{Budgets}
use Rattle.bs_report.specs.declared.report.Report.{Report}
use Rattle.bs_report.specs.declared.part.Part.{Part}
use Rattle.bs_report.specs.declared.part.Part.TheVariants as parts
use Rattle.bs_scan.specs.Crash.{Crash}
use Rattle.bs_report.specs.Step.{stored_of, listed, hit_of}
use Rattle.bs_scan.specs.Present.{Present, present_in}
use Rattle.bs_report.specs.Chain.{present_after, last_present}
use Rattle.bs_report.specs.Trace.{trace_end, trace_states, trace_inputs}

-- a part, where its test fails
abbrev pub unless : Bool → Part → Option Part
unless right part = if right then None else Some part

abbrev pub all_bits_eq : List (List Bool) → List (List Bool) → Bool
all_bits_eq = pointwise bits_eq

-- ---- a step, counted from 0, against the replayed runs

-- the present that a step must have
abbrev pub due_at : Crash → List Step → ℕ → Option Present
due_at crash steps i = slice_index_or (Some (present_in crash.dump) ∷ map (present_after crash) steps) i None

abbrev pub has_state : Option Present → Seen → Bool
has_state None s = false
has_state (Some due) s = seen_eq s due.state

abbrev pub has_stored : Option Present → List (List Bool) → Bool
has_stored None stored = false
has_stored (Some due) stored = all_bits_eq stored due.stored

abbrev pub no_cand : Cand
no_cand = record { state = []; input = []; before = None }

abbrev pub cand_at : Step → ℕ → Cand
cand_at step j = slice_index_or step.cands j no_cand

-- whether the state before a candidate's state s is right. Where the step has an older signature, one is named, which has the
-- widths and that signature and leads to s. Where it has none, none is named, and above depth 1 s is the reset state.
abbrev pub is_right_before : Circuit → Chosen → Option (List Bool) → List Bool → Option Before → Bool
is_right_before c choice None s None = (depth_of choice == 1) || bits_eq s (reset_state c)
is_right_before c choice None s (Some before) = false
is_right_before c choice (Some older) s None = false
is_right_before c choice (Some older) s (Some before) =
    (length before.state == length c.flops)
    && (length before.input == length c.inputs)
    && bits_eq (signature choice before.state) older
    && bits_eq (next c before.state before.input) s

-- the candidate is greater than the one before, has the widths and the stored signature, leads to a state that shows the present
-- one, is within the budget, and has the right state before it
abbrev pub is_right_cand : Crash → Budgets → Step → ℕ → Bool
is_right_cand crash budgets step j =
    ((j == 0) || is_lt (slice_cmp bool_cmp (cand_at step (j - 1)).state (cand_at step j).state))
    && (length (cand_at step j).state == length crash.circuit.flops)
    && (length (cand_at step j).input == length crash.circuit.inputs)
    && bits_eq (signature crash.choice (cand_at step j).state) step.stored
    && is_shown step.present (next crash.circuit (cand_at step j).state (cand_at step j).input)
    && nat_lt j budgets.candidates
    && is_right_before crash.circuit crash.choice step.older (cand_at step j).state (cand_at step j).before

abbrev pub is_right_count : Budgets → ListEnd → ℕ → Bool
is_right_count budgets ByCandidates count = count == budgets.candidates
is_right_count budgets end count = not (count == budgets.candidates)

abbrev pub same_hit : Option HitLine → Option HitLine → Bool
same_hit None None = true
same_hit (Some a) (Some b) = (a.run == b.run) && (a.cycle == b.cycle) && bits_eq a.state b.state
same_hit a b = false

abbrev pub step_parts : Crash → Report → ℕ → Step → List (Option Part)
step_parts crash r i step =
    unless (has_state (due_at crash r.steps i) step.present) (parts.Present (i + 1)) ∷
    unless (has_stored (due_at crash r.steps i) (stored_of step)) (parts.Stored (i + 1)) ∷
    (map (λ j. unless (is_right_cand crash r.budgets step j) (parts.Candidate (i + 1) (j + 1))) (range_with_len 0 (length step.cands))
    ++ (unless (is_right_count r.budgets step.end (length step.cands)) (parts.Listed (i + 1)) ∷
    unless (same_hit step.hit (hit_of crash step.cands)) (parts.Hit (i + 1)) ∷ []))

-- ---- the stop

-- the cause after a step without a hit
abbrev pub cause_of_end : Step → ListEnd → Stop
cause_of_end step (Finished id) = if length step.cands == 0 then stops.Empty else stops.Nohit
cause_of_end step ByCandidates = stops.Candidates
cause_of_end step ByConflicts = stops.Conflicts

-- the cause at the dump or a hit, after so many steps
abbrev pub cause_at : Budgets → ℕ → List (List Bool) → Option Stop
cause_at budgets count stored =
    if length stored == 0 then Some stops.Reset else if count == budgets.steps then Some stops.Length else None

abbrev pub cause_after : Budgets → List Step → Option Present → Option Stop
cause_after budgets steps (Some now) = cause_at budgets (length steps) now.stored
cause_after budgets steps None = option_map (λ step. cause_of_end step step.end) (last_or None steps)

abbrev pub cause_of : Crash → Budgets → List Step → Option Stop
cause_of crash budgets steps = cause_after budgets steps (last_present crash (Some (present_in crash.dump)) steps)

abbrev pub stop_number : Stop → ℕ
stop_number stops.Reset = 0
stop_number stops.Length = 1
stop_number stops.Nohit = 2
stop_number stops.Empty = 3
stop_number stops.Candidates = 4
stop_number stops.Conflicts = 5

abbrev pub is_cause : Stop → Option Stop → Bool
is_cause stop None = false
is_cause stop (Some cause) = stop_number stop == stop_number cause

-- ---- the trace

-- whether the trace goes through the states hit and ends in what is known of this state
abbrev pub is_right_trace : Seen → Report → Bool
is_right_trace last r =
    (all_bits_eq r.states (trace_states last.bits r.steps) && bits_eq r.free last.free) && all_bits_eq r.inputs (trace_inputs r.steps)

-- ---- a step, counted from 0, against the log

abbrev pub has_clause : List Clause → Clause → Bool
has_clause clauses c = list_any (pointwise same_literal c) clauses

abbrev pub lines_at : Report → ℕ → List Line
lines_at r i = slice_index_or (steps_of r.log) i []

-- the blocks that a list owes: for each candidate the negated activation literal and the state's block
abbrev pub blocks_due : Literal → (List Bool → Clause) → List Cand → List Clause
blocks_due activation block cands = map (λ s. negation activation ∷ block s) (listed cands)

abbrev pub are_right_blocks : List Clause → List Clause → Bool
are_right_blocks due blocks =
    (length blocks == length due) && list_all (has_clause due) blocks && list_all (has_clause blocks) due

-- the step's finish lines name these lemmas: the one that ends a finished list, and none beside; b is the budget of lemmas
abbrev pub is_right_finish : ℕ → Clause → List Line → ListEnd → List ℕ → Bool
is_right_finish b assumptions lines (Finished id) named = pointwise nat_eq named (id ∷ [])
is_right_finish b assumptions lines ByCandidates named = length named == 0
is_right_finish b assumptions lines ByConflicts named = (length named == 0) && is_spent b assumptions (last_solve lines)

-- the clauses that block lines add
abbrev pub blocks_in : List Line → List Clause
blocks_in lines = filter_map block_of_line lines

-- the lemmas that finish lines name
abbrev pub finishes_in : List Line → List ℕ
finishes_in lines = filter_map finish_of_line lines

abbrev pub log_parts : Basis → Report → ℕ → Step → List (Option Part)
log_parts basis r i step =
    unless (are_right_blocks (blocks_due (activation_of basis.problem (i + 1)) basis.block step.cands) (blocks_in (lines_at r i))) (parts.Blocks (i + 1)) ∷
    unless (is_right_finish r.budgets.conflicts (assumptions_of basis.problem (i + 1)) (lines_at r i) step.end (finishes_in (lines_at r i)))
    (parts.Ended (i + 1)) ∷ []

-- ---- the whole report

-- what a rule says of each step, counted from this one on
abbrev pub each_step : (ℕ → Step → List (Option Part)) → ℕ → List Step → List (Option Part)
each_step rule i [] = []
each_step rule i (step ∷ steps) = rule i step ++ each_step rule (i + 1) steps

abbrev pub parts_of : Crash → Basis → Report → List (Option Part)
parts_of crash basis r =
    unless (r.depth == depth_of crash.choice) parts.Format ∷
    each_step (step_parts crash r) 0 r.steps
    ++ (unless (nat_le (length r.steps) r.budgets.steps && is_cause r.stop (cause_of crash r.budgets r.steps)) parts.Stop ∷
    unless (is_right_trace (trace_end crash r.steps) r) parts.Trace ∷
    option_map (λ refused. parts.Log refused.0 refused.1) (first_refused basis.problem r.log) ∷
    each_step (log_parts basis r) 0 r.steps)

-- the first that is there
abbrev pub first_of_all : List (Option Part) → Option Part
first_of_all [] = None
first_of_all (part ∷ others) = option_or part (first_of_all others)

unfoldable pub first_failing : Crash → Basis → Report → Option Part
first_failing crash basis r = first_of_all (parts_of crash basis r)

-- no part fails
abbrev pub IsValid : Crash → Basis → Report → Type 0
IsValid crash basis r = first_failing crash basis r ≡ None

-- the state before each candidate is right, where this is the step's older signature
abbrev pub HaveBefores : Circuit → Chosen → Option (List Bool) → List Cand → Type 0
HaveBefores c choice older cands = All (λ cand. IsTrue (is_right_before c choice older cand.state cand.before)) cands

-- The report is of the depth of the signature, and names the right state before each candidate.
pub record NamesBefores (crash : Crash) (r : Report) : Type 0 where
  pub depth : r.depth ≡ depth_of crash.choice
  pub befores : All (λ step. HaveBefores crash.circuit crash.choice step.older step.cands) r.steps

-- The log is accepted, and to each step it has the blocks and the finish lines that the step's list owes.
pub record IsLogged (basis : Basis) (r : Report) : Type 0 where
  pub accepted : IsAccepted basis.problem r.log
  pub blocks : (i : ℕ) (step : Step) → slice_get r.steps i ≡ Some step →
      are_right_blocks (blocks_due (activation_of basis.problem (i + 1)) basis.block step.cands) (blocks_in (lines_at r i)) ≡ true
  pub finish : (i : ℕ) (step : Step) → slice_get r.steps i ≡ Some step →
      is_right_finish r.budgets.conflicts (assumptions_of basis.problem (i + 1)) (lines_at r i) step.end (finishes_in (lines_at r i)) ≡ true

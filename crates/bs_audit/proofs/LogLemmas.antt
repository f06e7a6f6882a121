-- What the log owes to the steps, one step after another.
use Rattle.std.proofs.Common.{◌≡◌, ℕ, ◌<◌, ◌+◌, ◌-◌, Bool, true, false, List, [], ◌∷◌, ◌++◌, map, length, get_or, take, drop, ap, sym, ◌∙◌, Option}
use Rattle.std.proofs.Common.{Some, None, arith}
use Rattle.std.specs.Prelude.{slice_get, unwrap_or}
use Rattle.std.specs.Option.{option_or}
use Rattle.std.proofs.lemmas.List.{map_more, drop_more, get_or-drop, drop-drop, length-map, length-take-le}
use Rattle.bs_clause.specs.Literal.{Clause, Literal}
use Rattle.bs_log.specs.declared.line.Line.{Line}
use Rattle.bs_log.specs.Refusal.{assumptions_of}
use Rattle.bs_log.specs.Steps.{steps_of}
use Rattle.bs_encode.specs.Tables.{lit}
use Rattle.bs_encode.specs.Encoded.{Encoded}
use Rattle.bs_encode.specs.Assuming.{assumptions_for, block_for, steps_from}
use Rattle.bs_encode.proofs.AssumingLemmas.{steps_from_more}
use Rattle.bs_report.specs.declared.report.Step.{Step}
use Rattle.bs_report.specs.declared.report.Report.{Report}
use Rattle.bs_report.specs.declared.part.Part.{Part}
use Rattle.bs_report.specs.Chain.{present_of}
use Rattle.bs_report.specs.declared.part.Part.TheVariants as parts
use Rattle.bs_report.specs.Valid.{unless, first_of_all, each_step, log_parts, are_right_blocks, blocks_due, blocks_in, is_right_finish, finishes_in}
use Rattle.bs_audit.specs.StepLines.{undeleted, IsSplit}
use Rattle.bs_audit.specs.Logged.{basis_with, lines_parts}
use Rattle.bs_audit.proofs.Follows.{first_append}
use Rattle.bs_audit.proofs.Lines.{blocks_undeleted, finishes_undeleted}

-- ---- what each step assumes

pub assumptions_more : (e : Encoded) (steps : List Step) (i : ℕ) (step : Step) (all new : List Clause) (own : Clause) (activation : Literal) →
    i < length steps → step ≡ get_or steps i step →
    all ≡ steps_from e 1 (map present_of (take i steps)) → activation ≡ lit (e.variables + (i + 1)) true →
    own ≡ assumptions_for e activation (present_of step) → new ≡ all ++ own ∷ [] →
    new ≡ steps_from e 1 (map present_of (take (i + 1) steps))
assumptions_more e steps i step all new own activation lt is a g o n =
    let more : map present_of (take (i + 1) steps) ≡ map present_of (take i steps) ++ present_of step ∷ [] =
    map_more present_of steps i step lt ∙ ap (λ (s : Step). map present_of (take i steps) ++ present_of s ∷ []) (sym is) in
    let long : i + 1 ≡ 1 + length (map present_of (take i steps)) =
    omega (arith, length-map (take i steps) present_of, length-take-le i steps (omega (arith, lt))) in
    n ∙ (ap (λ (l : List Clause). l ++ own ∷ []) a
    ∙ (ap (λ (c : Clause). steps_from e 1 (map present_of (take i steps)) ++ c ∷ [])
    (o ∙ ap (λ (l : Literal). assumptions_for e l (present_of step)) (g ∙ ap (λ (k : ℕ). lit (e.variables + k) true) long))
    ∙ sym (ap (steps_from e 1) more ∙ steps_from_more e 1 (map present_of (take i steps)) (present_of step))))

-- ---- the lines of a step

own_assumptions : (e : Encoded) (steps : List Clause) (i : ℕ) (own : Clause) → slice_get steps i ≡ Some own →
    assumptions_of (basis_with e steps).problem (i + 1) ≡ own
own_assumptions e steps i own h =
    let place : i + 1 - 1 ≡ i = omega arith in ap (λ (k : ℕ). unwrap_or (slice_get steps k) []) place ∙ ap (λ (o : Option Clause). unwrap_or o []) h

own_lines : (log rest lines behind : List Line) (i : ℕ) → drop i (steps_of log) ≡ steps_of rest → IsSplit rest lines behind →
    get_or (steps_of log) i [] ≡ undeleted lines
own_lines log rest lines behind i h split =
    let place : i ≡ i + 0 = omega arith in
    ap (λ (k : ℕ). get_or (steps_of log) k []) place
    ∙ (sym (get_or-drop i (steps_of log) 0 []) ∙ (ap (λ (l : List (List Line)). get_or l 0 []) h ∙ split.first))

pub lines_more : (log rest lines behind : List Line) (i : ℕ) → drop i (steps_of log) ≡ steps_of rest → IsSplit rest lines behind →
    drop (i + 1) (steps_of log) ≡ steps_of behind
lines_more log rest lines behind i h split = sym (drop-drop 1 i (steps_of log)) ∙ (ap (drop 1) h ∙ split.rest)

same_parts : (e : Encoded) (steps : List Clause) (r : Report) (i : ℕ) (step : Step) (own : Clause) (rest lines behind : List Line) →
    slice_get steps i ≡ Some own →
    drop i (steps_of r.log) ≡ steps_of rest → IsSplit rest lines behind →
    log_parts (basis_with e steps) r i step ≡ lines_parts e own r.budgets.conflicts i step (undeleted lines)
same_parts e steps r i step own rest lines behind a h split =
    ap (λ (l : List Line). lines_parts e (assumptions_of (basis_with e steps).problem (i + 1)) r.budgets.conflicts i step l)
    (own_lines r.log rest lines behind i h split)
    ∙ ap (λ (c : Clause). lines_parts e c r.budgets.conflicts i step (undeleted lines)) (own_assumptions e steps i own a)

-- the parts of a step, and of those behind it
log_at : (e : Encoded) (steps : List Clause) (r : Report) (i : ℕ) (step : Step) (own : Clause) (rest lines behind : List Line) → slice_get steps i ≡ Some own →
    drop i (steps_of r.log) ≡ steps_of rest → IsSplit rest lines behind → i < length r.steps → step ≡ get_or r.steps i step →
    first_of_all (each_step (log_parts (basis_with e steps) r) i (drop i r.steps))
    ≡ option_or (first_of_all (lines_parts e own r.budgets.conflicts i step (undeleted lines)))
    (first_of_all (each_step (log_parts (basis_with e steps) r) (i + 1) (drop (i + 1) r.steps)))
log_at e steps r i step own rest lines behind a h split lt is =
    ap (λ (l : List Step). first_of_all (each_step (log_parts (basis_with e steps) r) i l))
    (drop_more r.steps i step lt ∙ ap (λ (s : Step). s ∷ drop (i + 1) r.steps) (sym is))
    ∙ (first_append (log_parts (basis_with e steps) r i step) (each_step (log_parts (basis_with e steps) r) (i + 1) (drop (i + 1) r.steps))
    ∙ ap (λ (l : List (Option Part)). option_or (first_of_all l)
    (first_of_all (each_step (log_parts (basis_with e steps) r) (i + 1) (drop (i + 1) r.steps)))) (same_parts e steps r i step own rest lines behind a h split))

pub log_fails : (e : Encoded) (steps : List Clause) (r : Report) (i : ℕ) (step : Step) (own : Clause) (rest lines behind : List Line) (part : Part) →
    slice_get steps i ≡ Some own →
    drop i (steps_of r.log) ≡ steps_of rest → IsSplit rest lines behind → i < length r.steps → step ≡ get_or r.steps i step →
    Some part ≡ first_of_all (lines_parts e own r.budgets.conflicts i step (undeleted lines)) →
    first_of_all (each_step (log_parts (basis_with e steps) r) i (drop i r.steps)) ≡ Some part
log_fails e steps r i step own rest lines behind part a h split lt is f =
    log_at e steps r i step own rest lines behind a h split lt is
    ∙ ap (λ o. option_or o (first_of_all (each_step (log_parts (basis_with e steps) r) (i + 1) (drop (i + 1) r.steps)))) (sym f)

pub log_goes_on : (e : Encoded) (steps : List Clause) (r : Report) (i : ℕ) (step : Step) (own : Clause) (rest lines behind : List Line) →
    slice_get steps i ≡ Some own →
    drop i (steps_of r.log) ≡ steps_of rest → IsSplit rest lines behind → i < length r.steps → step ≡ get_or r.steps i step →
    None ≡ first_of_all (lines_parts e own r.budgets.conflicts i step (undeleted lines)) →
    first_of_all (each_step (log_parts (basis_with e steps) r) i (drop i r.steps)) ≡ first_of_all
    (each_step (log_parts (basis_with e steps) r) (i + 1) (drop (i + 1) r.steps))
log_goes_on e steps r i step own rest lines behind a h split lt is f =
    log_at e steps r i step own rest lines behind a h split lt is
    ∙ ap (λ o. option_or o (first_of_all (each_step (log_parts (basis_with e steps) r) (i + 1) (drop (i + 1) r.steps)))) (sym f)

-- ---- the parts of a step against its lines

finish_undeleted : (e : Encoded) (assumptions : Clause) (b i : ℕ) (step : Step) (lines : List Line) → lines_parts e assumptions b i step (undeleted lines)
    ≡ unless (are_right_blocks (blocks_due (lit (e.variables + (i + 1)) true) (block_for e) step.cands) (blocks_in lines)) (parts.Blocks (i + 1)) ∷
    unless (is_right_finish b assumptions (undeleted lines) step.end (finishes_in (undeleted lines))) (parts.Ended (i + 1)) ∷ []
finish_undeleted e assumptions b i step lines =
    ap (λ (l : List Clause).
    unless (are_right_blocks (blocks_due (lit (e.variables + (i + 1)) true) (block_for e) step.cands) l) (parts.Blocks (i + 1)) ∷
    unless (is_right_finish b assumptions (undeleted lines) step.end (finishes_in (undeleted lines))) (parts.Ended (i + 1)) ∷ []) (blocks_undeleted lines)

first_is : (e : Encoded) (assumptions : Clause) (b i : ℕ) (step : Step) (lines : List Line) (activation : Literal) (right : Bool) →
    activation ≡ lit (e.variables + (i + 1)) true →
    right ≡ are_right_blocks (blocks_due activation (block_for e) step.cands) (blocks_in lines) →
    first_of_all (lines_parts e assumptions b i step (undeleted lines))
    ≡ option_or (unless right (parts.Blocks (i + 1)))
    (option_or (unless (is_right_finish b assumptions (undeleted lines) step.end (finishes_in (undeleted lines))) (parts.Ended (i + 1))) None)
first_is e assumptions b i step lines activation right g r =
    ap first_of_all (finish_undeleted e assumptions b i step lines)
    ∙ ap (λ (t : Bool).
    option_or (unless t (parts.Blocks (i + 1)))
    (option_or (unless (is_right_finish b assumptions (undeleted lines) step.end (finishes_in (undeleted lines))) (parts.Ended (i + 1))) None))
    (sym (r ∙ ap (λ (l : Literal). are_right_blocks (blocks_due l (block_for e) step.cands) (blocks_in lines)) g))

pub blocks_fail : (e : Encoded) (assumptions : Clause) (b i : ℕ) (step : Step) (lines : List Line) (activation : Literal) (right : Bool) →
    activation ≡ lit (e.variables + (i + 1)) true →
    right ≡ are_right_blocks (blocks_due activation (block_for e) step.cands) (blocks_in lines) → right ≡ false →
    Some (parts.Blocks (i + 1)) ≡ first_of_all (lines_parts e assumptions b i step (undeleted lines))
blocks_fail e assumptions b i step lines activation right g r f =
    sym
    (first_is e assumptions b i step lines activation right g r
    ∙ ap (λ (t : Bool).
    option_or (unless t (parts.Blocks (i + 1)))
    (option_or (unless (is_right_finish b assumptions (undeleted lines) step.end (finishes_in (undeleted lines))) (parts.Ended (i + 1))) None)) f)

pub end_is : (e : Encoded) (assumptions : Clause) (b i : ℕ) (step : Step) (lines : List Line) (activation : Literal) (right ended : Bool) →
    activation ≡ lit (e.variables + (i + 1)) true →
    right ≡ are_right_blocks (blocks_due activation (block_for e) step.cands) (blocks_in lines) → right ≡ true →
    ended ≡ is_right_finish b assumptions (undeleted lines) step.end (finishes_in lines) →
    option_or (unless ended (parts.Ended (i + 1))) None ≡ first_of_all (lines_parts e assumptions b i step (undeleted lines))
end_is e assumptions b i step lines activation right ended g r t d =
    sym
    (first_is e assumptions b i step lines activation right g r
    ∙ (ap (λ (t : Bool).
    option_or (unless t (parts.Blocks (i + 1)))
    (option_or (unless (is_right_finish b assumptions (undeleted lines) step.end (finishes_in (undeleted lines))) (parts.Ended (i + 1))) None)) t
    ∙ ap (λ (t : Bool). option_or (unless t (parts.Ended (i + 1))) None)
    (sym (d ∙ ap (is_right_finish b assumptions (undeleted lines) step.end) (sym (finishes_undeleted lines))))))

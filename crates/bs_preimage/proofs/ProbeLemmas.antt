-- A search about one state.
use Rattle.std.proofs.Common.{◌≡◌, ◌≢◌, ℕ, ◌+◌, ◌-◌, ◌*◌, ◌<◌, ◌≤◌, Bool, true, false, cond, List, [], ◌∷◌, ◌++◌, length, reverse, refl, ap, subst, sym}
use Rattle.std.proofs.Common.{◌∙◌, inl, inr, append_assoc, arith, Option, Some, None}
use Rattle.std.specs.Prelude.{◌^◌, Contains, All, IfSome, ◌&&◌, ◌==◌, slice_get, unwrap_or, IsTrue}
use Rattle.std.specs.Option.{option_to_list}
use Rattle.std.specs.Bool.{beq}
use Rattle.std.specs.List.{AllByRecursion as Each}
use Rattle.std.proofs.lemmas.Bool.{true≢false, ne_eqb, eqb-true, false≢true, eq-eqb}
use Rattle.std.proofs.lemmas.List.{length-append, reverse-append, reverse-reverse}
use Rattle.std.proofs.lemmas.List.Elements.{All-from_recursion, recursion_from_All}
use Rattle.bs_bits.specs.Bits.{bits_eq}
use Rattle.bs_scan.specs.declared.seen.Seen.{Seen}
use Rattle.bs_scan.proofs.KeptLemmas.{kept_each}
use Rattle.bs_scan.proofs.SeenLemmas.{shows_where}
use Rattle.bs_scan.specs.Seen.{kept, Shows, is_shown}
use Rattle.bs_clause.specs.Literal.{Literal, Clause, negation, literal_value, Satisfies}
use Rattle.bs_clause.specs.Range.{IsWithin, HasVariables}
use Rattle.bs_clause.specs.UnitRun.{IsUnitRun}
use Rattle.bs_log.specs.declared.line.Line.{Line}
use Rattle.bs_log.specs.declared.line.Line.TheVariants.{Solve, Lemma, Block, Finish, Retire, Delete}
use Rattle.bs_log.specs.History.{Problem, History, step_of, activation_of}
use Rattle.bs_log.specs.Lean.{IsLean, LemmasAreLean, StepsLeaveKept}
use Rattle.bs_log.specs.Refusal.{has_distinct_variables, assumptions_of, history_of, IsAccepted, NoneRefused}
use Rattle.bs_log.specs.Refutation.{Suits, blocks_of}
use Rattle.bs_log.specs.Shown.{Shown}
use Rattle.bs_log.specs.Steps.{is_lemma_line, is_spent, last_solve}
use Rattle.bs_log.proofs.Laws.{finished_steps_are_refuted}
use Rattle.bs_net.specs.Circuit.{Circuit, next, reset_state, all_bits}
use Rattle.bs_net.specs.Order.{IsChecked}
use Rattle.bs_scan.specs.Choice.{Chosen, depth_of, IsDepth}
use Rattle.bs_scan.specs.Moments.{is_listed}
use Rattle.bs_scan.specs.Present.{Present}
use Rattle.bs_scan.specs.Signature.{agrees, some_input_shows, predecessors}
use Rattle.bs_scan.proofs.SignatureLemmas.{bits_same, bits_same_is, is_predecessor}
use Rattle.bs_solve_lemmas.proofs.Clauses.{contains_first}
use Rattle.bs_solve_lemmas.specs.declared.stage.Stage.TheVariants.{Begun, Blocked, Ended}
use Rattle.bs_solve_lemmas.specs.ProofLog.{ProofLog, next_id, standing}
use Rattle.bs_solve_lemmas.specs.Solver.{SolverState, HasEnded, finished, retired, leaving}
use Rattle.bs_solve_lemmas.specs.Stages.{is_begun, is_solved}
use Rattle.bs_solve_lemmas.proofs.CallerLemmas.{activations_stay_retired, axioms_stand_still, axioms_stand, bound_is}
use Rattle.bs_encode.specs.Encoded.{Encoded, encoding_of}
use Rattle.bs_encode.specs.Transition.{first_next, first_item, variables}
use Rattle.bs_encode.specs.Depth.{encoding_by, linked, link_of}
use Rattle.bs_encode.specs.Assuming.{signed, signed_seen, assumptions_for, block_for, asking, AreWide}
use Rattle.bs_encode.specs.Cycle.{bits_on, IsTransition}
use Rattle.bs_encode.specs.Listing.{IsTidy, PredecessorsAreShown, SolutionsArePredecessors, IsPredecessor, joins}
use Rattle.bs_encode.specs.Meaning.{IsClosed}
use Rattle.bs_encode.proofs.RangeLemmas.{InRange, join, state_vars_ranged, signs_ranged}
use Rattle.bs_encode.proofs.DistinctLemmas.{left_all, right_all, weaken, append_apart, signed_all, above_numbers, above_items}
use Rattle.bs_encode.proofs.LawLemmas.{states_in_place}
use Rattle.bs_encode.proofs.LiteralLemmas.{AllTrue, signs_true, bits_shown}
use Rattle.bs_encode.proofs.FrameLemmas.{length-bits_on, IsIn, raised_in}
use Rattle.bs_encode.proofs.CycleLemmas.{is_transition}
use Rattle.bs_report.specs.declared.report.Cand.{Cand}
use Rattle.bs_report.specs.Valid.{is_right_before}
use Rattle.bs_report.proofs.ValidLemmas.{both}
use Rattle.bs_report.proofs.GoodLemmas.{listed_member, filter_member, passing, all_bits_length}
use Rattle.bs_preimage.specs.declared.next_candidate.TurnEnd.{TurnEnd}
use Rattle.bs_preimage.specs.declared.next_candidate.TurnEnd.TheVariants.{Listed, Refuted, Spent}
use Rattle.bs_preimage.specs.Preimage.{next_activation}
use Rattle.bs_preimage.specs.Listed.{IsRightCand}
use Rattle.bs_preimage.specs.Rest.{IsAbout, made}
use Rattle.bs_preimage.specs.Turn.{IsReadable, MayTurn, TurnsTo, IsShownIn, HasSearched, HasListedOne, HasRefutedAll, HasSpent, activation_in}
use Rattle.bs_preimage.specs.Finding.{is_inner}
use Rattle.bs_preimage.specs.Step.{begun}
use Rattle.bs_preimage.specs.Probe.{IsProbed, IsUnknown, MayProbe, HasSpentBudget, probing_for, probing_at, IsPaused, last_of, probed_of}
use Rattle.bs_preimage.specs.Probe.{HasAnswered, HasProbed, IsReadyFor}
use Rattle.bs_preimage.proofs.FindingLemmas.{spent_is}
use Rattle.bs_preimage.proofs.InnerLemmas.{inner_step, lemmas_inner}
use Rattle.bs_preimage.proofs.StepLinesLemmas.{finish_lines, delete_lines, without_history, without_problem, step_deleted, slice_get_last}
use Rattle.bs_preimage.proofs.TurnLemmas.{shown_is_open}
use Rattle.bs_preimage.proofs.ListedLemmas.{finished_problem, finished_history, right_before, second_held, one_stored}

-- ---- no variable stands twice in what is assumed

-- the variables of the nets, which show the state, and those above them
abbrev IsLow : Circuit → Literal → Type 0
IsLow c l = l.variable ≤ c.nets

abbrev IsHigh : Circuit → Literal → Type 0
IsHigh c l = c.nets + 1 ≤ l.variable

low_states : (c : Circuit) (items : List (List ℕ)) → IsClosed c items → (state : List Bool) → Each (IsLow c) (signed (encoding_of c items).states state)
low_states c items p state =
    signed_all (λ v. v ≤ c.nets) (encoding_of c items).states state
    (weaken (IsWithin c.nets) (IsLow c) (λ l w. w.1) (encoding_of c items).states
    (signs_ranged c.nets true _ (state_vars_ranged c.nets c.nets c.flops (omega arith) (states_in_place c items p))))

high_next : (c : Circuit) (items : List (List ℕ)) (state : Seen) → Each (IsHigh c) (signed_seen (encoding_of c items).next state)
high_next c items state =
    let next : List Literal = (encoding_of c items).next in
    signed_all (λ v. c.nets + 1 ≤ v) (kept state.free next) (kept state.free state.bits)
    (kept_each (IsHigh c) state.free next (above_numbers (c.nets + 1) (first_next c) (length c.flops) (omega arith)))

high_signature : (c : Circuit) (items : List (List ℕ)) (stored : List Bool) → Each (IsHigh c) (signed (encoding_of c items).signatures stored)
high_signature c items stored =
    signed_all (λ v. c.nets + 1 ≤ v) (encoding_of c items).signatures stored (above_items (c.nets + 1) (first_item c) items (omega arith))

-- what is assumed besides the state, with one time frame
high_one : (c : Circuit) (items : List (List ℕ)) (activation : Literal) (present : Seen) (stored : List Bool) (older : Option (List Bool)) →
    (encoding_of c items).variables < activation.variable → Each (IsHigh c) (assumptions_for (encoding_of c items) activation (asking present stored older))
high_one c items activation present stored older above = (
  omega (arith, above),
  join (IsHigh c) (signed_seen (encoding_of c items).next present) (signed (encoding_of c items).signatures stored ++ []) (high_next c items present)
      (join (IsHigh c) (signed (encoding_of c items).signatures stored) [] (high_signature c items stored) tt),
)

-- the same with two, where an older signature is there
high_two : (c : Circuit) (choice : Chosen) → IsTransition c choice.items (encoding_of c choice.items) → (activation : Literal)
    (present : Seen) (stored older : List Bool) → (linked (reset_state c) (encoding_of c choice.items)).variables < activation.variable →
    Each (IsHigh c) (assumptions_for (linked (reset_state c) (encoding_of c choice.items)) activation (asking present stored (Some older)))
high_two c choice t activation present stored older above =
    let e : Encoded = encoding_of c choice.items in
    let n : ℕ = variables c choice.items in
    let E : Encoded = linked (reset_state c) e in
    let low : c.nets ≤ n = omega arith in
    let link : Literal = link_of e in
    let before : Each (IsHigh c) (link ∷ signed E.older_signatures older) = (
      omega (arith, low),
      signed_all (λ v. c.nets + 1 ≤ v) E.older_signatures older
          (weaken (IsIn n (2 * n)) (IsHigh c) (λ l w. omega (arith, w.0, low)) E.older_signatures
          (raised_in n n (2 * n) e.signatures (recursion_from_All (IsWithin n) e.signatures t.signatures_range) (omega arith))),
    ) in (
      omega (arith, above, low),
      join (IsHigh c) (signed_seen e.next present) (signed e.signatures stored ++ (link ∷ signed E.older_signatures older)) (high_next c choice.items present)
          (join (IsHigh c) (signed e.signatures stored) (link ∷ signed E.older_signatures older) (high_signature c choice.items stored) before),
    )

apart_from_state : (c : Circuit) (xs ys : Clause) → Each (IsHigh c) xs → Each (IsLow c) ys → has_distinct_variables xs ≡ true →
    has_distinct_variables ys ≡ true → has_distinct_variables (xs ++ ys) ≡ true
apart_from_state c xs ys high low dx dy =
    append_apart xs ys
    (weaken (IsHigh c) (λ (l : Literal). Each (λ (m : Literal). m.variable ≡ l.variable → ⊥) ys)
    (λ l hi. weaken (IsLow c) (λ (m : Literal). m.variable ≡ l.variable → ⊥) (λ m lo same. omega (arith, lo, hi, same)) ys low) xs high) dx dy

-- what is wanted of an encoding
abbrev IsApart : Chosen → Literal → Seen → List Bool → Option (List Bool) → List Bool → Encoded → Type 0
IsApart choice activation present stored older state e =
    e.variables < activation.variable → ((g : Literal) (q : Present) → e.variables < g.variable → has_distinct_variables (assumptions_for e g q) ≡ true) →
    has_distinct_variables (probing_for e activation (asking present stored older) state) ≡ true

apart_one : (c : Circuit) (choice : Chosen) (p : IsClosed c choice.items) (t : IsTransition c choice.items (encoding_of c choice.items))
    (activation : Literal) (present : Seen) (stored : List Bool) (older : Option (List Bool)) (state : List Bool) →
    IsApart choice activation present stored older state (encoding_of c choice.items)
apart_one c choice p t activation present stored older state above distinct =
    let e : Encoded = encoding_of c choice.items in
    apart_from_state c (assumptions_for e activation (asking present stored older)) (signed e.states state)
    (high_one c choice.items activation present stored older above) (low_states c choice.items p state) (distinct activation (asking present stored older) above)
    (t.states_distinct state)

apart_two : (c : Circuit) (choice : Chosen) (p : IsClosed c choice.items) (t : IsTransition c choice.items (encoding_of c choice.items))
    (activation : Literal) (present : Seen) (stored older state : List Bool) →
    IsApart choice activation present stored (Some older) state (linked (reset_state c) (encoding_of c choice.items))
apart_two c choice p t activation present stored older state above distinct =
    let e : Encoded = encoding_of c choice.items in
    apart_from_state c (assumptions_for (linked (reset_state c) e) activation (asking present stored (Some older))) (signed e.states state)
    (high_two c choice t activation present stored older above) (low_states c choice.items p state)
    (distinct activation (asking present stored (Some older)) above) (t.states_distinct state)

apart : (c : Circuit) (choice : Chosen) → IsChecked c → IsClosed c choice.items → (older : Option (List Bool)) → MayProbe choice older →
    (activation : Literal) (present : Seen) (stored state : List Bool) → IsApart choice activation present stored older state (encoding_by c choice)
apart c choice checked p None may activation present stored state = by (depth_of choice == 2) refl
  where
    by : (b : Bool) → (depth_of choice == 2) ≡ b →
        IsApart choice activation present stored None state (cond b (linked (reset_state c) (encoding_of c choice.items)) (encoding_of c choice.items))
    by true is = let two : depth_of choice ≡ 2 = eqb-true (depth_of choice) 2 is in absurd (omega (arith, two, may))
    by false is = apart_one c choice p (is_transition c choice.items checked p) activation present stored None state
apart c choice checked p (Some older) may activation present stored state = by (depth_of choice == 2) refl
  where
    by : (b : Bool) → (depth_of choice == 2) ≡ b →
        IsApart choice activation present stored (Some older) state (cond b (linked (reset_state c) (encoding_of c choice.items)) (encoding_of c choice.items))
    by true is = apart_two c choice p (is_transition c choice.items checked p) activation present stored older state
    by false is = absurd (false≢true (sym is ∙ eq-eqb (depth_of choice) 2 may))

pub probing_distinct : (c : Circuit) (choice : Chosen) (e : Encoded) (b : ProofLog) (present : Seen) (stored : List Bool) (older : Option (List Bool)) (state : List Bool) →
    IsChecked c → IsClosed c choice.items → MayProbe choice older → IsAbout c choice e b → IsTidy c choice (encoding_by c choice) →
    has_distinct_variables (probing_at e b present stored older state) ≡ true
probing_distinct c choice e b present stored older state checked p may about tidy =
    let above : (encoding_by c choice).variables < (next_activation b.problem).variable =
    omega (arith, about.vars, ap (λ (x : Encoded). x.variables) about.encoding) in
    ap (λ (x : Encoded). has_distinct_variables (probing_at x b present stored older state)) about.encoding
    ∙ apart c choice checked p older may (next_activation b.problem) present stored state above tidy.assumptions_distinct

-- ---- a search may begin

pub state_width : (c : Circuit) (choice : Chosen) (e : Encoded) → e ≡ encoding_by c choice → IsTidy c choice (encoding_by c choice) → (n : ℕ) →
    n ≡ length c.flops → length e.states ≡ n
state_width c choice e is tidy n w = ap (λ (x : Encoded). length x.states) is ∙ (tidy.states_width ∙ sym w)

pub alone_by : (choice : Chosen) (older : Option (List Bool)) → MayProbe choice older → depth_of choice ≡ 1 → older ≡ None
alone_by choice None may one = refl
alone_by choice (Some older) may one = absurd (omega (arith, may, one))

begun_is_not_blocked : Begun ≡ Blocked → ⊥
begun_is_not_blocked e = true≢false (ap is_begun e)

pub activation_is : (s : SolverState) → IsPaused s → activation_in s.proof ≡ next_activation s.proof.problem
activation_is s rest = ap (activation_of s.proof.problem) rest.number

may_start : (e : Encoded) (s : SolverState) (present : Seen) (stored : List Bool) (older : Option (List Bool)) (state : List Bool) → IsReadable e →
    s.proof.problem.vars ≡ e.variables → s.proof.problem.clauses ≡ e.clauses → IsPaused s →
    has_distinct_variables (probing_at e s.proof present stored older state) ≡ true → MayTurn e (begun s) (probing_at e s.proof present stored older state)
may_start e s present stored older state readable vars clauses rest distinct =
    let activation : Literal = next_activation s.proof.problem in
    let q : Present = asking present stored older in
    let above : e.variables < activation.variable = omega (arith, vars) in
    let last : activation.variable ≡ s.vars + 1 = omega (arith, rest.activations) in
    let n : ℕ = activation.variable in
    record {
      may = record { stage = λ _. inl refl; again = λ k. absurd (begun_is_not_blocked k) };
      range = subst (λ (m : ℕ). HasVariables m (probing_at e s.proof present stored older state)) last
          (All-from_recursion (IsWithin n) (probing_at e s.proof present stored older state)
          (join (IsWithin n) (assumptions_for e activation q) (signed e.states state)
          (recursion_from_All (IsWithin n) (assumptions_for e activation q) (readable.assumptions_range activation q above))
          (signed_all (InRange n) e.states state
          (weaken (IsWithin e.variables) (IsWithin n) (λ l w. (w.0, omega (arith, w.1, above))) e.states
          (recursion_from_All (IsWithin e.variables) e.states readable.states)))));
      distinct = distinct;
      activation = subst (Contains (probing_at e s.proof present stored older state)) (sym (activation_is s rest)) (contains_first activation _);
      vars = vars;
      activations = omega (arith, rest.activations, vars);
      clauses = clauses;
      stand = rest.stand;
    }

pub may_probe : (e : Encoded) (old s : SolverState) (present : Seen) (stored : List Bool) (older : Option (List Bool)) (state : List Bool) (activation : Literal) →
    IsReadable e → old.proof.problem.vars ≡ e.variables → old.proof.problem.clauses ≡ e.clauses → IsPaused old →
    has_distinct_variables (probing_at e old.proof present stored older state) ≡ true → s ≡ begun old → activation ≡ activation_in old.proof →
    MayTurn e s (probing_for e activation (asking present stored older) state)
may_probe e old s present stored older state activation readable vars clauses rest distinct new g =
    subst (λ (g : Literal). MayTurn e s (probing_for e g (asking present stored older) state)) (sym (g ∙ activation_is old rest))
    (subst (λ (s : SolverState). MayTurn e s (probing_at e old.proof present stored older state)) (sym new)
    (may_start e old present stored older state readable vars clauses rest distinct))

-- a turn has had a solve, and where it refutes, its lemma ends the step
pub turned_solved : (e : Encoded) (a : Clause) (limit : ℕ) (old new : SolverState) (end : TurnEnd) → TurnsTo e a limit old new end →
    is_solved new.stage ≡ true
turned_solved e a limit old new (Listed cand) h = ap is_solved h.blocked.stage
turned_solved e a limit old new (Refuted id) h = ap is_solved h.ended
turned_solved e a limit old new Spent h = ap is_solved h.stopped

pub turned_end : (e : Encoded) (a : Clause) (limit : ℕ) (old new : SolverState) (end : TurnEnd) → TurnsTo e a limit old new end →
    IfSome (last_of end) (λ id. new.failed ≡ false → new.stage ≡ Ended id)
turned_end e a limit old new (Listed cand) h = tt
turned_end e a limit old new (Refuted id) h = λ _. h.ended
turned_end e a limit old new Spent h = tt

-- a step that was begun, searched once and ended
pub once_probed : (e : Encoded) (old s middle new : SolverState) (present : Seen) (stored : List Bool) (older : Option (List Bool)) (state : List Bool)
    (activation : Literal) (limit : ℕ) (end : TurnEnd) → IsPaused old → s ≡ begun old → activation ≡ activation_in old.proof →
    TurnsTo e (probing_for e activation (asking present stored older) state) limit s middle end → HasEnded middle new (last_of end) →
    HasProbed e old new (probing_at e old.proof present stored older state) limit end
once_probed e old s middle new present stored older state activation limit end rest begins g turn ended =
    record {
      middle = middle;
      turn = subst (λ (g : Literal). TurnsTo e (probing_for e g (asking present stored older) state) limit (begun old) middle end) (g ∙ activation_is old rest)
          (subst (λ (s : SolverState). TurnsTo e (probing_for e activation (asking present stored older) state) limit s middle end) begins turn);
      ended = ended;
    }

-- ---- the lines of a step

-- the lines that a turn logs in a step that has begun, the newest first
record IsLined (a : Clause) (old middle : SolverState) : Type 0 where
  lines : List Line
  history : middle.proof.history ≡ lines ++ old.proof.history
  vars : middle.proof.problem.vars ≡ old.proof.problem.vars
  clauses : middle.proof.problem.clauses ≡ old.proof.problem.clauses
  steps : middle.proof.problem.steps ≡ old.proof.problem.steps ++ a ∷ []
  activations : middle.vars ≡ old.vars + 1
  inner : Each (λ line. is_inner line ≡ true) lines

searched_lines : (a : Clause) (old middle : SolverState) (lemmas : List Line) → HasSearched (begun old) middle a lemmas → IsLined a old middle
searched_lines a old middle lemmas h =
    record {
      lines = lemmas ++ Solve ∷ [];
      history = h.history ∙ sym (append_assoc lemmas (Solve ∷ []) old.proof.history);
      vars = h.vars;
      clauses = h.clauses;
      steps = h.steps;
      activations = h.activations;
      inner = join (λ (line : Line). is_inner line ≡ true) lemmas (Solve ∷ []) (lemmas_inner lemmas h.are_lemmas) (refl, tt);
    }

lined : (e : Encoded) (a : Clause) (limit : ℕ) (old middle : SolverState) (end : TurnEnd) → TurnsTo e a limit (begun old) middle end → IsLined a old middle
lined e a limit old middle (Listed cand) h =
    let first : IsLined a old h.middle = searched_lines a old h.middle h.lemmas h.searched in
    let block : Line = Block h.id (negation (activation_of h.middle.proof.problem (step_of h.middle.proof.history)) ∷ block_for e cand.state) in
    record {
      lines = block ∷ first.lines;
      history = ap (λ (b : ProofLog). b.history) h.blocked.proof ∙ ap (λ (x : History). block ∷ x) first.history;
      vars = ap (λ (b : ProofLog). b.problem.vars) h.blocked.proof ∙ first.vars;
      clauses = ap (λ (b : ProofLog). b.problem.clauses) h.blocked.proof ∙ first.clauses;
      steps = ap (λ (b : ProofLog). b.problem.steps) h.blocked.proof ∙ first.steps;
      activations = h.blocked.vars ∙ first.activations;
      inner = (refl, first.inner);
    }
lined e a limit old middle (Refuted id) h = searched_lines a old middle h.lemmas h.searched
lined e a limit old middle Spent h = searched_lines a old middle h.lemmas h.searched

-- the blocks of a step that has not come
late_blocks : (h : History) (n : ℕ) → step_of h < n → blocks_of h n ≡ []
late_blocks [] n lt = refl
late_blocks (Solve ∷ h) n lt = late_blocks h n lt
late_blocks (Lemma id lits hints ∷ h) n lt = late_blocks h n lt
late_blocks (Block id lits ∷ h) n lt =
    ap (λ (b : Bool). cond b (lits ∷ blocks_of h n) (blocks_of h n)) (ne_eqb (step_of h) n (λ same. omega (arith, same, lt))) ∙ late_blocks h n lt
late_blocks (Finish id ∷ h) n lt = late_blocks h n lt
late_blocks (Retire id ∷ h) n lt = let less : step_of h + 1 < n = lt in late_blocks h n (omega (arith, less))
late_blocks (Delete ids ∷ h) n lt = late_blocks h n lt

lemmas_block_nothing : (lines : List Line) (h : History) (n : ℕ) → Each (λ line. is_lemma_line line ≡ true) lines → blocks_of (lines ++ h) n ≡ blocks_of h n
lemmas_block_nothing [] h n all = refl
lemmas_block_nothing (Lemma id lits hints ∷ lines) h n all = lemmas_block_nothing lines h n all.1
lemmas_block_nothing (Solve ∷ lines) h n all = absurd (false≢true all.0)
lemmas_block_nothing (Block id lits ∷ lines) h n all = absurd (false≢true all.0)
lemmas_block_nothing (Finish id ∷ lines) h n all = absurd (false≢true all.0)
lemmas_block_nothing (Retire id ∷ lines) h n all = absurd (false≢true all.0)
lemmas_block_nothing (Delete ids ∷ lines) h n all = absurd (false≢true all.0)

ended_blocks : (ids : List ℕ) (id : ℕ) (h : History) (n : ℕ) → blocks_of (delete_lines ids ++ Retire id ∷ h) n ≡ blocks_of h n
ended_blocks [] id h n = refl
ended_blocks (i ∷ ids) id h n = refl

finish_step : (end : Option ℕ) (h : History) → step_of (finish_lines end ++ h) ≡ step_of h
finish_step None h = refl
finish_step (Some id) h = refl

-- ---- all that is known after a step

pub record Probing : Type 0 where
  pub c : Circuit
  pub choice : Chosen
  pub e : Encoded
  pub old : SolverState
  pub new : SolverState
  pub present : Seen
  pub stored : List Bool
  pub older : Option (List Bool)
  pub state : List Bool
  pub b : ℕ
  pub end : TurnEnd
  pub about : IsAbout c choice e old.proof
  pub rest : IsPaused old
  pub present_wide : length present.bits ≡ length c.flops
  pub stored_wide : length stored ≡ length choice.items
  pub older_wide : AreWide (length choice.items) older
  pub state_wide : length state ≡ length c.flops
  pub may : MayProbe choice older
  pub kept : IsDepth (depth_of choice)
  pub done : HasProbed e old new (probing_at e old.proof present stored older state) b end
  pub accepted : IsAccepted new.proof.problem (reverse new.proof.history)
  pub lean : IsLean new.proof.problem new.proof.history
  pub shown : PredecessorsAreShown c choice e
  pub solutions : SolutionsArePredecessors c choice e
  pub states_wide : length e.states ≡ length c.flops

abbrev asked : Probing → Present
asked t = asking t.present t.stored t.older

abbrev assumed_by : Probing → Clause
assumed_by t = probing_at t.e t.old.proof t.present t.stored t.older t.state

lines_by : (t : Probing) → IsLined (assumed_by t) t.old t.done.middle
lines_by t = lined t.e (assumed_by t) t.b t.old t.done.middle t.end t.done.turn

abbrev finished_by : Probing → ProofLog
finished_by t = finished t.done.middle.proof (last_of t.end)

problem_is : (t : Probing) → t.new.proof.problem ≡ t.done.middle.proof.problem
problem_is t =
    ap (λ (b : ProofLog). b.problem) t.done.ended.proof
    ∙ (without_problem (retired (finished_by t)) (leaving (finished_by t)) ∙ finished_problem t.done.middle.proof (last_of t.end))

vars_are : (t : Probing) → t.new.proof.problem.vars ≡ t.old.proof.problem.vars
vars_are t = ap (λ (p : Problem). p.vars) (problem_is t) ∙ (lines_by t).vars

clauses_are : (t : Probing) → t.new.proof.problem.clauses ≡ t.old.proof.problem.clauses
clauses_are t = ap (λ (p : Problem). p.clauses) (problem_is t) ∙ (lines_by t).clauses

steps_are : (t : Probing) → t.new.proof.problem.steps ≡ t.old.proof.problem.steps ++ assumed_by t ∷ []
steps_are t = ap (λ (p : Problem). p.steps) (problem_is t) ∙ (lines_by t).steps

one_longer : (t : Probing) → length t.new.proof.problem.steps ≡ length t.old.proof.problem.steps + 1
one_longer t = ap length (steps_are t) ∙ length-append t.old.proof.problem.steps (assumed_by t ∷ [])

-- the lines up to the retire line, the newest first
abbrev inside_by : Probing → History
inside_by t = finish_lines (last_of t.end) ++ t.done.middle.proof.history

history_is : (t : Probing) → t.new.proof.history ≡ delete_lines (leaving (finished_by t)) ++ Retire (next_id (finished_by t)) ∷ inside_by t
history_is t =
    ap (λ (b : ProofLog). b.history) t.done.ended.proof
    ∙ (without_history (retired (finished_by t)) (leaving (finished_by t))
    ∙ ap (λ (h : History). delete_lines (leaving (finished_by t)) ++ Retire (next_id (finished_by t)) ∷ h)
    (finished_history t.done.middle.proof (last_of t.end)))

middle_step : (t : Probing) → step_of t.done.middle.proof.history ≡ length t.old.proof.problem.steps + 1
middle_step t =
    let l = lines_by t in
    ap step_of l.history ∙ (inner_step l.lines t.old.proof.history l.inner ∙ t.rest.number)

inside_step : (t : Probing) → step_of (inside_by t) ≡ length t.old.proof.problem.steps + 1
inside_step t = finish_step (last_of t.end) t.done.middle.proof.history ∙ middle_step t

step_is : (t : Probing) → step_of t.new.proof.history ≡ step_of (inside_by t) + 1
step_is t = ap step_of (history_is t) ∙ step_deleted (leaving (finished_by t)) (Retire (next_id (finished_by t)) ∷ inside_by t)

number_now : (t : Probing) → step_of t.new.proof.history ≡ length t.new.proof.problem.steps + 1
number_now t = omega (arith, step_is t, inside_step t, one_longer t)

right_by : (t : Probing) → NoneRefused t.new.proof.problem t.new.proof.history
right_by t = subst (NoneRefused t.new.proof.problem) (reverse-reverse t.new.proof.history) t.accepted.lines

clear_now : (t : Probing) → blocks_of t.new.proof.history (step_of t.new.proof.history) ≡ []
clear_now t =
    let n : ℕ = step_of t.new.proof.history in
    ap (λ (h : History). blocks_of h n) (history_is t)
    ∙ (ended_blocks (leaving (finished_by t)) (next_id (finished_by t)) (inside_by t) n ∙ late_blocks (inside_by t) n (omega (arith, step_is t)))

pauses : (t : Probing) → IsPaused t.new
pauses t =
    record {
      well = t.done.ended.well;
      idle = t.done.ended.stage;
      activations = omega (arith, t.done.ended.vars, (lines_by t).activations, t.rest.activations, vars_are t, one_longer t);
      number = number_now t;
      stand = λ c there. axioms_stand_still t.new.proof.problem t.new.proof.history c (right_by t) there;
      retired = λ n low high. activations_stay_retired t.new.proof.problem t.new.proof.history n (right_by t) low (omega (arith, high, number_now t));
      clear = clear_now t;
    }

ready_again : (t : Probing) (n : ℕ) → n ≡ length t.old.proof.problem.steps + 1 → IsReadyFor t.c t.choice t.e t.new n
ready_again t n is =
    record {
      about = record { width = t.about.width; encoding = t.about.encoding; vars = vars_are t ∙ t.about.vars; clauses = clauses_are t ∙ t.about.clauses };
      rest = pauses t;
      steps = one_longer t ∙ sym is;
    }

-- ---- what the step assumed

activation_now : (t : Probing) → activation_of t.new.proof.problem (length t.old.proof.problem.steps + 1) ≡ next_activation t.old.proof.problem
activation_now t = λ i. record { variable = vars_are t i + (length t.old.proof.problem.steps + 1); positive = true }

assumptions_are : (t : Probing) → assumptions_of t.new.proof.problem (length t.old.proof.problem.steps + 1) ≡ assumed_by t
assumptions_are t =
    let i : ℕ = length t.old.proof.problem.steps in
    let place : i + 1 - 1 ≡ i = omega arith in
    ap (λ (j : ℕ). unwrap_or (slice_get t.new.proof.problem.steps j) []) place
    ∙ (ap (λ (cs : List Clause). unwrap_or (slice_get cs i) []) (steps_are t)
    ∙ ap (λ (o : Option Clause). unwrap_or o []) (slice_get_last t.old.proof.problem.steps (assumed_by t) i refl))

assumptions_now : (t : Probing) →
    assumptions_of t.new.proof.problem (length t.old.proof.problem.steps + 1)
    ≡ probing_for t.e (activation_of t.new.proof.problem (length t.old.proof.problem.steps + 1)) (asked t) t.state
assumptions_now t = assumptions_are t ∙ ap (λ (g : Literal). probing_for t.e g (asked t) t.state) (sym (activation_now t))

-- no block is in a step that was searched once
searched_clear : (t : Probing) (lemmas : List Line) → HasSearched (begun t.old) t.done.middle (assumed_by t) lemmas →
    blocks_of t.done.middle.proof.history (length t.old.proof.problem.steps + 1) ≡ []
searched_clear t lemmas h =
    let n : ℕ = length t.old.proof.problem.steps + 1 in
    ap (λ (k : History). blocks_of k n) h.history
    ∙ (lemmas_block_nothing lemmas (Solve ∷ t.old.proof.history) n h.are_lemmas
    ∙ (ap (blocks_of t.old.proof.history) (sym t.rest.number) ∙ t.rest.clear))

-- ---- a state that is found

both_wide : (t : Probing) → All (λ u. length u ≡ length t.choice.items) (t.stored ∷ option_to_list t.older)
both_wide t =
    All-from_recursion (λ (u : List Bool). length u ≡ length t.choice.items) (t.stored ∷ option_to_list t.older)
    (t.stored_wide, recursion_from_All (λ (u : List Bool). length u ≡ length t.choice.items) (option_to_list t.older) t.older_wide)

right_cand : (t : Probing) (cand : Cand) → IsShownIn t.e (assumed_by t) cand →
    IsRightCand t.c t.choice t.present t.stored t.older cand × (cand.state ≡ t.state)
right_cand t cand h =
    let v : ℕ → Bool = h.value in
    let g : Literal = next_activation t.old.proof.problem in
    let plain : Clause = assumptions_for t.e g (asked t) in
    let own : Clause = signed t.e.states t.state in
    let all : AllTrue v (plain ++ own) = recursion_from_All (λ l. literal_value v l ≡ true) (plain ++ own) h.holds in
    let first : All (λ l. literal_value v l ≡ true) plain =
    All-from_recursion (λ l. literal_value v l ≡ true) plain (left_all (λ l. literal_value v l ≡ true) plain own all) in
    let bits : bits_on v t.e.states ≡ t.state =
    bits_shown v t.e.states t.state (t.state_wide ∙ sym t.states_wide) (right_all (λ l. literal_value v l ≡ true) plain own all) in
    let u : List Bool = bits_on v t.e.older_states in
    let y : List Bool = bits_on v t.e.older_inputs in
    let joined : Bool = joins v t.e.link in
    let p : IsPredecessor t.c t.choice (asked t) cand.state cand.input u y joined =
    subst (λ (s : List Bool). IsPredecessor t.c t.choice (asked t) s cand.input u y joined) (sym h.state)
    (subst (λ (x : List Bool). IsPredecessor t.c t.choice (asked t) (bits_on v t.e.states) x u y joined) (sym h.input)
    (t.solutions v g (asked t) t.present_wide (one_stored t.stored (option_to_list t.older)) (both_wide t) h.clauses first)) in (
      record {
        candidate = record {
          predecessor =
              is_predecessor t.c t.choice t.present (t.stored ∷ option_to_list t.older) cand.state cand.input p.state_width p.input_width p.agrees p.next;
          leads = p.leads;
        };
        before =
            ap (is_right_before t.c t.choice t.older cand.state) h.before
            ∙ right_before t.c t.choice t.older (asked t) cand.state cand.input u y joined t.kept (alone_by t.choice t.older t.may)
            (second_held t.stored t.older) p;
      },
      h.state ∙ bits,
    )

-- ---- a state that is refuted

-- a step's own lines end with the lemma's line, and then it is retired
parts_of : (ids : List ℕ) (r id : ℕ) (h : History) →
    reverse (delete_lines ids ++ Retire r ∷ Finish id ∷ h) ≡ reverse h ++ Finish id ∷ (Retire r ∷ delete_lines ids)
parts_of [] r id h = reverse-append (Retire r ∷ Finish id ∷ []) h
parts_of (i ∷ ids) r id h = reverse-append (Delete (i ∷ ids) ∷ Retire r ∷ Finish id ∷ []) h

shows_state : (t : Probing) (p : Problem) (n : ℕ) (sh : Shown (record { problem = p; block = block_for t.e }) (length t.c.flops) n t.state) →
    bits_on sh.value t.e.states ≡ t.state
shows_state t p n sh = by (bits_eq (bits_on sh.value t.e.states) t.state) refl
  where
    differs : bits_eq (bits_on sh.value t.e.states) t.state ≡ false → bits_on sh.value t.e.states ≢ t.state
    differs f same = true≢false (sym (ap (λ (u : List Bool). bits_eq u t.state) same ∙ bits_same t.state) ∙ f)

    by : (b : Bool) → bits_eq (bits_on sh.value t.e.states) t.state ≡ b → bits_on sh.value t.e.states ≡ t.state
    by true is = bits_same_is (bits_on sh.value t.e.states) t.state is
    by false is =
        let u : List Bool = bits_on sh.value t.e.states in
        absurd (shown_is_open sh.value t.e (activation_of p n) u u (ap (λ (b : Bool). beq b true) sh.activation) refl
        (sh.blocks u (length-bits_on sh.value t.e.states ∙ t.states_wide) (differs is)) refl)

refuted : (t : Probing) (id : ℕ) → t.end ≡ Refuted id → (x : List Bool) → length x ≡ length t.c.inputs →
    agrees t.c t.choice (t.stored ∷ option_to_list t.older) t.state ≡ true → Shows t.present (next t.c t.state x) → ⊥
refuted t id fin x lx ag nx =
    let p : Problem = t.new.proof.problem in
    let i : ℕ = length t.old.proof.problem.steps in
    let n : ℕ = i + 1 in
    let plain : Clause = assumptions_for t.e (activation_of p n) (asked t) in
    let own : Clause = signed t.e.states t.state in
    let one : Problem = record { vars = p.vars; clauses = p.clauses; steps = t.old.proof.problem.steps ++ plain ∷ [] } in
    let sh : Shown (record { problem = one; block = block_for t.e }) (length t.c.flops) n t.state =
    t.shown one i (asked t) t.state x (vars_are t ∙ t.about.vars) (clauses_are t ∙ t.about.clauses)
    (slice_get_last t.old.proof.problem.steps plain i refl) t.state_wide lx ag nx in
    let v : ℕ → Bool = sh.value in
    let T : Literal → Type 0 = λ l. literal_value v l ≡ true in
    let h : History = t.done.middle.proof.history in
    let place : n - 1 ≡ i = omega arith in
    let plain_is : assumptions_of one n ≡ plain =
    ap (λ (j : ℕ). unwrap_or (slice_get one.steps j) []) place ∙ ap (λ (o : Option Clause). unwrap_or o []) (slice_get_last t.old.proof.problem.steps plain i refl) in
    let assumed_is : assumptions_of p n ≡ plain ++ own = assumptions_now t in
    let plain_true : AllTrue v plain = recursion_from_All T plain (subst (λ (c : Clause). All T c) plain_is sh.assumptions) in
    let own_true : AllTrue v own = signs_true v t.e.states t.state (shows_state t one n sh) in
    let holds : All T (assumptions_of p n) =
    subst (λ (c : Clause). All T c) (sym assumed_is) (All-from_recursion T (plain ++ own) (join T plain own plain_true own_true)) in
    let turn : HasRefutedAll (assumed_by t) t.b (begun t.old) t.done.middle id =
    subst (TurnsTo t.e (assumed_by t) t.b (begun t.old) t.done.middle) fin t.done.turn in
    let clear : blocks_of h n ≡ [] = searched_clear t turn.lemmas turn.searched in
    let suits : Suits p h n v = record {
      in_range = omega (arith, one_longer t);
      clauses = sh.clauses;
      blocks = subst (λ (cs : List Clause). All (Satisfies v) cs) (sym clear) (All-from_recursion (Satisfies v) [] tt);
      activation = sh.activation;
      other_activations = λ other low high. sh.other_activations other low
          (omega (arith, high, one_longer t, length-append t.old.proof.problem.steps (plain ∷ [])));
    } in
    let number : n ≡ step_of h = sym (middle_step t) in
    let ended : inside_by t ≡ Finish id ∷ h = ap (λ (end : TurnEnd). finish_lines (last_of end) ++ h) fin in
    let gone : List ℕ = leaving (finished_by t) in
    let r : ℕ = next_id (finished_by t) in
    let parts : reverse t.new.proof.history ≡ reverse h ++ Finish id ∷ (Retire r ∷ delete_lines gone) =
    ap reverse (history_is t) ∙ (ap (λ (k : History). reverse (delete_lines gone ++ Retire r ∷ k)) ended ∙ parts_of gone r id h) in
    let back : h ≡ reverse (reverse h) = sym (reverse-reverse h) in
    finished_steps_are_refuted p (reverse t.new.proof.history) (reverse h) (Retire r ∷ delete_lines gone) id v t.accepted parts
    (subst (λ (k : History). Suits p k (step_of k) v) back (subst (λ (m : ℕ). Suits p h m v) number suits))
    (subst (λ (k : History). All (λ l. IsTrue (literal_value v l)) (assumptions_of p (step_of k))) back
    (subst (λ (m : ℕ). All (λ l. IsTrue (literal_value v l)) (assumptions_of p m)) number holds))

none : (t : Probing) (id : ℕ) → t.end ≡ Refuted id → is_listed (predecessors t.c t.choice t.present (t.stored ∷ option_to_list t.older)) t.state ≡ false
unfolding predecessors
none t id fin = by (is_listed (predecessors t.c t.choice t.present (t.stored ∷ option_to_list t.older)) t.state) refl
  where
    q : List Bool → Bool
    q s = agrees t.c t.choice (t.stored ∷ option_to_list t.older) s && some_input_shows t.c s t.present

    by : (b : Bool) → is_listed (predecessors t.c t.choice t.present (t.stored ∷ option_to_list t.older)) t.state ≡ b →
        is_listed (predecessors t.c t.choice t.present (t.stored ∷ option_to_list t.older)) t.state ≡ false
    by false is = is
    by true is =
        let found = filter_member q t.state (all_bits (length t.c.flops))
        (listed_member t.state (predecessors t.c t.choice t.present (t.stored ∷ option_to_list t.older)) is) in
        let tests = both (agrees t.c t.choice (t.stored ∷ option_to_list t.older) t.state) (some_input_shows t.c t.state t.present) found.0 in
        let x = passing (λ (x : List Bool). is_shown t.present (next t.c t.state x)) (all_bits (length t.c.inputs)) tests.1 in
        absurd (refuted t id fin x.item (all_bits_length (length t.c.inputs) x.item x.member) tests.0 (shows_where t.present (next t.c t.state x.item) x.passes))

-- ---- a search that spent its budget

-- a step's lines without its end
inside_right : (p : Problem) (ids : List ℕ) (id : ℕ) (h : History) → NoneRefused p (delete_lines ids ++ Retire id ∷ h) → NoneRefused p h
inside_right p [] id h all = all.1
inside_right p (i ∷ ids) id h all = all.1.1

inside_lean : (p : Problem) (ids : List ℕ) (id : ℕ) (h : History) → IsLean p (delete_lines ids ++ Retire id ∷ h) → IsLean p h
inside_lean p [] id h lean = record { steps = lean.steps.1; lemmas = lean.lemmas }
inside_lean p (i ∷ ids) id h lean = record { steps = lean.steps.1; lemmas = lean.lemmas }

bounded : (t : Probing) → HasSpent (assumed_by t) t.b (begun t.old) t.done.middle → (run : List Literal) → HasVariables t.e.variables run →
    IsUnitRun t.e.clauses (assumed_by t) run → t.b < 2 ^ (t.e.variables - length run)
bounded t turn run range unit =
    let p : Problem = t.old.proof.problem in
    subst (λ (n : ℕ). t.b < 2 ^ (n - length run)) t.about.vars
    (bound_is p t.e.clauses (standing t.old.proof) (assumed_by t) t.b (length p.steps) (t.old.vars + 1)
    (λ c there. t.rest.stand c (subst (λ (cs : List Clause). Contains cs c) (sym t.about.clauses) there)) t.rest.retired (contains_first (next_activation p) _)
    (omega (arith, t.rest.activations)) turn.bound run (subst (λ (n : ℕ). HasVariables n run) (sym t.about.vars) range) unit)

spends : (t : Probing) → t.end ≡ Spent → HasSpentBudget t.e (asked t) t.state t.b
spends t fin =
    let p : Problem = t.new.proof.problem in
    let n : ℕ = length t.old.proof.problem.steps + 1 in
    let h : History = t.done.middle.proof.history in
    let gone : List ℕ = leaving (finished_by t) in
    let r : ℕ = next_id (finished_by t) in
    let turn : HasSpent (assumed_by t) t.b (begun t.old) t.done.middle = subst (TurnsTo t.e (assumed_by t) t.b (begun t.old) t.done.middle) fin t.done.turn in
    let number : n ≡ step_of h = sym (middle_step t) in
    let lines : t.new.proof.history ≡ delete_lines gone ++ Retire r ∷ h =
    history_is t ∙ ap (λ (end : TurnEnd). delete_lines gone ++ Retire r ∷ (finish_lines (last_of end) ++ h)) fin in
    let all : is_spent t.b (assumptions_of p n) (last_solve (reverse h)) ≡ true =
    ap (λ (a : Clause). is_spent t.b a (last_solve (reverse h))) (assumptions_are t)
    ∙ (ap (λ (k : History). is_spent t.b (assumed_by t) (last_solve (reverse k))) turn.searched.history
    ∙ spent_is (assumed_by t) t.b turn.lemmas t.old.proof.history turn.all turn.open_yet) in
    record {
      problem = p;
      history = h;
      vars = vars_are t ∙ t.about.vars;
      clauses = clauses_are t ∙ t.about.clauses;
      assumed = subst (λ (m : ℕ). assumptions_of p m ≡ probing_for t.e (activation_of p m) (asked t) t.state) number (assumptions_now t);
      right = inside_right p gone r h (subst (NoneRefused p) lines (right_by t));
      lean = inside_lean p gone r h (subst (IsLean p) lines t.lean);
      clear = subst (λ (m : ℕ). blocks_of h m ≡ []) number (searched_clear t turn.lemmas turn.searched);
      spent = subst (λ (m : ℕ). is_spent t.b (assumptions_of p m) (last_solve (reverse h)) ≡ true) number all;
      bound = λ run range unit.
          bounded t turn run range (subst (λ (a : Clause). IsUnitRun t.e.clauses a run) (ap (assumptions_of p) (sym number) ∙ assumptions_are t) unit);
    }

-- the lemmas of a log are lean, and each of its steps has left what is kept
pub lean_by : (p : Problem) (h : History) (log : List Line) → history_of log ≡ h → StepsLeaveKept p (history_of log) → LemmasAreLean p (history_of log) →
    IsLean p h
lean_by p h log e steps lemmas = subst (IsLean p) e (record { steps = steps; lemmas = lemmas })

-- a question that cannot be asked
pub unaskable : (c : Circuit) (choice : Chosen) (present : Seen) (stored : List Bool) (older : Option (List Bool)) (state : List Bool) (b : ℕ) →
    (¬ MayProbe choice older) → IsUnknown c choice present stored older state b
unaskable c choice present stored older state b not_asked = record { why = inl not_asked }

-- ---- what is said

answered : (t : Probing) → IsProbed t.c t.choice t.present t.stored t.older t.state t.b (probed_of t.end)
answered t = by t.end refl
  where
    by : (end : TurnEnd) → t.end ≡ end → IsProbed t.c t.choice t.present t.stored t.older t.state t.b (probed_of end)
    by (Listed cand) is =
        let turn : HasListedOne t.e (assumed_by t) t.b (begun t.old) t.done.middle cand =
        subst (TurnsTo t.e (assumed_by t) t.b (begun t.old) t.done.middle) is t.done.turn in
        right_cand t cand turn.shown
    by (Refuted id) is = none t id is
    by Spent is = record { why = inr (subst (λ (e : Encoded). HasSpentBudget e (asked t) t.state t.b) t.about.encoding (spends t is)) }

pub has_answered : (t : Probing) → HasAnswered t.c t.choice t.e t.old t.new t.present t.stored t.older t.state t.b (probed_of t.end)
has_answered t = record { ready = ready_again t (length t.old.proof.problem.steps + 1) refl; probed = answered t }

-- ---- a new solver

pub made_ready : (c : Circuit) (choice : Chosen) (e : Encoded) (s : SolverState) → choice.width ≡ length c.flops → e ≡ encoding_by c choice → s ≡ made e →
    IsReadyFor c choice e s 0
made_ready c choice e s width encoded is = subst (λ (x : SolverState). IsReadyFor c choice e x 0) (sym is) (record {
  about = record { width = width; encoding = encoded; vars = refl; clauses = refl };
  rest = record {
    well = refl;
    idle = refl;
    activations = omega arith;
    number = refl;
    stand = λ x there. subst (λ (cs : List Clause). Contains cs x) (sym (axioms_stand (made e).proof.problem)) there;
    retired = λ n low high. absurd (omega (arith, low, high));
    clear = refl;
  };
  steps = refl;
})

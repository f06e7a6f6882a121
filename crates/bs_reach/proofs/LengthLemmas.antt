-- What the trial of a length does to the log, and what comes of it.
use Rattle.std.proofs.Common.{◌≡◌, ℕ, suc, ◌+◌, ◌-◌, ◌*◌, ◌^◌, ◌<◌, ◌≤◌, Bool, true, false, List, [], ◌∷◌, ◌++◌, map, length, refl, ap, subst, sym}
use Rattle.std.proofs.Common.{◌∙◌, arith}
use Rattle.std.proofs.Common.{Option, Some, None}
use Rattle.std.specs.Prelude.{Contains, All}
use Rattle.std.specs.List.{AllByRecursion as Each, range_with_len}
use Rattle.std.proofs.lemmas.Bool.{false≢true}
use Rattle.std.proofs.lemmas.List.Elements.{All-contains, All-tail}
use Rattle.std.proofs.lemmas.List.FromFn.{map-range_with_len_more}
use Rattle.bs_scan.specs.declared.seen.Seen.{Seen}
use Rattle.bs_bits.proofs.RangeLemmas.{range_more}
use Rattle.bs_clause.specs.Literal.{Literal, Clause, negation, literal_value, Satisfies}
use Rattle.bs_clause.specs.UnitRun.{IsUnitRun}
use Rattle.bs_clause.specs.Range.{HasVariables}
use Rattle.bs_log.specs.declared.line.Line.{Line}
use Rattle.bs_log.specs.declared.line.Line.TheVariants.{Solve, Lemma, Block, Finish, Retire, Delete}
use Rattle.bs_log.specs.History.{Problem, History, step_of, activation_of}
use Rattle.bs_log.specs.Refusal.{NoneRefused}
use Rattle.bs_log.specs.Steps.{is_lemma_line, HasNoBlock, finished_in}
use Rattle.bs_solve_lemmas.specs.declared.answer.Answer.TheVariants as answers
use Rattle.bs_solve_lemmas.specs.declared.stage.Stage.TheVariants.{Begun}
use Rattle.bs_solve_lemmas.specs.ProofLog.{ProofLog, standing, next_id, without}
use Rattle.bs_solve_lemmas.specs.Ending.{is_open_lemma}
use Rattle.bs_solve_lemmas.specs.Search.{assumed}
use Rattle.bs_solve_lemmas.specs.Stages.{begun_proof}
use Rattle.bs_solve_lemmas.specs.Solver.{SolverState, HasSolved, HasEnded, finished, retired, leaving}
use Rattle.bs_solve_lemmas.specs.Values.{value_of}
use Rattle.bs_solve_lemmas.proofs.Clauses.{all_from, contains_first}
use Rattle.bs_solve_lemmas.proofs.CallerLemmas.{open_are_lemmas, solved_keeps, bound_is, axioms_stand_still, activations_stay_retired}
use Rattle.bs_solve.specs.Budget.{HasFewLemmas}
use Rattle.bs_solve.proofs.BudgetLemmas.{few_lemmas}
use Rattle.bs_encode.specs.Tables.{lit}
use Rattle.bs_encode.specs.Encoded.{Encoded}
use Rattle.bs_encode.specs.Assuming.{signed_seen}
use Rattle.bs_reach_unrolled.specs.Unrolled.{next_at, length_assumes}
use Rattle.bs_reach.specs.Search.{problem_over, IsTried, IsBetween, HasShown, HasSpent}

-- ---- lines that change neither the step nor the blocks nor the finish lines

record Same (before after : History) : Type 0 where
  step : step_of after ≡ step_of before
  blocks : HasNoBlock before → HasNoBlock after
  finished : finished_in after ≡ finished_in before

lemmas_same : (lines : List Line) (h : History) → Each (λ line. is_lemma_line line ≡ true) lines → Same h (lines ++ Solve ∷ h)
lemmas_same [] h all = record { step = refl; blocks = λ none. none; finished = refl }
lemmas_same (Lemma id lits hints ∷ lines) h all =
    let s = lemmas_same lines h all.1 in record { step = s.step; blocks = s.blocks; finished = s.finished }
lemmas_same (Solve ∷ lines) h all = absurd (false≢true all.0)
lemmas_same (Block id lits ∷ lines) h all = absurd (false≢true all.0)
lemmas_same (Finish id ∷ lines) h all = absurd (false≢true all.0)
lemmas_same (Retire id ∷ lines) h all = absurd (false≢true all.0)
lemmas_same (Delete ids ∷ lines) h all = absurd (false≢true all.0)

-- the line of what goes, if anything does
abbrev delete_lines : List ℕ → List Line
delete_lines [] = []
delete_lines (id ∷ ids) = Delete (id ∷ ids) ∷ []

without_history : (b : ProofLog) (ids : List ℕ) → (without b ids).history ≡ delete_lines ids ++ b.history
without_history b [] = refl
without_history b (id ∷ ids) = refl

without_problem : (b : ProofLog) (ids : List ℕ) → (without b ids).problem ≡ b.problem
without_problem b [] = refl
without_problem b (id ∷ ids) = refl

deleted_few : (limit : ℕ) (ids : List ℕ) (h : History) → HasFewLemmas limit h → HasFewLemmas limit (delete_lines ids ++ h)
deleted_few limit [] h few = few
deleted_few limit (id ∷ ids) h few = few

deleted_same : (ids : List ℕ) (h : History) → Same h (delete_lines ids ++ h)
deleted_same [] h = record { step = refl; blocks = λ none. none; finished = refl }
deleted_same (id ∷ ids) h = record { step = refl; blocks = λ none. none; finished = refl }

-- a retire line, and the line of what goes
retired_step : (ids : List ℕ) (id : ℕ) (h : History) → step_of (delete_lines ids ++ Retire id ∷ h) ≡ step_of h + 1
retired_step ids id h = (deleted_same ids (Retire id ∷ h)).step

-- ---- a length

abbrev pub begun : SolverState → SolverState
begun s = record { proof = s.proof; vars = s.vars + 1; stage = Begun; failed = false }

module _ (cs : List Clause) (e : Encoded) (k : ℕ) (p : Seen) (limit c : ℕ) (old : SolverState) (between : IsBetween cs e k p limit c old) where
  abbrev n : ℕ
  n = k * e.variables

  abbrev due : Clause
  due = length_assumes e k p (c + 1)

  vars_are : old.proof.problem.vars ≡ n
  vars_are = ap (λ (q : Problem). q.vars) between.tried.problem

  pub activation_is : (activation : Literal) → activation ≡ activation_of old.proof.problem (step_of old.proof.history) → activation ≡ lit (n + (c + 1)) true
  activation_is activation is =
      is ∙ (ap (λ (v : ℕ). lit (v + step_of old.proof.history) true) vars_are ∙ ap (λ (m : ℕ). lit (n + m) true) between.number)

  pub due_is : (activation : Literal) (a : Clause) → activation ≡ activation_of old.proof.problem (step_of old.proof.history) → a ≡ activation ∷ signed_seen (next_at e c) p → a ≡ due
  due_is activation a is are =
      let back : c ≡ (c + 1) - 1 = omega arith in
      are ∙ (ap (λ (l : Literal). l ∷ signed_seen (next_at e c) p) (activation_is activation is) ∙ ap (λ (m : ℕ). lit (n + (c + 1)) true ∷ signed_seen (next_at e m) p) back)

  -- what the log is about stands, and the activation literals of the lengths before are retired
  stands : NoneRefused old.proof.problem old.proof.history → (d : Clause) → Contains cs d → Contains (standing old.proof) d
  stands right d there =
      axioms_stand_still old.proof.problem old.proof.history d right (subst (λ (q : Problem). Contains q.clauses d) (sym between.tried.problem) there)

  are_retired : NoneRefused old.proof.problem old.proof.history → (i : ℕ) → 1 ≤ i → i ≤ c →
      Contains (standing old.proof) (negation (activation_of old.proof.problem i) ∷ [])
  are_retired right i from to = activations_stay_retired old.proof.problem old.proof.history i right from (omega (arith, to, between.number))

  -- the line of the solve was logged, and then these lemmas
  record Searched (s : SolverState) (lines : List Line) : Type 0 where
    problem : s.proof.problem ≡ problem_over cs e k p (c + 1)
    history : s.proof.history ≡ lines ++ Solve ∷ old.proof.history
    lemmas : Each (λ line. is_lemma_line line ≡ true) lines
    count : length lines ≤ limit

  searched : (s : SolverState) (a : Clause) (lines : List Line) → a ≡ due → s.proof.problem ≡ (begun_proof true old.proof a).problem →
      s.proof.history ≡ lines ++ Solve ∷ old.proof.history → Each (λ line. is_lemma_line line ≡ true) lines → length lines ≤ limit → Searched s lines
  searched s a lines is problem history all count =
      let one : 1 + c ≡ c + 1 = omega arith in
      record {
        problem =
            problem ∙ (ap (λ (q : Problem). record { vars = q.vars; clauses = q.clauses; steps = q.steps ++ a ∷ [] }) between.tried.problem
            ∙ (ap (λ (d : Clause). record { vars = n; clauses = cs; steps = map (length_assumes e k p) (range_with_len 1 c) ++ d ∷ [] }) is
            ∙ ap (λ (ds : List Clause). record { vars = n; clauses = cs; steps = ds })
            (sym (map-range_with_len_more (length_assumes e k p) 1 c (c + 1) one))));
        history = history;
        lemmas = all;
        count = count;
      }

  few_then : (lines : List Line) → Each (λ line. is_lemma_line line ≡ true) lines → length lines ≤ limit →
      HasFewLemmas limit (lines ++ Solve ∷ old.proof.history)
  few_then lines all count = few_lemmas limit lines old.proof.history all count between.tried.few

  -- ---- the end of the step

  abbrev gone : SolverState → Option ℕ → List ℕ
  gone s end = leaving (finished s.proof end)

  ended_problem : (s new : SolverState) (end : Option ℕ) (lines : List Line) → Searched s lines → (finished s.proof end).problem ≡ s.proof.problem →
      HasEnded s new end → new.proof.problem ≡ problem_over cs e k p (c + 1)
  ended_problem s new end lines found same ended =
      ap (λ (b : ProofLog). b.problem) ended.proof ∙ (without_problem (retired (finished s.proof end)) (gone s end) ∙ (same ∙ found.problem))

  open_history : (s new : SolverState) (lines : List Line) → Searched s lines → HasEnded s new None →
      new.proof.history ≡ delete_lines (gone s None) ++ Retire (next_id s.proof) ∷ (lines ++ Solve ∷ old.proof.history)
  open_history s new lines found ended =
      ap (λ (b : ProofLog). b.history) ended.proof
      ∙ (without_history (retired s.proof) (gone s None) ∙ ap (λ (h : History). delete_lines (gone s None) ++ Retire (next_id s.proof) ∷ h) found.history)

  -- it has no finish line
  tried_open : (s new : SolverState) (lines : List Line) → Searched s lines → HasEnded s new None → IsTried cs e k p limit (c + 1) c new
  tried_open s new lines found ended =
      let inner : History = lines ++ Solve ∷ old.proof.history in
      let same = lemmas_same lines old.proof.history found.lemmas in
      let last = deleted_same (gone s None) (Retire (next_id s.proof) ∷ inner) in
      record {
        well = ended.well;
        idle = ended.stage;
        problem = ended_problem s new None lines found refl ended;
        no_block = subst HasNoBlock (sym (open_history s new lines found ended)) (last.blocks (same.blocks between.tried.no_block));
        finished = ap finished_in (open_history s new lines found ended) ∙ (last.finished ∙ (same.finished ∙ between.tried.finished));
        few = subst (HasFewLemmas limit) (sym (open_history s new lines found ended))
            (deleted_few limit (gone s None) (Retire (next_id s.proof) ∷ inner) (few_then lines found.lemmas found.count));
      }

  shown : (s new : SolverState) (a : Clause) (activation : Literal) (values : List (Option Bool)) → NoneRefused old.proof.problem old.proof.history →
      a ≡ due → a ≡ activation ∷ signed_seen (next_at e c) p → HasSolved (begun old) s a limit (answers.Found values) → HasEnded s new None →
      HasShown cs e k p limit c values new
  shown s new a activation values right is are solved ended =
      let found = solved.ends in
      let lines : List Line = found.lemmas.lines in
      let got : Searched s lines = searched s a lines is found.lemmas.problem found.lemmas.history (open_are_lemmas _ lines found.lemmas.open_yet)
      (omega (arith, found.lemmas.length_is, found.under)) in
      let v : ℕ → Bool = value_of values in
      let holds : All (λ l. literal_value v l ≡ true) (activation ∷ signed_seen (next_at e c) p) =
      subst (λ (d : Clause). All (λ l. literal_value v l ≡ true) d) (solved.step ∙ are) found.solution.assumptions_met in
      record {
        tried = tried_open s new lines got ended;
        wide = omega (arith, found.solution.length_is, between.activations);
        met = all_from (Satisfies v) cs
            (λ d there. All-contains (Satisfies v) (standing s.proof) d found.solution.clauses_met
            (solved_keeps (begun old) s a limit (answers.Found values) solved d (stands right d there)));
        ends = All-tail (λ l. literal_value v l ≡ true) activation (signed_seen (next_at e c) p) holds;
      }

  spent : (s new : SolverState) (a : Clause) → NoneRefused old.proof.problem old.proof.history → a ≡ due →
      HasSolved (begun old) s a limit answers.Spent → HasEnded s new None → HasSpent cs e k p limit c new
  spent s new a right is solved ended =
      let lemmas = solved.ends.lemmas in
      let lines : List Line = lemmas.lines in
      let got : Searched s lines = searched s a lines is lemmas.problem lemmas.history (open_are_lemmas _ lines lemmas.open_yet)
      (omega (arith, lemmas.length_is)) in
      let assumed_is : assumed (begun_proof true old.proof a) ≡ due = solved.assumed_is ∙ is in
      let activation_there : Contains due (activation_of old.proof.problem (c + 1)) =
      subst (λ (v : ℕ). Contains due (lit (v + (c + 1)) true)) (sym vars_are) (contains_first (lit (n + (c + 1)) true) _) in
      let bound : (run : List Literal) → HasVariables old.proof.problem.vars run → IsUnitRun cs due run → limit < 2 ^ (old.proof.problem.vars - length run) =
      bound_is old.proof.problem cs (standing old.proof) due limit c (old.vars + 1) (stands right) (are_retired right) activation_there
      (omega (arith, between.activations, vars_are))
      (λ run unit.
      solved.ends.bound run
      (subst (λ (ds : List Clause). IsUnitRun ds (assumed (begun_proof true old.proof a)) run) (sym solved.stands)
      (subst (λ (d : Clause). IsUnitRun (standing old.proof) d run) (sym assumed_is) unit))) in
      record {
        tried = tried_open s new lines got ended;
        earlier = old.proof.history;
        lemmas = lines;
        id = next_id s.proof;
        later = delete_lines (gone s None);
        history = open_history s new lines got ended;
        step = between.number;
        count = lemmas.length_is;
        open_yet = subst (λ (d : Clause). Each (λ line. is_open_lemma d line ≡ true) lines) assumed_is lemmas.open_yet;
        bound = λ run range unit.
            subst (λ (v : ℕ). limit < 2 ^ (v - length run)) vars_are (bound run (subst (λ (v : ℕ). HasVariables v run) (sym vars_are) range) unit);
      }

  refuted : (s new : SolverState) (a : Clause) (id : ℕ) → a ≡ due → HasSolved (begun old) s a limit (answers.Refuted id) → HasEnded s new (Some id) →
      IsBetween cs e k p limit (c + 1) new
  refuted s new a id is solved ended =
      let r = solved.ends in
      let lines : List Line = Lemma id r.last.lemma r.last.logged.hints ∷ r.before.lines in
      let got : Searched s lines = searched s a lines is
      (ap (λ (b : ProofLog). b.problem) r.last.logged.proof ∙ r.before.problem)
      (ap (λ (b : ProofLog). b.history) r.last.logged.proof
      ∙ ap (λ (h : List Line). Lemma id r.last.lemma r.last.logged.hints ∷ h) r.before.history)
      (refl, open_are_lemmas _ r.before.lines r.before.open_yet) (omega (arith, r.before.length_is, r.under)) in
      let inner : History = lines ++ Solve ∷ old.proof.history in
      let ids : List ℕ = gone s (Some id) in
      let rid : ℕ = next_id (finished s.proof (Some id)) in
      let same = lemmas_same lines old.proof.history got.lemmas in
      let last = deleted_same ids (Retire rid ∷ Finish id ∷ inner) in
      let history : new.proof.history ≡ delete_lines ids ++ Retire rid ∷ Finish id ∷ inner =
      ap (λ (b : ProofLog). b.history) ended.proof
      ∙ (without_history (retired (finished s.proof (Some id))) ids ∙ ap (λ (h : History). delete_lines ids ++ Retire rid ∷ Finish id ∷ h) got.history) in
      let step : step_of inner ≡ c + 1 = same.step ∙ between.number in
      let one : c + 1 ≡ 1 + c = omega arith in
      record {
        tried = record {
          well = ended.well;
          idle = ended.stage;
          problem = ended_problem s new (Some id) lines got refl ended;
          no_block = subst HasNoBlock (sym history) (last.blocks (same.blocks between.tried.no_block));
          finished =
              ap finished_in history
              ∙ (last.finished
              ∙ (ap (λ (ns : List ℕ). ns ++ step_of inner ∷ []) (same.finished ∙ between.tried.finished)
              ∙ (ap (λ (m : ℕ). range_with_len 1 c ++ m ∷ []) (step ∙ one) ∙ sym (ap (range_with_len 1) (let more : c + 1 ≡ suc c = omega arith in more) ∙ range_more 1 c))));
          few = subst (HasFewLemmas limit) (sym history)
              (deleted_few limit ids (Retire rid ∷ Finish id ∷ inner) (few_then lines got.lemmas got.count));
        };
        activations = ended.vars ∙ (solved.vars ∙ omega (arith, between.activations));
        number = ap step_of history ∙ (retired_step ids rid (Finish id ∷ inner) ∙ ap (λ (m : ℕ). m + 1) step);
      }

  pub shown_by : (s1 s new : SolverState) (a : Clause) (activation : Literal) (values : List (Option Bool)) →
      NoneRefused old.proof.problem old.proof.history → s1 ≡ begun old → activation ≡ activation_of old.proof.problem (step_of old.proof.history) →
      a ≡ activation ∷ signed_seen (next_at e c) p → HasSolved s1 s a limit (answers.Found values) → HasEnded s new None → HasShown cs e k p limit c values new
  shown_by s1 s new a activation values right start is are solved ended =
      shown s new a activation values right (due_is activation a is are) are
      (subst (λ (t : SolverState). HasSolved t s a limit (answers.Found values)) start solved) ended

  pub spent_by : (s1 s new : SolverState) (a : Clause) (activation : Literal) → NoneRefused old.proof.problem old.proof.history → s1 ≡ begun old →
      activation ≡ activation_of old.proof.problem (step_of old.proof.history) →
      a ≡ activation ∷ signed_seen (next_at e c) p → HasSolved s1 s a limit answers.Spent → HasEnded s new None → HasSpent cs e k p limit c new
  spent_by s1 s new a activation right start is are solved ended =
      spent s new a right (due_is activation a is are) (subst (λ (t : SolverState). HasSolved t s a limit answers.Spent) start solved) ended

  pub refuted_by : (s1 s new : SolverState) (a : Clause) (activation : Literal) (id : ℕ) → s1 ≡ begun old →
      activation ≡ activation_of old.proof.problem (step_of old.proof.history) →
      a ≡ activation ∷ signed_seen (next_at e c) p → HasSolved s1 s a limit (answers.Refuted id) → HasEnded s new (Some id) → IsBetween cs e k p limit (c + 1) new
  refuted_by s1 s new a activation id start is are solved ended =
      refuted s new a id (due_is activation a is are) (subst (λ (t : SolverState). HasSolved t s a limit (answers.Refuted id)) start solved) ended

pub begun_vars : (cs : List Clause) (e : Encoded) (k : ℕ) (p : Seen) (b c : ℕ) (old s : SolverState) → IsBetween cs e k p b c old → s ≡ begun old →
    s.vars ≡ k * e.variables + (c + 1)
begun_vars cs e k p b c old s between is = ap (λ (t : SolverState). t.vars) is ∙ omega (arith, between.activations)

-- no line of the log so far is refused
pub right_in : (q : Problem) (h lines : History) → lines ≡ h → NoneRefused q lines → NoneRefused q h
right_in q h lines is right = subst (NoneRefused q) is right

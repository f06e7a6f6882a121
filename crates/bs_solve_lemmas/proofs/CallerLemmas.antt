-- What a caller of the solver asks of it: what still stands, which lines were logged, and the bound over its own clauses.
use Rattle.std.proofs.Common.{◌≡◌, Bool, true, false, not, List, [], ◌∷◌, ◌++◌, map, refl, ap, subst, sym, ◌∙◌, ℕ, Option, Some, None}
use Rattle.std.specs.Prelude.{Contains}
use Rattle.std.specs.List.{AllByRecursion as Each, filter}
use Rattle.std.proofs.lemmas.Bool.{false≢true}
use Rattle.std.proofs.lemmas.List.{map-append}
use Rattle.std.proofs.lemmas.List.Elements.{filter-append, Contains-append_left}
use Rattle.bs_clause.specs.Literal.{Clause}
use Rattle.bs_log.specs.declared.line.Line.{Line}
use Rattle.bs_log.specs.declared.line.Line.TheVariants.{Solve, Lemma, Block, Finish, Retire, Delete}
use Rattle.bs_log.specs.declared.origin.Origin.TheVariants.{Learnt}
use Rattle.bs_log.specs.History.{Problem, History, Entry, added, is_deleted, live}
use Rattle.bs_log.specs.Steps.{is_lemma_line}
use Rattle.bs_solve_lemmas.specs.declared.answer.Answer.{Answer}
use Rattle.bs_solve_lemmas.specs.declared.answer.Answer.TheVariants as answers
use Rattle.bs_solve_lemmas.specs.ProofLog.{ProofLog, standing, without}
use Rattle.bs_solve_lemmas.specs.Ending.{Ends, SomeLemmas, is_open_lemma}
use Rattle.bs_solve_lemmas.specs.Stages.{is_begun, begun_proof}
use Rattle.bs_solve_lemmas.specs.Solver.{SolverState, HasSolved, finished}
use Rattle.bs_solve_lemmas.proofs.Endings.{some_lemmas, some_and_last}
pub use Rattle.bs_solve_lemmas.proofs.Endings.{open_are_lemmas}
use Rattle.bs_solve_lemmas.proofs.Lines.{first_stands}
pub use Rattle.bs_solve_lemmas.proofs.Standing.{axioms_stand_still, activations_stay_retired}
pub use Rattle.bs_solve_lemmas.proofs.ActivationLemmas.{runs_over, with_activations, run_with_activations, bound_is}

-- ---- what a line leaves of a proof log

-- the line of what goes at a step's end, if anything does
abbrev pub delete_lines : List ℕ → List Line
delete_lines [] = []
delete_lines (id ∷ ids) = Delete (id ∷ ids) ∷ []

pub without_history : (b : ProofLog) (ids : List ℕ) → (without b ids).history ≡ delete_lines ids ++ b.history
without_history b [] = refl
without_history b (id ∷ ids) = refl

pub without_problem : (b : ProofLog) (ids : List ℕ) → (without b ids).problem ≡ b.problem
without_problem b [] = refl
without_problem b (id ∷ ids) = refl

pub finished_problem : (b : ProofLog) (end : Option ℕ) → (finished b end).problem ≡ b.problem
finished_problem b None = refl
finished_problem b (Some id) = refl

-- ---- what stands

-- the clauses that stand after these lines
abbrev pub stands_at : Problem → History → List Clause
stands_at p h = map (λ e. e.literals) (live p h)

-- a new solver's own clauses stand
pub axioms_stand : (p : Problem) → stands_at p [] ≡ p.clauses
axioms_stand p = first_stands p

-- one more clause takes none away
one_more : (q : Entry → Bool) (xs : List Entry) (x : Entry) (c : Clause) → Contains (map (λ e. e.literals) (filter q xs)) c →
    Contains (map (λ e. e.literals) (filter q (xs ++ x ∷ []))) c
one_more q xs x c h =
    subst (λ (cs : List Clause). Contains cs c)
    (sym (ap (map (λ (e : Entry). e.literals)) (filter-append q xs (x ∷ [])) ∙ map-append (λ (e : Entry). e.literals) (filter q xs) (filter q (x ∷ []))))
    (Contains-append_left (map (λ (e : Entry). e.literals) (filter q xs)) (map (λ (e : Entry). e.literals) (filter q (x ∷ []))) c h)

-- what stood stands after further lemmas
pub lemmas_keep : (p : Problem) (lines : List Line) (h : History) → Each (λ line. is_lemma_line line ≡ true) lines →
    (c : Clause) → Contains (stands_at p h) c → Contains (stands_at p (lines ++ h)) c
lemmas_keep p [] h all c there = there
lemmas_keep p (Lemma id lits hints ∷ lines) h all c there =
    one_more (λ e. not (is_deleted (lines ++ h) e.id)) (added p (lines ++ h)) (record { id = id; origin = Learnt; literals = lits }) c
    (lemmas_keep p lines h all.1 c there)
lemmas_keep p (Solve ∷ lines) h all c there = absurd (false≢true all.0)
lemmas_keep p (Block id lits ∷ lines) h all c there = absurd (false≢true all.0)
lemmas_keep p (Finish id ∷ lines) h all c there = absurd (false≢true all.0)
lemmas_keep p (Retire id ∷ lines) h all c there = absurd (false≢true all.0)
lemmas_keep p (Delete ids ∷ lines) h all c there = absurd (false≢true all.0)

-- the same of books
pub proofs_keep : (old new : ProofLog) (lines : List Line) → new.problem ≡ old.problem → new.history ≡ lines ++ old.history →
    Each (λ line. is_lemma_line line ≡ true) lines →
    (c : Clause) → Contains (standing old) c → Contains (standing new) c
proofs_keep old new lines p h all c there =
    let same : new ≡ record { problem = old.problem; history = lines ++ old.history } = λ i. record { problem = p i; history = h i } in
    subst (λ (b : ProofLog). Contains (standing b) c) (sym same) (lemmas_keep old.problem lines old.history all c there)

-- ---- the proof log as a search begins

pub begun_history : (first : Bool) (b : ProofLog) (a : Clause) → (begun_proof first b a).history ≡ Solve ∷ b.history
begun_history true b a = refl
begun_history false b a = refl

pub begun_vars : (first : Bool) (b : ProofLog) (a : Clause) → (begun_proof first b a).problem.vars ≡ b.problem.vars
begun_vars true b a = refl
begun_vars false b a = refl

pub begun_clauses : (first : Bool) (b : ProofLog) (a : Clause) → (begun_proof first b a).problem.clauses ≡ b.problem.clauses
begun_clauses true b a = refl
begun_clauses false b a = refl

-- ---- the lines of a solve

pub open_is_lemma : (a : Clause) (line : Line) → is_open_lemma a line ≡ true → is_lemma_line line ≡ true
open_is_lemma a (Lemma id lits hints) e = refl
open_is_lemma a Solve e = e
open_is_lemma a (Block id lits) e = e
open_is_lemma a (Finish id) e = e
open_is_lemma a (Retire id) e = e
open_is_lemma a (Delete ids) e = e

-- a search logs lemmas alone, however it ends
pub ends_by_lemmas : (old new : ProofLog) (vars limit : ℕ) (answer : Answer) → Ends old new vars limit answer → SomeLemmas old new
ends_by_lemmas old new vars limit (answers.Found values) e = some_lemmas old new e.count e.lemmas
ends_by_lemmas old new vars limit (answers.Refuted id) e = some_and_last old e.middle new e.count id e.before e.last
ends_by_lemmas old new vars limit answers.Spent e = some_lemmas old new limit e.lemmas

-- a solve's lines behind its first
pub solved_by_lemmas : (old new : SolverState) (a : Clause) (limit : ℕ) (answer : Answer) → HasSolved old new a limit answer →
    SomeLemmas (begun_proof (is_begun old.stage) old.proof a) new.proof
solved_by_lemmas old new a limit answer s = ends_by_lemmas (begun_proof (is_begun old.stage) old.proof a) new.proof old.vars limit answer s.ends

-- what stood before a solve stands after it
pub solved_keeps : (old new : SolverState) (a : Clause) (limit : ℕ) (answer : Answer) → HasSolved old new a limit answer →
    (c : Clause) → Contains (standing old.proof) c → Contains (standing new.proof) c
solved_keeps old new a limit answer s c there =
    let lemmas = solved_by_lemmas old new a limit answer s in
    proofs_keep (begun_proof (is_begun old.stage) old.proof a) new.proof lemmas.lines lemmas.problem lemmas.history lemmas.lemmas c
    (subst (λ (cs : List Clause). Contains cs c) (sym s.stands) there)

-- The one solve of a solver that was just made.
use Rattle.std.proofs.Common.{◌≡◌, ◌≤◌, ◌+◌, ◌∷◌, ℕ, [], arith, ap, sym, subst, ◌∙◌, List, Bool, Option, false, length}
use Rattle.std.proofs.lemmas.List.Elements.{All-cons, All-nil}
use Rattle.bs_clause.specs.Literal.{Clause, Literal}
use Rattle.bs_clause.specs.Range.{HasVariables, IsWithin}
use Rattle.bs_log.specs.History.{activation_of, step_of, History, Problem}
use Rattle.bs_solve_lemmas.specs.declared.stage.Stage.TheVariants.{Begun}
use Rattle.bs_solve_lemmas.specs.declared.answer.Answer.TheVariants as answers
use Rattle.bs_solve_lemmas.specs.Solver.{SolverState, HasSolved}
use Rattle.bs_reach_execution.specs.Search.{IsFresh}

-- with a step that has begun
abbrev pub begun : SolverState → SolverState
begun s = record { proof = s.proof; vars = s.vars + 1; stage = Begun; failed = false }

activation_variable : (p : Problem) (vars : ℕ) (h : History) → p.vars ≡ vars → h ≡ [] → (activation_of p (step_of h)).variable ≡ vars + 1
activation_variable p vars h is none = ap (λ (t : History). p.vars + step_of t) none ∙ ap (λ n. n + 1) is

pub activation_within : (s s1 : SolverState) (activation : Literal) (a : Clause) → IsFresh s s.vars → s1 ≡ begun s →
    activation ≡ activation_of s.proof.problem (step_of s.proof.history) → a ≡ activation ∷ [] → HasVariables s1.vars a
activation_within s s1 activation a fresh start is are =
    subst (HasVariables s1.vars) (sym are) (subst (λ (l : Literal). HasVariables s1.vars (l ∷ [])) (sym is)
    (subst (λ (t : SolverState). HasVariables t.vars (activation_of s.proof.problem (step_of s.proof.history) ∷ [])) (sym start)
    (All-cons (IsWithin (s.vars + 1)) (activation_of s.proof.problem (step_of s.proof.history)) []
    (let e = activation_variable s.proof.problem s.vars s.proof.history fresh.own fresh.lines in (omega (arith, e), omega (arith, e)))
    (All-nil (IsWithin (s.vars + 1))))))

pub values_reach : (s s1 s2 : SolverState) (a : Clause) (limit : ℕ) (values : List (Option Bool)) → s1 ≡ begun s →
    HasSolved s1 s2 a limit (answers.Found values) → s.vars ≤ length values
values_reach s s1 s2 a limit values start solved =
    let t : HasSolved (begun s) s2 a limit (answers.Found values) =
    subst (λ (t : SolverState). HasSolved t s2 a limit (answers.Found values)) start solved in
    let n = t.ends.solution.length_is in omega (arith, n)

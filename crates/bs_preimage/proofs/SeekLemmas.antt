-- A step is begun, searched and ended.
use Rattle.std.proofs.Common.{◌≡◌, ℕ, ◌+◌, ◌<◌, Bool, true, false, List, [], ◌∷◌, refl, ap, subst, sym, ◌∙◌, ◌⊎◌, inl, inr, arith, Option, Some, None}
use Rattle.std.specs.Prelude.{Contains}
use Rattle.std.proofs.lemmas.Bool.{true≢false}
use Rattle.bs_scan.specs.declared.seen.Seen.{Seen}
use Rattle.bs_clause.specs.Literal.{Literal, Clause}
use Rattle.bs_clause.specs.Range.{HasVariables}
use Rattle.bs_log.specs.declared.line.Line.TheVariants.{Finish, Retire, Delete}
use Rattle.bs_log.specs.History.{activation_of}
use Rattle.bs_solve_lemmas.specs.declared.stage.Stage.TheVariants.{Begun, Blocked}
use Rattle.bs_solve_lemmas.specs.ProofLog.{ProofLog, next_id, without}
use Rattle.bs_solve_lemmas.specs.Solver.{SolverState, HasEnded, finished, retired, leaving}
use Rattle.bs_solve_lemmas.specs.Stages.{is_begun}
use Rattle.bs_solve_lemmas.proofs.Clauses.{contains_first}
use Rattle.bs_encode.specs.Encoded.{Encoded}
use Rattle.bs_encode.specs.Assuming.{assumptions_for, asking}
use Rattle.bs_preimage.specs.Preimage.{next_activation}
use Rattle.bs_preimage.specs.Rest.{IsAtRest}
use Rattle.bs_preimage.specs.Turn.{Extends, IsReadable, MayTurn, activation_in}
use Rattle.bs_report.specs.declared.report.Cand.{Cand}
use Rattle.bs_report.specs.declared.report.ListEnd.{ListEnd}
use Rattle.bs_preimage.specs.Finding.{HasEndedSearch}
use Rattle.bs_preimage.specs.Step.{begun, assumptions_at, ending_of, HasSought}
use Rattle.bs_preimage.proofs.TurnLemmas.{extends_line, extends_same, extends_from, extends_then}

begun_is_not_blocked : Begun ≡ Blocked → ⊥
begun_is_not_blocked e = true≢false (ap is_begun e)

activation_is : (old : SolverState) → IsAtRest old → activation_in old.proof ≡ next_activation old.proof.problem
activation_is old rest = ap (activation_of old.proof.problem) rest.number

may_start : (e : Encoded) (old : SolverState) (present : Seen) (stored : List Bool) (older : Option (List Bool)) → IsReadable e → old.proof.problem.vars ≡ e.variables →
    old.proof.problem.clauses ≡ e.clauses → IsAtRest old →
    MayTurn e (begun old) (assumptions_at e old.proof present stored older)
may_start e old present stored older readable vars clauses rest =
    let activation : Literal = next_activation old.proof.problem in
    let above : e.variables < activation.variable = omega (arith, vars) in
    let last : activation.variable ≡ old.vars + 1 = omega (arith, rest.activations) in
    record {
      may = record { stage = λ _. inl refl; again = λ k. absurd (begun_is_not_blocked k) };
      range = subst (λ (n : ℕ). HasVariables n (assumptions_at e old.proof present stored older)) last
          (readable.assumptions_range activation (asking present stored older) above);
      distinct = readable.assumptions_distinct activation (asking present stored older) above;
      activation = subst (Contains (assumptions_at e old.proof present stored older)) (sym (activation_is old rest)) (contains_first activation _);
      vars = vars;
      activations = omega (arith, rest.activations, vars);
      clauses = clauses;
      stand = rest.stand;
    }

assumptions_are : (e : Encoded) (old : SolverState) (present : Seen) (stored : List Bool) (older : Option (List Bool)) (activation : Literal) (a : Clause) →
    IsAtRest old → activation ≡ activation_in old.proof →
    a ≡ assumptions_for e activation (asking present stored older) → a ≡ assumptions_at e old.proof present stored older
assumptions_are e old present stored older activation a rest g is = is ∙ ap (λ (g : Literal). assumptions_for e g (asking present stored older))
    (g ∙ activation_is old rest)

pub may_seek : (e : Encoded) (old s : SolverState) (present : Seen) (stored : List Bool) (older : Option (List Bool)) (activation : Literal) (a : Clause) → IsReadable e →
    old.proof.problem.vars ≡ e.variables →
    old.proof.problem.clauses ≡ e.clauses → IsAtRest old → s ≡ begun old → activation ≡ activation_in old.proof →
    a ≡ assumptions_for e activation (asking present stored older) →
    MayTurn e s a
may_seek e old s present stored older activation a readable vars clauses rest new g is =
    subst (λ (a : Clause). MayTurn e s a) (sym (assumptions_are e old present stored older activation a rest g is))
    (subst (λ (s : SolverState). MayTurn e s (assumptions_at e old.proof present stored older)) (sym new)
    (may_start e old present stored older readable vars clauses rest))

-- a search in a step that was begun, and the end of the step
pub sought_with : (e : Encoded) (old s middle new : SolverState) (present : Seen) (stored : List Bool) (older : Option (List Bool)) (activation : Literal) (a : Clause)
    (known : Option Cand) (k b : ℕ) (found : List Cand) (end : ListEnd) (last : Option ℕ) → IsAtRest old → s ≡ begun old → activation ≡ activation_in old.proof →
    a ≡ assumptions_for e activation (asking present stored older) → last ≡ ending_of end → HasEnded middle new last →
    HasEndedSearch e a known k b s middle found end → HasSought e old new present stored older known k b found end
sought_with e old s middle new present stored older activation a known k b found end last rest new_is g is last_is ended h =
    record {
      middle = middle;
      search =
          subst (λ (a : Clause). HasEndedSearch e a known k b (begun old) middle found end)
          (assumptions_are e old present stored older activation a rest g is)
          (subst (λ (s : SolverState). HasEndedSearch e a known k b s middle found end) new_is h);
      ended = subst (HasEnded middle new) last_is ended;
    }

-- ---- extensions

retired_extends : (old new : ProofLog) (end : Option ℕ) → new ≡ retired (finished old end) → Extends false old new []
retired_extends old new None e = extends_line false old new (Retire (next_id old)) [] e
retired_extends old new (Some id) e = record {
  vars = ap (λ (b : ProofLog). b.problem.vars) e;
  clauses = ap (λ (b : ProofLog). b.problem.clauses) e;
  more = Retire (next_id old) ∷ Finish id ∷ [];
  history = ap (λ (b : ProofLog). b.history) e;
  steps = inl (ap (λ (b : ProofLog). b.problem.steps) e);
}

without_extends : (old new : ProofLog) (ids : List ℕ) → new ≡ without old ids → Extends false old new []
without_extends old new [] e = extends_same false old new [] e
without_extends old new (id ∷ ids) e = extends_line false old new (Delete (id ∷ ids)) [] e

pub ended_extends : (old new : SolverState) (end : Option ℕ) → HasEnded old new end → Extends false old.proof new.proof []
ended_extends old new end h =
    extends_then false old.proof (retired (finished old.proof end)) new.proof [] [] (retired_extends old.proof (retired (finished old.proof end)) end refl)
    (without_extends (retired (finished old.proof end)) new.proof (leaving (finished old.proof end)) h.proof)

finished_extends : (old new : ProofLog) (end : Option ℕ) → new ≡ finished old end → Extends false old new []
finished_extends old new None e = extends_same false old new [] e
finished_extends old new (Some id) e = extends_line false old new (Finish id) [] e

pub failed_extends : (old new : ProofLog) (end : Option ℕ) → (new ≡ old) ⊎ (new ≡ finished old end) → Extends false old new []
failed_extends old new end (inl e) = extends_same false old new [] e
failed_extends old new end (inr e) = finished_extends old new end e

-- a search in a step that has just begun
pub sought_extends : (e : Encoded) (old s new : SolverState) (present : Seen) (stored : List Bool) (older : Option (List Bool)) (activation : Literal)
    (a : Clause) → IsAtRest old → s ≡ begun old →
    activation ≡ activation_in old.proof →
    a ≡ assumptions_for e activation (asking present stored older) → Extends true s.proof new.proof a →
    Extends true old.proof new.proof (assumptions_at e old.proof present stored older)
sought_extends e old s new present stored older activation a rest is g assumed x =
    let p = ap (λ (s : SolverState). s.proof.problem) is in
    let h = ap (λ (s : SolverState). s.proof.history) is in
    extends_from old.proof s.proof new.proof (assumptions_at e old.proof present stored older) true p [] h
    (subst (λ (a : Clause). Extends true s.proof new.proof a) (assumptions_are e old present stored older activation a rest g assumed) x)

-- a step that was begun, and no more
pub begun_extends : (e : Encoded) (old s : SolverState) (present : Seen) (stored : List Bool) (older : Option (List Bool)) → s ≡ begun old →
    Extends true old.proof s.proof (assumptions_at e old.proof present stored older)
begun_extends e old s present stored older is = extends_same true old.proof s.proof (assumptions_at e old.proof present stored older) (ap (λ
    (s : SolverState). s.proof) is)

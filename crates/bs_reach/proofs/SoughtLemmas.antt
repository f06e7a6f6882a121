-- A log of lengths that lemmas refute is an answer.
use Rattle.std.proofs.Common.{◌≡◌, ◌≢◌, ℕ, ◌+◌, ◌*◌, false, Bool, List, [], map, length, reverse, refl, sym, ap, subst, ◌∙◌, Option, Some, None}
use Rattle.std.specs.Prelude.{All, IfSome, ◌==◌}
use Rattle.std.specs.List.{range_with_len}
use Rattle.std.proofs.lemmas.Bool.{and_from, eq-eqb}
use Rattle.std.proofs.lemmas.List.{length-map}
use Rattle.bs_scan.specs.declared.seen.Seen.{Seen}
use Rattle.bs_scan.specs.Seen.{Shows}
use Rattle.bs_net.specs.Circuit.{Circuit, reset_state}
use Rattle.bs_log.specs.declared.line.Line.{Line}
use Rattle.bs_log.specs.History.{phase_of, step_of}
use Rattle.bs_log.specs.Refusal.{IsAccepted, is_between_steps}
use Rattle.bs_log.specs.Lean.{IsLean}
use Rattle.bs_log.specs.LineForms.{HasText}
use Rattle.bs_solve_lemmas.specs.declared.stage.Stage.TheVariants.{Idle}
use Rattle.bs_solve_lemmas.specs.Solver.{SolverState}
use Rattle.bs_solve_lemmas.proofs.ProofLogs.{texts_in_order}
use Rattle.bs_encode.specs.Encoded.{Encoded, encoding_of}
use Rattle.bs_reach_unrolled.specs.Unrolled.{unrolled, length_assumes}
use Rattle.bs_reach_unrolled.specs.Laws.{SolutionsAreExecutions, FinishedIsNotReached}
use Rattle.bs_reach.specs.declared.reach.Reach.{Reach}
use Rattle.bs_reach.specs.declared.reach.Outcome.TheVariants.{Unreached}
use Rattle.bs_reach.specs.declared.search.End.TheVariants as ends
use Rattle.bs_reach.specs.declared.telling.Verdict.{Verdict}
use Rattle.bs_reach.specs.Reach.{IsReach}
use Rattle.bs_reach.specs.Search.{problem_over, fresh_over, IsTried, IsBetween}
use Rattle.bs_reach.specs.Sought.{HasSought}
use Rattle.bs_reach.specs.Refuted.{IsLogOfLengths}
use Rattle.bs_reach.proofs.ReachLemmas.{look_is}
use Rattle.bs_reach.proofs.RefutedLemmas.{length_range}

-- the state that a solver would be in behind a log of so many lengths
abbrev pub state_behind : Encoded → List Bool → Seen → ℕ → ℕ → List Line → SolverState
state_behind e reset p k count log = record {
  proof = record { problem = problem_over (unrolled e reset k) e k p count; history = reverse log };
  vars = k * e.variables + count;
  stage = Idle;
  failed = false;
}

-- what such a log gives
pub record Behind (e : Encoded) (reset : List Bool) (p : Seen) (k b count refuted : ℕ) (log : List Line) : Type 0 where
  pub tried : IsTried (unrolled e reset k) e k p b count refuted (state_behind e reset p k count log)
  pub lean : IsLean (problem_over (unrolled e reset k) e k p count) (reverse log)
  pub texts : All HasText log
  pub accepted : IsAccepted (problem_over (unrolled e reset k) e k p count) log

pub behind : (e : Encoded) (reset : List Bool) (p : Seen) (k b count refuted : ℕ) (log : List Line) → IsLogOfLengths e reset p k b count refuted log →
    Behind e reset p k b count refuted log
behind e reset p k b count refuted log l =
    let h = l.tried in
    record {
      tried = record { well = refl; idle = refl; problem = refl; no_block = h.no_block; finished = h.finished; few = h.few };
      lean = record { steps = h.leaves; lemmas = h.recorded.kept.lean };
      texts = texts_in_order log h.recorded.kept.texts;
      accepted = record {
        lines = h.recorded.kept.right;
        complete = and_from (is_between_steps (phase_of (reverse log)))
            (step_of (reverse log) == length (map (length_assumes e k p) (range_with_len 1 count)) + 1) h.phase
            (eq-eqb (step_of (reverse log)) (length (map (length_assumes e k p) (range_with_len 1 count)) + 1)
            (h.step ∙ ap (λ n. n + 1) (sym (length-map (range_with_len 1 count) (length_assumes e k p) ∙ length_range 1 count))));
      };
    }

pub refuted_sought : (e : Encoded) (reset : List Bool) (p : Seen) (k b : ℕ) (log : List Line) (told : Verdict) (r : Reach) → told.outcome ≡ Unreached →
    r ≡ record { asked = k; conflicts = b; outcome = told.outcome; states = told.states; inputs = told.inputs; log = log } →
    IsLogOfLengths e reset p k b k k log → HasSought e reset p k b r
refuted_sought e reset p k b log told r unreached is l =
    let known : Behind e reset p k b k k log = behind e reset p k b k k log l in
    let between : IsBetween (unrolled e reset k) e k p b k (state_behind e reset p k k log) =
    record { tried = known.tried; activations = refl; number = l.tried.step } in
    subst (HasSought e reset p k b) (sym is) (record {
      start = fresh_over (unrolled e reset k) e k;
      solver = state_behind e reset p k k log;
      end = ends.Unreached;
      told = told;
      is = refl;
      fresh = refl;
      ended = between;
      tells = unreached;
      lines = refl;
      lean = λ well. known.lean;
      texts = known.texts;
      accepted = λ well idle. known.accepted;
    })

pub some_reach : (c : Circuit) (k b : ℕ) (p : Seen) (reset : List Bool) (e : Encoded) (o : Option Reach) → e ≡ encoding_of c [] → reset ≡ reset_state c →
    FinishedIsNotReached c (encoding_of c []) → SolutionsAreExecutions c (encoding_of c []) → length p.bits ≡ length c.flops → (Shows p (reset_state c) → ⊥) →
    IfSome o (HasSought e reset p k b) → IfSome o (IsReach c p k b)
some_reach c k b p reset e None encoded starts refuted solutions width other found = tt
some_reach c k b p reset e (Some r) encoded starts refuted solutions width other h =
    subst (IsReach c p k b) (sym h.is)
    (look_is c k b p reset e h.start h.solver r.log h.end h.told encoded starts refuted solutions width other h.fresh h.ended h.tells h.lines h.lean h.texts
    h.accepted)

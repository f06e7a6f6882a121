-- An execution of a length, and a log that refutes each shorter one, are an answer.
use Rattle.std.proofs.Common.{◌≡◌, ◌≢◌, ℕ, ◌+◌, ◌-◌, ◌<◌, arith, Bool, List, [], refl, sym, ap, subst, ◌∙◌}
use Rattle.std.specs.List.{range_with_len}
use Rattle.bs_scan.specs.declared.seen.Seen.{Seen}
use Rattle.bs_scan.specs.Seen.{Shows}
use Rattle.bs_net.specs.Circuit.{Circuit, reset_state}
use Rattle.bs_log.specs.declared.line.Line.{Line}
use Rattle.bs_encode.specs.Encoded.{Encoded, encoding_of}
use Rattle.bs_reach_unrolled.specs.Execution.{IsExecution}
use Rattle.bs_reach_unrolled.specs.Laws.{FinishedIsNotReached}
use Rattle.bs_reach.specs.declared.reach.Reach.{Reach}
use Rattle.bs_reach.specs.declared.reach.Outcome.TheVariants.{Reached}
use Rattle.bs_reach.specs.Reach.{IsReach}
use Rattle.bs_reach.specs.Refuted.{IsLogOfLengths}
use Rattle.bs_reach.proofs.ReachLemmas.{none_in, not_before, told_as}
use Rattle.bs_reach.proofs.SoughtLemmas.{state_behind, Behind, behind}

shown_here : (c : Circuit) (p : Seen) (k b i : ℕ) (states inputs : List (List Bool)) (log : List Line) → FinishedIsNotReached c (encoding_of c []) →
    (Shows p (reset_state c) → ⊥) → i < k → IsLogOfLengths (encoding_of c []) (reset_state c) p k b (i + 1) i log → IsExecution c (i + 1) p states inputs →
    IsReach c p k b (told_as k b (Reached (i + 1)) states inputs log)
shown_here c p k b i states inputs log law other low l run =
    let e : Encoded = encoding_of c [] in
    let known : Behind e (reset_state c) p k b (i + 1) i log = behind e (reset_state c) p k b (i + 1) i log l in
    let back : i ≡ (i + 1) - 1 = omega arith in
    record {
      asked_is = refl;
      conflicts_is = refl;
      outcome_is = (
        omega (arith, low),
        run,
        not_before c k p law (state_behind e (reset_state c) p k (i + 1) log) log refl b (i + 1) i (i + 1) known.tried (omega (arith, low)) known.accepted
            other refl,
      );
      accepted = known.accepted;
      lean = known.lean;
      texts = known.texts;
      no_block = none_in c k p law (state_behind e (reset_state c) p k (i + 1) log) log refl b (i + 1) i known.tried;
      finished = l.tried.finished ∙ ap (range_with_len 1) back;
      few = l.tried.few;
    }

-- an answer by the clauses of an encoding
pub shown_is : (c : Circuit) (k b i : ℕ) (p : Seen) (reset : List Bool) (enc : Encoded) (states inputs : List (List Bool)) (log : List Line) (r : Reach) →
    enc ≡ encoding_of c [] → reset ≡ reset_state c → FinishedIsNotReached c (encoding_of c []) → (Shows p (reset_state c) → ⊥) → i < k →
    IsLogOfLengths enc reset p k b (i + 1) i log → IsExecution c (i + 1) p states inputs → r ≡ told_as k b (Reached (i + 1)) states inputs log →
    IsReach c p k b r
shown_is c k b i p reset enc states inputs log r is starts law other low l run same =
    subst (IsReach c p k b) (sym same)
    (shown_here c p k b i states inputs log law other low
    (subst (λ (e : Encoded). IsLogOfLengths e (reset_state c) p k b (i + 1) i log) is
    (subst (λ (s : List Bool). IsLogOfLengths enc s p k b (i + 1) i log) starts l)) run)

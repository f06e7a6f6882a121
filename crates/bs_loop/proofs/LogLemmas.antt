-- The report of a way with the log of its search.
use Rattle.std.proofs.Common.{◌≡◌, ◌<◌, ◌^◌, false, List, length, subst, sym}
use Rattle.std.specs.Prelude.{All}
use Rattle.bs_log.specs.declared.line.Line.{Line}
use Rattle.bs_log.specs.LineForms.{HasText}
use Rattle.bs_log.specs.Refusal.{history_of, IsAccepted}
use Rattle.bs_log.specs.Lean.{IsLean}
use Rattle.bs_report.specs.declared.report.Report.{Report}
use Rattle.bs_preimage.specs.Preimage.{PreimageState}
use Rattle.bs_loop.specs.Report.{IsAlikeButLog, IsWithLog}

pub with_log_is : (s : PreimageState) (old new : Report) (log : List Line) → new.log ≡ log → IsAlikeButLog old new → history_of log ≡ s.history →
    (s.failed ≡ false → IsLean s.problem (history_of log)) → (s.failed ≡ false → IsAccepted s.problem log) → All HasText log → length log < 2 ^ 64 →
    IsWithLog s old new
with_log_is s old new log is alike lines lean accepted texts few =
    record {
      alike = alike;
      lines = subst (λ (l : List Line). history_of l ≡ s.history) (sym is) lines;
      lean = subst (λ (l : List Line). s.failed ≡ false → IsLean s.problem (history_of l)) (sym is) lean;
      accepted = subst (λ (l : List Line). s.failed ≡ false → IsAccepted s.problem l) (sym is) accepted;
      texts = subst (All HasText) (sym is) texts;
      few = subst (λ (l : List Line). length l < 2 ^ 64) (sym is) few;
    }

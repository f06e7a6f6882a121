use Rattle.std.proofs.Common.{◌≡◌, ◌++◌, map, take}
use Rattle.std.specs.List.{flat_map}
use Rattle.bs_log.specs.History.{History}
use Rattle.bs_log.specs.LineText.{id_text}
use Rattle.bs_log.specs.Refusal.{history_of}
use Rattle.bs_log.specs.Lines.{raised}
use Rattle.bs_evidence.specs.WholeProof.{under_of, ended}
use Rattle.bs_evidence.proofs.whole_lrat.push_all_ended.Given as goal

abbrev pub invariant-lines : goal.invariant-lines
invariant-lines l =
    let h : History = history_of (take l.i l.asked.lines.now) in
    record {
      under : l.under ≡ under_of h;
      text : l.text.items ≡ l.initial.text.items ++ flat_map id_text (map (λ e. raised l.f e.0) (ended h));
    }

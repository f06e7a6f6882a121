use Rattle.std.proofs.Common.{◌≡◌, ◌++◌, take}
use Rattle.bs_log.specs.History.{History}
use Rattle.bs_log.specs.Refusal.{history_of}
use Rattle.bs_log.specs.Proof.{proof_text, shown}
use Rattle.bs_log.specs.Walk.{problem_in, clauses_in, IsAt}
use Rattle.bs_log.proofs.lrat.push_lines.Given as goal

abbrev pub invariant-lines : goal.invariant-lines
invariant-lines l =
    let h : History = history_of (take l.i l.asked.lines.now) in
    record {
      at : IsAt l.f (problem_in l.asked) (clauses_in l.asked) h l.at;
      text : l.text.items ≡ l.initial.text.items ++ proof_text (clauses_in l.asked) (shown l.f (problem_in l.asked) h);
    }

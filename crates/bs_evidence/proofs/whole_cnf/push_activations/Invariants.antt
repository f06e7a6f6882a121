use Rattle.std.proofs.Common.{◌≡◌, ◌++◌, map, take}
use Rattle.std.specs.List.{flat_map}
use Rattle.bs_log.specs.History.{History, activation_of}
use Rattle.bs_log.specs.LineText.{literal_text}
use Rattle.bs_log.specs.Refusal.{history_of}
use Rattle.bs_evidence.specs.WholeProof.{under_of, ended}
use Rattle.bs_evidence.specs.WholeWalk.{problem_in}
use Rattle.bs_evidence.proofs.whole_cnf.push_activations.Given as goal

abbrev pub invariant-lines : goal.invariant-lines
invariant-lines l =
    let h : History = history_of (take l.i l.asked.lines.now) in
    record {
      under : l.under ≡ under_of h;
      text : l.text.items ≡ l.initial.text.items ++ flat_map literal_text (map (λ e. activation_of (problem_in l.asked) e.1) (ended h));
    }

use Rattle.std.proofs.Common.{◌≡◌, ◌++◌, take}
use Rattle.std.specs.List.{flat_map}
use Rattle.bs_bits.specs.Lines.{line}
use Rattle.bs_log.specs.LineText.{line_text}
use Rattle.bs_reach.proofs.text.push_lines.Given as goal

abbrev pub invariant-lines : goal.invariant-lines
invariant-lines l = l.text.items ≡ l.initial.text.items ++ flat_map (λ log_line. line (line_text log_line)) (take l.log_line-index l.lines)

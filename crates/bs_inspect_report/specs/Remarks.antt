-- The states of a report's trace as comments of a waveform (docs/FORMATS.md, "Texts of `backspace_inspect`").
use Rattle.std.specs.Prelude.{ℕ, List, ◌++◌, length, codes, decimal}
use Rattle.std.specs.List.{flat_map, range_with_len}
use Rattle.bs_bits.specs.Lines.{line}
use Rattle.bs_report.specs.declared.report.Report.{Report}
use Rattle.bs_inspect_report.specs.Trace.{origin_words}

-- the number of a state, and where it comes from
abbrev pub origin_of : Report → ℕ → List ℕ
origin_of r i = decimal i ++ origin_words r i

abbrev pub remark : Report → ℕ → List ℕ
remark r i = line (codes "$comment " ++ (origin_of r i ++ codes " $end"))

-- a line for each state
abbrev pub remarks : Report → List ℕ
remarks r = flat_map (remark r) (range_with_len 0 (length r.states))

-- What is seen of the state of a dump, by its first line alone, or the reason of the refusal (docs/FORMATS.md, "Texts of `backspace_inspect`").
use Rattle.std.specs.Prelude.{ℕ, List, codes, slice_get, Result}
use Rattle.bs_bits.specs.Lines.{lines_of}
use Rattle.bs_scan.specs.declared.seen.Seen.{Seen}
use Rattle.bs_scan.specs.DumpText.{seen_line}
use Rattle.bs_scan.specs.declared.fault.DumpFault.{DumpFault}
use Rattle.bs_note_files.specs.declared.dump.Widths.{Widths}
use Rattle.bs_outside.specs.Plan.{Reason}
use Rattle.bs_top_files.specs.Causes.{Case, dump_reason, with_reason}

-- what is seen in the first line, a bit or a `-` for each flip-flop, or the fault of that line
abbrev pub state_line : ℕ → List ℕ → Result Seen DumpFault
state_line width text = seen_line (codes "state ") 1 width (slice_get (lines_of text) 0)

-- what a dump is due to have, where nothing but its state is read
abbrev pub widths_for : ℕ → Widths
widths_for width = record { flops = width; depth = 1; items = 0 }

-- the same, with the reason of the refusal
abbrev pub state_read : ℕ → (path text : List ℕ) → Result Seen (Reason Case)
state_read width path text = with_reason (dump_reason (widths_for width) path text) (state_line width text)

-- The dump at a cycle of a simulation, out of the states of its cycles, in the order of a state's bits.
use Rattle.std.specs.Prelude.{ℕ, ◌-◌, ◌==◌, nat_lt, Bool, List, [], ◌++◌, codes, length, slice_index_or, Option, Some, None, if◌then◌else◌}
use Rattle.std.specs.List.{list_any}
use Rattle.bs_scan.specs.declared.seen.Seen.{Seen}
use Rattle.bs_scan.specs.SeenText.{seen_text}
use Rattle.bs_scan.specs.declared.dump.Dump.{Dump}
use Rattle.bs_scan.specs.Choice.{Chosen, depth_of}
use Rattle.bs_scan.specs.DumpText.{dump_text as text_of}
use Rattle.bs_scan.specs.Signature.{signature}
use Rattle.bs_bits.specs.Lines.{line}

-- the signature of the state so many cycles before, if there is one
abbrev pub kept_before : Chosen → List (List Bool) → (cycle back : ℕ) → Option (List Bool)
kept_before choice states cycle back = if nat_lt cycle back then None else Some (signature choice (slice_index_or states (cycle - back) []))

-- that of two cycles before, where two are kept
abbrev pub older_before : Chosen → List (List Bool) → ℕ → Option (List Bool)
older_before choice states cycle = if depth_of choice == 2 then kept_before choice states cycle 2 else None

-- which bits are not known, by a mark for each, where one is not; none is marked where there are no marks
abbrev pub free_among : List Bool → List Bool
free_among marks = if list_any (λ m. m) marks then marks else []

-- what is known of a state, by its bits and these marks
abbrev pub seen_by : (bits marks : List Bool) → Seen
seen_by bits marks = record { bits = bits; free = free_among marks }

-- what is known of the state at a cycle, and what the register holds there
abbrev pub dumped : Chosen → List (List Bool) → List Bool → ℕ → Dump
dumped choice states marks cycle = record {
  state = seen_by (slice_index_or states cycle []) marks;
  stored = kept_before choice states cycle 1;
  older = older_before choice states cycle;
  depth = depth_of choice;
}

-- the text of the last of these states, of whose bits some may be marked: its line alone, or with a signature the whole dump
abbrev pub dump_lines : Option Chosen → List (List Bool) → List Bool → List ℕ
dump_lines None states marks = line (codes "state " ++ seen_text (seen_by (slice_index_or states (length states - 1) []) marks))
dump_lines (Some choice) states marks = text_of (dumped choice states marks (length states - 1))

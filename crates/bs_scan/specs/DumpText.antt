-- The text of a dump (docs/FORMATS.md, "Dump"): the lines `state BITS` with `-` for a bit that is not known, `sig BITS` or `sig none`, at depth 2 `old BITS` or `old none`,
-- and `end`.
use Rattle.std.specs.Prelude.{ℕ, ◌+◌, ◌==◌, Bool, true, false, not, ◌&&◌, take, drop, List, [], ◌++◌, length, codes, Option, Some, None}
use Rattle.std.specs.Prelude.{is_none, Result, Ok, Err, if◌then◌else◌, slice_get, option_and_then}
use Rattle.std.specs.Str.{bytes_eq}
use Rattle.bs_bits.specs.Text.{bits_text, bits_of}
use Rattle.bs_bits.specs.Reading.{◌>>=◌}
use Rattle.bs_bits.specs.Lines.{line}
use Rattle.bs_scan.specs.declared.seen.Seen.{Seen}
use Rattle.bs_scan.specs.Seen.{is_shown}
use Rattle.bs_scan.specs.SeenText.{seen_of, seen_text}
use Rattle.bs_scan.specs.declared.dump.Dump.{Dump}
use Rattle.bs_scan.specs.declared.fault.DumpFault.{DumpFault}
use Rattle.bs_scan.specs.declared.fault.DumpFault.TheVariants.{Line, Width, NotReset}

-- ---- what a dump spells

abbrev pub signature_text : Option (List Bool) → List ℕ
signature_text None = codes "none"
signature_text (Some t) = bits_text t

abbrev pub signature_line : List ℕ → Option (List Bool) → List ℕ
signature_line word signature = line (word ++ signature_text signature)

-- the line of the older signature, where two are kept
abbrev pub older_text : ℕ → Option (List Bool) → List ℕ
older_text depth older = if depth == 2 then signature_line (codes "old ") older else []

abbrev pub dump_text : Dump → List ℕ
dump_text d =
    line (codes "state " ++ seen_text d.state)
    ++ (signature_line (codes "sig ") d.stored ++ (older_text d.depth d.older ++ line (codes "end")))

-- ---- what a text stands for

-- the rest of a line that begins with a word
abbrev pub behind : List ℕ → List ℕ → Option (List ℕ)
behind word text = if bytes_eq (take (length word) text) word then Some (drop (length word) text) else None

-- bits of a width
abbrev pub of_width : ℕ → ℕ → Option (List Bool) → Result (List Bool) DumpFault
of_width number width None = Err (Line number)
of_width number width (Some bits) = if length bits == width then Ok bits else Err (Width number)

-- the bits behind a word, in the line with this number
abbrev pub bits_line : List ℕ → ℕ → ℕ → Option (List ℕ) → Result (List Bool) DumpFault
bits_line word number width text = of_width number width (option_and_then bits_of (option_and_then (behind word) text))

-- the same of bits of which some may not be known
abbrev pub seen_of_width : ℕ → ℕ → Option Seen → Result Seen DumpFault
seen_of_width number width None = Err (Line number)
seen_of_width number width (Some seen) = if length seen.bits == width then Ok seen else Err (Width number)

abbrev pub seen_line : List ℕ → ℕ → ℕ → Option (List ℕ) → Result Seen DumpFault
seen_line word number width text = seen_of_width number width (option_and_then seen_of (option_and_then (behind word) text))

abbrev pub is_text : List ℕ → Option (List ℕ) → Bool
is_text word None = false
is_text word (Some text) = bytes_eq text word

-- the signature behind a word, or none, in the line with this number
abbrev pub held_line : List ℕ → ℕ → ℕ → Option (List ℕ) → Result (Option (List Bool)) DumpFault
held_line word number items text =
    if is_text (codes "none") (option_and_then (behind word) text) then Ok None else (bits_line word number items text >>= λ bits. Ok (Some bits))

-- the line of the older signature, which is none where the last one is
abbrev pub old_line : ℕ → Option (List Bool) → Option (List ℕ) → Result (Option (List Bool)) DumpFault
old_line items (Some t) text = held_line (codes "old ") 3 items text
old_line items None text = if is_text (codes "old none") text then Ok None else Err (Line 3)

-- the older signature, where two are kept
abbrev pub older_line : ℕ → ℕ → Option (List Bool) → Option (List ℕ) → Result (Option (List Bool)) DumpFault
older_line depth items stored text = if depth == 2 then old_line items stored text else Ok None

-- the lines from the third on, without that of the older signature
abbrev pub behind_older : ℕ → List (List ℕ) → List (List ℕ)
behind_older depth lines = if depth == 2 then drop 1 lines else lines

-- the last line, which has this number, and none behind it
abbrev pub end_line : ℕ → List (List ℕ) → Result Bool DumpFault
end_line number lines =
    if is_text (codes "end") (slice_get lines 0) then (if length (drop 1 lines) == 0 then Ok true else Err (Line (number + 1))) else Err (Line number)

-- where there is no signature, the reset state shows what is known of the state
abbrev pub at_reset : List Bool → Dump → Result Dump DumpFault
at_reset reset dump = if is_none dump.stored && not (is_shown dump.state reset) then Err NotReset else Ok dump

-- the dump that the lines stand for, of a register that keeps so many signatures, or their first fault
unfoldable pub dump_of : List Bool → ℕ → ℕ → List (List ℕ) → Result Dump DumpFault
dump_of reset depth items lines = do
  state ← seen_line (codes "state ") 1 (length reset) (slice_get lines 0)
  stored ← held_line (codes "sig ") 2 items (slice_get (drop 1 lines) 0)
  older ← older_line depth items stored (slice_get (drop 1 (drop 1 lines)) 0)
  ended ← end_line (depth + 2) (behind_older depth (drop 1 (drop 1 lines)))
  at_reset reset (record { state = state; stored = stored; older = older; depth = depth })

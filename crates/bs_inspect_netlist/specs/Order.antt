-- The flip-flops of a scan chain in its order, and what a pattern in that order shows of a state (docs/FORMATS.md, "Orders of a scan chain").
use Rattle.std.specs.Prelude.{ℕ, ◌+◌, ◌==◌, Bool, false, not, List, [], ◌∷◌, ◌++◌, length, map, codes, count_by, slice_index_or, Option, Some, None, Result, Ok, Err}
use Rattle.std.specs.Prelude.{if◌then◌else◌}
use Rattle.std.specs.List.{list_any, position, range_with_len}
use Rattle.bs_bits.specs.Lines.{is_name, line, lines_of}
use Rattle.bs_bits.specs.Reading.{◌>>=◌}
use Rattle.bs_bits.specs.Text.{bits_of}
use Rattle.bs_scan.specs.declared.seen.Seen.{Seen}
use Rattle.bs_scan.specs.ChoiceText.{flop_parts}
use Rattle.bs_scan.specs.SeenText.{seen_text}
use Rattle.bs_net.specs.Parts.{Parts}
use Rattle.bs_net_names.specs.Keys.{KeyParts, key_parts}
use Rattle.bs_net_names.specs.Rtl.{same_name}
use Rattle.bs_inspect_netlist.specs.declared.fault.OrderFault.{OrderFault}
use Rattle.bs_inspect_netlist.specs.declared.fault.OrderFault.TheVariants.{Line, Unknown, Twice}
use Rattle.bs_inspect_netlist.specs.declared.fault.PatternFault.{PatternFault}
use Rattle.bs_inspect_netlist.specs.declared.fault.PatternFault.TheVariants.{Bits, Width}

-- ---- the lines of an order

-- the first flip-flop with a name, as RTL writes it
abbrev pub flop_named : List KeyParts → List ℕ → Option ℕ
flop_named flops name = position (λ key. same_name key (key_parts name)) flops

-- whether a flip-flop is one of these
abbrev pub is_listed : List ℕ → ℕ → Bool
is_listed flops flop = list_any (λ f. f == flop) flops

abbrev pub if_new : List ℕ → Option ℕ → Result ℕ OrderFault
if_new earlier None = Err (Unknown (length earlier + 1))
if_new earlier (Some flop) = if is_listed earlier flop then Err (Twice (length earlier + 1)) else Ok flop

-- the flip-flop of a line behind those of the lines before it, none of which it is
abbrev pub listed_at : List KeyParts → List ℕ → List ℕ → Result ℕ OrderFault
listed_at flops earlier text = if is_name text then if_new earlier (flop_named flops text) else Err (Line (length earlier + 1))

-- a flip-flop for each line, behind these; or the first fault
abbrev pub listed_from : List KeyParts → List ℕ → List (List ℕ) → Result (List ℕ) OrderFault
listed_from flops earlier [] = Ok earlier
listed_from flops earlier (text ∷ texts) = listed_at flops earlier text >>= λ flop. listed_from flops (earlier ++ flop ∷ []) texts

-- the flip-flops that the lines of a text name, none of them twice; or the first fault
abbrev pub order_in : Parts → List ℕ → Result (List ℕ) OrderFault
order_in r text = listed_from (flop_parts r) [] (lines_of text)

-- whether a flip-flop is none of these
abbrev pub is_unlisted : List ℕ → ℕ → Bool
is_unlisted order flop = not (is_listed order flop)

-- how many of so many flip-flops are none of these
abbrev pub unlisted_count : ℕ → List ℕ → ℕ
unlisted_count width order = count_by (is_unlisted order) (range_with_len 0 width)

-- ---- a pattern

abbrev pub of_width : ℕ → Option (List Bool) → Result (List Bool) PatternFault
of_width width None = Err Bits
of_width width (Some bits) = if length bits == width then Ok bits else Err (Width (length bits))

-- so many bits: one for each line of the order
abbrev pub pattern_in : ℕ → List ℕ → Result (List Bool) PatternFault
pattern_in width text = of_width width (bits_of text)

abbrev pub bit_there : List Bool → Option ℕ → Bool
bit_there pattern None = false
bit_there pattern (Some k) = slice_index_or pattern k false

-- the bit of a flip-flop: that of the pattern at its place in the order
abbrev pub pattern_bit : List ℕ → List Bool → ℕ → Bool
pattern_bit order pattern flop = bit_there pattern (position (λ f. f == flop) order)

-- which of so many flip-flops are not in an order, where one is not
abbrev pub unlisted_among : ℕ → List ℕ → List Bool
unlisted_among width order =
    if list_any (is_unlisted order) (range_with_len 0 width) then map (is_unlisted order) (range_with_len 0 width) else []

-- what a pattern in an order shows of a state: nothing is known of the flip-flops that are not in the order
abbrev pub unscanned : ℕ → List ℕ → List Bool → Seen
unscanned width order pattern = record {
  bits = map (pattern_bit order pattern) (range_with_len 0 width);
  free = unlisted_among width order;
}

-- the first line of a dump of it
abbrev pub state_line : ℕ → List ℕ → List Bool → List ℕ
state_line width order pattern = line (codes "state " ++ seen_text (unscanned width order pattern))

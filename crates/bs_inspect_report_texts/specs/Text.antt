-- The text of a test bench (docs/FORMATS.md, "Texts of `backspace_inspect`"): a module in Verilog (IEEE 1364-2005).
use Rattle.std.specs.Prelude.{ℕ, ◌+◌, ◌-◌, ◌==◌, ◌&&◌, nat_lt, not, Bool, false, List, [], ◌∷◌, ◌++◌, length, map, reverse, codes, decimal, slice_get}
use Rattle.std.specs.Prelude.{Option, Some, None, if◌then◌else◌}
use Rattle.std.specs.List.{flat_map, range_with_len}
use Rattle.bs_bits.specs.Lines.{line}
use Rattle.bs_bits.specs.Text.{digit_of}
use Rattle.bs_net_names.specs.Keys.{KeyParts}
use Rattle.bs_inspect_view.specs.Signals.{Signal}
use Rattle.bs_inspect_report.specs.Signal.{bit_at, has_changed}

-- ---- names

-- whether a name is written with a `\`
abbrev pub is_escaped : List ℕ → Bool
is_escaped [] = false
is_escaped (b ∷ bs) = b == 92

-- a name as Verilog reads it: a space ends an escaped one
abbrev pub word : List ℕ → List ℕ
word name = if is_escaped name then name ++ codes " " else name

-- whether places fall
abbrev pub falls : List ℕ → Bool
falls [] = false
falls (p ∷ []) = false
falls (p ∷ q ∷ places) = nat_lt q p

-- Whether a port has its least bit first: bits of a vector stand in its order among the inputs. Synthesis may have made each bit a
-- port of its own, with an escaped name; then the greatest one is taken to be first.
abbrev pub is_rising : Signal → Bool
is_rising s = falls s.places && not (is_escaped s.base)

-- the places of a port's bits, from left to right
abbrev pub port_places : Signal → List ℕ
port_places s = if is_rising s then reverse s.places else s.places

-- the number of the least of some bits, of which this is the greatest
abbrev pub least : ℕ → ℕ → ℕ
least high count = high - (count - 1)

abbrev pub range_between : (left right : ℕ) → List ℕ
range_between left right = codes "[" ++ (decimal left ++ (codes ":" ++ (decimal right ++ codes "] ")))

-- the bounds of a vector's bits, of which there are so many
abbrev pub bounds : Option ℕ → ℕ → Bool → List ℕ
bounds None count rises = []
bounds (Some high) count rises = if rises then range_between (least high count) high else range_between high (least high count)

-- ---- the module's head

-- the variable of a port
abbrev pub variable_line : Signal → List ℕ
variable_line s = line (codes "  reg " ++ (bounds s.high (length s.places) (is_rising s) ++ (word s.base ++ codes ";")))

-- the variable of the clock, which begins low
unfoldable pub clock_line : KeyParts → List ℕ
clock_line clock = line (codes "  reg " ++ (bounds clock.bit 1 false ++ (word clock.base ++ codes " = 0;")))

-- a port, and the variable of the same name
abbrev pub connection : List ℕ → List ℕ
connection base = codes "." ++ (word base ++ (codes "(" ++ (word base ++ codes ")")))

abbrev pub further_connection : Signal → List ℕ
further_connection s = codes ", " ++ connection s.base

unfoldable pub instance_line : List ℕ → KeyParts → List Signal → List ℕ
instance_line top clock signals =
    line (codes "  " ++ (top ++ (codes " dut (" ++ (connection clock.base ++ (flat_map further_connection signals ++ codes ");")))))

unfoldable pub begin_lines : List ℕ
begin_lines = line (codes "`timescale 1ns/1ns") ++ line (codes "module bench;")

-- the file that every signal is written to
unfoldable pub dump_lines : List ℕ
dump_lines = line (codes "  initial begin") ++ (line (codes "    $dumpfile(\"bench.vcd\");") ++ line (codes "    $dumpvars(0, bench);"))

-- the variables, and the design as `dut`
abbrev pub head_lines : List ℕ → KeyParts → List Signal → List ℕ
head_lines top clock signals =
    begin_lines ++ (clock_line clock ++ (flat_map variable_line signals ++ (instance_line top clock signals ++ dump_lines)))

-- ---- a cycle

-- the bits of an input at a port, from left to right
abbrev pub digits : List Bool → List ℕ → List ℕ
digits input places = map (λ place. digit_of (bit_at input place)) places

abbrev pub assignment : List Bool → Signal → List ℕ
assignment input s =
    codes " " ++ (word s.base ++ (codes " = " ++ (decimal (length s.places) ++ (codes "'b" ++ (digits input (port_places s) ++ codes ";")))))

-- the assignment of a port, where its value is another one than in the cycle before
abbrev pub change : Option (List Bool) → List Bool → Signal → List ℕ
change before now s = if has_changed before now s.places then assignment now s else []

-- the clock rises, and falls
abbrev pub edges : KeyParts → List ℕ
edges clock = codes " #5 " ++ (word clock.base ++ (codes " = 1; #5 " ++ (word clock.base ++ codes " = 0;")))

-- a cycle: its inputs stand before its edge
abbrev pub cycle_line : KeyParts → List Signal → ℕ → Option (List Bool) → List Bool → List ℕ
cycle_line clock signals i before now =
    line (codes "    /* " ++ (decimal i ++ (codes " */" ++ (flat_map (change before now) signals ++ edges clock))))

-- the input of the cycle before, which the first has none of
abbrev pub input_before : List (List Bool) → ℕ → Option (List Bool)
input_before inputs i = if i == 0 then None else slice_get inputs (i - 1)

abbrev pub cycle_of : KeyParts → List Signal → List (List Bool) → ℕ → Option (List Bool) → List ℕ
cycle_of clock signals inputs i None = []
cycle_of clock signals inputs i (Some now) = cycle_line clock signals i (input_before inputs i) now

abbrev pub cycle_at : KeyParts → List Signal → List (List Bool) → ℕ → List ℕ
cycle_at clock signals inputs i = cycle_of clock signals inputs i (slice_get inputs i)

abbrev pub cycle_lines : KeyParts → List Signal → List (List Bool) → List ℕ
cycle_lines clock signals inputs = flat_map (cycle_at clock signals inputs) (range_with_len 0 (length inputs))

-- ---- the module's end

unfoldable pub shown_line : ℕ → List ℕ
shown_line count = line (codes "    #5 $display(\"cycle " ++ (decimal count ++ codes "\");"))

unfoldable pub end_lines : List ℕ
end_lines = line (codes "    $finish;") ++ (line (codes "  end") ++ line (codes "endmodule"))

-- how many cycles there were
abbrev pub tail_lines : ℕ → List ℕ
tail_lines count = shown_line count ++ end_lines

-- the bench of a design that drives these inputs, cycle by cycle
abbrev pub bench_lines : List ℕ → KeyParts → List Signal → List (List Bool) → List ℕ
bench_lines top clock signals inputs = head_lines top clock signals ++ (cycle_lines clock signals inputs ++ tail_lines (length inputs))

-- Which connections a gate, a cell or an assignment may have.
use Rattle.std.specs.Prelude.{ℕ, ◌-◌, Bool, true, false, not, ◌&&◌, ◌==◌, nat_le, if◌then◌else◌, List, length, take, codes, Option, Some, None}
use Rattle.std.specs.Prelude.{is_some, slice_index_or, position, option_map}
use Rattle.std.specs.List.{list_any, list_all}
use Rattle.std.specs.Str.{bytes_eq}
use Rattle.bs_net.specs.declared.gate.Kind.{Kind}
use Rattle.bs_net.specs.declared.gate.Kind.TheVariants.{Buf, Not}
use Rattle.bs_verilog_syntax.specs.declared.tree.Term.{Term}
use Rattle.bs_verilog_syntax.specs.declared.tree.Term.TheVariants.{Constant}
use Rattle.bs_verilog_syntax.specs.declared.tree.Connection.{Connection}
use Rattle.bs_verilog_syntax.specs.declared.tree.Connection.TheVariants as connections
use Rattle.bs_verilog_syntax.specs.declared.tree.Connection.TheVariants.{Empty, Place}
use Rattle.bs_lex.specs.declared.lexeme.Cell.{Cell}
use Rattle.bs_lex.specs.declared.lexeme.Cell.TheVariants.{Dffe, Dffr}
use Rattle.bs_verilog.specs.declared.cells.Pin.{Pin}
use Rattle.bs_verilog.specs.declared.cells.Pin.TheVariants.{Clock, Output, Input, Enable, Clear}
use Rattle.bs_verilog.specs.declared.pins.Control.{Control}
use Rattle.bs_verilog.specs.declared.pins.Control.TheVariants as controls
use Rattle.bs_verilog.specs.declared.pins.Pins.{Pins}
use Rattle.bs_verilog.specs.Cells.{pin_name, pin_list}
use Rattle.bs_verilog_scope.specs.Keys.{text}

abbrev pub term_of : Connection → Option Term
term_of (Place t) = Some t
term_of (connections.Pin n t) = t
term_of Empty = None

abbrev pub has_term : Connection → Bool
has_term c = is_some (term_of c)

abbrev pub is_constant_term : Option Term → Bool
is_constant_term (Some (Constant at b)) = true
is_constant_term _ = false

abbrev pub is_constant : Connection → Bool
is_constant c = is_constant_term (term_of c)

-- a term by its place
abbrev pub is_place : Connection → Bool
is_place (Place t) = true
is_place _ = false

-- the pin of this name
abbrev pub is_pin : List (List ℕ) → List ℕ → Connection → Bool
is_pin table name (connections.Pin n t) = bytes_eq (text table n) name
is_pin table name _ = false

-- the kinds with one input, which may have several outputs
abbrev pub is_single : Kind → Bool
is_single Buf = true
is_single Not = true
is_single _ = false

-- how many of a gate's terminals are outputs: of a `buf` or `not` all but the last, of the others the first
abbrev pub output_count : Kind → ℕ → ℕ
output_count kind n = if is_single kind then n - 1 else 1

-- a gate has an output and an input, no connection is empty, and no output is a constant
unfoldable pub is_gate : Kind → List Connection → Bool
is_gate kind cs =
    nat_le 2 (length cs) && list_all has_term cs && not (list_any is_constant (take (output_count kind (length cs)) cs))

-- an assignment's left side is no constant
unfoldable pub is_assignment : List Connection → Bool
is_assignment cs = not (is_constant (slice_index_or cs 0 Empty))

-- where a pin stands in the order of a cell's pins
abbrev pub ordered_place : Cell → Pin → Option ℕ
ordered_place cell pin = position (λ p. bytes_eq (pin_name p) (pin_name pin)) (pin_list cell)

-- where a pin stands by its name
abbrev pub named_place : List (List ℕ) → List Connection → Pin → Option ℕ
named_place table cs pin = position (is_pin table (pin_name pin)) cs

-- where a pin of a cell stands among its connections: all of them stand by their places, or each by its name
abbrev pub pin_place : List (List ℕ) → Cell → List Connection → Pin → Option ℕ
pin_place table cell cs pin = if list_all is_place cs then ordered_place cell pin else named_place table cs pin

-- where the pin of a cell stands that decides what its flip-flop loads
abbrev pub control_place : List (List ℕ) → Cell → List Connection → Option Control
control_place table Dffe cs = option_map controls.Enable (pin_place table Dffe cs Enable)
control_place table Dffr cs = option_map controls.Clear (pin_place table Dffr cs Clear)
control_place table _ cs = Some controls.Plain

-- where the pins stand, if each does
abbrev pub pins_at : Option ℕ → Option ℕ → Option ℕ → Option Control → Option Pins
pins_at (Some clock) (Some output) (Some input) (Some control) = Some (record { clock = clock; output = output; input = input; control = control })
pins_at _ _ _ _ = None

-- the pins of a cell by these connections
unfoldable pub pins_of : List (List ℕ) → Cell → List Connection → Option Pins
pins_of table cell cs =
    pins_at (pin_place table cell cs Clock) (pin_place table cell cs Output) (pin_place table cell cs Input) (control_place table cell cs)

-- The pins of a cell that has as many connections as pins, none of them empty, and no constant as its output. Each pin is connected
-- once then.
unfoldable pub cell_pins : List (List ℕ) → Cell → List Connection → Option Pins
cell_pins table cell cs =
    if length cs == length (pin_list cell) && list_all has_term cs
    then (elim (pins_of table cell cs) [
      | Some pins ↦ if is_constant (slice_index_or cs pins.output Empty) then None else Some pins
      | None ↦ None
    ])
    else None

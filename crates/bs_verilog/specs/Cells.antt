-- The cells: the pins of each, and the bit with which its flip-flop begins (docs/FORMATS.md, "Netlists").
use Rattle.std.specs.Prelude.{ℕ, Bool, true, false, List, [], ◌∷◌, codes}
use Rattle.bs_lex.specs.declared.lexeme.Cell.{Cell}
use Rattle.bs_lex.specs.declared.lexeme.Cell.TheVariants.{Dff, Dffs, Dffe, Dffr}
use Rattle.bs_verilog.specs.declared.cells.Pin as code
use Rattle.bs_verilog.specs.declared.cells.Pin.TheVariants.{Clock, Output, Input, Enable, Clear}

-- the name of a pin
abbrev pub pin_name : code.Pin → List ℕ
pin_name Clock = codes "CK"
pin_name Output = codes "Q"
pin_name Input = codes "D"
pin_name Enable = codes "E"
pin_name Clear = codes "R"

-- the pins of a cell in the order of their places
abbrev pub pin_list : Cell → List code.Pin
pin_list Dff = Clock ∷ Output ∷ Input ∷ []
pin_list Dffs = Clock ∷ Output ∷ Input ∷ []
pin_list Dffe = Clock ∷ Output ∷ Input ∷ Enable ∷ []
pin_list Dffr = Clock ∷ Output ∷ Input ∷ Clear ∷ []

-- the flip-flop of `dffs` is 1 at reset, and that of the other cells 0
abbrev pub starts_as_one : Cell → Bool
starts_as_one Dffs = true
starts_as_one _ = false

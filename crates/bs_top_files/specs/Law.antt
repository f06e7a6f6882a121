-- A netlist of several modules means the design that they are.
use Rattle.std.specs.Prelude.{◌≡◌, ◌≤◌, ◌+◌, ℕ, Bool, List, length, map, All, Ok, ◌↔◌}
use Rattle.std.specs.List.{range_with_len}
use Rattle.bs_lex.specs.declared.token.Token.{Token}
use Rattle.bs_lex.specs.Lexemes.{lexemes_of, names_of}
use Rattle.bs_verilog.specs.Netlist.{tokenised}
use Rattle.bs_net.specs.Circuit.{Circuit, reset_state}
use Rattle.bs_net.specs.Netlist.{circuit_of}
use Rattle.bs_net.specs.Parts.{Parts, PartsArePlaced}
use Rattle.bs_scan.specs.Moments.{Run, state_at}
use Rattle.bs_flat_meaning.specs.Connecting.{ReadModule}
use Rattle.bs_flat_meaning.specs.Design.{Design, flops}
use Rattle.bs_flat_meaning.specs.Executions.{IsDesignExecution, reset_of}
use Rattle.bs_flat_meaning.specs.Flat.{IsDesign, flat_parts}
use Rattle.bs_flat_meaning.specs.Law.{FlatMeans}
use Rattle.bs_flat_meaning.specs.Meaning.{data_inputs}
use Rattle.bs_flat_meaning.specs.Pieces.{modules_of}
use Rattle.bs_flat_meaning.specs.Reading.{design_of, read_modules}
use Rattle.bs_top_files.specs.Readings.{netlist_in}

-- the text has several modules other than cells
abbrev pub HasModules : List ℕ → Type 0
HasModules bytes = (tokens : List Token) × (tokenised bytes ≡ Ok tokens) × (2 ≤ length (modules_of (lexemes_of bytes tokens)))

-- the text's modules, as they are read, are this design
pub record IsDesignOf (bytes : List ℕ) (d : Design) : Type 0 where
  pub tokens : List Token
  pub lexed : tokenised bytes ≡ Ok tokens
  pub modules : List ReadModule
  pub read : read_modules (names_of bytes tokens) (lexemes_of bytes tokens) ≡ Ok modules
  pub is : d ≡ design_of (names_of bytes tokens) (modules_of (lexemes_of bytes tokens)) modules

-- inputs of a circuit, and the states through which it goes under them from reset
pub record GoesThrough (c : Circuit) (states : List (List Bool)) (inputs : Run) : Type 0 where
  pub widths : All (λ x. length x ≡ length c.inputs) inputs
  pub states_are : states ≡ map (state_at c inputs) (range_with_len 0 (length inputs + 1))

-- The parts are the flat parts of the text's design: exactly one valuation of the nets on all paths fits the design for each state
-- and input, and the design's next state is that of the parts. The design has as many flip-flops and data inputs as the circuit, the
-- same state at reset, and the same executions from there.
pub record MeansDesign (bytes : List ℕ) (raw : Parts) : Type 0 where
  pub design : Design
  pub of_text : IsDesignOf bytes design
  pub whole : IsDesign design
  pub flat : raw ≡ flat_parts design
  pub means : (s x : List Bool) → length s ≡ length (flops design) → length x ≡ length (data_inputs design) → FlatMeans design s x
  pub states : length (circuit_of raw).flops ≡ length (flops design)
  pub inputs : length (circuit_of raw).inputs ≡ length (data_inputs design)
  pub reset : reset_state (circuit_of raw) ≡ reset_of design
  pub executions : (states : List (List Bool)) (inputs : Run) → IsDesignExecution design states inputs ↔ GoesThrough (circuit_of raw) states inputs

-- each netlist of several modules that is read means their design
abbrev pub NetlistsMeanDesigns : Type 0
NetlistsMeanDesigns = (path bytes : List ℕ) (raw : Parts) → HasModules bytes → netlist_in path bytes ≡ Ok raw → PartsArePlaced raw → MeansDesign bytes raw

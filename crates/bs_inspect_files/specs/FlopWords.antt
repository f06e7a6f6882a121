-- The words behind what is refused, of names and of scan chains (docs/FORMATS.md, "Words of `backspace_inspect`").
use Rattle.std.specs.Prelude.{ℕ, List, [], ◌++◌, codes, decimal}
use Rattle.bs_inspect_netlist.specs.declared.fault.OrderFault.{OrderFault}
use Rattle.bs_inspect_netlist.specs.declared.fault.OrderFault.TheVariants as chain
use Rattle.bs_inspect_netlist.specs.declared.fault.PatternFault.{PatternFault}
use Rattle.bs_inspect_netlist.specs.declared.fault.PatternFault.TheVariants as pattern
use Rattle.bs_net_names.specs.Quotes.{shown_line}

-- an order of a scan chain; a line counts from 1
abbrev pub order_words : OrderFault → List ℕ
order_words (chain.Line line) = codes "Line " ++ decimal line
order_words (chain.Unknown line) = codes "Unknown " ++ decimal line
order_words (chain.Twice line) = codes "Twice " ++ decimal line
order_words chain.NoMemory = []

-- a pattern, by how many bits there are
abbrev pub pattern_words : PatternFault → List ℕ
pattern_words pattern.Bits = codes "Bits"
pattern_words (pattern.Width count) = codes "Width " ++ decimal count
pattern_words pattern.NoMemory = []

-- a name that no net has, as it is shown
abbrev pub unnamed_words : List ℕ → List ℕ
unnamed_words name = codes "NoNet " ++ shown_line name

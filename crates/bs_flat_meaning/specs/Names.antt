-- What the names of a text's flat nets are.
use Rattle.std.specs.Prelude.{ℕ, List, Ok}
use Rattle.bs_net.specs.Parts.{Parts}
use Rattle.bs_verilog.specs.Law.{AreNames}
use Rattle.bs_flat_meaning.specs.Reading.{IsAnswer}

-- what a text is answered with has names of one or more bytes 33 to 126 alone
abbrev pub FlatNetsAreNamed : Type 0
FlatNetsAreNamed = (source : List ℕ) (parts : Parts) → IsAnswer source (Ok parts) → AreNames parts.names

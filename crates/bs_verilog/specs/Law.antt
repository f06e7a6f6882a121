-- What the names of a netlist that is read are.
use Rattle.std.specs.Prelude.{◌≡◌, ℕ, List, Ok, All, IsTrue}
use Rattle.bs_bits.specs.Lines.{is_name}
use Rattle.bs_net.specs.Parts.{Parts}
use Rattle.bs_verilog.specs.Netlist.{netlist_text}

-- each name is one or more bytes 33 to 126
abbrev pub AreNames : List (List ℕ) → Type 0
AreNames names = All (λ name. IsTrue (is_name name)) names

-- what is read has such names alone
abbrev pub NetsAreNamed : Type 0
NetsAreNamed = (source : List ℕ) (raw : Parts) → netlist_text source ≡ Ok raw → AreNames raw.names

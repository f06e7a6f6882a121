-- The numbers of the nets: each key takes the next number where it first stands.
use Rattle.std.specs.Prelude.{ℕ, List, [], ◌∷◌, map, unwrap_or}
use Rattle.std.specs.List.{flat_map}
use Rattle.bs_net.specs.declared.net.NetId.{NetId}
use Rattle.bs_net.specs.Names.{with_key, number_of}
use Rattle.bs_verilog_scope.specs.declared.numbering.Known.{Known}
use Rattle.bs_verilog_scope.specs.Declaring.{keys_of}

-- the names after these keys: each new one takes the next number
unfoldable pub with_keys : List (List ℕ) → List (List ℕ) → List (List ℕ)
with_keys names [] = names
with_keys names (key ∷ keys) = with_keys (with_key names key) keys

-- the names of declared nets, a vector's bits from the left bound to the right
abbrev pub numbered : List (List ℕ) → List Known → List (List ℕ)
numbered table nets = with_keys [] (flat_map (keys_of table) nets)

-- the net of a key that is there
abbrev pub net_of : List (List ℕ) → List ℕ → NetId
net_of names key = record { 0 = unwrap_or (number_of names key) 0 }

abbrev pub nets_of : List (List ℕ) → List (List ℕ) → List NetId
nets_of names keys = map (net_of names) keys

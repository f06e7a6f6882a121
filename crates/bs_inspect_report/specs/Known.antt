-- Names that are asked for, and the keys of a netlist (docs/FORMATS.md, "Texts of `backspace_inspect`").
use Rattle.std.specs.Prelude.{ℕ, Bool, not, ◌||◌, List, Option}
use Rattle.std.specs.List.{find, list_any}
use Rattle.bs_net_names.specs.Keys.{key_parts}
use Rattle.bs_net_names.specs.Naming.{is_named}
use Rattle.bs_net.specs.Parts.{Parts}
use Rattle.bs_inspect_report.specs.Keys.{flop_keys, input_keys}

-- whether a name is that of a bit with one of these keys, or of its vector
abbrev pub has_named : List (List ℕ) → List ℕ → Bool
has_named keys name = list_any (λ key. is_named (key_parts key) name) keys

-- whether a name is that of a flip-flop, of a data input or of a vector of these
abbrev pub is_known : Parts → List ℕ → Bool
is_known raw name = has_named (flop_keys raw) name || has_named (input_keys raw) name

-- the first name that is none of these
abbrev pub first_unknown : Parts → List (List ℕ) → Option (List ℕ)
first_unknown raw only = find (λ name. not (is_known raw name)) only

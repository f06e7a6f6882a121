-- The scopes and the names that a text declares.
use Rattle.std.specs.Prelude.{ℕ, Bool, true, List, drop, map, Option, Some, None, Result, Ok}
use Rattle.std.specs.List.{filter}
use Rattle.std.specs.Str.{bytes_eq}
use Rattle.bs_bits.specs.Reading.{◌>>=◌}
use Rattle.bs_vcd_header.specs.declared.fault.VcdFault.{VcdFault}
use Rattle.bs_vcd_header.specs.Header.{HeaderDeclarations, Variable, header_of}
use Rattle.bs_vcd_header.specs.Sources.{named_in, path_of}
use Rattle.bs_vcd_header.specs.Tokens.{tokens_from}

-- what is declared with which a text begins, or its first fault
abbrev pub declared_of : List ℕ → Result HeaderDeclarations VcdFault
declared_of text = header_of (tokens_from 1 text) >>= λ h. Ok h.declared

-- the paths of the scopes, in the order of the text
abbrev pub scopes_of : HeaderDeclarations → List (List ℕ)
scopes_of d = drop 1 d.paths

-- a variable of the scope with a path, or any where none is asked for
abbrev pub is_of : Option (List ℕ) → List (List ℕ) → Variable → Bool
is_of None paths v = true
is_of (Some path) paths v = bytes_eq (path_of paths v) path

abbrev pub own_name : Variable → List ℕ
own_name v = (named_in v.shape).name

abbrev pub names_among : Option (List ℕ) → List (List ℕ) → List Variable → List (List ℕ)
names_among scope paths variables = map own_name (filter (is_of scope paths) variables)

-- the names of the variables of a scope, without their bits, in the order of the text
abbrev pub names_of : Option (List ℕ) → HeaderDeclarations → List (List ℕ)
names_of scope d = names_among scope d.paths d.variables

-- The bits of names of which a VCD may lack some (docs/FORMATS.md, "Value changes (VCD)").
use Rattle.std.specs.Prelude.{◌≡◌, ◌<◌, ℕ, nat_lt, not, ◌&&◌, Bool, List, length, map, is_some, Option, Some, None, Result, Ok, Err, if◌then◌else◌}
use Rattle.std.specs.List.{count_by, list_any}
use Rattle.bs_bits.specs.Reading.{◌>>=◌}
use Rattle.bs_net_names.specs.Keys.{key_parts}
use Rattle.bs_vcd_header.specs.declared.fault.VcdFault.{VcdFault}
use Rattle.bs_vcd_header.specs.declared.fault.VcdFault.TheVariants.{NoInput}
use Rattle.bs_vcd_header.specs.declared.sources.BitSource.{BitSource}
use Rattle.bs_vcd_header.specs.Header.{HeaderDeclarations}
use Rattle.bs_vcd_header.specs.Sources.{source_in}
use Rattle.bs_vcd_header.specs.Words.{id_in}

-- for each of these names the bit of the first variable that has it in the scope with a path, if there is one
abbrev pub sources_of : HeaderDeclarations → List ℕ → List (List ℕ) → List (Option BitSource)
sources_of d path names = map (λ name. source_in d.paths path (key_parts name) d.variables) names

abbrev pub is_found : Option BitSource → Bool
is_found source = is_some source

-- there are names, and no variable has one of them
abbrev pub none_found : List (Option BitSource) → Bool
none_found sources = nat_lt 0 (length sources) && not (list_any is_found sources)

-- the same, where at least one is found; else the first name is the one that is missed
abbrev pub some_found : List (Option BitSource) → Result (List (Option BitSource)) VcdFault
some_found sources = if none_found sources then Err (NoInput 0) else Ok sources

abbrev pub is_lacking : Option BitSource → Bool
is_lacking source = not (is_found source)

-- how many names no variable has
abbrev pub lacking : List (Option BitSource) → ℕ
lacking sources = count_by is_lacking sources

-- the bit of no variable: an identifier code has a character at least, and so another number than 0
abbrev pub nowhere : BitSource
nowhere = record { id = 0; place = 0 }

abbrev pub or_nowhere : Option BitSource → BitSource
or_nowhere None = nowhere
or_nowhere (Some source) = source

-- no identifier code is that of no variable
pub record CodesAreSomewhere : Type 0 where
  pub is : (text : List ℕ) (id : ℕ) → id_in text ≡ Some id → nowhere.id < id

-- the bits of these names, of which at least one is found; that of no variable for each other one
abbrev pub found_inputs : HeaderDeclarations → (path : List ℕ) → List (List ℕ) → Result (List BitSource) VcdFault
found_inputs d path names = some_found (sources_of d path names) >>= λ sources. Ok (map or_nowhere sources)

-- The names of the modules and of their instances.
use Rattle.std.specs.Prelude.{ℕ, ◌+◌, Bool, true, not, ◌&&◌, nat_lt, if◌then◌else◌, List, [], ◌∷◌, map, ⊤, Option, Some, None, Result, Ok, Err}
use Rattle.std.specs.List.{flat_map}
use Rattle.bs_bits.specs.Reading.{◌>>=◌}
use Rattle.bs_lex.specs.declared.lexeme.Name.{Name}
use Rattle.bs_lex.specs.Lexemes.{is_name}
use Rattle.bs_verilog_syntax.specs.declared.fault.VerilogFault.{VerilogFault}
use Rattle.bs_verilog_syntax.specs.Reading.{Rest, at, sort, rest, name}
use Rattle.bs_verilog_scope.specs.Declaring.{repeated_fault}
use Rattle.bs_flat_meaning.specs.declared.statements.Written.{Written}
use Rattle.bs_flat_modules.specs.declared.dealing.ModuleSpan.{ModuleSpan}
use Rattle.bs_flat_modules.specs.Copying.{part}

-- the name of a module with this body, at its `module`, if it has a name
abbrev pub head_of : Rest → List Name
head_of body = if is_name (sort (rest body)) then record { at = at body; id = (name (rest body)).id } ∷ [] else []

-- the names of the modules at these places
abbrev pub heads : Rest → List ModuleSpan → List Name
heads ts places = flat_map (λ p. head_of (part ts p.body p.stop)) places

-- the number of the name of a module with this body, if it has a name
abbrev pub id_of : Rest → Option ℕ
id_of body = if is_name (sort (rest body)) then Some (name (rest body)).id else None

-- of the modules at these places
abbrev pub ids_at : Rest → List ModuleSpan → List (Option ℕ)
ids_at ts places = map (λ p. id_of (part ts p.body p.stop)) places

-- no fault goes on
abbrev pub unless : Option VerilogFault → Result ⊤ VerilogFault
unless None = Ok tt
unless (Some fault) = Err fault

-- no instance name of a module stands twice
abbrev pub apart : List Written → Result ⊤ VerilogFault
apart ws = unless (repeated_fault (map (λ w. w.name) ws))

-- none of any module
unfoldable pub all_apart : List (List Written) → Result ⊤ VerilogFault
all_apart [] = Ok tt
all_apart (ws ∷ all) = apart ws >>= λ _. all_apart all

-- where the `module` at a place begins
abbrev pub begin : Rest → ModuleSpan → ℕ
begin ts p = at (part ts p.body p.stop)

-- places that rise, from a least one on
unfoldable pub rises : ℕ → List ℕ → Bool
rises least [] = true
rises least (n ∷ ns) = not (nat_lt n least) && rises (n + 1) ns

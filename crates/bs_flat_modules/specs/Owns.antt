-- What the own text of each module says, and the instances that it writes, by the places of the modules.
use Rattle.std.specs.Prelude.{ℕ, Bool, false, List, [], ◌∷◌, ◌++◌, length, take, drop, Result, Ok}
use Rattle.bs_net.specs.Parts.{Parts}
use Rattle.bs_net.specs.Netlist.{parts_of}
use Rattle.bs_bits.specs.Reading.{◌>>=◌}
use Rattle.bs_verilog_syntax.specs.declared.tree.Module.{Module}
use Rattle.bs_verilog_syntax.specs.declared.fault.VerilogFault.{VerilogFault}
use Rattle.bs_verilog_syntax.specs.Reading.{Rest}
use Rattle.bs_verilog_syntax.specs.Modules.{syntax_of}
use Rattle.bs_verilog.specs.Netlist.{meaning_of}
use Rattle.bs_flat_meaning.specs.declared.fault.FlatFault.{FlatFault}
use Rattle.bs_flat_meaning.specs.declared.limits.TheConstants.{MAX_OWN_NETS}
use Rattle.bs_flat_meaning.specs.declared.statements.Written.{Written}
use Rattle.bs_flat_meaning.specs.Reading.{as_verilog, owns_within}
use Rattle.bs_flat_meaning.specs.Pieces.{to_semicolon}
use Rattle.bs_flat_modules.specs.declared.dealing.ModuleSpan.{ModuleSpan}
use Rattle.bs_flat_modules.specs.declared.owns.Own.{Own}
use Rattle.bs_flat_modules.specs.Copying.{part}
use Rattle.bs_flat_modules.specs.Items.{own_items, written_items}
use Rattle.bs_flat_modules.specs.Names.{begin}

-- one after another, up to the first fault
unfoldable pub each_of : {A B : Type 0} → (A → Result B VerilogFault) → List A → Result (List B) VerilogFault
each_of f [] = Ok []
each_of f (x ∷ xs) = f x >>= λ y. each_of f xs >>= λ ys. Ok (y ∷ ys)

-- what an own text says, and the parts that it builds
abbrev pub module_and_parts : Own → Module × Parts
module_and_parts own = (own.says, parts_of own.parts)

abbrev pub said : List (List ℕ) → Rest → Result (Module × Parts) VerilogFault
said table own = syntax_of own >>= λ m. meaning_of table m >>= λ parts. Ok (m, parts)

-- a module's body without its instance statements
abbrev pub own_body : (ℕ → Bool) → Rest → Rest
own_body marks body = let head = to_semicolon false body in head.0 ++ own_items marks (length head.1) head.1

-- the own text of the module at a place
abbrev pub own_text : (ℕ → Bool) → Rest → Rest → ModuleSpan → Rest
own_text marks others ts p =
    take p.before others ++ (part ts p.from p.body ++ (own_body marks (part ts p.body p.stop) ++ drop p.before others))

-- what the own texts of the modules at these places say, or the first refusal
abbrev pub owns : List (List ℕ) → (ℕ → Bool) → Rest → Rest → List ModuleSpan → Result (List (Module × Parts)) FlatFault
owns table marks others ts places = owns_within (begin ts) (λ p. as_verilog (said table (own_text marks others ts p))) MAX_OWN_NETS places

-- the instances that a module with this body writes
abbrev pub written : (ℕ → Bool) → Rest → Result (List Written) VerilogFault
written marks body = let head = to_semicolon false body in written_items marks (length head.1) [] head.1

-- the instances of the modules at these places
abbrev pub all_written : (ℕ → Bool) → Rest → List ModuleSpan → Result (List (List Written)) VerilogFault
all_written marks ts places = each_of (λ p. written marks (part ts p.body p.stop)) places

-- What the functions of the third and fourth pass promise each other.
use Rattle.std.specs.Prelude.{◌≡◌, ℕ, Bool, true, ◌⊎◌, List, Option, Some, None, Result, MatchResult, nat_eq, if◌then◌else◌}
use Rattle.std.specs.List.{list_any}
use Rattle.std.specs.Map.{lookup}
use Rattle.bs_verilog_syntax.specs.declared.tree.Says.{Says}
use Rattle.bs_verilog_syntax.specs.declared.fault.VerilogFault.{VerilogFault}
use Rattle.bs_verilog_syntax.specs.declared.fault.VerilogFault.TheVariants.{NoMemory}

-- a value with a property where no fault is expected, or the expected fault, unless memory ran out
abbrev pub Checks : {A : Type 0} → Result A VerilogFault → Option VerilogFault → (A → Type 0) → Type 0
Checks result expected P = MatchResult result (λ x. (expected ≡ None) × P x) (λ fault. (fault ≡ NoMemory) ⊎ (expected ≡ Some fault))

-- what is said of some names, each by its number
abbrev pub Entries : Type 0
Entries = List (ℕ × Says)

-- what is said of the name with a number
abbrev pub looked : Entries → ℕ → Option Says
looked entries id = lookup (nat_eq id) entries

-- the same with what is said of one name
abbrev pub with_entry : (ℕ → Option Says) → ℕ → Says → ℕ → Option Says
with_entry scope id says k = if nat_eq id k then Some says else scope k

-- whether the name with a number is among those that are marked
abbrev pub marked : List ℕ → ℕ → Bool
marked ids id = list_any (nat_eq id) ids

-- the same with one mark
abbrev pub with_mark : (ℕ → Bool) → ℕ → ℕ → Bool
with_mark marks id k = if nat_eq id k then true else marks k

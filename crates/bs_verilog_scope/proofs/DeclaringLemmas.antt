-- The faults of declarations, in their order.
use Rattle.std.proofs.Common.{◌≡◌, ℕ, Bool, List, Option, Some, None, Result, Ok, Err, refl, sym, ap, ◌∙◌, inl, inr, ◌⊎◌}
use Rattle.bs_lex.specs.declared.lexeme.Name.{Name}
use Rattle.bs_verilog_syntax.specs.declared.tree.Says.{Says}
use Rattle.bs_verilog_syntax.specs.declared.tree.Declared.{Declared}
use Rattle.bs_verilog_syntax.specs.declared.tree.Module.{Module}
use Rattle.bs_verilog_scope.specs.declared.numbering.Known.{Known}
use Rattle.bs_verilog_syntax.specs.declared.fault.VerilogFault.{VerilogFault}
use Rattle.bs_verilog_syntax.specs.declared.fault.VerilogFault.TheVariants.{NoMemory, TooManyNets}
use Rattle.bs_verilog_scope.specs.Declaring.{◌or_else◌, repeated_fault, many_fault, naming_fault, declaring_fault, nets_in, known_nets}
use Rattle.bs_verilog_scope.specs.Declaring.{said, is_in, first_over, fault, declared_fault, redeclared_fault}
use Rattle.bs_verilog_scope.specs.Checking.{Checks, looked}
use Rattle.bs_verilog_scope.specs.declared.declaring.Declarations.{Declarations}

-- the nets of a module, by its tables
pub nets_by_tables : (m : Module) (header : List Name) (declared : List Declared) (ports : ℕ → Bool) (scope : ℕ → Option Says) → header ≡ m.header
    → declared ≡ m.declared → ports ≡ is_in header → scope ≡ said declared → nets_in scope ports header declared ≡ known_nets m
unfolding known_nets
nets_by_tables m header declared ports scope hh dd hp hs = rw (hp, hs, hh, dd) refl

-- the faults behind the header, by the scope that is made
pub by_scope : (table : List (List ℕ)) (header : List Name) (declared : List Declared) (ports : ℕ → Bool) (scope : ℕ → Option Says) → scope ≡ said declared
    → (redeclared_fault declared or_else naming_fault table ports scope header declared) ≡ declared_fault table ports header declared
by_scope table header declared ports scope hs = ap (λ (s : ℕ → Option Says). redeclared_fault declared or_else naming_fault table ports s header declared) hs

pub second : (b c total found : Option VerilogFault) (f : VerilogFault) → (b or_else c) ≡ total → b ≡ None → found ≡ c
    → (f ≡ NoMemory) ⊎ (found ≡ Some f) → (f ≡ NoMemory) ⊎ (total ≡ Some f)
second b c total found f all eb is (inl memory) = inl memory
second b c total found f all eb is (inr e) = let here : c ≡ Some f = sym is ∙ e in inr (sym all ∙ rw (eb, here) refl)

pub second_none : (b c total : Option VerilogFault) → (b or_else c) ≡ total → b ≡ None → c ≡ None → total ≡ None
second_none b c total all eb ec = sym all ∙ rw (eb, ec) refl

-- where no name of the header stands twice, the faults behind it are the module's
by_marks : (table : List (List ℕ)) (m : Module) (header : List Name) (declared : List Declared) (ports : ℕ → Bool) → header ≡ m.header
    → declared ≡ m.declared → ports ≡ is_in header → repeated_fault header ≡ None → declared_fault table ports header declared ≡ declaring_fault table m
unfolding declaring_fault
by_marks table m header declared ports hh dd hp none =
    let empty : repeated_fault m.header ≡ None = rw (← hh) none in
    rw (hp, hh, dd, empty) refl

pub declared_is : (r : Result Declarations VerilogFault) (table : List (List ℕ)) (m : Module) (header : List Name) (declared : List Declared) (ports : ℕ → Bool)
    → header ≡ m.header → declared ≡ m.declared → ports ≡ is_in header → repeated_fault header ≡ None
    → Checks r (declared_fault table ports header declared)
    (λ d. (looked d.scope ≡ said declared) × (d.nets ≡ nets_in (looked d.scope) ports header declared) × (many_fault table d.nets ≡ None))
    → Checks r (declaring_fault table m) (λ d. (looked d.scope ≡ said m.declared) × (d.nets ≡ known_nets m) × (many_fault table d.nets ≡ None))
declared_is (Ok d) table m header declared ports hh dd hp none h = (
  sym (by_marks table m header declared ports hh dd hp none) ∙ h.0,
  (
    h.1.0 ∙ ap said dd,
    h.1.1 ∙ nets_by_tables m header declared ports (looked d.scope) hh dd hp h.1.0,
    h.1.2,
  ),
)
declared_is (Err f) table m header declared ports hh dd hp none (inl memory) = inl memory
declared_is (Err f) table m header declared ports hh dd hp none (inr e) = inr (sym (by_marks table m header declared ports hh dd hp none) ∙ e)

pub none_over : (table : List (List ℕ)) (nets : List Known) → many_fault table nets ≡ None → first_over table 0 nets ≡ None
none_over table nets e = by (first_over table 0 nets) e
  where
    by : (o : Option Known) → fault (λ k. TooManyNets k.name.at) o ≡ None → o ≡ None
    by (Some k) e = absurd cc
    by None e = refl

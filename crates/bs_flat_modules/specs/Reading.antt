-- The modules of a text of several, as they were read.
use Rattle.std.specs.Prelude.{◌≡◌, ℕ, Bool, true, List, length, map, zip, ⊤, Result, Ok, Err}
use Rattle.bs_net.specs.Parts.{Parts}
use Rattle.bs_verilog_syntax.specs.declared.tree.Module.{Module}
use Rattle.bs_flat_meaning.specs.declared.statements.Written.{Written}
use Rattle.bs_verilog_syntax.specs.declared.fault.VerilogFault.{VerilogFault}
use Rattle.bs_verilog_syntax.specs.declared.fault.VerilogFault.TheVariants.{Redeclared, NoMemory as out_of_memory}
use Rattle.bs_verilog_syntax.specs.Reading.{Rest}
use Rattle.bs_flat_meaning.specs.declared.fault.FlatFault.{FlatFault}
use Rattle.bs_flat_meaning.specs.declared.fault.FlatFault.TheVariants.{Verilog, Twice, NoMemory}
use Rattle.bs_flat_meaning.specs.Connecting.{ReadModule}
use Rattle.bs_flat_meaning.specs.Pieces.{modules_of}
use Rattle.bs_flat_meaning.specs.Reading.{◌then◌, as_verilog, gathered}
use Rattle.bs_flat_modules.specs.declared.dealing.Dealt.{Dealt}
use Rattle.bs_flat_modules.specs.declared.owns.Modules.{Modules}
use Rattle.bs_flat_modules.specs.Dealing.{IsDealt}
use Rattle.bs_flat_modules.specs.Names.{rises, begin, all_apart}
use Rattle.bs_flat_modules.specs.Owns.{module_and_parts, owns, all_written}

-- a refusal of a module's own text, or of an instance statement; out of memory is always the text's
abbrev pub fault_of : VerilogFault → FlatFault
fault_of out_of_memory = NoMemory
fault_of fault = Verilog fault

-- a refusal of a name that stands twice
abbrev pub twice_of : VerilogFault → FlatFault
twice_of (Redeclared at) = Twice at
twice_of _ = NoMemory

-- the text is dealt out, and the modules begin one behind another
pub record IsDealtOut (ts : Rest) (d : Dealt) : Type 0 where
  pub dealt : IsDealt ts d
  pub rising : rises 0 (map (begin ts) d.modules) ≡ true

-- each module of the text is there, with what it says and with the instances that it writes
pub record AreAll (ts : Rest) (m : Modules) : Type 0 where
  pub owns : length m.owns ≡ length (modules_of ts)
  pub written : length m.written ≡ length (modules_of ts)

-- the modules that were read
abbrev pub read_modules_of : Modules → List ReadModule
read_modules_of m = map gathered (zip (map module_and_parts m.owns) m.written)

-- what was read of each, apart
abbrev pub parts_read : Modules → List (Module × Parts) × List (List Written)
parts_read m = (map module_and_parts m.owns, m.written)

-- what was read of the own texts, and the instances
abbrev pub with_written : List (Module × Parts) → Result (List (List Written)) VerilogFault →
    Result (List (Module × Parts) × List (List Written)) FlatFault
with_written os ws = as_verilog ws then (λ all. Ok (os, all))

-- what the own texts say, and then the instances
abbrev pub all_read : List (List ℕ) → (ℕ → Bool) → Rest → Dealt → Result (List (Module × Parts) × List (List Written)) FlatFault
all_read table marks ts d = owns table marks d.others ts d.modules then (λ os. with_written os (all_written marks ts d.modules))

-- the modules, where no instance name stands twice within one
abbrev pub apart_or : Modules → Result ⊤ VerilogFault → Result Modules FlatFault
apart_or m (Ok done) = Ok m
apart_or m (Err fault) = Err (twice_of fault)

abbrev pub apart : Modules → Result Modules FlatFault
apart m = apart_or m (all_apart m.written)

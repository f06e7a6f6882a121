-- What a text is answered with, unless memory runs out.
use Rattle.std.specs.Prelude.{◌≡◌, ◌⊎◌, ℕ, Bool, true, false, nat_lt, List, length, Result, Ok, Err, MatchResult}
use Rattle.bs_bits.specs.Reading.{Answers}
use Rattle.bs_net.specs.declared.raw.Raw.{Raw}
use Rattle.bs_net.specs.Netlist.{parts_of}
use Rattle.bs_flat_meaning.specs.declared.fault.FlatFault.{FlatFault}
use Rattle.bs_flat_meaning.specs.declared.fault.FlatFault.TheVariants.{Verilog, NoMemory}
use Rattle.bs_lex.specs.declared.fault.LexFault.{LexFault}
use Rattle.bs_lex.specs.declared.fault.LexFault.TheVariants.{BadByte, NoMemory as out_of_memory}
use Rattle.bs_verilog_syntax.specs.declared.fault.VerilogFault.TheVariants.{Syntax}
use Rattle.bs_verilog_syntax.specs.Reading.{Rest}
use Rattle.bs_flat_meaning.specs.Pieces.{modules_of}
use Rattle.bs_flat_meaning.specs.Reading.{IsAnswer, as_verilog}
use Rattle.bs_top_files.specs.Modules.{single_of, IsSeverally}

-- the result is the text's answer, unless memory ran out
abbrev pub IsAnswered : List ℕ → Result Raw FlatFault → Type 0
IsAnswered source result =
    MatchResult result (λ raw. IsAnswer source (Ok (parts_of raw))) (λ fault. (fault ≡ NoMemory) ⊎ IsAnswer source (Err fault))

-- the result is the answer of the lexemes of one module, or of several, unless memory ran out
abbrev pub IsOfSort : Bool → List (List ℕ) → Rest → Result Raw FlatFault → Type 0
IsOfSort true table ts result = Answers NoMemory parts_of result (as_verilog (single_of table ts))
IsOfSort false table ts result = IsSeverally table ts result

abbrev pub IsLexed : List (List ℕ) → Rest → Result Raw FlatFault → Type 0
IsLexed table ts result = IsOfSort (nat_lt (length (modules_of ts)) 2) table ts result

-- a place where no token begins is a fault of syntax
abbrev pub fault_of : LexFault → FlatFault
fault_of (BadByte at) = Verilog (Syntax at)
fault_of out_of_memory = NoMemory

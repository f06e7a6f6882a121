-- What a text of one module is answered with, and one of several after its modules have been read.
use Rattle.std.specs.Prelude.{◌≡◌, ◌⊎◌, ◌≤◌, ℕ, List, length, map, Option, Result, Ok, Err, MatchResult}
use Rattle.bs_bits.specs.Reading.{◌>>=◌, Answers}
use Rattle.bs_net.specs.Parts.{Parts}
use Rattle.bs_net.specs.declared.raw.Raw.{Raw}
use Rattle.bs_net.specs.Netlist.{parts_of}
use Rattle.bs_lex.specs.declared.limits.TheConstants.{MAX_BYTES}
use Rattle.bs_lex.specs.declared.token.Token.{Token}
use Rattle.bs_lex.specs.Tokens.{tokens_of}
use Rattle.bs_lex.specs.Lexemes.{lexemes_of, names_of}
use Rattle.bs_verilog_syntax.specs.declared.fault.VerilogFault.{VerilogFault}
use Rattle.bs_verilog_syntax.specs.Reading.{Rest}
use Rattle.bs_verilog_syntax.specs.Modules.{syntax_of}
use Rattle.bs_verilog.specs.Netlist.{meaning_of}
use Rattle.bs_flat_meaning.specs.declared.fault.FlatFault.{FlatFault}
use Rattle.bs_flat_meaning.specs.declared.fault.FlatFault.TheVariants.{NoMemory}
use Rattle.bs_flat_meaning.specs.Pieces.{Piece, name_id}
use Rattle.bs_flat_meaning.specs.Reading.{Answer, AnswerFor, flattened}
use Rattle.bs_flat_modules.specs.declared.owns.Modules.{Modules}
use Rattle.bs_flat_modules.specs.Reading.{read_modules_of}

-- the netlist of the lexemes of one module
abbrev pub single_of : List (List ℕ) → Rest → Result Parts VerilogFault
single_of table ts = syntax_of ts >>= λ m. meaning_of table m

-- a text has tokens, of which these are the lexemes and the names
pub record HasTokens (source : List ℕ) (table : List (List ℕ)) (ts : Rest) : Type 0 where
  pub tokens : List Token
  pub are : tokens_of source ≡ Ok tokens
  pub lexemes : lexemes_of source tokens ≡ ts
  pub names : names_of source tokens ≡ table

-- the lexemes and the names are those of some text of at most 16 MiB
pub record AreOfText (table : List (List ℕ)) (ts : Rest) : Type 0 where
  pub source : List ℕ
  pub short : length source ≤ MAX_BYTES
  pub has : HasTokens source table ts

-- the modules of some text have names with these numbers
pub record HasModules (ids : List (Option ℕ)) : Type 0 where
  pub modules : List Piece
  pub named : map name_id modules ≡ ids

-- the result is the answer of the lexemes of several modules, unless memory ran out
abbrev pub IsSeverally : List (List ℕ) → Rest → Result Raw FlatFault → Type 0
IsSeverally table ts result =
    MatchResult result (λ raw. AnswerFor table ts (Ok (parts_of raw))) (λ fault. (fault ≡ NoMemory) ⊎ AnswerFor table ts (Err fault))

-- the result is the answer of modules that were read, whose names have these numbers, unless memory ran out
abbrev pub IsOfModules : List (List ℕ) → List Piece → Modules → Result Raw FlatFault → Type 0
IsOfModules table ms modules result =
    MatchResult result (λ raw. Answer table ms (read_modules_of modules) (Ok (parts_of raw)))
    (λ fault. (fault ≡ NoMemory) ⊎ Answer table ms (read_modules_of modules) (Err fault))

pub record AnswersModules (table : List (List ℕ)) (ids : List (Option ℕ)) (modules : Modules) (result : Result Raw FlatFault) : Type 0 where
  pub is : (ms : List Piece) → map name_id ms ≡ ids → IsOfModules table ms modules result

-- the result is the flat netlist of modules without a ring, or their first refusal, unless memory ran out
pub record Flattens (table : List (List ℕ)) (ids : List (Option ℕ)) (modules : Modules) (result : Result Raw FlatFault) : Type 0 where
  pub is : (ms : List Piece) → map name_id ms ≡ ids → Answers NoMemory parts_of result (flattened table ms (read_modules_of modules))

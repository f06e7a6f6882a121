-- The passes one after the other.
use Rattle.std.proofs.Common.{◌≡◌, ℕ, List, Result, Ok, Err, refl}
use Rattle.bs_bits.specs.Reading.{◌>>=◌}
use Rattle.bs_net.specs.Parts.{Parts}
use Rattle.bs_lex.specs.declared.token.Token.{Token}
use Rattle.bs_lex.specs.Packed.{Lexeme}
use Rattle.bs_lex.specs.Lexemes.{lexemes_of, names_of}
use Rattle.bs_verilog_syntax.specs.declared.tree.Module.{Module}
use Rattle.bs_verilog_syntax.specs.declared.fault.VerilogFault.{VerilogFault}
use Rattle.bs_verilog_syntax.specs.Modules.{syntax_of}
use Rattle.bs_verilog.specs.Netlist.{tokenised, module_text, meaning_of, netlist_text}

-- each pass after what the one before it gave
abbrev lexed_by : List ℕ → Result (List Token) VerilogFault → Result (List Lexeme × List (List ℕ)) VerilogFault
lexed_by source r = r >>= λ tokens. Ok (lexemes_of source tokens, names_of source tokens)

abbrev named_by : List (List ℕ) → Result Module VerilogFault → Result (Module × List (List ℕ)) VerilogFault
named_by names r = r >>= λ m. Ok (m, names)

abbrev module_by : Result (List Lexeme × List (List ℕ)) VerilogFault → Result (Module × List (List ℕ)) VerilogFault
module_by r = r >>= λ x. named_by x.1 (syntax_of x.0)

abbrev meant_by : Result (Module × List (List ℕ)) VerilogFault → Result Parts VerilogFault
meant_by r = r >>= λ x. meaning_of x.1 x.0

by_syntax : (names : List (List ℕ)) (r : Result Module VerilogFault) → (r >>= λ m. meaning_of names m) ≡ meant_by (named_by names r)
by_syntax names (Ok m) = refl
by_syntax names (Err fault) = refl

-- a netlist is what its module means
pub passes : (source : List ℕ) → netlist_text source ≡ meant_by (module_text source)
unfolding netlist_text
passes source = by (tokenised source)
  where
    by : (r : Result (List Token) VerilogFault)
        → (r >>= λ tokens. syntax_of (lexemes_of source tokens) >>= λ m. meaning_of (names_of source tokens) m) ≡ meant_by (module_by (lexed_by source r))
    by (Ok tokens) = by_syntax (names_of source tokens) (syntax_of (lexemes_of source tokens))
    by (Err fault) = refl

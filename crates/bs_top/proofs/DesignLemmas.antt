-- A netlist of several modules means their design: each module of a text that is read is whole.
use Rattle.std.proofs.Common.{◌≡◌, ℕ, List, Result, Ok, Err}
use Rattle.bs_lex.specs.declared.token.Token.{Token}
use Rattle.bs_lex.specs.Tokens.{tokens_of}
use Rattle.bs_verilog_syntax.specs.declared.fault.VerilogFault.{VerilogFault}
use Rattle.bs_verilog_syntax.specs.declared.fault.VerilogFault.TheVariants.{Syntax}
use Rattle.bs_verilog.specs.Netlist.{tokenised}
use Rattle.bs_flat_meaning.proofs.WholeLemmas.{read_modules_are_whole}
use Rattle.bs_top_files.specs.Law.{NetlistsMeanDesigns}
use Rattle.bs_top_files.proofs.DesignLemmas.{AreRead, netlists_mean}

abbrev lexed_as : List Token → Result (List Token) VerilogFault
lexed_as tokens = Ok tokens

abbrev tokens_as : List Token → Result (List Token) ℕ
tokens_as tokens = Ok tokens

lexed_same : (a b : List Token) → lexed_as a ≡ lexed_as b → tokens_as a ≡ tokens_as b
lexed_same a b h = cc

tokens_are : (bytes : List ℕ) (tokens : List Token) → tokenised bytes ≡ lexed_as tokens → tokens_of bytes ≡ tokens_as tokens
tokens_are bytes tokens e = by (tokens_of bytes) e
  where
    by : (r : Result (List Token) ℕ) → (elim r [ Ok ts ↦ lexed_as ts | Err at ↦ Err (Syntax at) ]) ≡ lexed_as tokens → r ≡ tokens_as tokens
    by (Ok ts) e = lexed_same ts tokens e
    by (Err at) e = absurd cc

are_read : AreRead
are_read bytes tokens ks lexed read = read_modules_are_whole bytes tokens ks (tokens_are bytes tokens lexed) read

pub netlists_mean_designs : NetlistsMeanDesigns
netlists_mean_designs = netlists_mean are_read

-- Exactly the texts in the grammar are read.
use Rattle.std.proofs.Common.{◌≡◌, ℕ, List, Result, Ok, Err, refl, ap, ◌∙◌, subst}
use Rattle.bs_bits.specs.Reading.{◌>>=◌}
use Rattle.bs_net.specs.Parts.{Parts}
use Rattle.bs_lex.specs.Tokens.{tokens_of}
use Rattle.bs_verilog_syntax.specs.declared.fault.VerilogFault.{VerilogFault}
use Rattle.bs_verilog_syntax.specs.declared.fault.VerilogFault.TheVariants.{Syntax}
use Rattle.bs_verilog.specs.Netlist.{meaning_of, netlist_text}
use Rattle.bs_lex.specs.declared.token.Token.{Token}
use Rattle.bs_lex.specs.Lexemes.{lexemes_of, names_of}
use Rattle.bs_verilog_syntax.specs.declared.tree.Module as code
use Rattle.bs_verilog_syntax.specs.Modules.{syntax_of}
use Rattle.bs_verilog.specs.Symbols.{Text, symbols_of}
use Rattle.bs_verilog.specs.Productions.{IsNetlistText}
use Rattle.bs_verilog.specs.Views.{module_view}
use Rattle.bs_verilog.specs.GrammarLaw.{ReadsWhatIsWritten, ReadsAllThatIsWritten, ReadsExactly}
use Rattle.bs_verilog.proofs.Sound.{holds}
use Rattle.bs_verilog.proofs.Next.{then_is}
use Rattle.bs_verilog.proofs.Extends.{EndsOnce}
use Rattle.bs_verilog.proofs.Shown.{shown}
use Rattle.bs_verilog.proofs.Bridge.{lexemes_show, symbols_end}
use Rattle.bs_verilog.proofs.ModulesSound.{syntax_sound}
use Rattle.bs_verilog.proofs.ModulesComplete.{syntax_complete}

pub reads_what_is_written : (source : List ℕ) (tokens : List Token) → ReadsWhatIsWritten source tokens
reads_what_is_written source tokens =
    record {
      sound = λ m e.
          let ends : EndsOnce (shown (names_of source tokens) (lexemes_of source tokens)) = rw (lexemes_show source tokens) (symbols_end source tokens) in
          subst (λ (u : Text). IsNetlistText u (module_view (names_of source tokens) m)) (lexemes_show source tokens)
          (holds (syntax_of (lexemes_of source tokens)) _ m (syntax_sound (names_of source tokens) (lexemes_of source tokens) ends) e);
    }

pub reads_all_that_is_written : (source : List ℕ) (tokens : List Token) → ReadsAllThatIsWritten source tokens
reads_all_that_is_written source tokens =
    record { complete = λ w g. syntax_complete (names_of source tokens) (lexemes_of source tokens) (symbols_of source tokens) w g (lexemes_show source tokens) }

module _ (source : List ℕ) where
  -- what a text that is read says and means
  abbrev pub IsWritten : Parts → Type 0
  IsWritten p =
      (tokens : List Token) × ((m : code.Module) × ((tokens_of source ≡ Ok tokens)
      × (IsNetlistText (symbols_of source tokens) (module_view (names_of source tokens) m))
      × (meaning_of (names_of source tokens) m ≡ Ok p)))

  by_syntax : (p : Parts) (tokens : List Token) (r : Result code.Module VerilogFault) → tokens_of source ≡ Ok tokens → syntax_of (lexemes_of source tokens) ≡ r
      → (r >>= λ m. meaning_of (names_of source tokens) m) ≡ Ok p → IsWritten p
  by_syntax p tokens (Ok m) t s e = (tokens, (m, (t, (reads_what_is_written source tokens).sound m s, e)))
  by_syntax p tokens (Err f) t s e = absurd cc

  by_tokens : (p : Parts) (r : Result (List Token) ℕ) → tokens_of source ≡ r
      → ((elim r [ Ok tokens ↦ Ok tokens | Err at ↦ Err (Syntax at) ]) >>= λ (tokens : List Token). syntax_of
      (lexemes_of source tokens) >>= λ m. meaning_of (names_of source tokens) m) ≡ Ok p
      → IsWritten p
  by_tokens p (Ok tokens) t e = by_syntax p tokens (syntax_of (lexemes_of source tokens)) t refl e
  by_tokens p (Err at) t e = absurd cc

  pub reads_exactly : ReadsExactly source
  unfolding netlist_text
  reads_exactly =
      record {
        is_written = λ p e. by_tokens p (tokens_of source) refl e;
        is_read = λ tokens w t g.
            let c = (reads_all_that_is_written source tokens).complete w g in (
              c.0,
              (
                c.1.1,
                ap (λ (r : Result (List Token) ℕ). (elim r [ Ok tokens ↦ Ok tokens | Err at ↦ Err (Syntax at) ]) >>= λ (tokens : List Token). syntax_of
                    (lexemes_of source tokens) >>= λ m. meaning_of (names_of source tokens) m) t
                    ∙ then_is (syntax_of (lexemes_of source tokens)) (λ m. meaning_of (names_of source tokens) m) c.0
                    (meaning_of (names_of source tokens) c.0) (c.1.0) refl,
              ),
            );
      }

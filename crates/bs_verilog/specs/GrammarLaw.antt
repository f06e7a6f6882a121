-- That exactly the texts in the grammar are read, and as what they say.
use Rattle.std.specs.Prelude.{◌≡◌, ℕ, List, Ok}
use Rattle.bs_net.specs.Parts.{Parts}
use Rattle.bs_lex.specs.declared.token.Token.{Token}
use Rattle.bs_lex.specs.Tokens.{tokens_of}
use Rattle.bs_lex.specs.Lexemes.{lexemes_of, names_of}
use Rattle.bs_verilog_syntax.specs.declared.tree.Module as code
use Rattle.bs_verilog_syntax.specs.Modules.{syntax_of}
use Rattle.bs_verilog.specs.Netlist.{meaning_of, netlist_text}
use Rattle.bs_verilog.specs.Symbols.{symbols_of}
use Rattle.bs_verilog.specs.Written as written
use Rattle.bs_verilog.specs.Productions.{IsNetlistText}
use Rattle.bs_verilog.specs.Views.{module_view}

-- a text that is read is in the grammar, and says what it is read as
pub record ReadsWhatIsWritten (source : List ℕ) (tokens : List Token) : Type 0 where
  pub sound : (m : code.Module) → syntax_of (lexemes_of source tokens) ≡ Ok m
      → IsNetlistText (symbols_of source tokens) (module_view (names_of source tokens) m)

-- a text in the grammar is read, as what it says
pub record ReadsAllThatIsWritten (source : List ℕ) (tokens : List Token) : Type 0 where
  pub complete : (w : written.Module) → IsNetlistText (symbols_of source tokens) w
      → (m : code.Module) × ((syntax_of (lexemes_of source tokens) ≡ Ok m) × (module_view (names_of source tokens) m ≡ w))

-- `read` answers a value exactly for the texts whose tokens are in the grammar and whose names and ports agree (`meaning_of` has a value
-- then), and it answers what they mean
pub record ReadsExactly (source : List ℕ) : Type 0 where
  pub is_written : (p : Parts) → netlist_text source ≡ Ok p
      → (tokens : List Token) × ((m : code.Module) × ((tokens_of source ≡ Ok tokens)
      × (IsNetlistText (symbols_of source tokens) (module_view (names_of source tokens) m))
      × (meaning_of (names_of source tokens) m ≡ Ok p)))
  pub is_read : (tokens : List Token) (w : written.Module) → tokens_of source ≡ Ok tokens → IsNetlistText (symbols_of source tokens) w
      → (m : code.Module) × ((module_view (names_of source tokens) m ≡ w) × (netlist_text source ≡ meaning_of (names_of source tokens) m))

-- What the modules of a text keep (docs/DEFINITIONS.md, "Flat parts").
use Rattle.std.specs.Prelude.{◌≡◌, ℕ, List, Ok, All}
use Rattle.bs_lex.specs.declared.token.Token.{Token}
use Rattle.bs_lex.specs.Tokens.{tokens_of}
use Rattle.bs_lex.specs.Lexemes.{names_of, lexemes_of}
use Rattle.bs_flat_meaning.specs.Connecting.{ReadModule}
use Rattle.bs_flat_meaning.specs.Reading.{read_modules, IsRead}

-- of each module of a text that is read, its own parts have names for their nets, its ports stand first among the nets, and a name
-- that is declared has nets
abbrev pub ReadModulesAreWhole : Type 0
ReadModulesAreWhole =
    (source : List ℕ) (tokens : List Token) (ks : List ReadModule) → tokens_of source ≡ Ok tokens
    → read_modules (names_of source tokens) (lexemes_of source tokens) ≡ Ok ks → All (IsRead (names_of source tokens)) ks

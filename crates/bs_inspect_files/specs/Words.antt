-- The words of the refusal of a name (docs/FORMATS.md, "Words of `backspace_inspect`").
use Rattle.std.specs.Prelude.{ℕ, List, ◌++◌, codes}
use Rattle.bs_net_names.specs.Quotes.{shown_line}

-- a name that is asked for, as it is shown
abbrev pub name_words : List ℕ → List ℕ
name_words name = codes "Unknown " ++ shown_line name

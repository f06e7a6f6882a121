-- What `help` and `version` show (docs/FORMATS.md, "Words of `backspace_inspect`").
use Rattle.std.specs.Prelude.{ℕ, List, ◌++◌, codes, decimal}
use Rattle.std.specs.List.{flat_map}
use Rattle.bs_bits.specs.Lines.{line}
use Rattle.bs_top_words.specs.declared.limits.TheConstants.{VERSION}
use Rattle.bs_inspect_usages.specs.Usages.{usages}

-- the name of the program and its version
abbrev pub version_text : List ℕ
version_text = line (codes "backspace_inspect " ++ decimal VERSION)

-- the version, and a line for each command
abbrev pub usage_text : List ℕ
usage_text = version_text ++ flat_map (λ u. line u.line) usages

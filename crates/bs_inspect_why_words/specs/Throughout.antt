-- Facts that stand still nearly all through a trace, which are told once (docs/FORMATS.md, "Causes").
use Rattle.std.specs.Prelude.{◌≡◌, ℕ, List, ◌++◌, length, codes, decimal}
use Rattle.std.specs.List.{flat_map}
use Rattle.bs_bits.specs.Lines.{line}
use Rattle.bs_net.specs.Parts.{Parts}
use Rattle.bs_net_facts.specs.declared.fact.Fact.{Fact}
use Rattle.bs_inspect_why_words.specs.declared.reason.Reason.{Reason}
use Rattle.bs_inspect_why_words.specs.Reasons.{AreReasons}
use Rattle.bs_inspect_why_words.specs.Stretches.{starts}

-- facts, and the cycle since which they stand
unfoldable pub still_line : Reason → List ℕ
still_line r = line (codes "throughout " ++ (r.words ++ (codes ", since " ++ decimal r.cycle)))

-- facts, each at the cycle since which it stands: so many of those that stand behind one another and have the same cycle in one line
pub record TellsStills (raw : Parts) (most : ℕ) (stills : List Fact) (text : List ℕ) : Type 0 where
  pub reasons : List Reason
  pub are : AreReasons raw most stills (starts stills) (length (starts stills)) reasons
  pub says : text ≡ flat_map still_line reasons

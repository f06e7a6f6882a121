-- The line of a flaw (docs/FORMATS.md, "Clauses for other checkers").
use Rattle.std.specs.Prelude.{ℕ, List, ◌++◌, codes, decimal}
use Rattle.bs_bits.specs.Lines.{line}
use Rattle.bs_log.specs.declared.why.Why.{Why}
use Rattle.bs_log.specs.declared.why.Why.TheVariants.{Order, NoClause, Duplicate, NotUnit, NotFalse, BadBlock, BadEnd}
use Rattle.bs_evidence.specs.declared.flaw.Flaw.{Flaw}
use Rattle.bs_evidence.specs.declared.flaw.Flaw.TheVariants as flaws

abbrev pub why_word : Why → List ℕ
why_word Order = codes "Order"
why_word NoClause = codes "NoClause"
why_word Duplicate = codes "Duplicate"
why_word NotUnit = codes "NotUnit"
why_word NotFalse = codes "NotFalse"
why_word BadBlock = codes "BadBlock"
why_word BadEnd = codes "BadEnd"

abbrev pub flaw_words : Flaw → List ℕ
flaw_words flaws.Format = codes "format"
flaw_words flaws.Stop = codes "stop"
flaw_words (flaws.Present i) = codes "step " ++ (decimal i ++ codes " present")
flaw_words (flaws.Stored i) = codes "step " ++ (decimal i ++ codes " stored")
flaw_words flaws.NoStep = codes "nostep"
flaw_words (flaws.Log number why) = codes "log " ++ (decimal number ++ (codes " " ++ why_word why))
flaw_words flaws.Unfinished = codes "unfinished"
flaw_words flaws.Long = codes "long"

abbrev pub flaw_text : Flaw → List ℕ
flaw_text flaw = line (codes "rejected " ++ flaw_words flaw)

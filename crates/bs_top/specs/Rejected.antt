-- What is written for what an audit finds (docs/FORMATS.md, "Report").
use Rattle.std.specs.Prelude.{ℕ, List, ◌++◌, codes, decimal, Option, Some, None}
use Rattle.bs_bits.specs.Lines.{line}
use Rattle.bs_log.specs.declared.why.Why.{Why}
use Rattle.bs_log.specs.declared.why.Why.TheVariants as why
use Rattle.bs_report.specs.declared.part.Part.{Part}
use Rattle.bs_report.specs.declared.part.Part.TheVariants as parts
use Rattle.bs_outside.specs.declared.status.Status.{Status}
use Rattle.bs_outside.specs.declared.status.Status.TheVariants.{Done, Rejected}

-- the word for a reason for which a log line is refused
abbrev pub why_word : Why → List ℕ
why_word why.Order = codes "Order"
why_word why.NoClause = codes "NoClause"
why_word why.Duplicate = codes "Duplicate"
why_word why.NotUnit = codes "NotUnit"
why_word why.NotFalse = codes "NotFalse"
why_word why.BadBlock = codes "BadBlock"
why_word why.BadEnd = codes "BadEnd"

-- a step, and what of it
abbrev pub step_words : ℕ → List ℕ → List ℕ
step_words step what = codes "step " ++ (decimal step ++ what)

-- the words for a part that fails
abbrev pub part_words : Part → List ℕ
part_words parts.Format = codes "format"
part_words (parts.Present step) = step_words step (codes " present")
part_words (parts.Stored step) = step_words step (codes " stored")
part_words (parts.Candidate step candidate) = step_words step (codes " candidate ") ++ decimal candidate
part_words (parts.Listed step) = step_words step (codes " list")
part_words (parts.Hit step) = step_words step (codes " hit")
part_words parts.Stop = codes "stop"
part_words parts.Trace = codes "trace"
part_words (parts.Log number reason) = codes "log " ++ (decimal number ++ (codes " " ++ why_word reason))
part_words (parts.Blocks step) = step_words step (codes " blocks")
part_words (parts.Ended step) = step_words step (codes " end")

abbrev pub rejected_text : Part → List ℕ
rejected_text part = line (codes "rejected " ++ part_words part)

-- the line, and the status, where this is the first part that fails, if one does
abbrev pub finding_text : Option Part → List ℕ
finding_text None = codes "accepted\n"
finding_text (Some part) = rejected_text part

abbrev pub finding_status : Option Part → Status
finding_status None = Done
finding_status (Some part) = Rejected

-- The forms of an answer's lines (docs/FORMATS.md, "The answer of reach").
use Rattle.std.specs.Prelude.{ℕ, Bool, true, false, List, codes, Option, Some, None, option_map, if◌then◌else◌}
use Rattle.std.specs.Str.{bytes_eq}
use Rattle.bs_bits.specs.Lines.{words_of}
use Rattle.bs_log.specs.declared.line.Line.{Line}
use Rattle.bs_log.specs.declared.line.Line.TheVariants.{Block}
use Rattle.bs_log.specs.LineReading.{line_in}
use Rattle.bs_report.specs.declared.limits.TheConstants.{MAX_CONFLICTS}
use Rattle.bs_report.specs.Forms.{◌>>=◌, next_in, behind, at_end, number_within, number_behind}
use Rattle.bs_reach_unrolled.specs.declared.limits.TheConstants.{MAX_FRAMES}
use Rattle.bs_reach.specs.declared.reach.Outcome.{Outcome}
use Rattle.bs_reach.specs.declared.reach.Outcome.TheVariants as outcomes

-- how many cycles and lemmas were asked for
abbrev pub asked_in : List ℕ → Option (ℕ × ℕ)
asked_in text = do
  asked ← number_behind (codes "asked") 0 MAX_FRAMES (words_of text)
  conflicts ← number_behind (codes "conflicts") 1 MAX_CONFLICTS asked.1
  at_end conflicts.1 (asked.0, conflicts.0)

-- the length that the only word is, one that was asked for
abbrev pub length_in : ℕ → List (List ℕ) → Option ℕ
length_in asked words = do
  found ← next_in words
  j ← number_within 0 asked found.0
  at_end found.1 j

-- what the words behind `result` say
abbrev pub outcome_of : ℕ → List ℕ → List (List ℕ) → Option Outcome
outcome_of asked word words =
    if bytes_eq word (codes "unreached") then at_end words outcomes.Unreached
    else if bytes_eq word (codes "reached") then option_map (λ j. outcomes.Reached j) (length_in asked words)
    else if bytes_eq word (codes "unknown") then option_map (λ j. outcomes.Unknown j) (length_in asked words)
    else None

-- the outcome, where so many cycles were asked for
abbrev pub outcome_in : ℕ → List ℕ → Option Outcome
outcome_in asked text = behind (codes "result") (words_of text) >>= λ found. outcome_of asked found.0 found.1

abbrev pub is_block : Line → Bool
is_block (Block id lits) = true
is_block line = false

-- the line, if it is no block
abbrev pub plain : Line → Option Line
plain line = if is_block line then None else Some line

-- a line of an answer's log: no block, since a length asks for one answer alone
abbrev pub plain_line_in : List ℕ → Option Line
plain_line_in text = line_in text >>= plain

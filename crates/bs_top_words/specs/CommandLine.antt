-- The words behind a command of `backspace`: words by position, and the budgets that are given.
use Rattle.std.specs.Prelude.{ℕ, Bool, List, [], ◌∷◌, Option, Some, None}
use Rattle.std.specs.Option.{option_map, option_and_then}
use Rattle.bs_top_words.specs.Options.{value_in}
use Rattle.bs_top_words.specs.declared.options.BudgetKind.{BudgetKind}
use Rattle.bs_top_words.specs.declared.options.BudgetKind.TheVariants.{Steps, Candidates, Conflicts}
use Rattle.bs_top_words.specs.declared.flags.Flag.{Flag}
use Rattle.bs_top_words.specs.declared.flags.Flag.TheVariants.{Budget}
use Rattle.bs_top_words.specs.Flags.{budgets_if}
use Rattle.bs_top_words.specs.Given.{Setting, Given, read_all, start}

-- the words by position, and the values of the options that are given
pub record CommandLine : Type 0 where
  pub positions : List (List ℕ)
  pub steps : Option ℕ
  pub candidates : Option ℕ
  pub conflicts : Option ℕ

-- words by position alone
abbrev pub plain : List (List ℕ) → CommandLine
plain positions = record { positions = positions; steps = None; candidates = None; conflicts = None }

-- an option is given at most once
abbrev pub once : Option ℕ → Option ℕ → Option (Option ℕ)
once None value = option_map (λ (n : ℕ). Some n) value
once (Some n) value = None

-- the line with an option's value
abbrev pub set_to : CommandLine → BudgetKind → List ℕ → Option CommandLine
set_to line Steps word = option_map (λ (o : Option ℕ). record line { steps = o }) (once line.steps (value_in Steps word))
set_to line Candidates word = option_map (λ (o : Option ℕ). record line { candidates = o }) (once line.candidates (value_in Candidates word))
set_to line Conflicts word = option_map (λ (o : Option ℕ). record line { conflicts = o }) (once line.conflicts (value_in Conflicts word))

abbrev pub set_flag : CommandLine → Flag → List ℕ → Option CommandLine
set_flag line (Budget kind) word = set_to line kind word
set_flag line _ word = None

-- the line with the values of options, one after another
abbrev pub set_all : CommandLine → List Setting → Option CommandLine
set_all line [] = Some line
set_all line (s ∷ settings) = option_and_then (λ (l : CommandLine). set_all l settings) (set_flag line s.flag s.value)

abbrev pub line_of : Given → Option CommandLine
line_of given = set_all (plain given.positions) given.settings

-- the line that words are; `options` says whether the command takes any
abbrev pub read_line : Bool → List (List ℕ) → Option CommandLine
read_line options words = option_and_then line_of (read_all (budgets_if options) words start)

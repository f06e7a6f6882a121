-- Options and numbers among the words of a command line (docs/FORMATS.md, "Command words").
use Rattle.std.specs.Prelude.{ℕ, ◌==◌, nat_le, nat_eq, Bool, false, not, ◌&&◌, List, [], ◌∷◌, length, drop, codes, Option, Some, None, if◌then◌else◌}
use Rattle.std.specs.Option.{option_and_then}
use Rattle.std.specs.Str.{bytes_eq}
use Rattle.std.specs.List.{starts_with}
use Rattle.bs_bits.specs.Lines.{number_in}
use Rattle.bs_top_words.specs.declared.limits.TheConstants.{MAX_STEPS, MAX_CANDIDATES, MAX_CONFLICTS}
use Rattle.bs_top_words.specs.declared.options.BudgetKind.{BudgetKind}
use Rattle.bs_top_words.specs.declared.options.BudgetKind.TheVariants.{Steps, Candidates, Conflicts}

-- the number that a word is, if it lies between two bounds, both included
abbrev pub number_between : ℕ → ℕ → List ℕ → Option ℕ
number_between low high word = option_and_then (λ (n : ℕ). if nat_le low n && nat_le n high then Some n else None) (number_in word)

-- the greatest value of a budget
abbrev pub greatest : BudgetKind → ℕ
greatest Steps = MAX_STEPS
greatest Candidates = MAX_CANDIDATES
greatest Conflicts = MAX_CONFLICTS

-- the value that a word gives a budget
abbrev pub value_in : BudgetKind → List ℕ → Option ℕ
value_in kind word = number_between 1 (greatest kind) word

-- it begins with `-`
abbrev pub has_dash : List ℕ → Bool
has_dash [] = false
has_dash (b ∷ bs) = b == 45

-- it begins with `-` and is not the single `-`
abbrev pub is_option : List ℕ → Bool
is_option word = has_dash word && not (bytes_eq word (codes "-"))

-- what stands behind a prefix
abbrev pub rest_of : List ℕ → List ℕ → Option (List ℕ)
rest_of prefix word = if starts_with nat_eq word prefix then Some (drop (length prefix) word) else None

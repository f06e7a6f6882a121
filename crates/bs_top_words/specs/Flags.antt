-- The options of all commands by their names (docs/FORMATS.md, "Command words").
use Rattle.std.specs.Prelude.{ℕ, Bool, true, false, List, [], ◌∷◌, codes, Option, None, if◌then◌else◌}
use Rattle.std.specs.Option.{option_and_then}
use Rattle.std.specs.List.{find}
use Rattle.std.specs.Str.{bytes_eq}
use Rattle.bs_top_words.specs.Options.{rest_of}
use Rattle.bs_top_words.specs.declared.options.BudgetKind.{BudgetKind}
use Rattle.bs_top_words.specs.declared.options.BudgetKind.TheVariants.{Steps, Candidates, Conflicts}
use Rattle.bs_top_words.specs.declared.flags.Flag.{Flag}
use Rattle.bs_top_words.specs.declared.flags.Flag.TheVariants.{Budget, All, Only, Clock, Scope, Map, Bits, From, To, Last, Time, Cycle, Signature, Csv, Most, At, Depth, Flops, Step, Partial}

-- the name of a budget
abbrev pub kind_name : BudgetKind → List ℕ
kind_name Steps = codes "--steps"
kind_name Candidates = codes "--candidates"
kind_name Conflicts = codes "--conflicts"

-- the name of an option
abbrev pub name_of : Flag → List ℕ
name_of (Budget kind) = kind_name kind
name_of All = codes "--all"
name_of Only = codes "--only"
name_of Clock = codes "--clock"
name_of Scope = codes "--scope"
name_of Map = codes "--map"
name_of Bits = codes "--bits"
name_of From = codes "--from"
name_of To = codes "--to"
name_of Last = codes "--last"
name_of Time = codes "--time"
name_of Cycle = codes "--cycle"
name_of Signature = codes "--signature"
name_of Csv = codes "--csv"
name_of Most = codes "--most"
name_of At = codes "--at"
name_of Depth = codes "--depth"
name_of Flops = codes "--flops"
name_of Step = codes "--step"
name_of Partial = codes "--partial"

-- every option has a value but `--all`, `--csv`, `--flops` and `--partial`
abbrev pub has_value : Flag → Bool
has_value All = false
has_value Csv = false
has_value Flops = false
has_value Partial = false
has_value _ = true

-- whether two budgets, or options, are the same
abbrev pub is_kind : BudgetKind → BudgetKind → Bool
is_kind Steps Steps = true
is_kind Candidates Candidates = true
is_kind Conflicts Conflicts = true
is_kind _ _ = false

abbrev pub is_flag : Flag → Flag → Bool
is_flag (Budget one) (Budget other) = is_kind one other
is_flag All All = true
is_flag Only Only = true
is_flag Clock Clock = true
is_flag Scope Scope = true
is_flag Map Map = true
is_flag Bits Bits = true
is_flag From From = true
is_flag To To = true
is_flag Last Last = true
is_flag Time Time = true
is_flag Cycle Cycle = true
is_flag Signature Signature = true
is_flag Csv Csv = true
is_flag Most Most = true
is_flag At At = true
is_flag Depth Depth = true
is_flag Flops Flops = true
is_flag Step Step = true
is_flag Partial Partial = true
is_flag _ _ = false

-- ---- the tables

-- what `run` and `reach` take, and what the other commands of `backspace` do
abbrev pub budgets_if : Bool → List Flag
budgets_if true = Budget Steps ∷ Budget Candidates ∷ Budget Conflicts ∷ []
budgets_if false = []

-- ---- words

abbrev pub is_named : List ℕ → Flag → Bool
is_named word flag = bytes_eq word (name_of flag)

-- the option of a table that a word names
abbrev pub flag_of : List Flag → List ℕ → Option Flag
flag_of flags word = find (is_named word) flags

-- the value of an option in a word such as `--clock=ck`
abbrev pub value_behind : Flag → List ℕ → Option (List ℕ)
value_behind flag word = if has_value flag then option_and_then (rest_of (codes "=")) (rest_of (name_of flag) word) else None

-- The options behind a command of `backspace_inspect`, and their values (docs/FORMATS.md, "Words of `backspace_inspect`").
use Rattle.std.specs.Prelude.{ℕ, nat_le, Bool, ◌&&◌, ◌||◌, List, [], ◌∷◌, map, filter, count_by, Option}
use Rattle.std.specs.Option.{option_map}
use Rattle.std.specs.List.{find, list_all, list_any}
use Rattle.bs_top_words.specs.declared.flags.Flag.{Flag}
use Rattle.bs_top_words.specs.declared.flags.Flag.TheVariants as F
use Rattle.bs_top_words.specs.Flags.{is_flag}
use Rattle.bs_top_words.specs.Given.{Setting}

abbrev pub has_flag : Flag → Setting → Bool
has_flag flag s = is_flag flag s.flag

-- how often an option is given
abbrev pub times : Flag → List Setting → ℕ
times flag settings = count_by (has_flag flag) settings

-- whether it is given
abbrev pub is_given : Flag → List Setting → Bool
is_given flag settings = list_any (has_flag flag) settings

-- the values that it is given
abbrev pub values_of : Flag → List Setting → List (List ℕ)
values_of flag settings = map (λ s. s.value) (filter (has_flag flag) settings)

-- the first value that it is given
abbrev pub value_of : Flag → List Setting → Option (List ℕ)
value_of flag settings = option_map (λ s. s.value) (find (has_flag flag) settings)

-- whether an option is one of these
abbrev pub is_among : List Flag → Flag → Bool
is_among flags flag = list_any (λ f. is_flag f flag) flags

-- whether it comes at most once; `--only` has a setting for each of its names
abbrev pub is_once : List Setting → Flag → Bool
is_once settings flag = is_flag F.Only flag || nat_le (times flag settings) 1

-- each option is one of these, and comes at most once
abbrev pub fit : List Flag → List Setting → Bool
fit flags settings = list_all (λ s. is_among flags s.flag) settings && list_all (is_once settings) flags

-- the options that commands take
abbrev pub all_flags : List Flag
all_flags =
    F.All ∷ F.Only ∷ F.Clock ∷ F.Scope ∷ F.Map ∷ F.Bits ∷ F.From ∷ F.To ∷ F.Last ∷ F.Time ∷ F.Cycle ∷ F.Signature ∷ F.Csv ∷ F.Step ∷ F.Most ∷ F.At ∷ F.Depth ∷ F.Flops
    ∷ F.Partial ∷ []

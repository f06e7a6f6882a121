-- The words behind a command: words by position, and options with their values anywhere among them up to a word `--`.
use Rattle.std.specs.Prelude.{ℕ, List, [], ◌∷◌, ◌++◌, codes, Option, Some, None, if◌then◌else◌}
use Rattle.std.specs.Option.{option_and_then}
use Rattle.std.specs.Str.{bytes_eq}
use Rattle.bs_top_words.specs.Options.{has_dash, is_option}
use Rattle.bs_top_words.specs.Flags.{flag_of, has_value, value_behind}
use Rattle.bs_top_words.specs.declared.flags.Flag.{Flag}
use Rattle.bs_top_words.specs.declared.flags.Flag.TheVariants.{Only}
use Rattle.bs_top_words.specs.declared.given.Awaited.{Awaited}
use Rattle.bs_top_words.specs.declared.given.Awaited.TheVariants.{Plain, Value, More, Positions}

-- an option with its value; an option without one has the empty value
pub record Setting : Type 0 where
  pub flag : Flag
  pub value : List ℕ

-- the words by position, and the options in their order
pub record Given : Type 0 where
  pub positions : List (List ℕ)
  pub settings : List Setting

-- what has been read, and what may come
pub record Progress : Type 0 where
  pub awaited : Awaited
  pub given : Given

abbrev pub add_position : Given → List ℕ → Given
add_position given word = record given { positions = given.positions ++ word ∷ [] }

abbrev pub add_setting : Given → Flag → List ℕ → Given
add_setting given flag value = record given { settings = given.settings ++ (record { flag = flag; value = value }) ∷ [] }

-- further names may follow the first of `--only`
abbrev pub awaited_after : Flag → Awaited
awaited_after Only = More
awaited_after _ = Plain

-- the name of an option: the next word is its value, where it has one
abbrev pub option_step : Given → Flag → Progress
option_step given flag =
    if has_value flag then record { awaited = Value flag; given = given } else record { awaited = Plain; given = add_setting given flag [] }

abbrev pub setting_if : Flag → Option (List ℕ) → Option Setting → Option Setting
setting_if flag None other = other
setting_if flag (Some value) other = Some record { flag = flag; value = value }

-- the first option of a table of which a word such as `--clock=ck` has the value
abbrev pub setting_in : List Flag → List ℕ → Option Setting
setting_in [] word = None
setting_in (flag ∷ flags) word = setting_if flag (value_behind flag word) (setting_in flags word)

abbrev pub with_setting : Given → Option Setting → Option Progress
with_setting given None = None
with_setting given (Some s) = Some record { awaited = awaited_after s.flag; given = add_setting given s.flag s.value }

abbrev pub equals_step : List Flag → Given → List ℕ → Option Progress
equals_step flags given word = with_setting given (setting_in flags word)

abbrev pub flag_step : List Flag → Given → List ℕ → Option Flag → Option Progress
flag_step flags given word None = equals_step flags given word
flag_step flags given word (Some flag) = Some (option_step given flag)

-- a word where neither a value is due nor `--` has come
abbrev pub plain_step : List Flag → Given → List ℕ → Option Progress
plain_step flags given word =
    if bytes_eq word (codes "--") then Some record { awaited = Positions; given = given }
    else (if is_option word then flag_step flags given word (flag_of flags word) else Some record { awaited = Plain; given = add_position given word })

-- a word where a further name may stand
abbrev pub more_step : List Flag → Given → List ℕ → Option Progress
more_step flags given word =
    if is_option word then plain_step flags given word else Some record { awaited = More; given = add_setting given Only word }

-- the value of an option
abbrev pub value_step : Given → Flag → List ℕ → Option Progress
value_step given flag word = if has_dash word then None else Some record { awaited = awaited_after flag; given = add_setting given flag word }

-- the next word, if it may stand there
abbrev pub step : List Flag → Awaited → Given → List ℕ → Option Progress
step flags Plain given word = plain_step flags given word
step flags More given word = more_step flags given word
step flags (Value flag) given word = value_step given flag word
step flags Positions given word = Some record { awaited = Positions; given = add_position given word }

-- no value is due at the end
abbrev pub finish : Awaited → Given → Option Given
finish Plain given = Some given
finish More given = Some given
finish (Value flag) given = None
finish Positions given = Some given

-- the words after what has been read, where these are the options that a command takes
abbrev pub read_all : List Flag → List (List ℕ) → Progress → Option Given
read_all flags [] progress = finish progress.awaited progress.given
read_all flags (word ∷ words) progress = option_and_then (λ (t : Progress). read_all flags words t) (step flags progress.awaited progress.given word)

abbrev pub start : Progress
start = record { awaited = Plain; given = record { positions = []; settings = [] } }

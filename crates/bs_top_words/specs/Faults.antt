-- What is wrong with words that are no job of `backspace`: the first word that is wrong, or how many there are (docs/FORMATS.md,
-- "Command words").
use Rattle.std.specs.Prelude.{◌≡◌, ◌≢◌, ◌⊎◌, ◌==◌, ℕ, suc, ◌+◌, ◌<◌, Bool, true, List, [], ◌∷◌, ◌++◌, codes, length, slice_get, slice_index_or}
use Rattle.std.specs.Prelude.{Option, Some, None, IsSome, Result, Ok, Err, if◌then◌else◌}
use Rattle.std.specs.List.{AllByRecursion, flat_map}
use Rattle.std.specs.Option.{option_and_then}
use Rattle.std.specs.Str.{bytes_eq}
use Rattle.bs_bits.specs.Reading.{◌>>=◌}
use Rattle.bs_top_words.specs.declared.options.BudgetKind.{BudgetKind}
use Rattle.bs_top_words.specs.declared.options.BudgetKind.TheVariants.{Steps, Candidates, Conflicts}
use Rattle.bs_top_words.specs.declared.flags.Flag.TheVariants.{Budget}
use Rattle.bs_top_words.specs.declared.fault.WordFault.{WordFault}
use Rattle.bs_top_words.specs.declared.fault.WordFault.TheVariants as W
use Rattle.bs_top_words.specs.declared.fault.NextWord.{NextWord}
use Rattle.bs_top_words.specs.declared.fault.NextWord.TheVariants as D
use Rattle.bs_top_words.specs.declared.fault.Opening.{Opening}
use Rattle.bs_top_words.specs.declared.fault.Opening.TheVariants as O
use Rattle.bs_top_words.specs.declared.fault.Scan.{Scan}
use Rattle.bs_top_words.specs.Options.{is_option, value_in}
use Rattle.bs_top_words.specs.Flags.{kind_name, value_behind}
use Rattle.bs_top_words.specs.Job.{has_budget}
use Rattle.bs_top_words.specs.Spelling.{Piece, Word, Apart, Joined, spelling, IsPiece, positions_of}

-- ---- commands

-- the first word, or none
abbrev pub command_of : List (List ℕ) → List ℕ
command_of words = slice_index_or words 0 []

-- how many words by position a command takes, if it is one
abbrev pub taken : List ℕ → Option ℕ
taken command =
    if bytes_eq command (codes "run") then Some 4
    else (if bytes_eq command (codes "audit") then Some 5
    else (if bytes_eq command (codes "wave") then Some 5
    else (if bytes_eq command (codes "dump") then Some 5
    else (if bytes_eq command (codes "demo") then Some 1
    else (if bytes_eq command (codes "reach") then Some 3
    else None)))))

-- which budgets a command takes: `run` all, and `reach` that of lemmas
abbrev pub takes : List ℕ → BudgetKind → Bool
takes command Conflicts = has_budget command
takes command Steps = bytes_eq command (codes "run")
takes command Candidates = bytes_eq command (codes "run")

-- ---- words that are right

-- a word by position, or a budget that the command takes, with its value
abbrev pub IsPieceOf : List ℕ → Piece → Type 0
IsPieceOf command (Word word) = IsPiece (Word word)
IsPieceOf command (Apart kind value) = (takes command kind ≡ true) × IsPiece (Apart kind value)
IsPieceOf command (Joined kind value) = (takes command kind ≡ true) × IsPiece (Joined kind value)

-- The word at this place is the first of which more is to be said: the first word is a command, and what stands between the two are words by
-- position and budgets of the command with their values, and no word `--`.
pub record IsReached (words : List (List ℕ)) (at : ℕ) (word : List ℕ) (rest : List (List ℕ)) : Type 0 where
  pub known : IsSome (taken (command_of words))
  pub pieces : List Piece
  pub right : AllByRecursion (IsPieceOf (command_of words)) pieces
  pub spelled : words ≡ command_of words ∷ (flat_map spelling pieces ++ word ∷ rest)
  pub place : at ≡ suc (length (flat_map spelling pieces))

-- Each word behind the command is right, and so many are words by position: as above, and then nothing, or a word `--` and words by position
-- alone.
pub record AreRight (words : List (List ℕ)) (count : ℕ) : Type 0 where
  pub pieces : List Piece
  pub behind : List (List ℕ)
  pub right : AllByRecursion (IsPieceOf (command_of words)) pieces
  pub spelled :
      ((words ≡ command_of words ∷ flat_map spelling pieces) × (behind ≡ []))
      ⊎ (words ≡ command_of words ∷ (flat_map spelling pieces ++ (codes "--" ∷ behind)))
  pub counted : count ≡ length (positions_of pieces) + length behind

-- ---- words that are wrong

-- the word is neither the name of the budget, nor that with `=` and a value
pub record IsNotOf (kind : BudgetKind) (word : List ℕ) : Type 0 where
  pub apart : word ≢ kind_name kind
  pub joined : (value : List ℕ) → word ≢ kind_name kind ++ (codes "=" ++ value)

-- the word at this place has the form of an option, and is no option of the command
pub record IsNoOption (words : List (List ℕ)) (at : ℕ) : Type 0 where
  pub word : List ℕ
  pub rest : List (List ℕ)
  pub reached : IsReached words at word rest
  pub form : is_option word ≡ true
  pub no_mark : word ≢ codes "--"
  pub none : (kind : BudgetKind) → takes (command_of words) kind ≡ true → IsNotOf kind word

-- the word is the name of the budget and the next word, if there is one, no value of it; or what stands behind its `=` is none
abbrev pub LacksValue : BudgetKind → List ℕ → List (List ℕ) → Type 0
LacksValue kind word rest =
    ((word ≡ kind_name kind) × (option_and_then (value_in kind) (slice_get rest 0) ≡ None))
    ⊎ ((value : List ℕ) × (word ≡ kind_name kind ++ (codes "=" ++ value)) × (value_in kind value ≡ None))

-- the word at this place is an option of the command that has no value, or none that it takes
pub record IsNoValue (words : List (List ℕ)) (at : ℕ) : Type 0 where
  pub word : List ℕ
  pub rest : List (List ℕ)
  pub reached : IsReached words at word rest
  pub kind : BudgetKind
  pub own : takes (command_of words) kind ≡ true
  pub lacks : LacksValue kind word rest

-- each word behind the command is right, and the command takes another number of words by position
pub record IsMiscounted (words : List (List ℕ)) (count : ℕ) : Type 0 where
  pub wanted : ℕ
  pub known : taken (command_of words) ≡ Some wanted
  pub other : count ≢ wanted
  pub right : AreRight words count

-- each word behind the command is right by itself, and so is the number of words by position
pub record IsCounted (words : List (List ℕ)) : Type 0 where
  pub wanted : ℕ
  pub known : taken (command_of words) ≡ Some wanted
  pub right : AreRight words wanted

-- What is wrong with words. Of several wrong words it is the first.
abbrev pub IsWordFault : List (List ℕ) → WordFault → Type 0
IsWordFault words W.Absent = words ≡ []
IsWordFault words W.Command = (0 < length words) × (taken (command_of words) ≡ None)
IsWordFault words (W.Option at) = IsNoOption words at
IsWordFault words (W.Value at) = IsNoValue words at
IsWordFault words (W.Positions given) = IsMiscounted words given
IsWordFault words W.Rest = IsCounted words

-- ---- word by word

-- what a word is that begins as an option
abbrev pub opening_value : Option ℕ → Opening
opening_value None = O.Bad
opening_value (Some value) = O.Whole

abbrev pub opening_behind : BudgetKind → Option (List ℕ) → Opening → Opening
opening_behind kind None other = other
opening_behind kind (Some value) other = opening_value (value_in kind value)

abbrev pub opening_by : BudgetKind → List ℕ → Opening → Opening
opening_by kind word other =
    if bytes_eq word (kind_name kind) then O.Waits kind else opening_behind kind (value_behind (Budget kind) word) other

abbrev pub opening_if : List ℕ → BudgetKind → List ℕ → Opening → Opening
opening_if command kind word other = if takes command kind then opening_by kind word other else other

abbrev pub opening_of : List ℕ → List ℕ → Opening
opening_of command word = opening_if command Steps word (opening_if command Candidates word (opening_if command Conflicts word O.Unknown))

-- what may come, and how many words by position have come
abbrev pub scanned : NextWord → ℕ → Scan
scanned due count = record { due = due; count = count }

abbrev pub option_word : ℕ → ℕ → Opening → Result Scan WordFault
option_word at count (O.Waits kind) = Ok (scanned (D.Value at kind) count)
option_word at count O.Whole = Ok (scanned D.Any count)
option_word at count O.Bad = Err (W.Value at)
option_word at count O.Unknown = Err (W.Option at)

abbrev pub any_word : List ℕ → ℕ → ℕ → List ℕ → Result Scan WordFault
any_word command at count word =
    if bytes_eq word (codes "--") then Ok (scanned D.Position count)
    else (if is_option word then option_word at count (opening_of command word) else Ok (scanned D.Any (count + 1)))

abbrev pub value_word : ℕ → ℕ → Option ℕ → Result Scan WordFault
value_word place count None = Err (W.Value place)
value_word place count (Some value) = Ok (scanned D.Any count)

abbrev pub due_word : List ℕ → ℕ → NextWord → ℕ → List ℕ → Result Scan WordFault
due_word command at D.Any count word = any_word command at count word
due_word command at (D.Value place kind) count word = value_word place count (value_in kind word)
due_word command at D.Position count word = Ok (scanned D.Position (count + 1))

-- the same behind the word at a place
abbrev pub scan_word : List ℕ → ℕ → Scan → List ℕ → Result Scan WordFault
scan_word command at scan word = due_word command at scan.due scan.count word

-- no value is due at the end
abbrev pub end_of : NextWord → ℕ → Result ℕ WordFault
end_of D.Any count = Ok count
end_of (D.Value place kind) count = Err (W.Value place)
end_of D.Position count = Ok count

-- how many words by position there are, where these words stand from a place on
abbrev pub scan_all : List ℕ → ℕ → List (List ℕ) → Scan → Result ℕ WordFault
scan_all command at [] scan = end_of scan.due scan.count
scan_all command at (word ∷ words) scan = scan_word command at scan word >>= λ next. scan_all command (at + 1) words next

abbrev pub fault_if : ℕ → Result ℕ WordFault → WordFault
fault_if wanted (Err fault) = fault
fault_if wanted (Ok count) = if count == wanted then W.Rest else W.Positions count

abbrev pub fault_behind : List ℕ → List (List ℕ) → Option ℕ → WordFault
fault_behind command words None = W.Command
fault_behind command words (Some wanted) = fault_if wanted (scan_all command 1 words (scanned D.Any 0))

abbrev pub fault_of : List (List ℕ) → WordFault
fault_of [] = W.Absent
fault_of (command ∷ words) = fault_behind command words (taken command)

-- The text of a stimulus (docs/FORMATS.md, "Stimulus"): for each run the line `run NAME CYCLES`, that many lines of bits, and the line `end`.
use Rattle.std.specs.Prelude.{ℕ, zero, suc, ◌+◌, ◌==◌, nat_lt, nat_le, Bool, true, not, ◌&&◌, List, [], ◌∷◌, ◌++◌, length, codes, decimal, Option}
use Rattle.std.specs.Prelude.{Some, None, Result, Ok, Err, if◌then◌else◌}
use Rattle.std.specs.List.{flat_map}
use Rattle.std.specs.Str.{bytes_eq}
use Rattle.bs_bits.specs.Text.{bits_text, bits_of}
use Rattle.bs_bits.specs.Reading.{◌>>=◌}
use Rattle.bs_bits.specs.Lines.{line, words_of, is_name, is_canonical, number_of}
use Rattle.bs_stim.specs.declared.limits.TheConstants.{MAX_RUNS, MAX_CYCLES, MAX_NAME}
use Rattle.bs_stim.specs.declared.fault.StimFault.{StimFault}
use Rattle.bs_stim.specs.declared.fault.StimFault.TheVariants.{Line, Width, Count, TooManyRuns, TooManyCycles, NoRun}
use Rattle.bs_stim.specs.Runs.{Recorded, Stimulus}

-- ---- what runs spell

abbrev pub head_text : Recorded → List ℕ
head_text run = codes "run " ++ (run.name ++ (codes " " ++ decimal (length run.inputs)))

abbrev pub inputs_text : List (List Bool) → List ℕ
inputs_text inputs = flat_map (λ input. line (bits_text input)) inputs

abbrev pub run_text : Recorded → List ℕ
run_text run = line (head_text run) ++ (inputs_text run.inputs ++ line (codes "end"))

abbrev pub stimulus_text : Stimulus → List ℕ
stimulus_text stimulus = flat_map run_text stimulus.runs

-- ---- what a text stands for

-- the three words of a run's first line
pub record Head : Type 0 where
  pub word : List ℕ
  pub name : List ℕ
  pub cycles : List ℕ

abbrev pub head : List ℕ → List ℕ → List ℕ → Head
head word name cycles = record { word = word; name = name; cycles = cycles }

abbrev pub head_of : List (List ℕ) → Option Head
head_of (word ∷ name ∷ cycles ∷ []) = Some (head word name cycles)
head_of words = None

-- `run`, a name that is not too long, and a canonical number
abbrev pub is_head : Head → Bool
is_head words = bytes_eq words.word (codes "run") && is_name words.name && nat_le (length words.name) MAX_NAME && is_canonical words.cycles

-- what a run's first line says
pub record First : Type 0 where
  pub name : List ℕ
  pub cycles : ℕ

abbrev pub first : List ℕ → ℕ → First
first name cycles = record { name = name; cycles = cycles }

-- the first line with this number, after so many runs
abbrev pub first_of : ℕ → ℕ → Option Head → Result First StimFault
first_of number begun None = Err (Line number)
first_of number begun (Some words) =
    if not (is_head words)
    then Err (Line number)
    else if nat_le MAX_RUNS begun
    then Err (TooManyRuns number)
    else if nat_lt MAX_CYCLES (number_of words.cycles)
    then Err (TooManyCycles number)
    else Ok (first words.name (number_of words.cycles))

-- bits of the width
abbrev pub of_width : ℕ → ℕ → Option (List Bool) → Result (List Bool) StimFault
of_width width number None = Err (Line number)
of_width width number (Some bits) = if length bits == width then Ok bits else Err (Width number)

-- an input line
abbrev pub input_of : ℕ → ℕ → List ℕ → Result (List Bool) StimFault
input_of width number text = if bytes_eq text (codes "end") then Err (Count number) else of_width width number (bits_of text)

-- a line that is not `end`, where that is due
abbrev pub no_end : ℕ → Option (List Bool) → Result Bool StimFault
no_end number None = Err (Line number)
no_end number (Some bits) = Err (Count number)

-- the line behind the last input
abbrev pub end_of : ℕ → List ℕ → Result Bool StimFault
end_of number text = if bytes_eq text (codes "end") then Ok true else no_end number (bits_of text)

-- the inputs that are left of the run under way, and the runs behind it
pub record Rest : Type 0 where
  pub inputs : List (List Bool)
  pub runs : List Recorded

-- The lines from this number on, after so many runs: a first line is due, or so many inputs and then `end`.
unfoldable pub rest_of : ℕ → ℕ → ℕ → Option ℕ → List (List ℕ) → Result Rest StimFault
rest_of width number begun None [] = Ok (record { inputs = []; runs = [] })
rest_of width number begun (Some due) [] = Err (Count number)
rest_of width number begun None (text ∷ texts) = do
  first ← first_of number begun (head_of (words_of text))
  rest ← rest_of width (number + 1) (begun + 1) (Some first.cycles) texts
  Ok (record { inputs = []; runs = record { name = first.name; inputs = rest.inputs } ∷ rest.runs })
rest_of width number begun (Some zero) (text ∷ texts) = do
  ended ← end_of number text
  rest_of width (number + 1) begun None texts
rest_of width number begun (Some (suc due)) (text ∷ texts) = do
  input ← input_of width number text
  rest ← rest_of width (number + 1) begun (Some due) texts
  Ok (record { inputs = input ∷ rest.inputs; runs = rest.runs })

-- the runs that lines stand for, or their first fault
abbrev pub runs_of : ℕ → List (List ℕ) → Result (List Recorded) StimFault
runs_of width [] = Err NoRun
runs_of width (text ∷ texts) = rest_of width 1 0 None (text ∷ texts) >>= λ rest. Ok rest.runs

-- the stimulus that lines stand for, or their first fault
abbrev pub stimulus_of : ℕ → List (List ℕ) → Result Stimulus StimFault
stimulus_of width lines = runs_of width lines >>= λ runs. Ok (record { width = width; runs = runs })

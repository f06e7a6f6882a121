-- One run of a stimulus text: what the functions that read it promise each other.
use Rattle.std.specs.Prelude.{ℕ, zero, suc, ◌+◌, ◌≤◌, Bool, IsTrue, length, List, [], ◌∷◌, ◌++◌, Result, Ok, Err}
use Rattle.std.specs.List.{AllByRecursion}
use Rattle.bs_bits.specs.Lines.{words_of, is_name}
use Rattle.bs_bits.specs.Reading.{◌>>=◌}
use Rattle.bs_stim.specs.declared.limits.TheConstants.{MAX_CYCLES, MAX_NAME}
use Rattle.bs_stim.specs.declared.fault.StimFault.{StimFault}
use Rattle.bs_stim.specs.declared.fault.StimFault.TheVariants.{Count}
use Rattle.bs_stim.specs.Runs.{Recorded}
use Rattle.bs_stim.specs.StimulusText.{First, Rest, head_of, first_of, input_of, end_of}

-- what is right of a first line that is accepted
pub record IsFirstLine (first : First) : Type 0 where
  pub named : IsTrue (is_name first.name)
  pub short_name : length first.name ≤ MAX_NAME
  pub few_cycles : first.cycles ≤ MAX_CYCLES

-- no line has more than so many bytes
abbrev pub AreShort : ℕ → List (List ℕ) → Type 0
AreShort most lines = AllByRecursion (λ text. length text ≤ most) lines

-- a value, and the lines behind its text
pub record Taken (A : Type 0) : Type 0 where
  pub value : A
  pub rest : List (List ℕ)

abbrev pub taken : {A : Type 0} → A → List (List ℕ) → Taken A
taken value rest = record { value = value; rest = rest }

-- so many inputs, from the line with this number on
unfoldable pub inputs_from : ℕ → ℕ → ℕ → List (List ℕ) → Result (Taken (List (List Bool))) StimFault
inputs_from width number zero lines = Ok (taken [] lines)
inputs_from width number (suc due) [] = Err (Count number)
inputs_from width number (suc due) (text ∷ texts) = do
  input ← input_of width number text
  more ← inputs_from width (number + 1) due texts
  Ok (taken (input ∷ more.value) more.rest)

-- the line `end`: the lines behind it
abbrev pub end_from : ℕ → List (List ℕ) → Result (List (List ℕ)) StimFault
end_from number [] = Err (Count number)
end_from number (text ∷ texts) = end_of number text >>= λ ended. Ok texts

-- a run whose first line this is, with this number
abbrev pub run_from : ℕ → ℕ → ℕ → List ℕ → List (List ℕ) → Result (Taken Recorded) StimFault
run_from width number begun text texts = do
  first ← first_of number begun (head_of (words_of text))
  inputs ← inputs_from width (number + 1) first.cycles texts
  rest ← end_from (number + 1 + first.cycles) inputs.rest
  Ok (taken (record { name = first.name; inputs = inputs.value }) rest)

-- runs before those that are left
abbrev pub with_runs : List Recorded → Result Rest StimFault → Result (List Recorded) StimFault
with_runs runs rest = rest >>= λ rest. Ok (runs ++ rest.runs)

-- inputs before those that are taken
abbrev pub with_inputs : List (List Bool) → Result (Taken (List (List Bool))) StimFault → Result (Taken (List (List Bool))) StimFault
with_inputs inputs more = more >>= λ more. Ok (taken (inputs ++ more.value) more.rest)

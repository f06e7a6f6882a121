-- What went out of a finished text.
use Rattle.std.specs.Prelude.{◌≡◌, ◌≢◌, ◌==◌, ℕ, List, [], ◌∷◌, ◌++◌, length, map, Option, if◌then◌else◌}
use Rattle.std.specs.Io.{StartsWith}
use Rattle.std.specs.Io.KnownBytes.{Appends}
use Rattle.bs_bits.specs.Lines.{onto_first}
use Rattle.bs_outside.specs.Calls.{PutCall, put_call, InTurn}
use Rattle.bs_outside.specs.Faults.{Rose}
use Rattle.bs_outside.specs.declared.sink.Put.{Put}
use Rattle.bs_outside.specs.declared.sink.Put.TheVariants.{Done, Failed}
use Rattle.bs_outside.specs.declared.status.Status.{Status}
use Rattle.bs_outside.specs.declared.status.Status.TheVariants.{WriteFault}

-- the text was written whole and its status answered, or its front, where a put failed
pub record Delivers (status : Status) (text : List ℕ) (written_before written_now : Option (List ℕ)) (faults_before faults_now : ℕ)
    (answered : Status) : Type 0 where
  pub part : List ℕ
  pub wrote : Appends written_before written_now part
  pub whole : answered ≢ WriteFault → (answered ≡ status) × (part ≡ text)
  pub cut : answered ≡ WriteFault → StartsWith text part
  pub fault : answered ≡ WriteFault → Rose faults_before faults_now
  pub steady : answered ≢ WriteFault → faults_now ≡ faults_before

-- the lines of a text, each with its line feed, which the last one may want
abbrev pub put_lines_of : List ℕ → List (List ℕ)
put_lines_of [] = []
put_lines_of (b ∷ bs) = if b == 10 then (10 ∷ []) ∷ put_lines_of bs else onto_first b (put_lines_of bs)

-- a put for each of these lines, all of which went out
abbrev pub puts_done : List (List ℕ) → List PutCall
puts_done lines = map (λ (line : List ℕ). put_call line Done) lines

-- a put for each line up to one whose put failed, and no further put
pub record PutsUpTo {K : Type 0} (leads : K → PutCall → K → Type 0) (before now : K) (lines : List (List ℕ)) : Type 0 where
  pub front : List (List ℕ)
  pub line : List ℕ
  pub rest : List (List ℕ)
  pub count : ℕ
  pub parts : lines ≡ front ++ line ∷ rest
  pub puts : InTurn leads before (puts_done front ++ put_call line (Failed count) ∷ []) now

-- all lines of the text were put, or those up to and with one whose put failed
abbrev pub PutsTo : {K : Type 0} → (K → PutCall → K → Type 0) → (before now : K) → List ℕ → Put → Type 0
PutsTo leads before now text Done = InTurn leads before (puts_done (put_lines_of text)) now
PutsTo leads before now text (Failed n) = PutsUpTo leads before now (put_lines_of text)

-- up to the line whose put failed, and this many lines went out before it
pub record PutsAfter {K : Type 0} (leads : K → PutCall → K → Type 0) (before now : K) (lines : List (List ℕ)) (done : ℕ) : Type 0 where
  pub up_to : PutsUpTo leads before now lines
  pub counted : length up_to.front ≡ done

abbrev pub PutsSoMany : {K : Type 0} → (K → PutCall → K → Type 0) → (before now : K) → List ℕ → ℕ → Put → Type 0
PutsSoMany leads before now text done Done = Unit {0}
PutsSoMany leads before now text done (Failed n) = PutsAfter leads before now (put_lines_of text) done

-- where a put failed, this many lines of the text went out before
pub record CountsPuts {K : Type 0} (leads : K → PutCall → K → Type 0) (before now : K) (text : List ℕ) (done : ℕ) (answered : Status) : Type 0 where
  pub failed : answered ≡ WriteFault → PutsAfter leads before now (put_lines_of text) done

-- The lines of the text were put one by one, in their order: all of them, or those up to and with the one that failed.
pub record PutsLines {K : Type 0} (leads : K → PutCall → K → Type 0) (before now : K) (text : List ℕ) (answered : Status) : Type 0 where
  pub whole : answered ≢ WriteFault → InTurn leads before (puts_done (put_lines_of text)) now
  pub cut : answered ≡ WriteFault → PutsUpTo leads before now (put_lines_of text)

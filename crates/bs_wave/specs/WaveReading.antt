-- What wave a text is, or the first line that cannot stand in its place (docs/FORMATS.md, "Waveform").
use Rattle.std.specs.Prelude.{ℕ, ◌+◌, ◌-◌, ◌==◌, Bool, true, false, ◌&&◌, List, [], ◌∷◌, ◌++◌, length, take, drop, codes, Option, Some, None}
use Rattle.std.specs.Prelude.{option_map, option_and_then, Result, Ok, Err, if◌then◌else◌, slice_index_or, slice_set, find}
use Rattle.std.specs.List.{range_with_len}
use Rattle.std.specs.Str.{bytes_eq}
use Rattle.bs_bits.specs.Lines.{pieces_of, words_of, is_name}
use Rattle.bs_bits.specs.Reading.{◌>>=◌}
use Rattle.bs_wave.specs.declared.fault.WaveFault.{WaveFault}
use Rattle.bs_wave.specs.declared.fault.WaveFault.TheVariants.{Line}
use Rattle.bs_wave.specs.declared.place.TextPlace.{TextPlace}
use Rattle.bs_wave.specs.declared.place.TextPlace.TheVariants as places
use Rattle.bs_wave.specs.declared.value.Value.{Value}
use Rattle.bs_wave.specs.declared.value.Value.TheVariants.{Zero, One, Unknown}
use Rattle.bs_wave.specs.declared.wave.Wave.{Wave}
use Rattle.bs_wave.specs.WaveText.{id_of, time_line, same_value}

-- ---- a line of each kind

-- the value of a character
abbrev pub value_in : ℕ → Option Value
value_in code = if code == 48 then Some Zero else if code == 49 then Some One else if code == 120 then Some Unknown else None

-- the rest of a line that begins with a word
abbrev pub behind : List ℕ → List ℕ → Option (List ℕ)
behind word text = if bytes_eq (take (length word) text) word then Some (drop (length word) text) else None

-- three words
pub record Triple : Type 0 where
  pub first : List ℕ
  pub second : List ℕ
  pub third : List ℕ

abbrev pub triple : List ℕ → List ℕ → List ℕ → Triple
triple first second third = record { first = first; second = second; third = third }

abbrev pub triple_of : List (List ℕ) → Option Triple
triple_of (first ∷ second ∷ third ∷ []) = Some (triple first second third)
triple_of words = None

-- the key in the words that stand behind `$var wire 1`
abbrev pub key_of : ℕ → Option Triple → Option (List ℕ)
key_of n None = None
key_of n (Some words) =
    if bytes_eq words.first (id_of n) && is_name words.second && bytes_eq words.third (codes "$end") then Some words.second else None

-- the key in the line of net n
abbrev pub key_in : ℕ → List ℕ → Option (List ℕ)
key_in n text = option_and_then (λ rest. key_of n (triple_of (words_of rest))) (behind (codes "$var wire 1 ") text)

-- the value in a value line of net n
abbrev pub value_for : ℕ → List ℕ → Option Value
value_for n [] = None
value_for n (code ∷ id) = if bytes_eq id (id_of n) then value_in code else None

-- the net with this id, if it is one of so many and not below the next
unfoldable pub net_with : ℕ → ℕ → List ℕ → Option ℕ
net_with next count id = find (λ n. bytes_eq id (id_of n)) (range_with_len next (count - next))

-- a net and its value
pub record Change : Type 0 where
  pub net : ℕ
  pub value : Value

-- the change, where the net has another value
abbrev pub if_other : List Value → Option ℕ → Option Value → Option Change
if_other values (Some n) (Some v) =
    if same_value (slice_index_or values n Unknown) v then None else Some (record { net = n; value = v })
if_other values net value = None

-- the change in a value line of a net from the next on, over the values so far
abbrev pub change_in : ℕ → List Value → List ℕ → Option Change
change_in next values [] = None
change_in next values (code ∷ id) = if_other values (net_with next (length values) id) (value_in code)

-- ---- a line at its place

-- what is read so far: keys, whole moments, and the values of the moment under way
pub record PartialWave : Type 0 where
  pub keys : List (List ℕ)
  pub moments : List (List Value)
  pub values : List Value

-- what is read so far, and what the next line may be
abbrev pub Reached : Type 0
Reached = TextPlace × PartialWave

abbrev pub when : Bool → Reached → Option Reached
when allowed reached = if allowed then Some reached else None

abbrev pub with_key : PartialWave → List ℕ → PartialWave
with_key b key = record b { keys = b.keys ++ key ∷ [] }

abbrev pub with_value : PartialWave → Value → PartialWave
with_value b value = record b { values = b.values ++ value ∷ [] }

abbrev pub with_change : PartialWave → Change → PartialWave
with_change b change = record b { values = slice_set b.values change.net change.value }

-- the next moment begins with the values of the one before
abbrev pub with_moment : PartialWave → PartialWave
with_moment b = record b { moments = b.moments ++ b.values ∷ [] }

-- in the first moment each net's value is due, and behind the last one changes
abbrev pub first_place : ℕ → ℕ → TextPlace
first_place count done = if done == count then places.Change done else places.First

-- What a line gives at its place; none where it cannot stand there. The head is two lines. Then each net has its line, up to
-- `$upscope $end` and `$enddefinitions $end`. The first moment gives each net a value, and each later one any nets, in net
-- order, another value than before.
abbrev pub taken : TextPlace → PartialWave → List ℕ → Option Reached
taken places.Timescale b text = when (bytes_eq text (codes "$timescale 1ns $end")) (places.Scope, b)
taken places.Scope b text = when (bytes_eq text (codes "$scope module trace $end")) (places.Net, b)
taken places.Net b text =
    if bytes_eq text (codes "$upscope $end")
    then Some (places.Definitions, b)
    else option_map (λ key. (places.Net, with_key b key)) (key_in (length b.keys) text)
taken places.Definitions b text = when (bytes_eq text (codes "$enddefinitions $end")) (places.Start, b)
taken places.Start b text = when (bytes_eq text (time_line 0)) (first_place (length b.keys) 0, b)
taken places.First b text =
    option_map (λ value. (first_place (length b.keys) (length b.values + 1), with_value b value)) (value_for (length b.values) text)
taken (places.Change next) b text =
    if bytes_eq text (time_line (length b.moments + 1))
    then Some (places.Change 0, with_moment b)
    else option_map (λ change. (places.Change (change.net + 1), with_change b change)) (change_in next b.values text)

-- ---- the whole text

abbrev pub line_or_fault : {A : Type 0} → ℕ → Option A → Result A WaveFault
line_or_fault number None = Err (Line number)
line_or_fault number (Some reached) = Ok reached

abbrev pub followed : ℕ → TextPlace → PartialWave → List ℕ → Result Reached WaveFault
followed number place b text = line_or_fault number (taken place b text)

-- a text may end at a later line of a moment
abbrev pub may_end : TextPlace → Bool
may_end (places.Change next) = true
may_end place = false

-- the wave whose last moment is the one under way
abbrev pub whole : PartialWave → Wave
whole b = record { keys = b.keys; moments = b.moments ++ b.values ∷ [] }

-- what the bytes behind the last line feed give: there are none where the text is whole
abbrev pub ended : ℕ → TextPlace → PartialWave → List ℕ → Result Wave WaveFault
ended number place b rest = if may_end place then (if length rest == 0 then Ok (whole b) else Err (Line number)) else Err (Line number)

-- the pieces of a text from a place on, where the first of them has this number
abbrev pub wave_from : ℕ → TextPlace → PartialWave → List (List ℕ) → Result Wave WaveFault
wave_from number place b [] = ended number place b []
wave_from number place b (rest ∷ []) = ended number place b rest
wave_from number place b (text ∷ next ∷ pieces) =
    followed number place b text >>= λ reached. wave_from (number + 1) reached.0 reached.1 (next ∷ pieces)

-- before the first line
abbrev pub nothing_read : PartialWave
nothing_read = record { keys = []; moments = []; values = [] }

-- the wave whose text this is, or the first line that cannot stand in its place
unfoldable pub wave_in : List ℕ → Result Wave WaveFault
wave_in bytes = wave_from 1 places.Timescale nothing_read (pieces_of bytes)

-- The recorded moments of a trace in its waveform: the variables `run` and `cycle` of a scope of their own (docs/FORMATS.md, "Texts of
-- `backspace_inspect`").
use Rattle.std.specs.Prelude.{ℕ, ◌-◌, ◌==◌, ◌&&◌, not, Bool, true, false, List, [], ◌++◌, codes, slice_index_or, Option, Some, None, if◌then◌else◌}
use Rattle.std.specs.Int.{bit_at}
use Rattle.std.specs.List.{flat_map, range_with_len}
use Rattle.bs_bits.specs.Lines.{line}

-- The ids of both are those of no signal: where an id has more than one digit, its last one is not that of 0, which is `!`.
abbrev pub run_id : List ℕ
run_id = codes "!!"

abbrev pub cycle_id : List ℕ
cycle_id = codes "\"!"

-- the scope of both, and the line that opens that of the trace
unfoldable pub opening_lines : List ℕ
opening_lines =
    codes "$scope module recorded $end\n$var integer 32 !! run [31:0] $end\n$var integer 32 \"! cycle [31:0] $end\n$upscope $end\n$scope module trace $end\n"

abbrev pub bit_piece : Bool → List ℕ
bit_piece b = if b then codes "1" else codes "0"

-- the lowest bits of a number, so many, the greatest first
abbrev pub number_bits : ℕ → (count : ℕ) → List ℕ
number_bits n count = flat_map (λ k. bit_piece (bit_at n (count - 1 - k) == 1)) (range_with_len 0 count)

-- a number as 32 bits, and `x` where there is none
abbrev pub number_text : Option ℕ → List ℕ
number_text None = codes "x"
number_text (Some n) = number_bits n 32

-- the value of the variable with an id
abbrev pub number_line : (id : List ℕ) → Option ℕ → List ℕ
number_line id n = line (codes "b" ++ (number_text n ++ (codes " " ++ id)))

abbrev pub is_same : Option ℕ → Option ℕ → Bool
is_same None None = true
is_same (Some a) (Some b) = a == b
is_same _ _ = false

-- the value where it is another one than before, or the first
abbrev pub number_piece : Bool → (id : List ℕ) → (before now : Option ℕ) → List ℕ
number_piece first id before now = if not first && is_same before now then [] else number_line id now

-- the run and the cycle of a state, where it was recorded
abbrev pub run_of : Option (ℕ × ℕ) → Option ℕ
run_of None = None
run_of (Some moment) = Some moment.0

abbrev pub cycle_of : Option (ℕ × ℕ) → Option ℕ
cycle_of None = None
cycle_of (Some moment) = Some moment.1

abbrev pub recorded_at : List (Option (ℕ × ℕ)) → ℕ → Option (ℕ × ℕ)
recorded_at recorded t = slice_index_or recorded t None

-- what of both has changed at a moment of the waveform
abbrev pub recorded_piece : Bool → (before now : Option (ℕ × ℕ)) → List ℕ
recorded_piece first before now =
    number_piece first run_id (run_of before) (run_of now) ++ number_piece first cycle_id (cycle_of before) (cycle_of now)

abbrev pub recorded_lines : List (Option (ℕ × ℕ)) → ℕ → List ℕ
recorded_lines recorded t = recorded_piece (t == 0) (recorded_at recorded (t - 1)) (recorded_at recorded t)

-- The text of a wave (docs/FORMATS.md, "Waveform"): a four-state value change dump (IEEE 1364-2005, 18.2).
use Rattle.std.specs.Prelude.{◌≡◌, ℕ, zero, suc, ◌+◌, ◌%◌, ◌/◌, ◌<◌, nat_lt, Bool, true, false, List, [], ◌∷◌, ◌++◌, length, codes, decimal, All}
use Rattle.std.specs.Prelude.{IsTrue, if◌then◌else◌}
use Rattle.std.specs.List.{flat_map}
use Rattle.bs_bits.specs.Lines.{line, is_name}
use Rattle.bs_wave.specs.declared.value.Value.{Value}
use Rattle.bs_wave.specs.declared.value.Value.TheVariants.{Zero, One, Unknown}
use Rattle.bs_wave.specs.declared.wave.Wave.{Wave}

-- ---- the id of a net

-- the digits of a number in base 94, the lowest first, as bytes `!` to `~`, for a number below 94 to the given power
abbrev pub id_digits : ℕ → ℕ → List ℕ
id_digits zero n = []
id_digits (suc places) n = if nat_lt n 94 then (33 + n) ∷ [] else (33 + n % 94) ∷ id_digits places (n / 94)

-- the id of a net: a number n has at most n + 1 id_digits
unfoldable pub id_of : ℕ → List ℕ
id_of n = id_digits (suc n) n

-- ---- a line of each kind

abbrev pub value_code : Value → ℕ
value_code Zero = 48
value_code One = 49
value_code Unknown = 120

abbrev pub net_line : ℕ → List ℕ → List ℕ
net_line n key = codes "$var wire 1 " ++ (id_of n ++ (codes " " ++ (key ++ codes " $end")))

abbrev pub time_line : ℕ → List ℕ
time_line i = codes "#" ++ decimal i

abbrev pub value_line : ℕ → Value → List ℕ
value_line n value = value_code value ∷ id_of n

-- ---- the lines

-- the nets from this number on
abbrev pub net_lines : ℕ → List (List ℕ) → List (List ℕ)
net_lines n [] = []
net_lines n (key ∷ keys) = net_line n key ∷ net_lines (suc n) keys

abbrev pub head_lines : List (List ℕ) → List (List ℕ)
head_lines keys =
    codes "$timescale 1ns $end" ∷ codes "$scope module trace $end" ∷
    (net_lines 0 keys ++ codes "$upscope $end" ∷ codes "$enddefinitions $end" ∷ [])

abbrev pub same_value : Value → Value → Bool
same_value Zero Zero = true
same_value One One = true
same_value Unknown Unknown = true
same_value a b = false

-- the values, from this net on, that differ from those of the moment before, or have none before
abbrev pub change_lines : ℕ → List Value → List Value → List (List ℕ)
change_lines n before [] = []
change_lines n [] (v ∷ vs) = value_line n v ∷ change_lines (suc n) [] vs
change_lines n (u ∷ us) (v ∷ vs) = (if same_value u v then [] else value_line n v ∷ []) ++ change_lines (suc n) us vs

-- the moments from this number on, behind the moment before
abbrev pub moment_lines : ℕ → List Value → List (List Value) → List (List ℕ)
moment_lines i before [] = []
moment_lines i before (values ∷ moments) = time_line i ∷ (change_lines 0 before values ++ moment_lines (suc i) values moments)

abbrev pub wave_lines : Wave → List (List ℕ)
wave_lines wave = head_lines wave.keys ++ moment_lines 0 [] wave.moments

abbrev pub wave_text : Wave → List ℕ
wave_text wave = flat_map line (wave_lines wave)

-- A wave has a text where each key is one or more bytes `!` to `~`, each moment has a value for each key, and there is a moment.
pub record HasWaveText (wave : Wave) : Type 0 where
  pub names : All (λ key. IsTrue (is_name key)) wave.keys
  pub widths : All (λ values. length values ≡ length wave.keys) wave.moments
  pub some : 0 < length wave.moments

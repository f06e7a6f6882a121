-- Worked waves, computed by the definitions.
use Rattle.std.proofs.Common.{◌≡◌, ℕ, List, [], ◌∷◌, ◌++◌, map, refl}
use Rattle.std.specs.Fmt.{digits}
use Rattle.std.specs.Prelude.{codes, Ok, Err, take, length, ◌-◌}
use Rattle.bs_wave.specs.declared.fault.WaveFault.TheVariants.{Line}
use Rattle.bs_wave.specs.declared.value.Value.TheVariants.{Zero, One, Unknown}
use Rattle.bs_wave.specs.declared.wave.Wave.{Wave}
use Rattle.bs_wave.specs.WaveText.{wave_text, id_of}
use Rattle.bs_wave.specs.WaveReading.{wave_in, net_with}

-- a flip-flop q that loads the data input d: at first d is 1 and q is 0, then q is 1
abbrev one_step : Wave
one_step =
    record {
      keys = codes "ck" ∷ codes "d" ∷ codes "q" ∷ [];
      moments = (Zero ∷ One ∷ Zero ∷ []) ∷ (Zero ∷ Unknown ∷ One ∷ []) ∷ [];
    }

abbrev one_step_head : List ℕ
one_step_head = codes "$timescale 1ns $end\n$scope module trace $end\n$var wire 1 ! ck $end\n$var wire 1 \" d $end\n$var wire 1 # q $end\n"

abbrev one_step_text : List ℕ
one_step_text = one_step_head ++ codes "$upscope $end\n$enddefinitions $end\n#0\n0!\n1\"\n0#\n#1\nx\"\n1#\n"

spells : wave_text one_step ≡ one_step_text
unfolding id_of digits
spells = refl

reads : wave_in one_step_text ≡ Ok one_step
unfolding wave_in id_of net_with digits
reads = refl

-- the last line feed is missing
unended : wave_in (take (length one_step_text - 1) one_step_text) ≡ Err (Line 14)
unfolding wave_in id_of net_with digits
unended = refl

-- a trace without a step: its input is unknown
abbrev no_step : Wave
no_step =
    record {
      keys = codes "ck" ∷ codes "a" ∷ codes "q0" ∷ codes "q1" ∷ [];
      moments = (Zero ∷ Unknown ∷ One ∷ One ∷ []) ∷ [];
    }

abbrev no_step_head : List ℕ
no_step_head =
    codes "$timescale 1ns $end\n$scope module trace $end\n"
    ++ codes "$var wire 1 ! ck $end\n$var wire 1 \" a $end\n$var wire 1 # q0 $end\n$var wire 1 $ q1 $end\n"

spells_none : wave_text no_step ≡ no_step_head ++ codes "$upscope $end\n$enddefinitions $end\n#0\n0!\nx\"\n1#\n1$\n"
unfolding id_of digits
spells_none = refl

-- the ids: the lowest digit first, and no zero at the end
ids : map id_of (0 ∷ 93 ∷ 94 ∷ 95 ∷ 187 ∷ 188 ∷ 8836 ∷ []) ≡
    codes "!" ∷ codes "~" ∷ codes "!\"" ∷ codes "\"\"" ∷ codes "~\"" ∷ codes "!#" ∷ codes "!!\"" ∷ []
unfolding id_of
ids = refl

-- lines that cannot stand in their places
no_bytes : wave_in [] ≡ Err (Line 1)
unfolding wave_in id_of net_with digits
no_bytes = refl

-- the nets' lines end too soon, and the next one is missing
no_end : wave_in (one_step_head) ≡ Err (Line 6)
unfolding wave_in id_of net_with digits
no_end = refl

no_moment : wave_in (one_step_head ++ codes "$upscope $end\n$enddefinitions $end\n") ≡ Err (Line 8)
unfolding wave_in id_of net_with digits
no_moment = refl

value_missing : wave_in (one_step_head ++ codes "$upscope $end\n$enddefinitions $end\n#0\n0!\n1\"\n#1\n") ≡ Err (Line 11)
unfolding wave_in id_of net_with digits
value_missing = refl

same_again : wave_in (one_step_text ++ codes "#2\nx\"\n") ≡ Err (Line 16)
unfolding wave_in id_of net_with digits
same_again = refl

out_of_order : wave_in (one_step_text ++ codes "#2\n0#\n1\"\n") ≡ Err (Line 17)
unfolding wave_in id_of net_with digits
out_of_order = refl

unknown_id : wave_in (one_step_text ++ codes "#2\n0$\n") ≡ Err (Line 16)
unfolding wave_in id_of net_with digits
unknown_id = refl

long_id : wave_in (one_step_text ++ codes "#2\n1\"!\n") ≡ Err (Line 16)
unfolding wave_in id_of net_with digits
long_id = refl

time_again : wave_in (one_step_text ++ codes "#1\n") ≡ Err (Line 15)
unfolding wave_in id_of net_with digits
time_again = refl

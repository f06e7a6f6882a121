-- The stimulus of a generated job: 32 runs of 256 cycles of 5 drawn bits.
use Rattle.std.specs.Prelude.{ℕ, ◌+◌, ◌*◌, List, ◌++◌, codes, decimal}
use Rattle.bs_bits.specs.Lines.{line}
use Rattle.rand_pcg.specs.Lcg.{Lcg}
use Rattle.bs_gen.specs.Draws.{after, pick}
use Rattle.bs_gen.specs.Each.{each}

-- a drawn bit of a cycle
abbrev pub bit_text : Lcg → ℕ → List ℕ
bit_text draws i = decimal (pick (after i draws) 2)

-- the input of a cycle
abbrev pub input_line : Lcg → List ℕ
input_line draws = line (each (bit_text draws) 0 5)

-- the input of a cycle of a run, five draws each
abbrev pub nth_input_line : Lcg → ℕ → List ℕ
nth_input_line draws cycle = input_line (after (5 * cycle) draws)

-- the run with a number
abbrev pub run_text : Lcg → ℕ → List ℕ
run_text draws number =
    line (codes "run run" ++ (decimal number ++ codes " 256"))
    ++ (each (nth_input_line draws) 0 256 ++ line (codes "end"))

-- the run with i runs before it, of 1,280 draws each; the first run has the number 1
abbrev pub nth_run_text : Lcg → ℕ → List ℕ
nth_run_text draws i = run_text (after (1280 * i) draws) (i + 1)

unfoldable pub stimulus_text : Lcg → List ℕ
stimulus_text draws = each (nth_run_text draws) 0 32

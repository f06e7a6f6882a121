-- Draws: the 32-bit words of one generator, one after another.
use Rattle.std.specs.Prelude.{ℕ, ◌%◌}
use Rattle.rand_pcg.specs.Lcg.{Lcg, advance, started, increment_of}
use Rattle.rand_pcg.specs.Pcg.{multiplier_64, output_xsh_rr}

-- all draws of the generator of stream 1 that begins with this number
unfoldable pub draws_of : ℕ → Lcg
draws_of number = started 64 multiplier_64 number (increment_of 64 1)

-- the draws that are left after the next n of them
unfoldable pub after : ℕ → Lcg → Lcg
after n draws = advance 64 multiplier_64 n draws

-- the next draw, a 32-bit word
unfoldable pub draw : Lcg → ℕ
draw draws = output_xsh_rr draws.state

-- the next draw as a number below n
abbrev pub pick : Lcg → ℕ → ℕ
pick draws n = draw draws % n

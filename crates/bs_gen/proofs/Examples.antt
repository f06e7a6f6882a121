-- Worked names of the pool.
use Rattle.std.proofs.Common.{◌≡◌, refl}
use Rattle.std.specs.Prelude.{codes}
use Rattle.std.specs.Fmt.{digits}
use Rattle.bs_gen.specs.Names.{member}

first_stage : member 0 ≡ codes "r0_0"
unfolding member digits
first_stage = refl

last_stage : member 49 ≡ codes "r4_9"
unfolding member digits
last_stage = refl

first_counter_bit : member 50 ≡ codes "c0"
unfolding member digits
first_counter_bit = refl

last_counter_bit : member 58 ≡ codes "c8"
unfolding member digits
last_counter_bit = refl

first_drawn_net : member 59 ≡ codes "w0"
unfolding member digits
first_drawn_net = refl

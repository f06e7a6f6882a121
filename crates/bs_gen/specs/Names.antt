-- The names of a job's nets, and the pool of those that a drawn gate may read.
use Rattle.std.specs.Prelude.{ℕ, ◌-◌, ◌/◌, ◌%◌, nat_lt, List, ◌++◌, codes, decimal, if◌then◌else◌}

-- a stage of a shift register
abbrev pub stage : ℕ → ℕ → List ℕ
stage register i = codes "r" ++ (decimal register ++ (codes "_" ++ decimal i))

-- a bit of the counter
abbrev pub counter_bit : ℕ → List ℕ
counter_bit i = codes "c" ++ decimal i

-- the net that a drawn gate drives
abbrev pub drawn_net : ℕ → List ℕ
drawn_net j = codes "w" ++ decimal j

-- the pool's member with this number, from 0: ten stages of each of the five registers, the nine bits of the counter,
-- and then the nets of the drawn gates, as they are made
unfoldable pub member : ℕ → List ℕ
member n =
    if nat_lt n 50 then stage (n / 10) (n % 10)
    else (if nat_lt n 59 then counter_bit (n - 50) else drawn_net (n - 59))

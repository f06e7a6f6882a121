-- The nets whose values are settled before any input comes, as the program marks them.
use Rattle.std.specs.Prelude.{ℕ, Bool, true, false, List, [], ◌∷◌, map, replicate, slice_set}
use Rattle.bs_net.specs.Circuit.{Circuit, number, state_nets}
use Rattle.bs_wave.specs.declared.value.Value.{Value}
use Rattle.bs_wave.specs.declared.value.Value.TheVariants.{Unknown}
use Rattle.bs_wave.specs.Wave.{value_of}

-- the value of a bit where it is known
abbrev pub value_where : Bool → Bool → Value
value_where true bit = value_of bit
value_where false bit = Unknown

-- the values of bits, each where its mark says that it is known
abbrev pub values_where : List Bool → List Bool → List Value
values_where [] bits = []
values_where (k ∷ ks) [] = []
values_where (k ∷ ks) (b ∷ bs) = value_where k b ∷ values_where ks bs

-- a table of marks after each of some nets has this one
abbrev pub marked : Bool → List Bool → List ℕ → List Bool
marked bit table [] = table
marked bit table (n ∷ ns) = marked bit (slice_set table n bit) ns

-- every net is decided, but the inputs and the outputs of gates, and again the flip-flops' outputs, the constants and the clock
abbrev pub decided_marks : Circuit → List Bool
decided_marks c =
    marked true
    (marked true
    (marked true (marked false (marked false (replicate c.nets true) (map number c.inputs)) (map (λ g. g.out.0) c.gates)) (map number (state_nets c)))
    (map (λ k. k.net.0) c.constants)) (c.clock.0 ∷ [])

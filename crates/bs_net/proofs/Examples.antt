-- Small circuits, computed by the definitions.
use Rattle.std.proofs.Common.{◌≡◌, true, false, [], ◌∷◌, refl, Some, None, map}
use Rattle.bs_net.specs.declared.gate.Kind.TheVariants.{And, Nand, Or, Nor, Xor, Xnor, Buf, Not}
use Rattle.bs_net.specs.declared.net.Mode.{Mode}
use Rattle.bs_net.specs.declared.net.Mode.TheVariants.{Plain, Enable, Clear}
use Rattle.bs_net.specs.Circuit.{Circuit, next, settled, all_bits}
use Rattle.bs_net.specs.Gate.{gate_value}
use Rattle.bs_net.specs.Loops.{feeds_round}
use Rattle.bs_net.specs.Names.{number_of, net}

-- net 0 is the clock, net 1 the flip-flop, net 2 the input x, and net 3 their xor
abbrev toggle : Circuit
toggle =
    record {
      nets = 4;
      clock = net 0;
      inputs = net 2 ∷ [];
      flops = record { q = net 1; d = net 3; ck = net 0; reset = false; mode = Plain } ∷ [];
      gates = record { kind = Xor; out = net 3; ins = net 1 ∷ net 2 ∷ [] } ∷ [];
      constants = [];
    }

settles : settled toggle (true ∷ []) (true ∷ []) ≡ false ∷ true ∷ true ∷ false ∷ []
unfolding settled all_bits
settles = refl

steps_on : next toggle (true ∷ []) (true ∷ []) ≡ false ∷ []
unfolding next settled all_bits
steps_on = refl

-- net 0 is the clock, net 1 the flip-flop, net 2 its input, and net 3 another input
abbrev in_mode : Mode → Circuit
in_mode m =
    record {
      nets = 4;
      clock = net 0;
      inputs = net 2 ∷ net 3 ∷ [];
      flops = record { q = net 1; d = net 2; ck = net 0; reset = false; mode = m } ∷ [];
      gates = [];
      constants = [];
    }

-- an enabled flip-flop loads its input, and a disabled one its own bit
enabled_loads : next (in_mode (Enable (net 3))) (false ∷ []) (true ∷ true ∷ []) ≡ true ∷ []
unfolding next settled all_bits
enabled_loads = refl

disabled_keeps : next (in_mode (Enable (net 3))) (true ∷ []) (false ∷ false ∷ []) ≡ true ∷ []
unfolding next settled all_bits
disabled_keeps = refl

-- a clear loads 0 where it shows 1, and elsewhere the input
cleared_is_zero : next (in_mode (Clear (net 3))) (true ∷ []) (true ∷ true ∷ []) ≡ false ∷ []
unfolding next settled all_bits
cleared_is_zero = refl

uncleared_loads : next (in_mode (Clear (net 3))) (false ∷ []) (true ∷ false ∷ []) ≡ true ∷ []
unfolding next settled all_bits
uncleared_loads = refl

-- an enable that is its own q never lets a 0 go, and a clear that is its own d loads 0
own_output : next (in_mode (Enable (net 1))) (false ∷ []) (true ∷ false ∷ []) ≡ false ∷ []
unfolding next settled all_bits
own_output = refl

own_input : next (in_mode (Clear (net 2))) (true ∷ []) (true ∷ false ∷ []) ≡ false ∷ []
unfolding next settled all_bits
own_input = refl

-- a gate of each kind on three ones, and on one zero
kinds_of_ones : map (λ k. gate_value k (true ∷ true ∷ true ∷ [])) (And ∷ Nand ∷ Or ∷ Nor ∷ Xor ∷ Xnor ∷ []) ≡ true ∷ false ∷ true ∷ false ∷ true ∷ false ∷ []
kinds_of_ones = refl

kinds_of_zero : map (λ k. gate_value k (false ∷ [])) (And ∷ Nand ∷ Or ∷ Nor ∷ Xor ∷ Xnor ∷ Buf ∷ Not ∷ []) ≡ false ∷ true ∷ false ∷ true ∷ false ∷
    true ∷ false ∷ true ∷ []
kinds_of_zero = refl

-- a gate that reads itself is a loop, and so are two that read each other, from the lower number on
reads_itself : feeds_round (record { kind = Not; out = net 1; ins = net 1 ∷ [] } ∷ []) (0 ∷ []) ≡ true
reads_itself = refl

read_each_other : feeds_round (record { kind = Nand; out = net 1; ins = net 2 ∷ net 3 ∷ [] } ∷
    record { kind = Nand; out = net 2; ins = net 1 ∷ net 4 ∷ [] } ∷ []) (0 ∷ 1 ∷ []) ≡ true
read_each_other = refl

-- a name has its first place
first_name : number_of ((97 ∷ []) ∷ (98 ∷ []) ∷ (97 ∷ []) ∷ []) (97 ∷ []) ≡ Some 0
first_name = refl

no_name : number_of ((97 ∷ []) ∷ []) (98 ∷ []) ≡ None
no_name = refl

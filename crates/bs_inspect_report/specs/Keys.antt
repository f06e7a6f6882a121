-- The keys of a netlist's flip-flops and data inputs, in order.
use Rattle.std.specs.Prelude.{ℕ, List, map}
use Rattle.bs_net.specs.Parts.{Parts, key_at}
use Rattle.bs_net.specs.Netlist.{circuit_of}

-- the keys of the flip-flops, in the order of a state's bits
abbrev pub flop_keys : Parts → List (List ℕ)
flop_keys r = map (λ f. key_at r f.q.0) r.flops

-- the keys of the data inputs, in the order of an input's bits
abbrev pub input_keys : Parts → List (List ℕ)
input_keys r = map (λ n. key_at r n.0) (circuit_of r).inputs

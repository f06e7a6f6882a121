-- Gates that stand for modules: each drives the net of its module's number, and reads those of the modules that it instances.
use Rattle.std.specs.Prelude.{ℕ, Bool, nat_le, List, ◌∷◌, length, map, drop, reverse, slice_index_or}
use Rattle.std.specs.List.{range_with_len, list_all}
use Rattle.bs_net.specs.declared.net.NetId.{NetId}
use Rattle.bs_net.specs.declared.net.Gate.{Gate}
use Rattle.bs_net.specs.declared.gate.Kind.TheVariants.{And}
use Rattle.bs_net.specs.Names.{net}
use Rattle.bs_flat_meaning.specs.declared.children_first.TheConstants.{MOST}
use Rattle.bs_flat_meaning.specs.Rings.{instanced_by}

abbrev pub nets_of : List ℕ → List NetId
nets_of modules = map net modules

abbrev pub gate_of : ℕ → List ℕ → Gate
gate_of m instanced = record { kind = And; out = net m; ins = nets_of instanced }

abbrev pub gate_for : List (List ℕ) → ℕ → Gate
gate_for below m = gate_of m (instanced_by below m)

abbrev pub gates_of : List (List ℕ) → List Gate
gates_of below = map (gate_for below) (range_with_len 0 (length below))

-- a list the other way round, from the same member on
abbrev pub turned : List ℕ → List ℕ
turned loop = slice_index_or loop 0 0 ∷ reverse (drop 1 loop)

abbrev pub are_narrow : List (List ℕ) → Bool
are_narrow below = list_all (λ ns. nat_le (length ns) MOST) below

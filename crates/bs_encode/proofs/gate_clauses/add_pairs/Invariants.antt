use Rattle.std.proofs.Common.{◌≡◌, ◌∷◌, [], ◌++◌, map, take}
use Rattle.bs_encode.specs.Tables.{lit}
use Rattle.bs_encode.proofs.gate_clauses.add_pairs.Given as goal

abbrev pub invariant-loop-a : goal.invariant-loop-a
invariant-loop-a l = l.into ≡ l.initial.into ++ map (λ a. l.first ∷ lit a l.positive ∷ []) (take l.a-index l.ins)

use Rattle.std.proofs.Common.{◌≡◌, ◌∷◌, map, take}
use Rattle.bs_encode.specs.Tables.{lit}
use Rattle.bs_encode.proofs.gate_clauses.wide.Given as goal

abbrev pub invariant-loop-a : goal.invariant-loop-a
invariant-loop-a l = l.clause ≡ l.fn.first ∷ map (λ a. lit a l.positive) (take l.a-index l.ins)

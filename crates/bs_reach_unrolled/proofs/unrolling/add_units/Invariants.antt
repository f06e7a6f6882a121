use Rattle.std.proofs.Common.{◌≡◌, ◌++◌, ◌∷◌, [], take, map}
use Rattle.bs_reach_unrolled.proofs.unrolling.add_units.Given as goal

abbrev pub invariant-literals : goal.invariant-literals
invariant-literals l = l.into ≡ l.initial.into ++ map (λ u. u ∷ []) (take l.l-index l.literals)

use Rattle.std.proofs.Common.{◌≡◌, ◌∷◌, take}
use Rattle.bs_solve_lemmas.proofs.opening.guarded.Given as goal

abbrev pub invariant-loop-literal : goal.invariant-loop-literal
invariant-loop-literal l = l.clause ≡ l.fn.first ∷ take l.literal-index l.rest

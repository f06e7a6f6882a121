use Rattle.std.proofs.Common.{◌≡◌, ◌⊎◌, take}
use Rattle.std.specs.Prelude.{All}
use Rattle.bs_clause.specs.Literal.{negation}
use Rattle.bs_reach_unrolled.specs.Chain.{IsBefore}
use Rattle.bs_reach_unrolled.proofs.chain.are_settled.Given as goal

abbrev pub invariant-literals : goal.invariant-literals
invariant-literals l = All (λ m. (m ≡ l.l) ⊎ IsBefore l.literals l.i (negation m)) (take l.m-index l.clause)

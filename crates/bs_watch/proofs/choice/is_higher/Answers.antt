use Rattle.std.proofs.Common.{◌≤◌, subst, arith, inl, inr}
use Rattle.std.proofs.lemmas.Bool.{cases_lt, ltb-true, lt-ltb}
use Rattle.bs_watch.specs.Trail.{IsFalseOn, IsTrueOn}
use Rattle.bs_watch.specs.Places.{literals_of}
use Rattle.bs_watch.proofs.choice.is_higher.Goals as goal

pub returns-clause-higher : goal.returns-clause-higher
returns-clause-higher c = λ more lost.
    let lost_m : IsFalseOn (literals_of c.args.trail.now.places) c.args.m =
    subst (IsTrueOn (literals_of c.args.trail.now.places)) c.negate.ensures (c.is_true.ensures.0 c.if-not-is_true.false) in (
      lost_m,
      λ i j on_i on_j. omega
          (arith, ltb-true c.level_of-2.result c.level_of.result more, c.level_of.ensures.only i on_i, c.level_of-2.ensures.only j on_j),
    )

pub returns-clause-not_higher : goal.returns-clause-not_higher
returns-clause-not_higher c = λ less lost.
    let lost_l : IsFalseOn (literals_of c.args.trail.now.places) c.args.l =
    subst (IsTrueOn (literals_of c.args.trail.now.places)) c.negate-2.ensures (c.is_true-2.ensures.0 c.if-not-is_true-2.false) in (
      lost_l,
      λ j i on_j on_i.
          elim (cases_lt c.level_of-2.result c.level_of.result) as (λ _. i ≤ j) [
            | inl before ↦ absurd (less (lt-ltb c.level_of-2.result c.level_of.result before))
            | inr after ↦ omega (arith, after, c.level_of.ensures.only i on_i, c.level_of-2.ensures.only j on_j)
          ],
    )

use Rattle.std.proofs.Common.{◌≡◌, ℕ, arith, refl, subst}
use Rattle.bs_lanes.specs.Planes.{IsPadded}
use Rattle.bs_lanes.proofs.PlaneLemmas.{none_padded, one_padded}
use Rattle.bs_lanes.proofs.plane.padded.Goals as goal

pub words-init : goal.words-init
words-init c = none_padded _ _

pub words-preserved : goal.words-preserved
words-preserved c = one_padded _ _ c.words.i _ c.words.all (omega (arith, c.words-test.true, c.requires.few)) refl c.words.invariant

pub returns : goal.returns
returns c =
    let P : ℕ → Type 0 = λ k. IsPadded c.args.words.now c.args.start k c.words.all in
    let all : c.words.i ≡ c.args.count = omega (arith, c.words-test.false, c.words.auto.i-end) in
    subst P all c.words.invariant

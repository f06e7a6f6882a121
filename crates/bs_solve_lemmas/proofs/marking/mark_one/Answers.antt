use Rattle.std.proofs.Common.{◌≡◌, Bool, true, false, not, ◌&&◌, take, refl, sym, ap, ◌∙◌, inl, inr}
use Rattle.std.proofs.lemmas.Bool.{false≢true}
use Rattle.bs_clause.specs.Literal.{negation, has_literal}
use Rattle.bs_watch.specs.Trail.{IsFalseOn}
use Rattle.bs_watch.specs.Places.{literals_of}
use Rattle.bs_solve_lemmas.specs.Reasons.{last_start}
use Rattle.bs_solve_lemmas.specs.Marks.{is_marked}
use Rattle.bs_solve_lemmas.proofs.Points.{is_ahead}
use Rattle.bs_solve_lemmas.proofs.marking.mark_one.Goals as goal

off : (b : Bool) → not b ≡ true → b ≡ false
off true e = sym e
off false e = refl

pub returns-clause-is_ahead : goal.returns-clause-is_ahead
returns-clause-is_ahead c =
    let places = c.args.watch.now.trail.places in
    let levels = c.args.watch.now.levels in
    let is_new : not (is_marked c.args.marks.now c.args.m) ≡ true = sym c.in_ok-add.ensures.is_new ∙ c.if-not-branch.false in
    let lost : IsFalseOn (literals_of places) c.args.m = elim c.requires.known [
      | inl is_set ↦ absurd (false≢true (sym (off (is_marked c.args.marks.now c.args.m) is_new) ∙ is_set))
      | inr f ↦ f
    ] in
    is_ahead places levels c.args.m c.level_of.result c.level.result c.holds_levels.ensures.apart c.holds_levels.ensures.levels lost c.level_of.ensures
    c.level.ensures ∙
    sym (ap (λ b. b && not (has_literal (literals_of (take (last_start levels) places)) (negation c.args.m))) is_new)

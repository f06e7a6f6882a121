use Rattle.std.proofs.Common.{◌≡◌, ◌≤◌, map, Some, sym, ap, subst, ◌∙◌, arith, inl, inr}
use Rattle.std.specs.Prelude.{slice_get}
use Rattle.std.proofs.lemmas.Bool.{cases_eq}
use Rattle.std.proofs.lemmas.List.{length-map}
use Rattle.bs_clause.specs.Literal.{Literal}
use Rattle.bs_arena.specs.Arena.{literal_of}
use Rattle.bs_watch.specs.Trail.{IsFalseOn, IsTrueOn}
use Rattle.bs_watch.specs.Places.{literals_of}
use Rattle.bs_watch.proofs.Codes.{read_code, range_at}
use Rattle.bs_watch.proofs.Gets.{get_within, same_some}
use Rattle.bs_watch.proofs.clause_look.free_place.Goals as goal

pub is_true-requires : goal.is_true-requires
is_true-requires c =
    let there : slice_get (map literal_of c.args.codes.now) c.loop-place.place ≡ Some c.from_code.result =
    read_code c.args.codes.now c.loop-place.place c.from_code.result c.loop-place-test.true c.from_code.ensures in
    subst (λ (l : Literal). l.variable ≤ c.args.trail.now.vars) (sym c.negate.ensures)
    (range_at c.args.trail.now.vars (map literal_of c.args.codes.now) c.loop-place.place c.from_code.result c.requires.range there).1

pub loop-place-preserved : goal.loop-place-preserved
loop-place-preserved c = λ k m low before there.
    let here : slice_get (map literal_of c.args.codes.now) c.loop-place.place ≡ Some c.from_code.result =
    read_code c.args.codes.now c.loop-place.place c.from_code.result c.loop-place-test.true c.from_code.ensures in
    let lost : IsFalseOn (literals_of c.args.trail.now.places) c.from_code.result =
    subst (IsTrueOn (literals_of c.args.trail.now.places)) c.negate.ensures (c.is_true.ensures.0 c.if-not-is_true.false) in
    elim (cases_eq k c.loop-place.place) as (λ _. IsFalseOn (literals_of c.args.trail.now.places) m) [
      | inl same ↦ subst (IsFalseOn (literals_of c.args.trail.now.places))
          (same_some c.from_code.result m (sym here ∙ ap (slice_get (map literal_of c.args.codes.now)) (sym same) ∙ there)) lost
      | inr other ↦ c.loop-place.invariant k m low (omega arith) there
    ]

pub returns-clause-none : goal.returns-clause-none
returns-clause-none c = λ k m low there.
    c.loop-place.invariant k m low
    (omega (arith, c.loop-place-test.false, get_within (map literal_of c.args.codes.now) k m there, length-map c.args.codes.now literal_of)) there

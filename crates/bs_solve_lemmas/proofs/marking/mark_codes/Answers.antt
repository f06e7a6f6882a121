use Rattle.std.proofs.Common.{◌≡◌, ◌⊎◌, ◌+◌, ◌<◌, length, map, take, drop, cond, suc, true, arith, ap, sym, subst, ◌∙◌, inl, inr}
use Rattle.std.specs.Prelude.{slice_get}
use Rattle.std.proofs.Common.{Some}
use Rattle.std.proofs.lemmas.List.{take_all, length-map}
use Rattle.std.proofs.lemmas.List.Elements.{All-contains}
use Rattle.bs_arena.specs.Arena.{literal_of}
use Rattle.bs_watch.specs.Trail.{IsFalseOn}
use Rattle.bs_watch.specs.Places.{literals_of}
use Rattle.bs_watch.proofs.Codes.{read_code}
use Rattle.bs_watch.proofs.Gets.{Contains_from_get}
use Rattle.bs_solve_lemmas.specs.Reasons.{last_start}
use Rattle.bs_solve_lemmas.specs.Marks.{MarkState, is_marked, marks_in, HasMarked}
use Rattle.bs_solve_lemmas.proofs.MarkWalks.{count_step}
use Rattle.bs_solve_lemmas.proofs.marking.mark_codes.Goals.{then-branch, else-branch}
use Rattle.bs_solve_lemmas.proofs.marking.mark_codes.Goals as goal

pub mark_one-requires-clause-range : goal.mark_one-requires-clause-range
mark_one-requires-clause-range c =
    let clause = map literal_of c.args.codes.now in
    let m = c.from_code.result in
    let there : slice_get clause c.loop-place.place ≡ Some m = read_code c.args.codes.now c.loop-place.place m c.loop-place-test.true c.from_code.ensures in
    let within : m.variable < length c.args.marks.now.flags =
    All-contains (λ l. l.variable < length c.args.marks.now.flags) clause m c.requires.range (Contains_from_get clause c.loop-place.place m there) in
    omega (arith, within, c.loop-place.invariant.marked.length_is)

pub mark_one-requires-clause-known : goal.mark_one-requires-clause-known
mark_one-requires-clause-known c =
    let clause = map literal_of c.args.codes.now in
    let m = c.from_code.result in
    let there : slice_get clause c.loop-place.place ≡ Some m = read_code c.args.codes.now c.loop-place.place m c.loop-place-test.true c.from_code.ensures in
    elim (All-contains (λ l. (is_marked c.args.marks.now l ≡ true) ⊎ IsFalseOn (literals_of c.args.watch.now.trail.places) l) clause m c.requires.known
    (Contains_from_get clause c.loop-place.place m there)) as
    (λ _. (is_marked c.loop-place.marks m ≡ true) ⊎ IsFalseOn (literals_of c.args.watch.now.trail.places) m) [
      | inl old ↦ inl (c.loop-place.invariant.marked.kept m.variable old)
      | inr lost ↦ inr lost
    ]

pub loop-place-preserved : goal.loop-place-preserved
loop-place-preserved c =
    let first = c.args.marks.now in
    let places = c.args.watch.now.trail.places in
    let start = last_start c.args.watch.now.levels in
    let clause = map literal_of c.args.codes.now in
    let m = c.from_code.result in
    let there : slice_get clause c.loop-place.place ≡ Some m = read_code c.args.codes.now c.loop-place.place m c.loop-place-test.true c.from_code.ensures in
    let step = count_step first c.loop-place.marks clause c.loop-place.place m places start c.loop-place.ahead there
    c.holds_levels.ensures.apart c.requires.range c.requires.known c.loop-place.invariant.marked c.loop-place.invariant.count in
    let marked : HasMarked first c.mark_one.new.marks (take (c.loop-place.place + 1) clause) =
    subst (λ n. HasMarked first c.mark_one.new.marks (take n clause)) (let e : suc c.loop-place.place ≡ c.loop-place.place + 1 = omega arith in e)
    (subst (λ s. HasMarked first s (take (suc c.loop-place.place) clause)) (sym c.in_ok-mark_one.ensures.state) step.0) in
    let count : marks_in c.mark_one.new.marks (drop start places) ≡ cond c.in_ok-mark_one.field-0 1 0 +
    (c.loop-place.ahead + marks_in first (drop start places)) =
    ap (λ (s : MarkState). marks_in s (drop start places)) c.in_ok-mark_one.ensures.state ∙ step.1 ∙
    ap (λ b. cond b 1 0 + (c.loop-place.ahead + marks_in first (drop start places))) (sym c.in_ok-mark_one.ensures.is_ahead) in
    let low = c.loop-place.invariant.low in
    elim c.if-branch.branch [
      | then-branch w ↦ record {
        marked = marked;
        count = count ∙ ap (λ b. cond b 1 0 + (c.loop-place.ahead + marks_in first (drop start places))) w.if-branch.true ∙
            (let e : 1 + (c.loop-place.ahead + marks_in first (drop start places)) ≡ c.if-branch.ahead + marks_in first (drop start places) =
            omega (arith, w.ahead-is) in e);
        low = omega (arith, low, w.ahead-is);
      }
      | else-branch w ↦ record {
        marked = marked;
        count = count ∙ ap (λ b. cond b 1 0 + (c.loop-place.ahead + marks_in first (drop start places))) w.if-branch.false ∙
            (let e : 0 + (c.loop-place.ahead + marks_in first (drop start places)) ≡ c.if-branch.ahead + marks_in first (drop start places) =
            omega (arith, w.ahead-is) in e);
        low = omega (arith, low, w.ahead-is);
      }
    ]

pub returns-clause-marked : goal.returns-clause-marked
returns-clause-marked c =
    let clause = map literal_of c.args.codes.now in
    subst (HasMarked c.args.marks.now c.loop-place.marks)
    (take_all c.loop-place.place clause (omega (arith, c.loop-place-test.false, length-map c.args.codes.now literal_of))) c.loop-place.invariant.marked

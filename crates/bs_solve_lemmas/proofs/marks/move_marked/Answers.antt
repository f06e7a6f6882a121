use Rattle.std.proofs.Common.{◌≡◌, ◌+◌, ◌<◌, ◌++◌, ◌∷◌, [], length, take, suc, false, arith, ap, sym, subst, ◌∙◌, refl, get_or}
use Rattle.std.proofs.lemmas.List.{take_all, get_or_default}
use Rattle.std.proofs.lemmas.List.Elements.{All-contains}
use Rattle.std.proofs.lemmas.Option.{slice_get_read}
use Rattle.bs_watch.proofs.Gets.{take_push_at, Contains_from_get}
use Rattle.bs_solve_lemmas.proofs.Moving.{Moving, moving_past, moving_step, moving_end}
use Rattle.bs_solve_lemmas.proofs.marks.move_marked.Goals.{then-index+in_ok-push, else-index}
use Rattle.bs_solve_lemmas.proofs.marks.move_marked.Goals as goal

pub loop-l-preserved : goal.loop-l-preserved
loop-l-preserved c =
    let first = c.args.flags.now.items in
    let now = c.loop-l.flags.items in
    let touched = c.args.touched.now in
    let m = c.l-item.result in
    let at = slice_get_read touched (length touched) c.loop-l.l-index m refl c.loop-l-test.true c.l-item.is in
    let range : m.variable < length first =
    All-contains (λ x. x.variable < length first) touched m c.requires.in_range (Contains_from_get touched c.loop-l.l-index m at) in
    let within : m.variable < length now = omega (arith, range, c.loop-l.invariant.length_is) in
    let is : get_or now m.variable false ≡ c.index.result.now =
    ap (λ v. get_or now v false) (sym c.var.ensures.variable) ∙
    get_or_default now c.var.result.0 false c.index.result.now (omega (arith, within, c.var.ensures.variable)) ∙ sym c.index.ensures in
    let seen : take (c.loop-l.l-index + 1) touched ≡ take c.loop-l.l-index touched ++ m ∷ [] =
    ap (λ n. take n touched) (let e : c.loop-l.l-index + 1 ≡ suc c.loop-l.l-index = omega arith in e) ∙ take_push_at touched c.loop-l.l-index m at in
    subst (Moving first c.if-index.flags.items c.args.lits.now c.if-index.lits) (sym seen) (elim c.if-index.branch [
      | then-index+in_ok-push w ↦
          subst (λ ls. Moving first c.if-index.flags.items c.args.lits.now ls (take c.loop-l.l-index touched ++ m ∷ []))
          (sym (w.lits-is ∙ w.in_ok-push.ensures.ok))
          (subst (λ fs. Moving first fs c.args.lits.now (c.loop-l.lits ++ m ∷ []) (take c.loop-l.l-index touched ++ m ∷ []))
          (sym (ap (λ f. f.items) w.flags-is ∙ w.set_flag.ensures))
          (moving_step first now c.args.lits.now c.loop-l.lits (take c.loop-l.l-index touched) m within (is ∙ w.if-index.true) c.loop-l.invariant))
      | else-index w ↦
          subst (λ ls. Moving first c.if-index.flags.items c.args.lits.now ls (take c.loop-l.l-index touched ++ m ∷ [])) (sym w.lits-is)
          (subst (λ fs. Moving first fs c.args.lits.now c.loop-l.lits (take c.loop-l.l-index touched ++ m ∷ [])) (sym (ap (λ f. f.items) w.flags-is))
          (moving_past first now c.args.lits.now c.loop-l.lits (take c.loop-l.l-index touched) m (is ∙ w.if-index.false) c.loop-l.invariant))
    ])

pub returns : goal.returns
returns c =
    let touched = c.args.touched.now in
    moving_end c.args.flags.now.items c.loop-l.flags.items c.args.lits.now c.loop-l.lits touched c.requires
    (subst (Moving c.args.flags.now.items c.loop-l.flags.items c.args.lits.now c.loop-l.lits)
    (take_all c.loop-l.l-index touched (omega (arith, c.loop-l-test.false))) c.loop-l.invariant)

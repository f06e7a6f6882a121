use Rattle.std.proofs.Common.{ℕ, ◌≡◌, ◌<◌, ◌≤◌, ◌+◌, not, true, false, length, take, sym, ap, subst, refl, ◌∙◌, arith, Some}
use Rattle.std.specs.Prelude.{All, slice_get}
use Rattle.std.proofs.lemmas.List.Elements.{All-weaker}
use Rattle.std.proofs.lemmas.Option.{slice_get_read}
use Rattle.bs_solve_lemmas.specs.Notes.{IsThinned}
use Rattle.bs_solve_lemmas.proofs.Removals.{thinned_start, thinned_at, thinned_no, thinned_yes}
use Rattle.bs_solve_lemmas.specs.Ids.{is_among}
use Rattle.bs_solve_lemmas.proofs.Rising.{less_later}
use Rattle.bs_solve_lemmas.proofs.ids.take_out_from.Goals.{then-not-is_leaving, else-not-is_leaving}
use Rattle.bs_solve_lemmas.proofs.ids.take_out_from.Goals as goal

pub ids-init : goal.ids-init
ids-init c = record {
  thinned = thinned_start (λ (x : ℕ). not (is_among c.args.gone.now x)) c.args.ids.now.items c.args.from
      (All-weaker (λ x. is_among c.args.gone.now x ≡ false) (λ x. not (is_among c.args.gone.now x) ≡ true) (λ x stays. ap not stays)
      (take c.args.from c.args.ids.now.items) c.requires.stay);
  low = omega arith;
  less = λ j id past at k d within. absurd (omega (arith, within));
}

pub is_leaving-requires-clause-less : goal.is_leaving-requires-clause-less
is_leaving-requires-clause-less c =
    let now = c.ids.ids.items in
    let within : c.ids.place < length now = omega (arith, c.ids-test.true, c.len-place-end.ensures, c.args.ids.now.ok.0, c.ids.invariant.thinned.long) in
    let at : slice_get now c.ids.place ≡ Some c.index-id.result.now =
    slice_get_read now (length now) c.ids.place c.index-id.result.now refl within c.index-id.ensures in
    c.ids.invariant.less c.ids.place c.index-id.result.now (omega arith)
    (thinned_at (λ (x : ℕ). not (is_among c.args.gone.now x)) c.args.ids.now.items now c.ids.place c.ids.kept c.index-id.result.now
    c.ids.invariant.thinned at)

pub ids-preserved : goal.ids-preserved
ids-preserved c =
    let old = c.args.ids.now.items in
    let now = c.ids.ids.items in
    let within : c.ids.place < length now = omega (arith, c.ids-test.true, c.len-place-end.ensures, c.args.ids.now.ok.0, c.ids.invariant.thinned.long) in
    let at : slice_get now c.ids.place ≡ Some c.index-id.result.now =
    slice_get_read now (length now) c.ids.place c.index-id.result.now refl within c.index-id.ensures in
    let at_old : slice_get old c.ids.place ≡ Some c.index-id.result.now =
    thinned_at (λ (x : ℕ). not (is_among c.args.gone.now x)) old now c.ids.place c.ids.kept c.index-id.result.now c.ids.invariant.thinned at in
    record {
      thinned = elim c.if-not-is_leaving.branch [
        | then-not-is_leaving w ↦
            subst (λ n. IsThinned (λ (x : ℕ). not (is_among c.args.gone.now x)) old c.if-not-is_leaving.ids.items (c.ids.place + 1) n) (sym w.kept-is)
            (subst (λ xs. IsThinned (λ (x : ℕ). not (is_among c.args.gone.now x)) old xs (c.ids.place + 1) (c.ids.kept + 1))
            (sym (ap (λ v. v.items) w.ids-is ∙ w.put_id.ensures))
            (thinned_yes (λ (x : ℕ). not (is_among c.args.gone.now x)) old now c.ids.place c.ids.kept c.index-id.result.now at
            (ap not (sym c.is_leaving.ensures.result ∙ w.if-not-is_leaving.true)) c.ids.invariant.thinned))
        | else-not-is_leaving w ↦
            subst (λ n. IsThinned (λ (x : ℕ). not (is_among c.args.gone.now x)) old c.if-not-is_leaving.ids.items (c.ids.place + 1) n) (sym w.kept-is)
            (subst (λ xs. IsThinned (λ (x : ℕ). not (is_among c.args.gone.now x)) old xs (c.ids.place + 1) c.ids.kept)
            (sym (ap (λ v. v.items) w.ids-is))
            (thinned_no (λ (x : ℕ). not (is_among c.args.gone.now x)) old now c.ids.place c.ids.kept c.index-id.result.now at
            (ap not (sym c.is_leaving.ensures.result ∙ w.if-not-is_leaving.false)) c.ids.invariant.thinned))
      ];
      low = c.is_leaving.ensures.low;
      less = λ j id past at_j. less_later old c.args.gone.now c.is_leaving.new.next c.ids.place j c.index-id.result.now id c.requires.ids at_old
          (omega (arith, past)) at_j c.is_leaving.ensures.less;
    }

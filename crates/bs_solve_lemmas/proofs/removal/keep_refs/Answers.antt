use Rattle.std.proofs.Common.{ℕ, ◌≡◌, ◌<◌, ◌+◌, length, sym, ap, subst, refl, ◌∙◌, arith, Some}
use Rattle.std.specs.Prelude.{slice_get, is_some, Contains}
use Rattle.std.proofs.lemmas.List.Elements.{All-contains}
use Rattle.std.proofs.lemmas.Option.{slice_get_read}
use Rattle.bs_arena.specs.Arena.{held_at}
use Rattle.bs_watch.proofs.Gets.{Contains_from_get}
use Rattle.bs_solve_lemmas.specs.Notes.{IsThinned}
use Rattle.bs_solve_lemmas.proofs.Removals.{thinned_start, thinned_at, thinned_no, thinned_yes}
use Rattle.bs_solve_lemmas.proofs.removal.keep_refs.Goals.{then-is_live, else-is_live}
use Rattle.bs_solve_lemmas.proofs.removal.keep_refs.Goals as goal

pub refs-init : goal.refs-init
refs-init c = thinned_start (λ (x : ℕ). is_some (held_at c.args.arena.now.clauses x)) c.args.refs.now.items c.args.from c.requires.live

pub is_live-requires : goal.is_live-requires
is_live-requires c =
    let now = c.refs.refs.items in
    let within : c.refs.place < length now = omega (arith, c.refs-test.true, c.len-place-end.ensures, c.args.refs.now.ok.0, c.refs.invariant.long) in
    let at : slice_get now c.refs.place ≡ Some c.index-r.result.now =
    slice_get_read now (length now) c.refs.place c.index-r.result.now refl within c.index-r.ensures in
    All-contains (Contains c.args.arena.now.places) c.args.refs.now.items c.index-r.result.now c.requires.known
    (Contains_from_get c.args.refs.now.items c.refs.place c.index-r.result.now
    (thinned_at (λ (x : ℕ). is_some (held_at c.args.arena.now.clauses x)) c.args.refs.now.items now c.refs.place c.refs.kept c.index-r.result.now
    c.refs.invariant at))

pub put_ref-requires : goal.put_ref-requires
put_ref-requires c =
    omega (arith, c.refs-test.true, c.len-place-end.ensures, c.args.refs.now.ok.0, c.refs.invariant.long, c.refs.invariant.few)

pub refs-preserved : goal.refs-preserved
refs-preserved c =
    let old = c.args.refs.now.items in
    let now = c.refs.refs.items in
    let within : c.refs.place < length now = omega (arith, c.refs-test.true, c.len-place-end.ensures, c.args.refs.now.ok.0, c.refs.invariant.long) in
    let at : slice_get now c.refs.place ≡ Some c.index-r.result.now =
    slice_get_read now (length now) c.refs.place c.index-r.result.now refl within c.index-r.ensures in
    elim c.if-is_live.branch [
      | then-is_live w ↦
          subst (λ n. IsThinned (λ (x : ℕ). is_some (held_at c.args.arena.now.clauses x)) old c.if-is_live.refs.items (c.refs.place + 1) n) (sym w.kept-is)
          (subst (λ xs. IsThinned (λ (x : ℕ). is_some (held_at c.args.arena.now.clauses x)) old xs (c.refs.place + 1) (c.refs.kept + 1))
          (sym (ap (λ v. v.items) w.refs-is ∙ w.put_ref.ensures))
          (thinned_yes (λ (x : ℕ). is_some (held_at c.args.arena.now.clauses x)) old now c.refs.place c.refs.kept c.index-r.result.now at
          (sym c.is_live.ensures ∙ w.if-is_live.true) c.refs.invariant))
      | else-is_live w ↦
          subst (λ n. IsThinned (λ (x : ℕ). is_some (held_at c.args.arena.now.clauses x)) old c.if-is_live.refs.items (c.refs.place + 1) n) (sym w.kept-is)
          (subst (λ xs. IsThinned (λ (x : ℕ). is_some (held_at c.args.arena.now.clauses x)) old xs (c.refs.place + 1) c.refs.kept)
          (sym (ap (λ v. v.items) w.refs-is))
          (thinned_no (λ (x : ℕ). is_some (held_at c.args.arena.now.clauses x)) old now c.refs.place c.refs.kept c.index-r.result.now at
          (sym c.is_live.ensures ∙ w.if-is_live.false) c.refs.invariant))
    ]

use Rattle.std.proofs.Common.{◌≡◌, ◌<◌, ◌+◌, length, sym, ap, subst, refl, ◌∙◌, arith, Some}
use Rattle.std.specs.Prelude.{slice_get, is_some, Contains}
use Rattle.std.proofs.lemmas.List.Elements.{All-contains}
use Rattle.std.proofs.lemmas.Option.{slice_get_read}
use Rattle.bs_arena.specs.Arena.{held_at}
use Rattle.bs_watch.proofs.Gets.{Contains_from_get}
use Rattle.bs_solve_lemmas.specs.declared.row.LoggedClause.{LoggedClause}
use Rattle.bs_solve_lemmas.specs.Notes.{IsThinned}
use Rattle.bs_solve_lemmas.proofs.Removals.{thinned_start, thinned_at, thinned_no, thinned_yes}
use Rattle.bs_solve_lemmas.proofs.removal.keep_rows.Goals.{then-is_live, else-is_live}
use Rattle.bs_solve_lemmas.proofs.removal.keep_rows.Goals as goal

pub rows-init : goal.rows-init
rows-init c = thinned_start (λ (x : LoggedClause). is_some (held_at c.args.arena.now.clauses x.clause)) c.args.rows.now.items c.args.from c.requires.live

pub is_live-requires : goal.is_live-requires
is_live-requires c =
    let now = c.rows.rows.items in
    let within : c.rows.place < length now = omega (arith, c.rows-test.true, c.len-place-end.ensures, c.args.rows.now.ok.0, c.rows.invariant.long) in
    let at : slice_get now c.rows.place ≡ Some c.index-row.result.now =
    slice_get_read now (length now) c.rows.place c.index-row.result.now refl within c.index-row.ensures in
    All-contains (λ (x : LoggedClause). Contains c.args.arena.now.places x.clause) c.args.rows.now.items c.index-row.result.now c.requires.known
    (Contains_from_get c.args.rows.now.items c.rows.place c.index-row.result.now
    (thinned_at (λ (x : LoggedClause). is_some (held_at c.args.arena.now.clauses x.clause)) c.args.rows.now.items now c.rows.place c.rows.kept
    c.index-row.result.now c.rows.invariant at))

pub put_row-requires : goal.put_row-requires
put_row-requires c =
    omega (arith, c.rows-test.true, c.len-place-end.ensures, c.args.rows.now.ok.0, c.rows.invariant.long, c.rows.invariant.few)

pub rows-preserved : goal.rows-preserved
rows-preserved c =
    let old = c.args.rows.now.items in
    let now = c.rows.rows.items in
    let within : c.rows.place < length now = omega (arith, c.rows-test.true, c.len-place-end.ensures, c.args.rows.now.ok.0, c.rows.invariant.long) in
    let at : slice_get now c.rows.place ≡ Some c.index-row.result.now =
    slice_get_read now (length now) c.rows.place c.index-row.result.now refl within c.index-row.ensures in
    elim c.if-is_live.branch [
      | then-is_live w ↦
          subst (λ n. IsThinned (λ (x : LoggedClause). is_some (held_at c.args.arena.now.clauses x.clause)) old c.if-is_live.rows.items (c.rows.place + 1) n)
          (sym w.kept-is)
          (subst (λ xs. IsThinned (λ (x : LoggedClause). is_some (held_at c.args.arena.now.clauses x.clause)) old xs (c.rows.place + 1) (c.rows.kept + 1))
          (sym (ap (λ v. v.items) w.rows-is ∙ w.put_row.ensures))
          (thinned_yes (λ (x : LoggedClause). is_some (held_at c.args.arena.now.clauses x.clause)) old now c.rows.place c.rows.kept c.index-row.result.now at
          (sym c.is_live.ensures ∙ w.if-is_live.true) c.rows.invariant))
      | else-is_live w ↦
          subst (λ n. IsThinned (λ (x : LoggedClause). is_some (held_at c.args.arena.now.clauses x.clause)) old c.if-is_live.rows.items (c.rows.place + 1) n)
          (sym w.kept-is)
          (subst (λ xs. IsThinned (λ (x : LoggedClause). is_some (held_at c.args.arena.now.clauses x.clause)) old xs (c.rows.place + 1) c.rows.kept)
          (sym (ap (λ v. v.items) w.rows-is))
          (thinned_no (λ (x : LoggedClause). is_some (held_at c.args.arena.now.clauses x.clause)) old now c.rows.place c.rows.kept c.index-row.result.now at
          (sym c.is_live.ensures ∙ w.if-is_live.false) c.rows.invariant))
    ]

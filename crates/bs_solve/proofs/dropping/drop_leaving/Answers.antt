use Rattle.std.proofs.Common.{◌∙◌, length, ap, sym, subst}
use Rattle.std.proofs.lemmas.List.{length-map}
use Rattle.bs_watch.specs.Places.{Place}
use Rattle.bs_watch.proofs.CallerLemmas.{attached_is_live}
use Rattle.bs_solve_lemmas.specs.Notes.{AreOut}
use Rattle.bs_solve_lemmas.proofs.Removals.{live_placed}
use Rattle.bs_solve.proofs.Droppings.{staying_out, has_dropped}
use Rattle.bs_solve.proofs.dropping.drop_leaving.Goals as goal

pub take_out-requires-clause-placed : goal.take_out-requires-clause-placed
take_out-requires-clause-placed c = record {
  each = λ r a. live_placed c.args.arena.now.clauses c.args.arena.now.places r c.holds_clauses.ensures.placed
      (attached_is_live c.args.watch.now c.args.arena.now.clauses c.requires.serves r a);
}

pub returns-clause-dropped : goal.returns-clause-dropped
returns-clause-dropped c =
    has_dropped c.args.watch.now c.take_out.new.watch c.args.arena.now.clauses c.take_out.new.arena.clauses c.args.database.now _ c.args.leaving.now.start
    c.args.leaving.now.ids c.args.leaving.now.clauses.items c.args.leaving.now.watched.items (record {
      gone = c.requires.gone;
      held = c.requires.held;
      ascends = c.requires.ascends;
      killed = c.take_out.ensures.killed;
      rows = c.take_out.ensures.rows;
      shorts = c.take_out.ensures.shorts;
    }) c.requires.staying c.take_out.ensures.swept

pub take_out-requires-clause-out : goal.take_out-requires-clause-out
take_out-requires-clause-out c =
    let count = ap length c.trail-stand.ensures ∙ length-map c.args.watch.now.trail.places (λ (p : Place). p.literal) in
    subst (λ n. AreOut c.args.database.now.shorts.items n c.args.leaving.now.clauses.items) (sym count)
    (staying_out c.args.arena.now.clauses c.args.database.now c.args.watch.now.trail.places c.args.leaving.now.start c.args.leaving.now.ids
    c.args.leaving.now.clauses.items c.args.leaving.now.watched.items c.requires.held c.requires.gone c.requires.staying)

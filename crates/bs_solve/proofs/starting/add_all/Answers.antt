use Rattle.std.proofs.Common.{◌≡◌, ◌+◌, Some, length, refl, ap, subst, ◌∙◌}
use Rattle.std.specs.Prelude.{slice_get}
use Rattle.std.proofs.lemmas.Option.{slice_get_read}
use Rattle.bs_log.specs.declared.origin.Origin.TheVariants.{Axiom}
use Rattle.bs_solve.specs.Ground.{HasAdded}
use Rattle.bs_watch.specs.Places.{TrailState}
use Rattle.bs_solve.proofs.Startings.{axiom_added, words_of_first, off_empty}
use Rattle.bs_solve.proofs.starting.add_all.Goals as goal

pub clauses-preserved : goal.clauses-preserved
clauses-preserved c =
    let clauses = c.args.clauses.now in
    let at : slice_get clauses c.clauses.at ≡ Some c.index-clauses-at.result =
    slice_get_read clauses (length clauses) c.clauses.at c.index-clauses-at.result refl c.clauses-test.true c.index-clauses-at.is in
    record {
      holds_entries = axiom_added c.clauses.watch c.add_clause.new.watch c.clauses.arena.clauses c.add_clause.new.arena.clauses c.clauses.database
          c.add_clause.new.database clauses c.clauses.at (c.clauses.at + 1) c.index-clauses-at.result
          (subst (λ ls. HasAdded c.clauses.watch.lists c.add_clause.new.watch.lists c.clauses.arena.clauses c.add_clause.new.arena.clauses
          c.clauses.database c.add_clause.new.database (record { id = c.clauses.at + 1; origin = Axiom; literals = ls })) c.slice.ensures
          c.in_ok-add_clause.ensures.holds_entries) at refl c.clauses.invariant.holds_entries;
      serves = c.in_ok-add_clause.ensures.serves;
      trail = c.in_ok-add_clause.ensures.trail ∙ c.clauses.invariant.trail;
      levels = c.in_ok-add_clause.ensures.levels ∙ c.clauses.invariant.levels;
      words = words_of_first c.clauses.arena.words c.add_clause.new.arena.words c.clauses.arena.clauses c.add_clause.new.arena.clauses
          c.in_ok-add_clause.ensures.words c.clauses.invariant.words;
    }

pub add_clause-requires-clause-off : goal.add_clause-requires-clause-off
add_clause-requires-clause-off c = λ two.
    off_empty c.clauses.watch.trail.places c.slice.result.now (ap (λ (t : TrailState). t.places) c.clauses.invariant.trail ∙ c.requires.empty)

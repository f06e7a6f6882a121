use Rattle.std.proofs.Common.{◌≡◌, ◌≤◌, false, length, None, refl, ap, ◌∙◌, sym, subst}
use Rattle.bs_watch.specs.Places.{IsUnassigned}
use Rattle.bs_watch.specs.Watch.{WatchState, Serves, decided, assigned}
use Rattle.bs_solve.proofs.Refutings.{all_assigned, level_room, open_literal}
use Rattle.bs_solve.proofs.cdcl.decide.Goals as goal

pub decide-requires : goal.decide-requires
decide-requires c =
    let first = c.in-Some.ensures.some in
    subst (λ (w : WatchState). length w.levels ≤ w.trail.vars) (sym c.in-Some.ensures.same)
    (level_room c.args.watch.now (record { variable = c.in-Some.variable.0; positive = false }) c.holds_levels.ensures.apart c.holds_levels.ensures.range
    (first.here (record { variable = c.in-Some.variable.0; positive = false }) refl) first.low first.in_range c.requires.few)

pub assign-requires : goal.assign-requires
assign-requires c =
    let trail : c.decide.new.self.trail ≡ c.args.watch.now.trail =
    ap (λ (w : WatchState). w.trail) c.decide.ensures.new ∙ ap (λ (w : WatchState). w.trail) c.in-Some.ensures.same in
    subst (λ t. IsUnassigned t c.preferred-literal.result) (sym trail) (open_literal c.args.watch.now.trail c.in-Some.variable.0 c.preferred-literal.result c.in-Some.ensures.some
    c.preferred-literal.ensures)

pub returns-in-None : goal.returns-in-None
returns-in-None c = (c.in-None.ensures.same, all_assigned c.args.watch.now c.in-None.ensures.none)

pub returns-in-Some : goal.returns-in-Some
returns-in-Some c = record {
  literal = c.preferred-literal.result;
  free = open_literal c.args.watch.now.trail c.in-Some.variable.0 c.preferred-literal.result c.in-Some.ensures.some
      c.preferred-literal.ensures;
  is = c.assign.ensures.new ∙ ap (λ w. assigned w c.preferred-literal.result None) (c.decide.ensures.new ∙ ap decided c.in-Some.ensures.same);
  serves = record {
    keeps = λ clauses s. c.assign.ensures.serves.keeps clauses (c.decide.ensures.serves.keeps clauses
        (subst (λ w. Serves w clauses) (sym c.in-Some.ensures.same) s));
  };
}

pub returns-then-is_full : goal.returns-then-is_full
returns-then-is_full c = (refl, c.is_full.ensures c.if-is_full.true)

use Rattle.std.proofs.Common.{◌≡◌, ◌∙◌, length, sym, subst, arith, true, ap, ◌∷◌, []}
use Rattle.std.specs.Prelude.{is_some}
use Rattle.std.proofs.lemmas.List.Elements.{All-cons, All-nil}
use Rattle.bs_clause.specs.Literal.{negation}
use Rattle.bs_clause.specs.Range.{HasVariables}
use Rattle.bs_arena.specs.Arena.{held_at}
use Rattle.bs_log.specs.declared.origin.Origin.TheVariants.{Learnt as FromConflict}
use Rattle.bs_solve_lemmas.proofs.Searching.{have_variables}
use Rattle.bs_solve.specs.Database.{entries, id_in}
use Rattle.bs_solve.specs.Ground.{HasAdded}
use Rattle.bs_solve.proofs.Beginnings.{failed_assumption_reason, failed_assumption_unit, denied_range, denied_by, denied_is_new, learnt_unit, denied_variable, denied_vars}
use Rattle.bs_solve.proofs.cdcl.deny.Goals as goal

pub unit_of-unit-requires-clause-range : goal.unit_of-unit-requires-clause-range
unit_of-unit-requires-clause-range c =
    denied_variable c.args.proof.now c.args.watch.now c.args.arena.now.clauses c.args.database.now c.args.denied c.requires.failed_assumption c.holds_levels.ensures.range

pub unit_of-unit-requires-clause-some : goal.unit_of-unit-requires-clause-some
unit_of-unit-requires-clause-some c =
    failed_assumption_reason c.args.proof.now c.args.watch.now c.args.arena.now.clauses c.args.database.now c.args.denied c.requires.failed_assumption

pub ids_of-requires : goal.ids_of-requires
ids_of-requires c =
    let u = failed_assumption_unit c.args.proof.now c.args.watch.now c.args.arena.now.clauses c.args.database.now c.args.denied c.unit_of-unit.result
    c.holds_levels.ensures.apart c.requires.failed_assumption c.unit_of-unit.ensures in
    All-cons (λ r. is_some (held_at c.args.arena.now.clauses r) ≡ true) c.unit_of-unit.result [] u.live
    (All-nil (λ r. is_some (held_at c.args.arena.now.clauses r) ≡ true))

pub log_lemma-requires-clause-learnt : goal.log_lemma-requires-clause-learnt
log_lemma-requires-clause-learnt c =
    let u = failed_assumption_unit c.args.proof.now c.args.watch.now c.args.arena.now.clauses c.args.database.now c.args.denied c.unit_of-unit.result
    c.holds_levels.ensures.apart c.requires.failed_assumption c.unit_of-unit.ensures in
    learnt_unit (entries c.args.proof.now) (id_in c.args.arena.now.clauses c.unit_of-unit.result) u.entry (negation c.args.denied) c.in_ok-lits.lits
    c.in_ok-hints.hints u.found u.literals (c.in_ok-lits.ensures ∙ ap (λ l. l ∷ []) c.negate.ensures) c.in_ok-hints.ensures

pub log_lemma-requires-clause-range : goal.log_lemma-requires-clause-range
log_lemma-requires-clause-range c =
    have_variables c.args.watch.now.trail.vars c.in_ok-lits.lits c.requires.bound
    (subst (HasVariables c.args.watch.now.trail.vars) (sym (c.in_ok-lits.ensures ∙ ap (λ l. l ∷ []) c.negate.ensures))
    (denied_range c.args.proof.now c.args.watch.now c.args.arena.now.clauses c.args.database.now c.args.denied c.requires.failed_assumption c.holds_levels.ensures.range))

pub log_lemma-requires-clause-new : goal.log_lemma-requires-clause-new
log_lemma-requires-clause-new c =
    denied_is_new c.args.proof.now c.args.denied c.in_ok-lits.lits (c.in_ok-lits.ensures ∙ ap (λ l. l ∷ []) c.negate.ensures) c.requires.failed_assumption.assumes

pub returns-clause-ok : goal.returns-clause-ok
returns-clause-ok c =
    let u = failed_assumption_unit c.args.proof.now c.args.watch.now c.args.arena.now.clauses c.args.database.now c.args.denied c.unit_of-unit.result
    c.holds_levels.ensures.apart c.requires.failed_assumption c.unit_of-unit.ensures in
    let lits = c.in_ok-lits.ensures ∙ ap (λ l. l ∷ []) c.negate.ensures in
    denied_by c.args.proof.now c.log_lemma.new.self c.args.watch.now c.cancel_to.new.self c.add_clause.new.watch c.args.arena.now.clauses
    c.add_clause.new.arena.clauses c.args.database.now c.add_clause.new.database c.in_ok-id.id c.in_ok-next.next c.unit_of-unit.result c.args.denied
    c.in_ok-lits.lits c.in_ok-hints.hints c.requires.failed_assumption u lits
    (denied_range c.args.proof.now c.args.watch.now c.args.arena.now.clauses c.args.database.now c.args.denied c.requires.failed_assumption c.holds_levels.ensures.range)
    (learnt_unit (entries c.args.proof.now) (id_in c.args.arena.now.clauses c.unit_of-unit.result) u.entry (negation c.args.denied) c.in_ok-lits.lits
    c.in_ok-hints.hints u.found u.literals lits c.in_ok-hints.ensures)
    c.cancel_to.ensures.levels c.cancel_to.ensures.lists c.cancel_to.ensures.back c.in_ok-add_clause.ensures.serves c.in_ok-add_clause.ensures.trail
    c.in_ok-add_clause.ensures.levels
    (subst (λ ls. HasAdded c.cancel_to.new.self.lists c.add_clause.new.watch.lists c.args.arena.now.clauses c.add_clause.new.arena.clauses
    c.args.database.now c.add_clause.new.database (record { id = c.in_ok-next.next; origin = FromConflict; literals = ls })) c.slice.ensures
    c.in_ok-add_clause.ensures.holds_entries) (c.in_ok-next.ensures.id ∙ sym c.in_ok-id.ensures.id) c.in_ok-next.ensures.fresh c.in_ok-id.ensures.id
    c.in_ok-id.ensures.line c.in_ok-id.ensures.stands c.in_ok-id.ensures.entry

pub add_clause-requires-clause-off : goal.add_clause-requires-clause-off
add_clause-requires-clause-off c = λ two.
    let n = ap length (c.slice.ensures ∙ c.in_ok-lits.ensures) in absurd (omega (arith, two, n))

pub add_clause-requires-clause-range : goal.add_clause-requires-clause-range
add_clause-requires-clause-range c =
    subst (HasVariables c.cancel_to.new.self.trail.vars) (sym (c.slice.ensures ∙ c.in_ok-lits.ensures ∙ ap (λ l. l ∷ []) c.negate.ensures))
    (subst (λ n. HasVariables n (negation c.args.denied ∷ [])) (sym (denied_vars c.args.proof.now c.args.watch.now c.cancel_to.new.self
    c.args.arena.now.clauses c.args.database.now c.args.denied c.requires.failed_assumption c.cancel_to.ensures.back))
    (denied_range c.args.proof.now c.args.watch.now c.args.arena.now.clauses c.args.database.now c.args.denied c.requires.failed_assumption c.holds_levels.ensures.range))

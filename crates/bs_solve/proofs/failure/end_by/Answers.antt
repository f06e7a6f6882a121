use Rattle.std.proofs.Common.{◌∙◌, length, sym, subst, arith, ap, inl}
use Rattle.bs_clause.specs.Range.{HasVariables}
use Rattle.bs_log.specs.Refusal.{has_distinct_variables}
use Rattle.bs_log.specs.declared.origin.Origin.TheVariants.{Learnt as FromConflict}
use Rattle.bs_solve_lemmas.proofs.Searching.{have_variables, learnt_range}
use Rattle.bs_solve.specs.Database.{entries}
use Rattle.bs_solve.specs.Ground.{HasAdded}
use Rattle.bs_solve.proofs.Failures.{ended_at_rest}
use Rattle.bs_solve.proofs.failure.end_by.Goals as goal

pub add_clause-requires-clause-serves : goal.add_clause-requires-clause-serves
add_clause-requires-clause-serves c = c.requires.rest.serves

pub add_clause-requires-clause-off : goal.add_clause-requires-clause-off
add_clause-requires-clause-off c = λ two.
    let n = ap length c.slice.ensures in let few = c.requires.few in absurd (omega (arith, two, n, few))

pub add_clause-requires-clause-range : goal.add_clause-requires-clause-range
add_clause-requires-clause-range c =
    subst (HasVariables c.args.watch.now.trail.vars) (sym c.slice.ensures)
    (learnt_range (entries c.args.proof.now) c.args.watch.now.trail.vars c.args.lits c.args.hints c.requires.learnt c.requires.range)

pub add_clause-requires-clause-distinct : goal.add_clause-requires-clause-distinct
add_clause-requires-clause-distinct c = ap has_distinct_variables c.slice.ensures ∙ c.requires.learnt.distinct

pub log_lemma-requires-clause-range : goal.log_lemma-requires-clause-range
log_lemma-requires-clause-range c =
    have_variables c.args.watch.now.trail.vars c.args.lits c.requires.bound
    (learnt_range (entries c.args.proof.now) c.args.watch.now.trail.vars c.args.lits c.args.hints c.requires.learnt c.requires.range)

pub log_lemma-requires-clause-new : goal.log_lemma-requires-clause-new
log_lemma-requires-clause-new c = inl c.requires.ends

pub returns-clause-ok : goal.returns-clause-ok
returns-clause-ok c =
    ended_at_rest c.args.proof.now c.log_lemma.new.self c.args.watch.now c.add_clause.new.watch c.args.arena.now.clauses c.add_clause.new.arena.clauses
    c.args.database.now c.add_clause.new.database c.in_ok-id.id c.in_ok-next.next c.args.lits c.args.hints c.requires.rest c.requires.learnt c.requires.ends
    c.in_ok-add_clause.ensures.serves c.in_ok-add_clause.ensures.trail c.in_ok-add_clause.ensures.levels
    (subst (λ ls. HasAdded c.args.watch.now.lists c.add_clause.new.watch.lists c.args.arena.now.clauses c.add_clause.new.arena.clauses
    c.args.database.now c.add_clause.new.database (record { id = c.in_ok-next.next; origin = FromConflict; literals = ls })) c.slice.ensures
    c.in_ok-add_clause.ensures.holds_entries) (c.in_ok-next.ensures.id ∙ sym c.in_ok-id.ensures.id) c.in_ok-next.ensures.fresh c.in_ok-id.ensures.id
    c.in_ok-id.ensures.line c.in_ok-id.ensures.stands c.in_ok-id.ensures.entry

use Rattle.std.proofs.Common.{◌≡◌, ◌∙◌, reverse, map, ap, sym, subst}
use Rattle.bs_clause.specs.Range.{HasVariables}
use Rattle.bs_log.specs.Refusal.{NoneRefused}
use Rattle.bs_log.specs.Lean.{LemmasAreLean}
use Rattle.bs_solve_lemmas.specs.Walk.{IsLoggedLearnt}
use Rattle.bs_solve_lemmas.specs.ProofLog.{with_lemma}
use Rattle.bs_solve_lemmas.proofs.Searching.{have_variables}
use Rattle.bs_log.specs.declared.origin.Origin.TheVariants.{Learnt as FromConflict}
use Rattle.bs_solve.specs.Database.{entries, id_in}
use Rattle.bs_solve.specs.Ground.{HasAdded, IsOff}
use Rattle.bs_solve.proofs.LearningLemmas.{live_range, live_distinct, live_spared, logged_learnt}
use Rattle.bs_solve.proofs.Refutings.{gone_vars, lemma_off, last_learnt, last_is_new, ended_by}
use Rattle.bs_solve.proofs.cdcl.refute.Goals as goal

pub to_reasonless-requires-clause-range : goal.to_reasonless-requires-clause-range
to_reasonless-requires-clause-range c =
    let s = c.requires.some.1 in
    live_range c.args.arena.now c.args.watch.now.lists c.args.database.now (entries c.args.proof.now) c.args.watch.now.trail.vars c.holds_clauses.ensures
    s.holds_entries s.range

pub to_reasonless-requires-clause-distinct : goal.to_reasonless-requires-clause-distinct
to_reasonless-requires-clause-distinct c =
    let s = c.requires.some.1 in
    live_distinct c.args.arena.now c.args.watch.now.lists c.args.database.now (entries c.args.proof.now) c.holds_clauses.ensures s.holds_entries s.distinct

pub to_reasonless-requires-clause-spared : goal.to_reasonless-requires-clause-spared
to_reasonless-requires-clause-spared c =
    let s = c.requires.some.1 in
    live_spared c.args.arena.now c.args.proof.now c.args.watch.now c.args.database.now c.holds_clauses.ensures s.holds_entries s.some s.ground c.requires.own
    (subst (NoneRefused c.args.proof.now.problem) c.log.ensures.lines c.log.ensures.right)
    (subst (LemmasAreLean c.args.proof.now.problem) c.log.ensures.lines c.log.ensures.lean)

pub add_clause-requires-clause-off : goal.add_clause-requires-clause-off
add_clause-requires-clause-off c = λ two.
    let s = c.requires.some.1 in
    subst (IsOff c.cancel_to.new.self.trail.places) (sym c.slice.ensures)
    (lemma_off c.requires.some.0 c.args.proof.now c.args.watch.now c.cancel_to.new.self c.args.arena.now.clauses c.args.database.now c.args.conflict
    c.in_ok-learnt.learnt.lits s c.holds_levels.ensures.apart c.cancel_to.ensures.back c.in_ok-learnt.ensures.reasonless)

pub add_clause-requires-clause-range : goal.add_clause-requires-clause-range
add_clause-requires-clause-range c =
    let s = c.requires.some.1 in
    subst (HasVariables c.cancel_to.new.self.trail.vars) (sym c.slice.ensures)
    (subst (λ n. HasVariables n c.in_ok-learnt.learnt.lits) (sym (gone_vars c.args.watch.now c.cancel_to.new.self s.some c.cancel_to.ensures.back))
    (last_learnt c.requires.some.0 c.args.proof.now c.args.watch.now c.args.arena.now.clauses c.args.database.now c.args.conflict
    c.in_ok-learnt.learnt.lits c.in_ok-learnt.learnt.hints.items s c.in_ok-learnt.ensures.learnt))

pub log_lemma-requires-clause-learnt : goal.log_lemma-requires-clause-learnt
log_lemma-requires-clause-learnt c =
    let s = c.requires.some.1 in
    subst (IsLoggedLearnt (entries c.args.proof.now) c.in_ok-learnt.learnt.lits)
    (sym (c.in_ok-hints.ensures ∙ ap (λ rs. map (id_in c.args.arena.now.clauses) (reverse rs)) c.as_slice.ensures.value))
    (logged_learnt c.args.watch.now.lists c.args.arena.now.clauses c.args.database.now (entries c.args.proof.now) c.in_ok-learnt.learnt.lits
    c.in_ok-learnt.learnt.hints.items s.holds_entries c.in_ok-learnt.ensures.learnt)

pub log_lemma-requires-clause-range : goal.log_lemma-requires-clause-range
log_lemma-requires-clause-range c =
    have_variables c.args.watch.now.trail.vars c.in_ok-learnt.learnt.lits c.requires.bound
    (last_learnt c.requires.some.0 c.args.proof.now c.args.watch.now c.args.arena.now.clauses c.args.database.now c.args.conflict
    c.in_ok-learnt.learnt.lits c.in_ok-learnt.learnt.hints.items c.requires.some.1 c.in_ok-learnt.ensures.learnt)

pub log_lemma-requires-clause-new : goal.log_lemma-requires-clause-new
log_lemma-requires-clause-new c =
    last_is_new c.requires.some.0 c.args.proof.now c.args.watch.now c.args.arena.now.clauses c.args.database.now c.args.conflict
    c.in_ok-learnt.learnt.lits c.requires.some.1 c.in_ok-learnt.ensures.reasonless

pub returns-clause-ok : goal.returns-clause-ok
returns-clause-ok c =
    let hints : c.in_ok-hints.hints ≡ map (id_in c.args.arena.now.clauses) (reverse c.in_ok-learnt.learnt.hints.items) =
    c.in_ok-hints.ensures ∙ ap (λ rs. map (id_in c.args.arena.now.clauses) (reverse rs)) c.as_slice.ensures.value in
    ended_by c.requires.some.0 c.args.proof.now c.log_lemma.new.self c.args.watch.now c.cancel_to.new.self c.add_clause.new.watch c.args.arena.now.clauses
    c.add_clause.new.arena.clauses c.args.database.now c.add_clause.new.database c.args.conflict c.in_ok-id-2.id c.in_ok-id.id
    c.in_ok-learnt.learnt.lits
    c.in_ok-learnt.learnt.hints.items c.requires.some.1 c.in_ok-learnt.ensures.learnt c.in_ok-learnt.ensures.reasonless c.cancel_to.ensures.levels
    c.cancel_to.ensures.lists c.cancel_to.ensures.back c.in_ok-add_clause.ensures.serves c.in_ok-add_clause.ensures.trail c.in_ok-add_clause.ensures.levels
    (subst (λ ls. HasAdded c.cancel_to.new.self.lists c.add_clause.new.watch.lists c.args.arena.now.clauses c.add_clause.new.arena.clauses
    c.args.database.now c.add_clause.new.database (record { id = c.in_ok-id.id; origin = FromConflict; literals = ls })) c.slice.ensures
    c.in_ok-add_clause.ensures.holds_entries) (c.in_ok-id.ensures.id ∙ sym c.in_ok-id-2.ensures.id) c.in_ok-id.ensures.fresh c.in_ok-id-2.ensures.id
    (c.in_ok-id-2.ensures.line ∙ ap (with_lemma c.args.proof.now c.in_ok-id-2.id c.in_ok-learnt.learnt.lits) hints)
    c.in_ok-id-2.ensures.stands c.in_ok-id-2.ensures.entry

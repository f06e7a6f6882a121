use Rattle.std.proofs.Common.{◌≡◌, ◌∙◌, reverse, map, true, ap, sym, subst}
use Rattle.std.specs.Prelude.{All, is_some}
use Rattle.bs_clause.specs.Range.{HasVariables}
use Rattle.bs_arena.specs.Arena.{held_at, literals_at}
use Rattle.bs_log.specs.Refusal.{NoneRefused}
use Rattle.bs_log.specs.Lean.{LemmasAreLean}
use Rattle.bs_solve_lemmas.specs.Walk.{IsLoggedLearnt}
use Rattle.bs_solve_lemmas.specs.ProofLog.{with_lemma}
use Rattle.bs_solve.specs.Database.{entries, id_in}
use Rattle.bs_solve.specs.Backjump.{IsSomeLearntClause, JumpsBack}
use Rattle.bs_solve.proofs.LearningLemmas.{live_range, hints_range, live_distinct, last_decided, quiet_at_last, learnt_from, logged_learnt, lemma_range, lemma_is_new, learns_from, grown_again, entry_again}
use Rattle.bs_watch.specs.Watch.{Serves}
use Rattle.bs_solve.proofs.learning.learn.Goals as goal

pub first_point-requires-clause-reasoned : goal.first_point-requires-clause-reasoned
first_point-requires-clause-reasoned c = c.requires.some.1.running.reasoned

pub first_point-requires-clause-conflict : goal.first_point-requires-clause-conflict
first_point-requires-clause-conflict c = c.requires.some.1.clash

pub first_point-requires-clause-clear : goal.first_point-requires-clause-clear
first_point-requires-clause-clear c = c.requires.clear

pub first_point-requires-clause-range : goal.first_point-requires-clause-range
first_point-requires-clause-range c =
    let s = c.requires.some.1 in
    live_range c.args.arena.now c.args.watch.now.lists c.args.database.now (entries c.args.proof.now) c.args.watch.now.trail.vars c.holds_clauses.ensures
    s.running.holds_entries s.range

pub first_point-requires-clause-distinct : goal.first_point-requires-clause-distinct
first_point-requires-clause-distinct c =
    let s = c.requires.some.1 in
    live_distinct c.args.arena.now c.args.watch.now.lists c.args.database.now
    (entries c.args.proof.now) c.holds_clauses.ensures s.running.holds_entries s.distinct

pub first_point-requires-clause-start : goal.first_point-requires-clause-start
first_point-requires-clause-start c =
    last_decided c.requires.some.0 c.args.proof.now c.args.watch.now c.args.arena.now.clauses c.args.database.now c.args.conflict c.requires.some.1
    c.requires.deep

pub first_point-requires-clause-quiet : goal.first_point-requires-clause-quiet
first_point-requires-clause-quiet c =
    quiet_at_last c.args.arena.now c.requires.some.0 c.args.proof.now c.args.watch.now c.args.database.now c.args.conflict c.holds_clauses.ensures
    c.requires.some.1 c.requires.deep

pub reward-requires-clause-live : goal.reward-requires-clause-live
reward-requires-clause-live c =
    subst (All (λ r. is_some (held_at c.args.arena.now.clauses r) ≡ true)) (sym c.as_slice.ensures.value) c.in_ok-learnt.ensures.learnt.live

pub reward-requires-clause-range : goal.reward-requires-clause-range
reward-requires-clause-range c =
    let s = c.requires.some.1 in
    subst (All (λ r. HasVariables c.args.watch.now.trail.vars (literals_at c.args.arena.now.clauses r))) (sym c.as_slice.ensures.value)
    (hints_range c.args.arena.now.clauses c.in_ok-learnt.learnt.hints.items c.args.watch.now.trail.vars c.in_ok-learnt.ensures.learnt.live
    (live_range c.args.arena.now c.args.watch.now.lists c.args.database.now (entries c.args.proof.now) c.args.watch.now.trail.vars c.holds_clauses.ensures
    s.running.holds_entries s.range))

pub ids_of-requires : goal.ids_of-requires
ids_of-requires c =
    subst (All (λ r. is_some (held_at c.args.arena.now.clauses r) ≡ true)) (sym c.as_slice-2.ensures.value) c.in_ok-learnt.ensures.learnt.live

pub jump_back-requires-clause-serves : goal.jump_back-requires-clause-serves
jump_back-requires-clause-serves c = subst (λ w. Serves w c.args.arena.now.clauses) (sym c.reward.ensures) c.requires.some.1.running.serves

pub jump_back-requires-clause-backjump : goal.jump_back-requires-clause-backjump
jump_back-requires-clause-backjump c =
    subst (λ w. IsSomeLearntClause w c.slice.result.now) (sym c.reward.ensures) (subst (IsSomeLearntClause c.args.watch.now) (sym c.slice.ensures) (
      c.requires.some.0,
      learnt_from c.requires.some.0 c.args.proof.now c.args.watch.now c.args.arena.now.clauses c.args.database.now c.args.conflict
          c.in_ok-learnt.learnt.lits c.in_ok-learnt.learnt.hints.items c.requires.some.1 c.requires.deep c.in_ok-learnt.ensures.learnt
          c.in_ok-learnt.ensures.first.point c.requires.own
          (subst (NoneRefused c.args.proof.now.problem) c.log.ensures.lines c.log.ensures.right)
          (subst (LemmasAreLean c.args.proof.now.problem) c.log.ensures.lines c.log.ensures.lean),
    ))

pub log_lemma-requires-clause-phase : goal.log_lemma-requires-clause-phase
log_lemma-requires-clause-phase c = c.requires.phase

pub log_lemma-requires-clause-learnt : goal.log_lemma-requires-clause-learnt
log_lemma-requires-clause-learnt c =
    let s = c.requires.some.1 in
    subst (IsLoggedLearnt (entries c.args.proof.now) c.in_ok-learnt.learnt.lits)
    (sym (c.in_ok-hints.ensures ∙ ap (λ rs. map (id_in c.args.arena.now.clauses) (reverse rs)) c.as_slice-2.ensures.value))
    (logged_learnt c.args.watch.now.lists c.args.arena.now.clauses c.args.database.now (entries c.args.proof.now) c.in_ok-learnt.learnt.lits
    c.in_ok-learnt.learnt.hints.items s.running.holds_entries c.in_ok-learnt.ensures.learnt)

pub log_lemma-requires-clause-range : goal.log_lemma-requires-clause-range
log_lemma-requires-clause-range c =
    lemma_range c.requires.some.0 c.args.proof.now c.args.watch.now c.args.arena.now.clauses c.args.database.now c.args.conflict
    c.in_ok-learnt.learnt.lits c.in_ok-learnt.learnt.hints.items c.requires.some.1 c.requires.bound c.in_ok-learnt.ensures.learnt

pub log_lemma-requires-clause-new : goal.log_lemma-requires-clause-new
log_lemma-requires-clause-new c =
    lemma_is_new c.requires.some.0 c.args.proof.now c.args.watch.now c.jump_back.new.watch c.args.arena.now.clauses c.jump_back.new.arena.clauses
    c.args.database.now c.jump_back.new.database c.args.conflict c.in_ok-id.id c.in_ok-learnt.learnt.lits c.requires.some.1 c.requires.deep
    c.in_ok-learnt.ensures.first.point
    (subst (JumpsBack c.args.watch.now c.jump_back.new.watch c.args.arena.now.clauses c.jump_back.new.arena.clauses c.args.database.now
    c.jump_back.new.database c.in_ok-id.id) c.slice.ensures (subst (λ w. JumpsBack w c.jump_back.new.watch c.args.arena.now.clauses c.jump_back.new.arena.clauses c.args.database.now
    c.jump_back.new.database c.in_ok-id.id c.slice.result.now) c.reward.ensures c.in_ok-jump_back.ensures))

pub returns-clause-ok : goal.returns-clause-ok
returns-clause-ok c =
    let hints : c.in_ok-hints.hints ≡ map (id_in c.args.arena.now.clauses) (reverse c.in_ok-learnt.learnt.hints.items) =
    c.in_ok-hints.ensures ∙ ap (λ rs. map (id_in c.args.arena.now.clauses) (reverse rs)) c.as_slice-2.ensures.value in
    let same : c.in_ok-log_lemma.field-0 ≡ c.in_ok-id.id = c.in_ok-log_lemma.ensures.id ∙ sym c.in_ok-id.ensures.id in
    learns_from c.args.proof.now c.log_lemma.new.self c.args.watch.now c.jump_back.new.watch c.args.arena.now.clauses c.jump_back.new.arena.clauses
    c.args.database.now c.jump_back.new.database c.args.conflict c.in_ok-id.id c.in_ok-learnt.learnt.lits c.in_ok-learnt.learnt.hints.items
    c.holds_levels.ensures.room c.requires.deep c.in_ok-learnt.ensures.learnt c.in_ok-learnt.ensures.first.point
    (subst (JumpsBack c.args.watch.now c.jump_back.new.watch c.args.arena.now.clauses c.jump_back.new.arena.clauses c.args.database.now
    c.jump_back.new.database c.in_ok-id.id) c.slice.ensures (subst (λ w. JumpsBack w c.jump_back.new.watch c.args.arena.now.clauses c.jump_back.new.arena.clauses c.args.database.now
    c.jump_back.new.database c.in_ok-id.id c.slice.result.now) c.reward.ensures c.in_ok-jump_back.ensures)) c.in_ok-id.ensures.id c.in_ok-id.ensures.fresh
    (c.in_ok-log_lemma.ensures.line ∙ ap (λ n. with_lemma c.args.proof.now n c.in_ok-learnt.learnt.lits c.in_ok-hints.hints) same ∙
    ap (with_lemma c.args.proof.now c.in_ok-id.id c.in_ok-learnt.learnt.lits) hints)
    (grown_again c.args.proof.now c.log_lemma.new.self c.in_ok-log_lemma.field-0 c.in_ok-id.id c.in_ok-learnt.learnt.lits same
    c.in_ok-log_lemma.ensures.stands)
    (entry_again c.log_lemma.new.self c.in_ok-log_lemma.field-0 c.in_ok-id.id c.in_ok-learnt.learnt.lits same c.in_ok-log_lemma.ensures.entry)

pub returns-clause-clear : goal.returns-clause-clear
returns-clause-clear c = c.in_ok-learnt.ensures.clear

use Rattle.std.proofs.Common.{◌∙◌, sym, subst}
use Rattle.bs_clause.specs.Range.{HasVariables}
use Rattle.bs_solve.proofs.Pausings.{rests_at_nothing, waits_above}
use Rattle.bs_solve.proofs.cdcl.search.Goals as goal

pub begin-requires-clause-rest : goal.begin-requires-clause-rest
begin-requires-clause-rest c =
    rests_at_nothing c.args.proof.now c.args.watch.now c.args.arena.now.clauses c.args.database.now c.requires.kept (sym c.level.ensures ∙ c.if-level-eq0.true)

pub resume-requires-clause-pause : goal.resume-requires-clause-pause
resume-requires-clause-pause c =
    waits_above c.args.proof.now c.args.watch.now c.args.arena.now.clauses c.args.database.now c.requires.kept
    (λ e. c.if-level-eq0.false (c.level.ensures ∙ e))

pub resume-requires-clause-assumed_range : goal.resume-requires-clause-assumed_range
resume-requires-clause-assumed_range c =
    subst (HasVariables c.args.watch.now.trail.vars) (sym c.requires.assumed) c.requires.assumed_range

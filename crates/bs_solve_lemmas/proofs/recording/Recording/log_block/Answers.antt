use Rattle.std.proofs.Common.{ap, subst, ◌∙◌, sym, arith, ◌+◌}
use Rattle.bs_log.specs.declared.line.Line.TheVariants.{Block}
use Rattle.bs_log.specs.History.{live}
use Rattle.bs_solve_lemmas.specs.ProofLog.{ProofLog, IsKept, IsRecorded}
use Rattle.bs_solve_lemmas.proofs.ProofLogs.{recorded_block, block_stands}
use Rattle.bs_solve_lemmas.proofs.Lines.{recorded_line, seen_line}
use Rattle.bs_solve_lemmas.proofs.recording.Recording.log_block.Goals as goal

pub invariant_of-self-2 : goal.invariant_of-self-2
invariant_of-self-2 c =
    let recorded = subst (IsRecorded c.self.inside.last c.self.inside.lemmas.items) c.self.view_is c.self.invariant in
    recorded_line c.in_ok-id.id c.self.inside.lemmas.items c.self.inside.vars c.self.inside.axioms.value c.self.inside.steps c.self.inside.log c.push.new.self
    (Block c.in_ok-id.id c.args.lits) c.args.self.now c.self.view_is c.in-Ok.ensures.ok
    (recorded_block c.self.inside.last c.in_ok-id.id c.self.inside.lemmas.items c.args.self.now c.args.lits recorded
    (c.in_ok-id.ensures.id ∙ ap (λ n. n + 1) (sym recorded.last_is)) (omega arith) c.requires.phase c.requires.distinct c.requires.range c.requires.block)

pub returns-clause-stands : goal.returns-clause-stands
returns-clause-stands c =
    ap (λ (b : ProofLog). live b.problem b.history)
    (seen_line c.self.inside.vars c.self.inside.axioms.value c.self.inside.steps c.self.inside.log c.push.new.self (Block c.in_ok-id.id c.args.lits)
    c.args.self.now c.self.view_is
    c.in-Ok.ensures.ok) ∙
    block_stands c.args.self.now c.in_ok-id.id c.args.lits (subst IsKept c.self.view_is c.self.invariant.kept) c.in_ok-id.ensures.id

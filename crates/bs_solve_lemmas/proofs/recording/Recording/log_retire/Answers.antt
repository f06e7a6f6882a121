use Rattle.std.proofs.Common.{ap, subst, ◌∙◌, sym, arith, ◌+◌}
use Rattle.bs_log.specs.declared.line.Line.TheVariants.{Retire}
use Rattle.bs_solve_lemmas.specs.ProofLog.{ProofLog, IsRecorded, with_line}
use Rattle.bs_solve_lemmas.proofs.ProofLogs.{recorded_retire}
use Rattle.bs_solve_lemmas.proofs.Lines.{recorded_line, seen_line}
use Rattle.bs_solve_lemmas.proofs.recording.Recording.log_retire.Goals as goal

pub invariant_of-self-2 : goal.invariant_of-self-2
invariant_of-self-2 c =
    let recorded = subst (IsRecorded c.self.inside.last c.self.inside.lemmas.items) c.self.view_is c.self.invariant in
    recorded_line c.in_ok-id.id c.self.inside.lemmas.items c.self.inside.vars c.self.inside.axioms.value c.self.inside.steps c.self.inside.log
    c.push.new.self (Retire c.in_ok-id.id) c.args.self.now c.self.view_is c.in-Ok.ensures.ok
    (recorded_retire c.self.inside.last c.in_ok-id.id c.self.inside.lemmas.items c.args.self.now recorded
    (c.in_ok-id.ensures.id ∙ ap (λ n. n + 1) (sym recorded.last_is)) (omega arith) c.requires)

pub returns-clause-ok : goal.returns-clause-ok
returns-clause-ok c =
    seen_line c.self.inside.vars c.self.inside.axioms.value c.self.inside.steps c.self.inside.log c.push.new.self (Retire c.in_ok-id.id)
    c.args.self.now c.self.view_is c.in-Ok.ensures.ok ∙
    ap (λ id. with_line c.args.self.now (Retire id)) c.in_ok-id.ensures.id

use Rattle.std.proofs.Common.{subst}
use Rattle.bs_log.specs.declared.line.Line.TheVariants.{Solve}
use Rattle.bs_solve_lemmas.specs.ProofLog.{IsRecorded}
use Rattle.bs_solve_lemmas.proofs.ProofLogs.{recorded_solve}
use Rattle.bs_solve_lemmas.proofs.Lines.{recorded_line}
use Rattle.bs_solve_lemmas.proofs.recording.Recording.log_solve.Goals as goal

pub invariant_of-self-2 : goal.invariant_of-self-2
invariant_of-self-2 c =
    recorded_line c.self.inside.last c.self.inside.lemmas.items c.self.inside.vars c.self.inside.axioms.value c.self.inside.steps c.self.inside.log
    c.push.new.self Solve c.args.self.now
    c.self.view_is c.in-Ok.ensures.ok
    (recorded_solve c.self.inside.last c.self.inside.lemmas.items c.args.self.now
    (subst (IsRecorded c.self.inside.last c.self.inside.lemmas.items) c.self.view_is c.self.invariant) c.requires)

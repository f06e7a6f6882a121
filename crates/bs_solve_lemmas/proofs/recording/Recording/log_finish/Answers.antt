use Rattle.std.proofs.Common.{subst, arith}
use Rattle.bs_log.specs.declared.line.Line.TheVariants.{Finish}
use Rattle.bs_solve_lemmas.specs.ProofLog.{IsRecorded}
use Rattle.bs_solve_lemmas.proofs.ProofLogs.{recorded_finish}
use Rattle.bs_solve_lemmas.proofs.Lines.{recorded_line}
use Rattle.bs_solve_lemmas.proofs.recording.Recording.log_finish.Goals as goal

pub invariant_of-self-2 : goal.invariant_of-self-2
invariant_of-self-2 c =
    recorded_line c.self.inside.last c.self.inside.lemmas.items c.self.inside.vars c.self.inside.axioms.value c.self.inside.steps c.self.inside.log
    c.push.new.self
    (Finish c.args.id) c.args.self.now c.self.view_is c.in-Ok.ensures.ok
    (recorded_finish c.self.inside.last c.args.id c.self.inside.lemmas.items c.args.self.now
    (subst (IsRecorded c.self.inside.last c.self.inside.lemmas.items) c.self.view_is c.self.invariant) (omega (arith, c.self.ranges))
    c.requires.phase c.requires.lemma c.requires.ends)

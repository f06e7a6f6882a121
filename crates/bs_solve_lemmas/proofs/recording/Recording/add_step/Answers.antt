use Rattle.std.proofs.Common.{ap, ◌∙◌, sym, subst}
use Rattle.bs_log.specs.History.{live}
use Rattle.bs_solve_lemmas.specs.ProofLog.{ProofLog, IsRecorded}
use Rattle.bs_solve_lemmas.proofs.Lines.{seen_step, recorded_member, live_with_member}
use Rattle.bs_solve_lemmas.proofs.recording.Recording.add_step.Goals as goal

pub invariant_of-self-2 : goal.invariant_of-self-2
invariant_of-self-2 c =
    subst (IsRecorded c.self.inside.last c.self.inside.lemmas.items)
    (sym (seen_step c.self.inside.vars c.self.inside.axioms.value c.self.inside.steps c.push.new.self c.self.inside.log c.args.member c.args.self.now
    c.self.view_is c.in-Ok.ensures.ok))
    (recorded_member c.self.inside.last c.self.inside.lemmas.items c.args.self.now c.args.member
    (subst (IsRecorded c.self.inside.last c.self.inside.lemmas.items) c.self.view_is c.self.invariant))

pub returns-clause-stands : goal.returns-clause-stands
returns-clause-stands c =
    ap (λ (b : ProofLog). live b.problem b.history)
    (seen_step c.self.inside.vars c.self.inside.axioms.value c.self.inside.steps c.push.new.self c.self.inside.log c.args.member c.args.self.now
    c.self.view_is c.in-Ok.ensures.ok) ∙ live_with_member c.args.self.now c.args.member

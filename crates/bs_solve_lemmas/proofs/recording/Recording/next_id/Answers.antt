use Rattle.std.proofs.Common.{◌≡◌, ap, ◌∙◌, subst, arith, ◌+◌}
use Rattle.bs_log.specs.History.{live, last_id}
use Rattle.bs_log.specs.Refusal.{NoneRefused}
use Rattle.bs_solve_lemmas.specs.ProofLog.{ProofLog}
use Rattle.bs_solve_lemmas.proofs.Entries.{next_is_fresh}
use Rattle.bs_solve_lemmas.proofs.recording.Recording.next_id.Goals as goal

pub returns-in-Some-clause-fresh : goal.returns-in-Some-clause-fresh
returns-in-Some-clause-fresh c =
    let b : ProofLog = c.args.self.now in
    next_is_fresh b.problem b.history c.in-Some.id
    (subst (λ (x : ProofLog). NoneRefused x.problem x.history) c.self.view_is c.self.invariant.kept.right)
    (let is : c.in-Some.id ≡ c.self.inside.last + 1 = c.in-Some.ensures.1 in
    is ∙ ap (λ n. n + 1) (c.self.invariant.last_is ∙ ap (λ (x : ProofLog). last_id x.problem x.history) c.self.view_is))

use Rattle.std.proofs.Common.{subst}
use Rattle.bs_log.specs.History.{live}
use Rattle.bs_solve_lemmas.specs.Rows.{AreInOrder}
use Rattle.bs_solve_lemmas.specs.ProofLog.{ProofLog}
use Rattle.bs_solve_lemmas.proofs.Entries.{live_in_order}
use Rattle.bs_solve_lemmas.proofs.recording.Recording.holds_ids.Goals as goal

pub returns : goal.returns
returns c =
    let b : ProofLog = c.args.self.now in
    subst (λ (x : ProofLog). AreInOrder (live x.problem x.history)) c.self.view_is
    (live_in_order _ _ c.self.invariant.kept.right)

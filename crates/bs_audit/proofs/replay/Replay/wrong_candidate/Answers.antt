use Rattle.std.proofs.Common.{◌≡◌, ◌∙◌, length, true, false, sym}
use Rattle.bs_report.specs.Valid.{is_right_cand}
use Rattle.bs_audit.proofs.Follows.{cands_from}
use Rattle.bs_audit.proofs.replay.Replay.wrong_candidate.Goals as goal

pub returns-then-not-branch-clause-part : goal.returns-then-not-branch-clause-part
returns-then-not-branch-clause-part c =
    let wrong : false ≡ is_right_cand c.args.self.now c.args.budgets.now c.args.step.now c.cands.j =
    sym c.if-not-branch.true ∙ (rw c.cands.invariant.kept at c.in_ok-is_right_candidate.ensures.right) in
    let first =
    c.cands.invariant.rest
    ∙ cands_from c.args.self.now c.args.budgets.now c.args.i c.args.step.now c.cands.j (length c.args.step.now.cands) false
    (rw c.len-j-end.ensures at c.cands-test.true) wrong in
    rw (c.number.ensures, c.number-then-not-branch.ensures) (sym first)

pub cands-preserved : goal.cands-preserved
cands-preserved c =
    let right : true ≡ is_right_cand c.args.self.now c.args.budgets.now c.args.step.now c.cands.j =
    sym c.if-not-branch.false ∙ (rw c.cands.invariant.kept at c.in_ok-is_right_candidate.ensures.right) in
    record {
      kept = c.in_ok-is_right_candidate.ensures.kept ∙ c.cands.invariant.kept;
      rest =
          c.cands.invariant.rest
          ∙ cands_from c.args.self.now c.args.budgets.now c.args.i c.args.step.now c.cands.j (length c.args.step.now.cands) true
          (rw c.len-j-end.ensures at c.cands-test.true) right;
    }

use Rattle.std.proofs.Common.{sym}
use Rattle.bs_lex.proofs.PieceLemmas.{comment_on, comment_found, comment_end, after-zero}
use Rattle.bs_lex.proofs.comments.comment_size.Goals as goal

pub bytes-init : goal.bytes-init
bytes-init c = after-zero _

pub returns-then-closes_comment-clause-size : goal.returns-then-closes_comment-clause-size
returns-then-closes_comment-clause-size c = comment_found c.args.text.now c.bytes.at _ _ c.bytes-test.true c.byte_at.ensures
    (sym c.if-closes_comment.ensures) c.bytes.invariant

pub bytes-preserved : goal.bytes-preserved
bytes-preserved c = comment_on c.args.text.now c.bytes.at _ _ c.bytes-test.true c.byte_at.ensures (sym c.if-closes_comment.ensures) c.bytes.invariant

pub returns-clause-size : goal.returns-clause-size
returns-clause-size c = comment_end c.args.text.now c.bytes.at _ c.bytes-test.false c.bytes.invariant

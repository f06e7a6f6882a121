use Rattle.std.proofs.Common.{◌∙◌, sym}
use Rattle.bs_encode.specs.Assuming.{block_for}
use Rattle.bs_report.specs.Step.{listed}
use Rattle.bs_report.specs.Valid.{blocks_due, has_clause}
use Rattle.bs_audit.proofs.BlockLemmas.{known_more, noted_more, unknown_one}
use Rattle.bs_audit.proofs.blocks.note_lines.Goals as goal

pub returns-then-not-branch-clause-known : goal.returns-then-not-branch-clause-known
returns-then-not-branch-clause-known c =
    sym
    (unknown_one (has_clause
    (blocks_due c.args.activation
    (block_for c.args.encoding.now) c.args.cands.now)) c.args.lines.now c.lines.line-index c.line-item.result c.lines-test.true c.line-item.is
    (sym c.in_ok-note_line.ensures.known ∙ c.if-not-branch.true))

pub lines-preserved : goal.lines-preserved
lines-preserved c =
    record {
      known =
          known_more (has_clause
          (blocks_due c.args.activation
          (block_for c.args.encoding.now) c.args.cands.now)) c.args.lines.now c.lines.line-index c.line-item.result c.lines-test.true c.line-item.is
          c.lines.invariant.known (sym c.in_ok-note_line.ensures.known ∙ c.if-not-branch.false);
      noted =
          noted_more c.args.encoding.now c.args.activation
          (listed c.args.cands.now) c.args.lines.now c.lines.line-index c.line-item.result c.lines.noted.items c.note_line.new.noted.items
          c.lines-test.true c.line-item.is
          c.lines.invariant.noted (c.in_ok-note_line.ensures.noted c.if-not-branch.false);
    }

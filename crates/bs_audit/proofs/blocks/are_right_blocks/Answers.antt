use Rattle.bs_audit.proofs.BlockLemmas.{counts_differ, blocks_are_right}
use Rattle.bs_audit.proofs.blocks.are_right_blocks.Goals as goal

pub returns-then-count_blocks-cands : goal.returns-then-count_blocks-cands
returns-then-count_blocks-cands c =
    counts_differ c.args.encoding.now c.args.activation c.args.cands.now c.args.lines.now c.count_blocks.result c.count_blocks.ensures c.if-count_blocks-cands.true

pub returns : goal.returns
returns c =
    blocks_are_right c.args.encoding.now c.args.activation c.args.cands.now c.args.lines.now c.count_blocks.result c.note_lines.new.noted.items
    c.in_ok-note_lines.field-0 c.are_noted.result c.count_blocks.ensures
    c.if-count_blocks-cands.false c.in_ok-note_lines.ensures.known c.if-not-branch.false (c.in_ok-note_lines.ensures.noted c.if-not-branch.false)
    (rw c.as_slice.ensures.value at c.are_noted.ensures)

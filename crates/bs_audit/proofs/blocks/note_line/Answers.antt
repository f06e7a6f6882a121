use Rattle.bs_report.specs.Step.{listed}
use Rattle.std.proofs.Common.{refl}
use Rattle.bs_audit.proofs.BlockLemmas.{line_is_due, line_is_noted}
use Rattle.bs_audit.proofs.blocks.note_line.Goals as goal

pub returns-in-Some-clause-known : goal.returns-in-Some-clause-known
returns-in-Some-clause-known c =
    line_is_due c.args.encoding.now c.args.activation (listed c.args.cands.now) c.in-Block.lits c.in-Some.place c.in-Block.id c.args.line.now c.in-Block.is
    (rw c.slice.ensures at (rw c.in-Some.is at c.in_ok-blocked_place-in-Block.ensures))

pub returns-in-Some-clause-noted : goal.returns-in-Some-clause-noted
returns-in-Some-clause-noted c =
    λ t. line_is_noted c.args.encoding.now c.args.activation
    (listed c.args.cands.now) c.in-Block.lits c.in-Some.place c.in-Block.id c.args.width c.args.line.now c.args.noted.now.items _ c.in-Block.is c.requires.width
    c.requires.widths c.requires.ascend (rw c.slice.ensures at (rw c.in-Some.is at c.in_ok-blocked_place-in-Block.ensures)) refl

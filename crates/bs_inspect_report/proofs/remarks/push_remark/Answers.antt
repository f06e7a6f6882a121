use Rattle.std.proofs.Common.{[], ◌∷◌}
use Rattle.std.specs.Prelude.{codes}
use Rattle.bs_inspect_report.specs.Remarks.{origin_of}
use Rattle.bs_inspect_report.proofs.PieceLemmas.{three_ended}
use Rattle.bs_inspect_report.proofs.remarks.push_remark.Goals as goal

pub returns : goal.returns
returns c =
    three_ended c.args.text.now.items (codes "$comment ") (origin_of c.args.report.now c.args.i) (codes " $end") (10 ∷ [])
    c.push_piece.new.text.items c.push_origin_of.new.text.items c.push_line.new.text.items c.in_ok-push_piece.ensures.ok
    c.in_ok-push_origin_of.ensures c.in_ok-push_line.ensures.ok

use Rattle.std.proofs.Common.{◌++◌}
use Rattle.std.specs.Prelude.{codes, decimal}
use Rattle.bs_bits.specs.Lines.{line}
use Rattle.bs_inspect_view.proofs.HeadLemmas.{six}
use Rattle.bs_inspect_view.proofs.save.push_save_head.Goals as goal

pub returns : goal.returns
returns c =
    six c.args.text.now.items c.push_piece.new.text.items c.push_piece-2.new.text.items c.push_line.new.text.items
    c.push_number_line.new.text.items c.push_number_line-2.new.text.items c.push_piece-3.new.text.items (codes "[dumpfile] \"") c.args.wave.now
    (line (codes "\"")) (line (codes "[timestart] " ++ decimal c.args.from)) (line (codes "*0.000000 " ++ decimal c.args.last))
    (codes "@24\nrecorded.run\nrecorded.cycle\n") c.in_ok-push_piece.ensures.ok c.in_ok-push_piece-2.ensures.ok c.in_ok-push_line.ensures.ok
    c.in_ok-push_number_line.ensures.ok c.in_ok-push_number_line-2.ensures.ok c.in_ok-push_piece-3.ensures.ok

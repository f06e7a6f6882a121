use Rattle.bs_wave.proofs.WritingLemmas.{on_ok, whole_net}
use Rattle.bs_wave.proofs.text.push_net.Goals as goal

pub returns-clause-ok : goal.returns-clause-ok
returns-clause-ok c =
    on_ok c.push_line.result
    (λ last.
    whole_net c.args.into.now.items c.args.key.now c.push_piece.new.text.items c.push_id.new.into.items c.push_piece-2.new.text.items
    c.push_piece-3.new.text.items c.push_line.new.text.items c.args.net c.in_ok-push_piece.ensures.ok c.in_ok-push_id.ensures.ok
    c.in_ok-push_piece-2.ensures.ok c.in_ok-push_piece-3.ensures.ok last)
    c.push_line.ensures.ok

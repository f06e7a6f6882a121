use Rattle.bs_inspect_notes.proofs.NearLemmas.{clock_pieces}
use Rattle.bs_inspect_notes.proofs.simulation.push_clock.Goals as goal

pub returns : goal.returns
returns c =
    clock_pieces c.args.clock.now c.args.said.now.items _ _ _ _ _ c.as_bytes-name.ensures.value c.in_ok-push_piece.ensures.ok
    c.in_ok-push_name.ensures c.in_ok-push_some_near.ensures

use Rattle.bs_inspect_notes.proofs.NearLemmas.{near_of}
use Rattle.bs_inspect_notes.proofs.listing.push_near.Goals as goal

pub returns : goal.returns
returns c =
    near_of c.args.name.now c.args.text.now.items _ _ c.args.names.now _ _ c.in_ok-found.ensures c.in_ok-push_piece.ensures.ok
    c.as_slice.ensures.value c.in_ok-push_front.ensures

use Rattle.std.proofs.Common.{◌∙◌, ◌*◌, ℕ, List, ap, length, subst}
use Rattle.bs_lanes.specs.Planes.{lane}
use Rattle.bs_chip.specs.Hashes.{hash_of, ListsEach}
use Rattle.bs_preimage_recorded.proofs.ForwardLemmas.{parities_told}
use Rattle.bs_preimage_recorded.proofs.groups.parity_hashes.Goals as goal

pub returns : goal.returns
returns c =
    let words = c.put_parities.new.parities.items in
    let hashes = c.in_ok-hashes.hashes in
    parities_told c.args.groups.now c.args.planes.now words hashes c.args.wide c.args.count (length c.in_ok-parities.parities.items) c.args.lanes
    c.len-2.result c.requires.range (c.in_ok-parities.ensures ∙ ap (λ (n : ℕ). n * c.args.wide) c.len.ensures) c.put_parities.ensures.parities
    c.requires.lanes c.len-2.ensures
    (subst (λ (ws : List ℕ). ListsEach (λ r. hash_of (lane c.args.wide c.len-2.result ws r)) hashes c.args.lanes) c.as_slice.ensures.value
    c.in_ok-hashes.ensures)

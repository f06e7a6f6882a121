use Rattle.std.proofs.Common.{ℕ, ◌<◌, List, subst}
use Rattle.std.specs.List.{All}
use Rattle.bs_net.specs.Netlist.{circuit}
use Rattle.bs_encode.proofs.LawLemmas.{parts_placed}
use Rattle.bs_encode.proofs.RoomLemmas.{room_for_activations}
use Rattle.bs_encode.proofs.ListingLemmas.{encoding_is_tidy}
use Rattle.bs_encode.proofs.law.encodings_are_tidy.Goals as goal

pub returns : goal.returns
returns c =
    let P : ℕ → Type 0 = λ width. All (λ (item : List ℕ). All (λ i. i < width) item) c.args.choice.now.items in
    let placed = parts_placed c.args.net.now.raw c.raw-raw.ensures.placed c.args.choice.now.items (subst P c.requires c.items-items.ensures.sound.in_range) in
    encoding_is_tidy (circuit c.args.net.now) c.args.choice.now c.raw-raw.ensures.checked placed c.items-items.ensures.sound.kept
    (room_for_activations (circuit c.args.net.now)
    c.args.choice.now.items c.raw-raw.ensures.checked c.raw-raw.ensures.bounded c.items-items.ensures.sound.few_numbers c.items-items.ensures.sound.few_items)

use Rattle.std.proofs.Common.{ℕ, ◌<◌, ◌∙◌, List, subst, sym, arith}
use Rattle.std.specs.List.{All}
use Rattle.std.proofs.lemmas.List.{length-map}
use Rattle.bs_net.specs.Netlist.{circuit}
use Rattle.bs_encode.specs.Encoded.{encoding_of}
use Rattle.bs_encode.proofs.LawLemmas.{parts_placed}
use Rattle.bs_encode.proofs.RoomLemmas.{room_for_activations}
use Rattle.bs_encode.proofs.CycleLemmas.{is_transition, is_linkable}
use Rattle.bs_encode.proofs.law.encodings_are_linkable.Goals as goal

pub returns-clause-linkable : goal.returns-clause-linkable
returns-clause-linkable c =
    let P : ℕ → Type 0 = λ width. All (λ (item : List ℕ). All (λ i. i < width) item) c.args.choice.now.items in
    let placed = parts_placed c.args.net.now.raw c.raw-raw.ensures.placed c.args.choice.now.items (subst P c.requires c.items-items.ensures.sound.in_range) in
    let room =
    (room_for_activations (circuit c.args.net.now)
    c.args.choice.now.items c.raw-raw.ensures.checked c.raw-raw.ensures.bounded c.items-items.ensures.sound.few_numbers
    c.items-items.ensures.sound.few_items) in
    let t = is_transition (circuit c.args.net.now) c.args.choice.now.items c.raw-raw.ensures.checked placed in
    is_linkable (circuit c.args.net.now) c.args.choice.now.items (encoding_of (circuit c.args.net.now) c.args.choice.now.items) t (omega (arith, room))

pub returns-clause-width : goal.returns-clause-width
returns-clause-width c =
    let P : ℕ → Type 0 = λ width. All (λ (item : List ℕ). All (λ i. i < width) item) c.args.choice.now.items in
    let placed = parts_placed c.args.net.now.raw c.raw-raw.ensures.placed c.args.choice.now.items (subst P c.requires c.items-items.ensures.sound.in_range) in
    let t = is_transition (circuit c.args.net.now) c.args.choice.now.items c.raw-raw.ensures.checked placed in
    t.states_width ∙ sym (length-map (circuit c.args.net.now).flops (λ f. f.reset))

use Rattle.std.proofs.Common.{arith}
use Rattle.bs_net.specs.Netlist.{circuit}
use Rattle.bs_encode.proofs.RoomLemmas.{few_variables, short_items}
use Rattle.bs_encode.proofs.encoding.frame_over.Goals as goal

pub encode_parts-requires-clause-few : goal.encode_parts-requires-clause-few
encode_parts-requires-clause-few c = short_items c.args.choice.now.items c.items-items.ensures.sound.few_numbers

pub encode_parts-requires-clause-room : goal.encode_parts-requires-clause-room
encode_parts-requires-clause-room c =
    few_variables (circuit c.args.net.now)
    c.args.choice.now.items c.raw-raw.ensures.checked c.raw-raw.ensures.bounded c.items-items.ensures.sound.few_numbers c.items-items.ensures.sound.few_items

pub join_signed-requires-clause-room : goal.join_signed-requires-clause-room
join_signed-requires-clause-room c =
    let few = few_variables (circuit c.args.net.now)
    c.args.choice.now.items c.raw-raw.ensures.checked c.raw-raw.ensures.bounded c.items-items.ensures.sound.few_numbers c.items-items.ensures.sound.few_items in
    omega (arith, few)

use Rattle.std.proofs.Common.{◌≡◌, ◌+◌, ◌*◌, arith, length, ap, sym}
use Rattle.bs_stim.proofs.PackingLemmas.{recorded_few, input_small, one_more_input_grown, one_more_packed, room_grown}
use Rattle.bs_stim.proofs.inputs.Inputs.push.Goals as goal

pub overflow_add-start : goal.overflow_add-start
overflow_add-start c =
    let i = c.self.inside in
    omega (arith, input_small i.width i.count i.words.items _ c.self.view_is c.requires.few c.requires.narrow)

pub overflow_add-start-2 : goal.overflow_add-start-2
overflow_add-start-2 c =
    let i = c.self.inside in
    omega (arith, input_small i.width i.count i.words.items _ c.self.view_is c.requires.few c.requires.narrow)

pub write_bits-requires-clause-small : goal.write_bits-requires-clause-small
write_bits-requires-clause-small c =
    let i = c.self.inside in
    let wide : length c.args.characters.now ≡ i.width = rw (sym c.self.view_is) at c.requires.width in
    omega (arith, wide, input_small i.width i.count i.words.items _ c.self.view_is c.requires.few c.requires.narrow)

pub overflow_add-self : goal.overflow_add-self
overflow_add-self c =
    let i = c.self.inside in
    omega (arith, recorded_few i.width i.count i.words.items _ c.self.view_is c.requires.few)

pub invariant_of-self-2 : goal.invariant_of-self-2
invariant_of-self-2 c =
    let i = c.self.inside in
    let wide : length c.args.characters.now ≡ i.width = rw (sym c.self.view_is) at c.requires.width in
    let small = input_small i.width i.count i.words.items _ c.self.view_is c.requires.few c.requires.narrow in
    one_more_packed i.width i.count c.args.characters.now c.grow.new.words.items c.write_bits.new.words.items
    (room_grown (i.count * i.width + i.width) i.words.items c.grow.new.words.items c.write_bits.new.words.items c.in_ok-grow.ensures.ok
    c.write_bits.ensures.size) (omega (arith, small)) (rw wide at c.write_bits.ensures)

pub returns-clause-ok : goal.returns-clause-ok
returns-clause-ok c =
    let i = c.self.inside in
    let wide : length c.args.characters.now ≡ i.width = rw (sym c.self.view_is) at c.requires.width in
    rw (sym c.self.view_is)
    (ap (λ rows. record { width = i.width; rows = rows })
    (one_more_input_grown i.width i.count _ c.args.characters.now i.words.items c.grow.new.words.items c.write_bits.new.words.items wide
    c.in_ok-grow.ensures.ok (rw wide at c.write_bits.ensures)))

use Rattle.std.proofs.Common.{◌<◌, arith, length, ap, sym}
use Rattle.bs_stim.proofs.PackingLemmas.{input_ends, bit_at_place, recorded_below}
use Rattle.bs_stim.proofs.inputs.Inputs.bit.Goals as goal

pub overflow_mul-cycle : goal.overflow_mul-cycle
overflow_mul-cycle c =
    let i = c.self.inside in
    let lt = recorded_below i.width i.count i.words.items _ c.args.cycle c.self.view_is c.requires.cycle in
    omega (arith, input_ends i.width i.count c.args.cycle lt, c.self.invariant.small)

pub overflow_add-cycle : goal.overflow_add-cycle
overflow_add-cycle c =
    let i = c.self.inside in
    let lt = recorded_below i.width i.count i.words.items _ c.args.cycle c.self.view_is c.requires.cycle in
    let place : c.args.place < i.width = rw (sym c.self.view_is) at c.requires.place in
    omega (arith, input_ends i.width i.count c.args.cycle lt, c.self.invariant.small, place)

pub bit_of-requires : goal.bit_of-requires
bit_of-requires c =
    let i = c.self.inside in
    let lt = recorded_below i.width i.count i.words.items _ c.args.cycle c.self.view_is c.requires.cycle in
    let place : c.args.place < i.width = rw (sym c.self.view_is) at c.requires.place in
    omega (arith, input_ends i.width i.count c.args.cycle lt, c.self.invariant.room, place, ap length c.as_slice.ensures.value)

pub returns : goal.returns
returns c =
    let i = c.self.inside in
    let lt = recorded_below i.width i.count i.words.items _ c.args.cycle c.self.view_is c.requires.cycle in
    let place : c.args.place < i.width = rw (sym c.self.view_is) at c.requires.place in
    rw (sym c.self.view_is, c.bit_of.ensures, c.as_slice.ensures.value) (bit_at_place i.width i.count i.words.items c.args.cycle c.args.place lt place)

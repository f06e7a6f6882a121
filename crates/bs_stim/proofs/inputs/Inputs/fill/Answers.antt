use Rattle.std.proofs.Common.{◌≡◌, arith, length, ap, sym}
use Rattle.bs_stim.proofs.PackingLemmas.{input_ends, input_at, recorded_below}
use Rattle.bs_stim.proofs.inputs.Inputs.fill.Goals as goal

pub overflow_mul-cycle : goal.overflow_mul-cycle
overflow_mul-cycle c =
    let i = c.self.inside in
    let lt = recorded_below i.width i.count i.words.items _ c.args.cycle c.self.view_is c.requires.cycle in
    omega (arith, input_ends i.width i.count c.args.cycle lt, c.self.invariant.small)

pub copy_bits-requires-clause-room : goal.copy_bits-requires-clause-room
copy_bits-requires-clause-room c =
    let i = c.self.inside in
    let lt = recorded_below i.width i.count i.words.items _ c.args.cycle c.self.view_is c.requires.cycle in
    let wide : length c.args.into.now ≡ i.width = rw (sym c.self.view_is) at c.requires.width in
    omega (arith, input_ends i.width i.count c.args.cycle lt, c.self.invariant.room, wide, ap length c.as_slice.ensures.value)

pub copy_bits-requires-clause-small : goal.copy_bits-requires-clause-small
copy_bits-requires-clause-small c =
    let i = c.self.inside in
    let lt = recorded_below i.width i.count i.words.items _ c.args.cycle c.self.view_is c.requires.cycle in
    let wide : length c.args.into.now ≡ i.width = rw (sym c.self.view_is) at c.requires.width in
    omega (arith, input_ends i.width i.count c.args.cycle lt, c.self.invariant.small, wide)

pub returns : goal.returns
returns c =
    let i = c.self.inside in
    let lt = recorded_below i.width i.count i.words.items _ c.args.cycle c.self.view_is c.requires.cycle in
    let wide : length c.args.into.now ≡ i.width = rw (sym c.self.view_is) at c.requires.width in
    rw (sym c.self.view_is, c.copy_bits.ensures, c.as_slice.ensures.value, wide) (sym (input_at i.width i.count i.words.items c.args.cycle lt))

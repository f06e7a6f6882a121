use Rattle.std.proofs.Common.{◌<◌, length, get_or, [], sym, arith}
use Rattle.bs_stim.proofs.runs.Run.bit.Goals as goal

pub bit-requires-clause-place : goal.bit-requires-clause-place
bit-requires-clause-place c =
    let rows = c.self.inside.inputs.rows in
    let lt : c.args.cycle < length rows = rw (sym c.self.view_is) at c.requires.cycle in
    let place : c.args.place < length (get_or rows c.args.cycle []) = rw (sym c.self.view_is) at c.requires.place in
    omega (arith, c.self.invariant.1 c.args.cycle [] lt, place)

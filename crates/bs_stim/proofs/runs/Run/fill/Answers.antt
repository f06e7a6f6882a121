use Rattle.std.proofs.Common.{◌≡◌, ◌∙◌, ◌<◌, length, get_or, [], sym}
use Rattle.bs_stim.proofs.runs.Run.fill.Goals as goal

pub fill-requires-clause-width : goal.fill-requires-clause-width
fill-requires-clause-width c =
    let rows = c.self.inside.inputs.rows in
    let lt : c.args.cycle < length rows = rw (sym c.self.view_is) at c.requires.cycle in
    let wide : length c.args.into.now ≡ length (get_or rows c.args.cycle []) = rw (sym c.self.view_is) at c.requires.width in
    wide ∙ c.self.invariant.1 c.args.cycle [] lt

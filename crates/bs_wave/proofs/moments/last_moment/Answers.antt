use Rattle.std.proofs.Common.{◌≡◌, ◌∙◌}
use Rattle.bs_net.specs.Netlist.{circuit}
use Rattle.bs_wave.proofs.LastLemmas.{last_if}
use Rattle.bs_wave.proofs.moments.last_moment.Goals as goal

pub returns : goal.returns
returns c =
    let same : c.load.new.self.net ≡ c.args.net.now = c.load.ensures.net ∙ c.requires.same in
    let fits = rw (same, c.load.ensures.state) at c.settle.ensures.fits in
    last_if (circuit c.args.net.now) c.args.state.now _ c.settle.new.self.values c.as_slice.result.now c.known_values.result c.raw.ensures.checked fits
    (c.as_slice.ensures.value ∙ c.in_ok-known.ensures.marks) c.known_values.ensures

use Rattle.std.proofs.Common.{◌≡◌, drop}
use Rattle.bs_flat_nets.specs.Tally.{with_nets}
use Rattle.bs_flat_nets.proofs.tally.push_nets.Given as goal

abbrev pub invariant-nets : goal.invariant-nets
invariant-nets l =
    with_nets l.tally l.node l.bits (drop l.net-index l.nets) ≡ with_nets l.initial.tally l.node l.bits l.nets

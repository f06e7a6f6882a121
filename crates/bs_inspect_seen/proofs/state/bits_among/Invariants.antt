use Rattle.std.proofs.Common.{◌≡◌, map, take}
use Rattle.bs_net_names.specs.Keys.{parts_in}
use Rattle.bs_inspect_seen.specs.Given.{given_in}
use Rattle.bs_inspect_seen.specs.State.{given_bit}
use Rattle.bs_inspect_seen.proofs.state.bits_among.Given as goal

abbrev pub invariant-flops : goal.invariant-flops
invariant-flops l = l.bits ≡ map (given_bit (map given_in l.givens)) (map parts_in (take l.i l.flops))

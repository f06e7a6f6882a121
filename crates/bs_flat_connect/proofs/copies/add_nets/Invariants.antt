use Rattle.std.proofs.Common.{◌≡◌, ◌++◌, take}
use Rattle.bs_flat_connect.proofs.copies.add_nets.Given as goal

abbrev pub invariant-nets : goal.invariant-nets
invariant-nets l = l.all ≡ l.initial.all ++ take l.net-index l.from

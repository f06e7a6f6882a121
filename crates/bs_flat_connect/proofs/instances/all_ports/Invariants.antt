use Rattle.std.proofs.Common.{take}
use Rattle.bs_flat_connect.specs.Instances.{AreAllPorts}
use Rattle.bs_flat_connect.proofs.instances.all_ports.Given as goal

abbrev pub invariant-modules : goal.invariant-modules
invariant-modules l = AreAllPorts (take l.own-index l.owns) l.all

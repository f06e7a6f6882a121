use Rattle.std.proofs.Common.{List, ◌+◌, sym, subst, take}
use Rattle.bs_flat_connect.specs.declared.ports.Ports.{Ports}
use Rattle.bs_flat_connect.specs.Instances.{AreAllPorts}
use Rattle.bs_flat_connect.proofs.ChildLemmas.{ports_more}
use Rattle.bs_flat_connect.proofs.instances.all_ports.Goals as goal

pub modules-preserved : goal.modules-preserved
modules-preserved c =
    subst (λ (l : List Ports). AreAllPorts (take (c.modules.own-index + 1) c.args.owns.now) l) (sym c.in_ok-push.ensures.ok)
    (ports_more c.args.owns.now c.modules.all c.modules.own-index c.own-item.result c.own-item.result c.in_ok-ports.ports c.modules-test.true c.own-item.is
    c.modules.invariant c.in_ok-ports.ensures)

use Rattle.bs_verilog_scope.specs.Checking.{looked}
use Rattle.bs_flat_connect.specs.Growing.{bare}
use Rattle.bs_flat_connect.proofs.GrowLemmas.{instance_more, instances_all}
use Rattle.bs_flat_connect.proofs.growing.add_instances.Goals as goal

pub instances-preserved : goal.instances-preserved
instances-preserved c =
    instance_more c.args.table.now (looked c.args.scope.now) (bare c.instances.made) (bare c.add_connections.new.made) _ c.args.written.now
    c.instances.instance-index c.instance-item.result c.slice.result.now c.instances-test.true c.instance-item.is c.slice.ensures c.in_ok-add_connections.ensures
    c.instances.invariant

pub returns : goal.returns
returns c =
    instances_all c.args.table.now (looked c.args.scope.now) (bare c.instances.made) _ c.args.written.now c.instances.instance-index c.instances-test.false
    c.instances.invariant

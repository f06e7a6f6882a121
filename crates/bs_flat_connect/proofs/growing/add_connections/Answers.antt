use Rattle.bs_verilog_scope.specs.Checking.{looked}
use Rattle.bs_flat_connect.specs.Growing.{bare}
use Rattle.bs_flat_connect.proofs.GrowLemmas.{connection_more, connections_all}
use Rattle.bs_flat_connect.proofs.growing.add_connections.Goals as goal

pub connections-preserved : goal.connections-preserved
connections-preserved c =
    connection_more c.args.table.now (looked c.args.scope.now) (bare c.connections.made) (bare c.add_connection.new.made) _ c.args.cs.now c.connections.c-index
    c.c-item.result c.connections-test.true c.c-item.is c.in_ok-add_connection.ensures c.connections.invariant

pub returns : goal.returns
returns c =
    connections_all c.args.table.now (looked c.args.scope.now) (bare c.connections.made) _ c.args.cs.now c.connections.c-index c.connections-test.false
    c.connections.invariant

use Rattle.bs_flat_connect.proofs.GrowLemmas.{pushed}
use Rattle.bs_flat_connect.proofs.growing.own_keys.Goals as goal

pub names-preserved : goal.names-preserved
names-preserved c = pushed c.args.names.now c.names.keys c.push.new.self c.names.i c.key.result.now c.key.ensures c.names.invariant c.in_ok-push.ensures

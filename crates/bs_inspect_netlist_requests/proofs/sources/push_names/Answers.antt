use Rattle.std.proofs.Common.{arith}
use Rattle.std.specs.Prelude.{string_bytes}
use Rattle.bs_inspect_netlist_requests.proofs.NetlistLemmas.{names_more}
use Rattle.bs_inspect_netlist_requests.proofs.sources.push_names.Goals as goal

pub names-preserved : goal.names-preserved
names-preserved c =
    names_more (string_bytes c.names.text) (string_bytes c.push_behind.new.text) c.args.names.now c.names.name-index _ (string_bytes c.args.text.now)
    (omega (arith, c.names-test.true)) c.names.invariant c.in_ok-push_behind.ensures

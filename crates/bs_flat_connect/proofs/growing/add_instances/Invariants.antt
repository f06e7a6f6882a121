use Rattle.std.proofs.Common.{◌≡◌, drop}
use Rattle.bs_verilog_scope.specs.Checking.{looked}
use Rattle.bs_flat_meaning.specs.Connecting.{with_terms}
use Rattle.bs_flat_connect.specs.Growing.{bare, terms_in}
use Rattle.bs_flat_connect.proofs.growing.add_instances.Given as goal

abbrev pub invariant-instances : goal.invariant-instances
invariant-instances l =
    with_terms l.table (looked l.scope) (bare l.made) (terms_in (drop l.instance-index l.written))
    ≡ with_terms l.table (looked l.scope) (bare l.initial.made) (terms_in l.written)

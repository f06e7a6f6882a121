use Rattle.std.proofs.Common.{◌≡◌, drop}
use Rattle.bs_verilog_scope.specs.Checking.{looked}
use Rattle.bs_flat_meaning.specs.Connecting.{with_terms, terms_of}
use Rattle.bs_flat_connect.specs.Growing.{bare}
use Rattle.bs_flat_connect.proofs.growing.add_connections.Given as goal

abbrev pub invariant-connections : goal.invariant-connections
invariant-connections l =
    with_terms l.table (looked l.scope) (bare l.made) (terms_of (drop l.c-index l.cs))
    ≡ with_terms l.table (looked l.scope) (bare l.initial.made) (terms_of l.cs)

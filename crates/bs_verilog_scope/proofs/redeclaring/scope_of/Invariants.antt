use Rattle.std.proofs.Common.{◌≡◌, [], take, drop}
use Rattle.bs_verilog_scope.specs.Declaring.{first_after, is_redeclared}
use Rattle.bs_verilog_scope.proofs.TableLemmas.{IsSaid}
use Rattle.bs_verilog_scope.proofs.redeclaring.scope_of.Given as goal

abbrev pub invariant-declared : goal.invariant-declared
invariant-declared l =
    IsSaid l.scope (take l.d-index l.declared)
    × (first_after is_redeclared (take l.d-index l.declared) (drop l.d-index l.declared) ≡ first_after is_redeclared [] l.declared)

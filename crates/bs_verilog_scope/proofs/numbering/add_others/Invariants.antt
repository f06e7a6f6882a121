use Rattle.std.proofs.Common.{◌≡◌, ◌++◌, map, filter, not, take}
use Rattle.bs_verilog_scope.specs.Checking.{looked, marked}
use Rattle.bs_verilog_scope.specs.Declaring.{known}
use Rattle.bs_verilog_scope.proofs.numbering.add_others.Given as goal

abbrev pub invariant-declared : goal.invariant-declared
invariant-declared l =
    l.nets
    ≡ l.initial.nets ++ map (λ d. known (looked l.scope) d.name) (filter (λ d. not (marked l.marks d.name.id)) (take l.d-index l.declared))

use Rattle.std.proofs.Common.{◌≡◌, [], take, drop}
use Rattle.bs_verilog_scope.specs.Declaring.{first_after, stands_before}
use Rattle.bs_verilog_scope.proofs.TableLemmas.{IsMarked}
use Rattle.bs_verilog_scope.proofs.redeclaring.header_marks.Given as goal

abbrev pub invariant-names : goal.invariant-names
invariant-names l =
    IsMarked l.seen (take l.name-index l.header)
    × (first_after stands_before (take l.name-index l.header) (drop l.name-index l.header) ≡ first_after stands_before [] l.header)

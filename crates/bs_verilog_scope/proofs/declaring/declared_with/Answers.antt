use Rattle.std.proofs.Common.{refl}
use Rattle.bs_verilog_scope.specs.Checking.{looked, marked}
use Rattle.bs_verilog_scope.specs.Declaring.{redeclared_fault, naming_fault}
use Rattle.bs_verilog_scope.proofs.DeclaringLemmas.{by_scope, second, second_none}
use Rattle.bs_verilog_scope.proofs.declaring.declared_with.Goals as goal

pub returns-in-Ok : goal.returns-in-Ok
returns-in-Ok c =
    let header = c.args.header.now in
    let declared = c.args.declared.now in
    let marks = marked c.args.marks.now in
    let scope = looked c.in_ok-scope.scope in (
      second_none (redeclared_fault declared) (naming_fault c.args.table.now marks scope header declared) _
          (by_scope c.args.table.now header declared marks scope c.in_ok-scope.ensures.1) c.in_ok-scope.ensures.0 c.in-Ok.ensures.0,
      (c.in_ok-scope.ensures.1, c.in-Ok.ensures.1.0, c.in-Ok.ensures.1.1),
    )

pub returns-in-Err : goal.returns-in-Err
returns-in-Err c =
    let header = c.args.header.now in
    let declared = c.args.declared.now in
    let marks = marked c.args.marks.now in
    let scope = looked c.in_ok-scope.scope in
    second (redeclared_fault declared) (naming_fault c.args.table.now marks scope header declared) _ _ _
    (by_scope c.args.table.now header declared marks scope c.in_ok-scope.ensures.1) c.in_ok-scope.ensures.0 refl c.in-Err.ensures

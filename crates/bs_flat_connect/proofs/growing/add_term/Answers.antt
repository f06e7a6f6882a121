use Rattle.bs_verilog_scope.specs.Checking.{looked}
use Rattle.bs_flat_connect.specs.Growing.{bare}
use Rattle.bs_flat_connect.proofs.GrowLemmas.{then_on, constant_term, declared_term, free_term}
use Rattle.bs_flat_connect.proofs.growing.add_term.Goals as goal

pub returns-in-Constant : goal.returns-in-Constant
returns-in-Constant c =
    then_on c.add_constant.result _ _ _ c.add_constant.ensures
    (constant_term c.args.table.now (looked c.args.scope.now) (bare c.args.made.now) c.in-Constant.field-0 c.in-Constant.bit c.args.term c.in-Constant.is)

pub returns-in-Some : goal.returns-in-Some
returns-in-Some c =
    declared_term c.args.table.now (looked c.args.scope.now) (bare c.args.made.now) c.in-Named.name c.in-Named.field-1 c.in-Some.field-0 c.args.term c.in-Named.is
    c.in-Some.ensures

pub returns-in-None : goal.returns-in-None
returns-in-None c =
    then_on c.add_name.result _ _ _ c.add_name.ensures
    (free_term c.args.table.now (looked c.args.scope.now) (bare c.args.made.now) c.in-Named.name c.in-Named.field-1 c.args.term c.text.result.now c.in-Named.is
    c.in-None.ensures c.text.ensures)

use Rattle.std.proofs.Common.{ap, Ok, List}
use Rattle.bs_verilog_syntax.specs.declared.tree.Declared.{Declared}
use Rattle.bs_verilog_syntax.proofs.CarryLemmas.{carried_on, carried_end}
use Rattle.bs_verilog_syntax.proofs.declarations.carried.Goals as goal

pub ports-preserved : goal.ports-preserved
ports-preserved c =
    rw c.in_ok-push.ensures.ok (carried_on c.ports.declared c.ports.before c.says_of-before.result c.args.ports.now c.ports.port-index _ _ c.ports-test.true
    c.says_of-before.ensures c.ports.invariant)

pub returns : goal.returns
returns c = ap (λ (x : List Declared). Ok x) (carried_end c.ports.declared c.ports.before c.args.ports.now c.ports.port-index _ c.ports-test.false
    c.ports.invariant)

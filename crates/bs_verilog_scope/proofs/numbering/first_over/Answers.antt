use Rattle.std.proofs.Common.{ap, ◌+◌, None, arith, get_or}
use Rattle.bs_verilog_scope.specs.Keys.{text}
use Rattle.bs_verilog_scope.specs.declared.numbering.Known.{Known}
use Rattle.bs_verilog_scope.proofs.NumberLemmas.{over_here, over_later, over_end}
use Rattle.bs_verilog_scope.proofs.numbering.first_over.Goals as goal

abbrev nothing : Known
nothing = record { name = record { at = 0; id = 0 }; range = None }

pub returns-then-count : goal.returns-then-count
returns-then-count c =
    over_here c.args.table.now c.args.nets.now c.nets.net-index nothing c.nets.count _ _ c.nets-test.true
    (ap (λ n. c.nets.count + n) (c.bits_of-count.ensures.count (text c.args.table.now (get_or c.args.nets.now c.nets.net-index nothing).name)))
    c.if-count.true c.nets.invariant.1

pub nets-preserved : goal.nets-preserved
nets-preserved c = (
  omega (arith, c.if-count.false),
  over_later c.args.table.now c.args.nets.now c.nets.net-index nothing c.nets.count _ _ c.nets-test.true
      (ap (λ n. c.nets.count + n) (c.bits_of-count.ensures.count (text c.args.table.now (get_or c.args.nets.now c.nets.net-index nothing).name)))
      (omega (arith, c.if-count.false)) c.nets.invariant.1,
)

pub returns : goal.returns
returns c = over_end c.args.table.now c.args.nets.now c.nets.net-index c.nets.count _ c.nets-test.false c.nets.invariant.1

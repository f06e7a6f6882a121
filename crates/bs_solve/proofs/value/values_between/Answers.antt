use Rattle.std.proofs.Common.{◌+◌, ◌∙◌, subst, sym, arith}
use Rattle.bs_solve.specs.Between.{AreBetween}
use Rattle.bs_solve.proofs.ValueLemmas.{between_none, between_more}
use Rattle.bs_solve.proofs.value.values_between.Goals as goal

pub numbers-init : goal.numbers-init
numbers-init c =
    record {
      values =
          subst (AreBetween c.args.trues.now c.args.first c.args.first) (sym (c.reserve.ensures.items ∙ c.new-values.ensures.items))
          (between_none c.args.trues.now c.args.first);
      order = omega arith;
    }

pub numbers-preserved : goal.numbers-preserved
numbers-preserved c =
    let n = c.numbers.number in
    record {
      values =
          subst (AreBetween c.args.trues.now c.args.first (n + 1)) (sym c.in_ok-push.ensures.items)
          (between_more c.args.trues.now c.args.first n c.numbers.values.items c.is_set.result c.numbers.invariant.order c.numbers.invariant.values
          c.is_set.ensures);
      order = let low = c.numbers.invariant.order in omega (arith, low);
    }

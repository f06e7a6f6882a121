use Rattle.std.proofs.Common.{arith, refl}
use Rattle.bs_inspect_signature.proofs.SpreadLemmas.{more_later}
use Rattle.bs_inspect_signature.proofs.spread.count_later.Goals as goal

pub runs-preserved : goal.runs-preserved
runs-preserved c =
    more_later c.args.runs.now c.runs.k c.count_behind.result c.runs.count _ (omega (arith, c.runs-test.true, c.count-k-end.ensures.count))
    c.count_behind.ensures.count c.count_behind.ensures.few c.runs.invariant refl

use Rattle.std.proofs.Common.{arith, refl}
use Rattle.bs_inspect_signature.proofs.SpreadLemmas.{place_more}
use Rattle.bs_inspect_signature.proofs.spread.moment_at.Goals as goal

pub runs-preserved : goal.runs-preserved
runs-preserved c =
    place_more c.args.runs.now c.args.place c.runs.k c.runs.left c.count_behind-behind.result _
    (omega (arith, c.runs-test.true, c.count-k-end.ensures.count)) c.count_behind-behind.ensures.count (omega (arith, c.if-left-behind.false)) refl
    c.runs.invariant

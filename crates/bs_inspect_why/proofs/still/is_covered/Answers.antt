use Rattle.std.proofs.Common.{arith}
use Rattle.bs_inspect_causes.proofs.SearchLemmas.{any_here, any_more, any_none}
use Rattle.bs_inspect_why.specs.Stills.{covers}
use Rattle.bs_inspect_why.proofs.still.is_covered.Goals as goal

pub stills-preserved : goal.stills-preserved
stills-preserved c =
    any_more (covers c.args.fact) c.args.stills.now c.stills.still-index _ c.covers.result (omega (arith, c.stills-test.true)) c.covers.ensures
    c.if-covers.false c.stills.invariant

pub returns-then-covers : goal.returns-then-covers
returns-then-covers c =
    any_here (covers c.args.fact) c.args.stills.now c.stills.still-index _ c.covers.result (omega (arith, c.stills-test.true)) c.covers.ensures
    c.if-covers.true

pub returns : goal.returns
returns c = any_none (covers c.args.fact) c.args.stills.now c.stills.still-index (omega (arith, c.stills-test.false)) c.stills.invariant

use Rattle.std.proofs.Common.{arith}
use Rattle.bs_inspect_near.proofs.LookLemmas.{misses_all, misses_begin, misses_more, value_wide}
use Rattle.bs_inspect_near.proofs.unmatched_lanes.misses.Goals as goal

pub values-init : goal.values-init
values-init c = misses_begin c.args.words.now c.args.places.now c.args.values.now c.args.mask

pub agreeing-hits-requires : goal.agreeing-hits-requires
agreeing-hits-requires c =
    value_wide c.args.places.now c.args.values.now c.get.result.now c.values.i (omega (arith, c.values-test.true, c.len-i-end.ensures)) c.get.ensures.value
    c.requires.wide

pub values-preserved : goal.values-preserved
values-preserved c =
    misses_more c.args.words.now c.args.places.now c.args.values.now c.get.result.now c.args.mask c.values.left c.agreeing-hits.result c.cut-left.result
    c.values.i (omega (arith, c.values-test.true, c.len-i-end.ensures)) c.get.ensures.value c.agreeing-hits.ensures c.cut-left.ensures c.values.invariant

pub returns : goal.returns
returns c =
    misses_all c.args.words.now c.args.places.now c.args.values.now c.args.mask c.values.left c.values.i
    (omega (arith, c.values-test.false, c.len-i-end.ensures)) c.values.invariant

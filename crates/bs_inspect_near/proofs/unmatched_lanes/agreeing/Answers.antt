use Rattle.std.proofs.Common.{get_or, arith}
use Rattle.std.proofs.lemmas.List.{get_or_default}
use Rattle.bs_inspect_near.proofs.LookLemmas.{agrees_all, agrees_begin, agrees_more, agrees_none}
use Rattle.bs_inspect_near.proofs.unmatched_lanes.agreeing.Goals as goal

pub places-preserved : goal.places-preserved
places-preserved c =
    agrees_more c.args.words.now c.args.places.now c.args.value.now c.args.mask c.places.left c.cut-left.result c.places.i
    (get_or c.args.places.now c.places.i 0) c.word_at.result c.get.result c.places-test.true c.requires
    (get_or_default c.args.places.now c.places.i 0 (get_or c.args.places.now c.places.i 0) c.places-test.true) c.word_at.ensures c.get.ensures.value
    c.cut-left.ensures c.places.invariant

pub places-init : goal.places-init
places-init c = agrees_begin c.args.words.now c.args.places.now c.args.value.now c.args.mask

pub returns-then-left-eq0 : goal.returns-then-left-eq0
returns-then-left-eq0 c =
    agrees_none c.args.words.now c.args.places.now c.args.value.now c.args.mask c.places.left c.places.i c.if-left-eq0.true c.places.invariant

pub returns : goal.returns
returns c =
    agrees_all c.args.words.now c.args.places.now c.args.value.now c.args.mask c.places.left c.places.i (omega (arith, c.places-test.false)) c.requires
    c.places.invariant

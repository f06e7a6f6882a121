use Rattle.std.proofs.Common.{arith}
use Rattle.bs_inspect_why.proofs.TellingLemmas.{place_there, places_all, places_begin, places_more}
use Rattle.bs_inspect_why.proofs.telling.push_places.Goals as goal

pub push_place-requires-clause-place : goal.push_place-requires-clause-place
push_place-requires-clause-place c =
    place_there c.args.telling.now.accounts.now c.args.chains.now c.args.ordered.now c.places.i c.place_at-place.result c.requires.places
    (omega (arith, c.places-test.true)) c.place_at-place.ensures

pub places-preserved : goal.places-preserved
places-preserved c =
    places_more c.args.telling.now.moments.now c.args.telling.now.report.now c.args.telling.now.few c.args.telling.now.stills.now c.args.telling.now.accounts.now c.args.chains.now c.args.ordered.now c.places.i
    c.place_at-place.result c.args.text.now.items c.places.text.items c.push_place.new.text.items c.place_at-place.ensures c.places.invariant
    c.in_ok-push_place.ensures

pub places-init : goal.places-init
places-init c =
    places_begin c.args.telling.now.moments.now c.args.telling.now.report.now c.args.telling.now.few c.args.telling.now.stills.now
    c.args.telling.now.accounts.now c.args.chains.now c.args.ordered.now c.args.text.now.items

pub returns : goal.returns
returns c =
    places_all c.args.telling.now.moments.now c.args.telling.now.report.now c.args.telling.now.few c.args.telling.now.stills.now
    c.args.telling.now.accounts.now c.args.chains.now c.args.ordered.now c.places.i c.args.text.now.items c.places.text.items
    (omega (arith, c.places-test.false, c.places.auto.i-end)) c.places.invariant

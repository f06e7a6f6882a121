use Rattle.std.proofs.Common.{◌+◌, ◌*◌, length, get_or}
use Rattle.std.proofs.lemmas.List.{get_or_default}
use Rattle.bs_inspect_near.proofs.CountLemmas.{place_free, place_shown, word_fits}
use Rattle.bs_inspect_near.proofs.distances.others_at.Goals as goal

pub returns-then-is_free : goal.returns-then-is_free
returns-then-is_free c =
    place_free c.args.planes.now c.args.wide c.args.word c.args.seen.now c.args.place c.is_free.result c.is_free.ensures c.if-is_free.true

pub returns : goal.returns
returns c =
    place_shown c.args.planes.now c.args.wide c.args.word c.args.seen.now c.args.place
    (get_or c.args.planes.now (c.args.place * c.args.wide + c.args.word) 0) c.others.result c.get.result c.is_free.result c.requires.place
    c.requires.word c.requires.planes c.is_free.ensures c.if-is_free.false
    (get_or_default c.args.planes.now (c.args.place * c.args.wide + c.args.word) 0
    (get_or c.args.planes.now (c.args.place * c.args.wide + c.args.word) 0)
    (word_fits c.args.place c.args.wide c.args.word (length c.args.seen.now.bits) (length c.args.planes.now) c.requires.place c.requires.word
    c.requires.planes))
    c.get.ensures.value c.others.ensures

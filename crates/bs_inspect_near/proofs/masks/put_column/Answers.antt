use Rattle.std.proofs.Common.{◌+◌, ◌*◌, length, get_or, arith}
use Rattle.std.proofs.lemmas.List.{get_or_default}
use Rattle.bs_inspect_near.proofs.MaskLemmas.{column_all, column_begin, column_more, word_fits}
use Rattle.bs_inspect_near.proofs.masks.put_column.Goals as goal

pub planes-init : goal.planes-init
planes-init c = column_begin c.args.planes.now c.args.wide c.args.word c.args.words.now.items

pub planes-preserved : goal.planes-preserved
planes-preserved c =
    column_more c.args.planes.now c.args.wide c.args.word c.planes.i (get_or c.args.planes.now (c.planes.i * c.args.wide + c.args.word) 0)
    c.args.words.now.items c.planes.words.items (omega (arith, c.planes-test.true, c.len-i-end.ensures)) c.requires.planes c.requires.word
    (get_or_default c.args.planes.now (c.planes.i * c.args.wide + c.args.word) 0 (get_or c.args.planes.now (c.planes.i * c.args.wide + c.args.word) 0)
    (word_fits c.planes.i c.args.wide c.args.word (length c.args.words.now.items) (length c.args.planes.now)
    (omega (arith, c.planes-test.true, c.len-i-end.ensures)) c.requires.word c.requires.planes))
    c.planes.invariant

pub returns-clause-column : goal.returns-clause-column
returns-clause-column c =
    column_all c.args.planes.now c.args.wide c.args.word c.planes.i c.args.words.now.items c.planes.words.items
    (omega (arith, c.planes-test.false, c.len-i-end.ensures)) c.planes.invariant

use Rattle.bs_net.specs.Netlist.{circuit}
use Rattle.bs_reach.proofs.WiderLemmas.{room_for, widened_is}
use Rattle.bs_reach.proofs.wider.widened.Goals as goal

pub retold-requires-clause-room : goal.retold-requires-clause-room
retold-requires-clause-room c =
    room_for (circuit c.args.net.now) c.args.encoding.now c.args.state.now c.args.j c.args.k c.args.reach.conflicts c.args.reach c.shift_between-shift.result
    c.requires.encoded c.shift_between-shift.ensures c.netlists_unroll.ensures c.requires.some c.requires.fewer c.requires.small c.requires.right
    c.requires.reached c.renamed_logs_stay_right.ensures.room

pub returns : goal.returns
returns c =
    widened_is (circuit c.args.net.now) c.args.encoding.now c.args.state.now c.args.j c.args.k c.args.reach.conflicts c.args.reach c.shift_between-shift.result
    c.requires.encoded c.shift_between-shift.ensures c.netlists_unroll.ensures c.requires.some c.requires.fewer c.requires.small c.requires.right
    c.requires.reached c.renamed_logs_stay_right.ensures.right c.renamed_logs_stay_right.ensures.room c.in_ok-told.told c.in_ok-told.ensures

use Rattle.bs_chip.proofs.AlikeLemmas.{alike_in}
use Rattle.bs_chip.proofs.alike.next_in.Goals as goal

pub returns : goal.returns
returns c =
    alike_in c.args.pass.now c.args.choice.now c.args.planes.now c.args.stored.now c.args.cycle c.args.from c.next_showing-next.result c.requires.width
    c.requires.shows c.next_showing-next.ensures

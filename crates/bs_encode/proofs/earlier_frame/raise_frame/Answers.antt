use Rattle.bs_encode.proofs.OlderLemmas.{frame_room}
use Rattle.bs_encode.proofs.earlier_frame.raise_frame.Goals as goal

pub raise_all-requires : goal.raise_all-requires
raise_all-requires c = frame_room c.args.one.now c.vars.result c.args.literals.now c.requires.linkable c.vars.ensures c.requires.range

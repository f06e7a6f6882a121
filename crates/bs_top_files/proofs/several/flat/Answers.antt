use Rattle.bs_flat_meaning.specs.Reading.{first_top}
use Rattle.bs_top_files.proofs.FlattenLemmas.{at_top}
use Rattle.bs_top_files.proofs.several.flat.Goals as goal

pub elaborate-requires-clause-design : goal.elaborate-requires-clause-design
elaborate-requires-clause-design c = rw c.slice.ensures (at_top c.args.blocks c.top_of-top.result (first_top c.args.ranked.tops) c.top_of-top.ensures c.requires.design)

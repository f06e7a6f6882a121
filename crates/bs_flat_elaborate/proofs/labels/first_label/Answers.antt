use Rattle.std.proofs.Common.{refl}
use Rattle.bs_flat_elaborate.proofs.TextLemmas.{text_top}
use Rattle.bs_flat_elaborate.proofs.labels.first_label.Goals as goal

pub returns : goal.returns
returns c = record { text = text_top c.args.blocks.now c.args.nodes.now 0 _ refl c.new.ensures.bytes }

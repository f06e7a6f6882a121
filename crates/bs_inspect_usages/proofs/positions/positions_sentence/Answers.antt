use Rattle.std.proofs.Common.{◌∙◌}
use Rattle.bs_inspect_usages.specs.Usages.{placed_text}
use Rattle.bs_inspect_usages.proofs.positions.positions_sentence.Goals as goal

pub returns : goal.returns
returns c = c.in_ok-said.ensures ∙ λ i. placed_text c.args.command.now (c.count_in-count.ensures i) (c.third_in-third.ensures i)

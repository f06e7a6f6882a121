use Rattle.std.proofs.Common.{ap, ◌∙◌}
use Rattle.bs_net.specs.Netlist.{Checked}
use Rattle.bs_inspect_why_words.specs.Heads.{episode_in}
use Rattle.bs_inspect_why_words.proofs.BlockLemmas.{block_told, raw_is}
use Rattle.bs_inspect_why_words.proofs.block.push_block.Goals as goal

pub returns : goal.returns
returns c =
    let same = c.raw-raw.ensures.parts ∙ ap (λ (n : Checked). n.raw) c.net.ensures in
    block_told c.args.moments.now c.args.report.now c.args.limits c.args.steps (episode_in c.args.first.now) (episode_in c.args.last.now)
    c.args.text.now.items c.push_head.new.text.items c.push_causes.new.text.items c.push_by_cycles.new.text.items c.push_by_cycles-2.new.text.items
    c.in_ok-push_head.ensures c.in_ok-push_causes.ensures (raw_is same c.in_ok-push_by_cycles.ensures) (raw_is same c.in_ok-push_by_cycles-2.ensures)

use Rattle.std.proofs.Common.{map}
use Rattle.bs_inspect_view.specs.Signals.{signal_in}
use Rattle.bs_inspect_why_words.specs.Heads.{episode_in}
use Rattle.bs_inspect_why_words.proofs.HeadLemmas.{line_told}
use Rattle.bs_inspect_why_words.proofs.head.push_head_of.Goals as goal

pub returns : goal.returns
returns c =
    line_told c.args.moments.now c.args.report.now c.args.steps (map signal_in c.args.signals.now) (episode_in c.args.first.now) (episode_in c.args.last.now)
    c.in_ok-bits.bits c.in_ok-befores.befores c.args.text.now.items c.push_line_with.new.text.items c.in_ok-bits.ensures c.in_ok-befores.ensures
    c.in_ok-push_line_with.ensures

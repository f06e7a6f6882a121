use Rattle.std.proofs.Common.{map}
use Rattle.std.specs.Prelude.{codes, decimal}
use Rattle.bs_inspect_view.specs.Signals.{signal_in}
use Rattle.bs_inspect_why_words.specs.Facts.{signals_words}
use Rattle.bs_inspect_why_words.specs.Heads.{before_words, episode_in, moment_words, since_words}
use Rattle.bs_inspect_why_words.proofs.HeadLemmas.{line_put}
use Rattle.bs_inspect_why_words.proofs.head.push_line_with.Goals as goal

pub returns : goal.returns
returns c =
    line_put c.args.text.now.items (decimal c.args.first.now.at) (codes " ")
    (signals_words c.args.change.now.bits.now (map signal_in c.args.change.now.signals.now)) (since_words (episode_in c.args.first.now))
    (before_words c.args.change.now.steps (map signal_in c.args.change.now.signals.now) c.args.change.now.bits.now c.args.change.now.befores.now
    c.args.change.now.since) (moment_words c.args.report.now c.args.first.now.at) c.push_front.new.text.items c.push_before.new.text.items
    c.push_moment.new.text.items c.end_line.new.text.items c.in_ok-push_front.ensures c.in_ok-push_before.ensures c.in_ok-push_moment.ensures
    c.in_ok-end_line.ensures.ok

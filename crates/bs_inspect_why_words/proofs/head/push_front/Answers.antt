use Rattle.std.proofs.Common.{ℕ, ◌++◌, ap, map, ◌∙◌}
use Rattle.std.specs.Prelude.{codes, decimal}
use Rattle.bs_inspect_view.specs.Signals.{signal_in}
use Rattle.bs_inspect_why_words.specs.Facts.{signals_words}
use Rattle.bs_inspect_why_words.specs.Heads.{episode_in, since_words}
use Rattle.bs_inspect_why_words.proofs.HeadLemmas.{front_put}
use Rattle.bs_inspect_why_words.proofs.head.push_front.Goals as goal

pub returns : goal.returns
returns c =
    front_put c.args.text.now.items (decimal c.args.first.now.at) (codes " ")
    (signals_words c.args.change.now.bits.now (map signal_in c.args.change.now.signals.now)) (since_words (episode_in c.args.first.now))
    c.push_number.new.text.items c.push_piece.new.text.items c.push_signals.new.text.items c.push_since.new.text.items
    (c.in_ok-push_number.ensures.ok ∙ ap (λ (n : ℕ). c.args.text.now.items ++ decimal n) c.from.ensures) c.in_ok-push_piece.ensures.ok
    c.in_ok-push_signals.ensures c.in_ok-push_since.ensures

use Rattle.std.proofs.Common.{List, ℕ, ap, ◌∙◌}
use Rattle.bs_inspect_view.specs.Signals.{bits_from, signal_in, member_in}
use Rattle.bs_inspect_view.proofs.SignalLemmas.{bits_extended}
use Rattle.bs_inspect_view.proofs.signal.extended.Goals as goal

pub returns : goal.returns
returns c =
    ap (λ (ps : List ℕ). bits_from c.args.last.base.now c.args.last.high ps) c.in_ok-push.ensures.ok
    ∙ bits_extended (signal_in c.args.last) (member_in c.args.member.now) c.requires

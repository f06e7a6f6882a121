use Rattle.bs_wave.proofs.WritingLemmas.{on_ok, whole_wave}
use Rattle.bs_wave.proofs.text.push_wave.Goals as goal

pub returns-clause-ok : goal.returns-clause-ok
returns-clause-ok c =
    on_ok c.push_moments.result
    (λ last.
    whole_wave c.args.wave.now c.args.into.now.items c.push_head.new.into.items c.push_moments.new.into.items c.in_ok-push_head.ensures.ok last)
    c.push_moments.ensures.ok

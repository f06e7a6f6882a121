use Rattle.bs_inspect_signature.proofs.MomentCountLemmas.{state_wide}
use Rattle.bs_inspect_signature.proofs.lists.count_at.Goals as goal

pub count_dump-requires-clause-state : goal.count_dump-requires-clause-state
count_dump-requires-clause-state c =
    state_wide c.args.chip.now.recording c.args.net.now.raw c.args.choice.now c.args.runs.now c.args.moment c.in_ok-dump.dump c.args.preimage.now
    c.requires.recording c.requires.circuit c.in_ok-dump.ensures.dump

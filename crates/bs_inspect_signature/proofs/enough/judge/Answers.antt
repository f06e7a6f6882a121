use Rattle.bs_inspect_signature.proofs.EnoughLemmas.{judged_by}
use Rattle.bs_inspect_signature.proofs.enough.judge.Goals as goal

pub returns : goal.returns
returns c =
    judged_by c.args.net.now.raw c.args.runs.now c.args.count c.count_taken-taken.result c.args.choice c.in_ok-lists.lists.items c.as_slice.result.now
    c.verdict_of-verdict.result c.requires.read c.in_ok-lists.ensures c.count_taken-taken.ensures.taken c.as_slice.ensures.value
    c.verdict_of-verdict.ensures

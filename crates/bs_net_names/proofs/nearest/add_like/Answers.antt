use Rattle.std.proofs.Common.{arith}
use Rattle.bs_net_names.proofs.NearestLemmas.{below_full, like_far, like_more}
use Rattle.bs_net_names.proofs.nearest.add_like.Goals as goal

pub returns-then-len-ge-NAMED : goal.returns-then-len-ge-NAMED
returns-then-len-ge-NAMED c = below_full _ _ _ _ c.requires.nearest (omega (arith, c.len.ensures, c.if-len-ge-NAMED.true))

pub returns-then-not-like : goal.returns-then-not-like
returns-then-not-like c = like_far _ _ c.args.first _ _ _ c.in_ok-like.ensures c.if-not-like.true c.requires.first c.requires.nearest

pub returns : goal.returns
returns c =
    like_more _ _ c.args.first _ _ _ _ c.in_ok-like.ensures c.if-not-like.false (omega (arith, c.len.ensures, c.if-len-ge-NAMED.false))
    c.requires.nearest c.in_ok-push.ensures.items

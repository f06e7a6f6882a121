use Rattle.bs_inspect_causes.proofs.UnitLemmas.{keeps_more, keeps_same}
use Rattle.bs_inspect_causes.proofs.units.push_new.Goals as goal

pub returns-then-is_repeated : goal.returns-then-is_repeated
returns-then-is_repeated c =
    keeps_same c.args.facts.now c.args.kept.now c.args.place c.requires.there (c.is_repeated.ensures c.if-is_repeated.true) c.requires.so_far

pub returns : goal.returns
returns c =
    keeps_more c.args.facts.now c.args.kept.now c.push.new.self c.args.place _ c.requires.there c.requires.so_far c.in_ok-push.ensures.ok

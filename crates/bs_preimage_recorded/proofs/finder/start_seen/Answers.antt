use Rattle.std.proofs.Common.{sym, ◌∙◌}
use Rattle.bs_preimage_recorded.proofs.FinderLemmas.{before_if_whole, none_before_first}
use Rattle.bs_preimage_recorded.proofs.finder.start_seen.Goals as goal

pub returns-then-is_whole-clause-none : goal.returns-then-is_whole-clause-none
returns-then-is_whole-clause-none c =
    before_if_whole c.args.forward.now.circuit c.args.forward.now.runs c.args.present.now c.start.result
    (sym c.is_whole.ensures ∙ c.if-is_whole.true) c.start.ensures.none

pub returns-clause-none : goal.returns-clause-none
returns-clause-none c = none_before_first c.args.forward.now.circuit c.args.forward.now.runs c.args.present.now

use Rattle.std.proofs.Common.{sym, ◌∙◌}
use Rattle.bs_scan.specs.Moments.{run_of, state_at}
use Rattle.bs_preimage_recorded.proofs.FinderLemmas.{past_if_whole}
use Rattle.bs_preimage_recorded.proofs.finder.may_lead_seen.Goals as goal

pub returns-then-is_whole-clause-lead : goal.returns-then-is_whole-clause-lead
returns-then-is_whole-clause-lead c =
    past_if_whole c.args.forward.now.circuit (state_at c.args.forward.now.circuit (run_of c.args.forward.now.runs c.args.run) c.args.cycle)
    c.args.present.now c.may_lead_in.result (sym c.is_whole.ensures ∙ c.if-is_whole.true) c.may_lead_in.ensures.lead

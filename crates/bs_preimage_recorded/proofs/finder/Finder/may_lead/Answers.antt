use Rattle.std.proofs.Common.{◌∙◌, ap}
use Rattle.bs_preimage_recorded.specs.Finder.{Seeker}
use Rattle.bs_preimage_recorded.proofs.FinderLemmas.{aimed_in}
use Rattle.bs_preimage_recorded.proofs.finder.Finder.may_lead.Goals as goal

pub may_lead_by-requires-clause-recording : goal.may_lead_by-requires-clause-recording
may_lead_by-requires-clause-recording c =
    let i = c.self.inside in
    aimed_in i.signature_hashes c.args.chip.now.recording i.present.bits i.aim i.forward c.self.invariant.forward_is
    (ap (λ (s : Seeker). s.recording) c.self.view_is ∙ c.requires.recording)

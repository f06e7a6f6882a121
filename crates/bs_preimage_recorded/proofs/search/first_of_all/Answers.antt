use Rattle.std.proofs.Common.{subst}
use Rattle.std.specs.Prelude.{option_map}
use Rattle.bs_chip.specs.Lockstep.{IsLongest}
use Rattle.bs_preimage_recorded.specs.Finder.{Seeker}
use Rattle.bs_preimage_recorded.proofs.SearchLemmas.{cut_of_tried, of_all}
use Rattle.bs_preimage_recorded.proofs.search.first_of_all.Goals as goal

pub returns-clause-sought : goal.returns-clause-sought
returns-clause-sought c =
    of_all c.args.chip.now.recording c.args.query.now.present.now c.args.query.now.stored.now (option_map (λ bits. bits.now) c.args.query.now.older)
    c.longest-limit.result c.in_ok-sought.sought
    (subst (λ (f : Seeker). IsLongest f.recording.runs c.longest-limit.result) c.requires.aimed c.longest-limit.ensures.all) c.in_ok-sought.ensures.sought

pub returns-clause-tried : goal.returns-clause-tried
returns-clause-tried c =
    cut_of_tried c.args.chip.now.recording c.args.query.now.present.now c.args.query.now.stored.now (option_map (λ bits. bits.now) c.args.query.now.older)
    c.args.query.now.b c.args.tries.now c.first_before.new.tries _
    c.in_ok-sought.sought c.in_ok-sought.ensures.tried

use Rattle.std.specs.Prelude.{option_map}
use Rattle.bs_preimage.proofs.AskingLemmas.{listed_knowing}
use Rattle.bs_preimage.proofs.preimage.Preimage.list.Goals as goal

pub returns-clause-ok : goal.returns-clause-ok
returns-clause-ok c =
    listed_knowing _ _ _ c.args.self.now c.list_asking.new.self c.args.present.now c.args.stored.now (option_map (λ bits. bits.now) c.args.older)
    c.args.known.now c.args.k c.args.b c.in_ok-listing.listing (λ answer is. is) c.in_ok-listing.ensures.ok

use Rattle.std.proofs.Common.{map}
use Rattle.bs_inspect_near.specs.Distance.{differs}
use Rattle.bs_inspect_near.specs.Tells.{differing_line}
use Rattle.bs_inspect_near.proofs.TextLemmas.{told_more}
use Rattle.bs_inspect_near.proofs.text.push_first.Goals as goal

pub places-preserved : goal.places-preserved
places-preserved c =
    told_more (differing_line (map (λ s. s.now) c.args.keys.now) c.args.recorded.now c.args.seen.now) (differs c.args.recorded.now c.args.seen.now)
    c.places.i c.places.told c.one_if.result c.differs-is.result c.args.text.now.items c.places.text.items c.push_told.new.text.items
    c.differs-is.ensures c.one_if.ensures.is c.in_ok-push_told.ensures c.places.invariant

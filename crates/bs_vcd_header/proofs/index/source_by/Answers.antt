use Rattle.std.proofs.Common.{ap, sym, ◌∙◌}
use Rattle.bs_net_names.specs.Keys.{parts_in}
use Rattle.bs_vcd_header.specs.TagIndex.{places_in, tag_of}
use Rattle.bs_vcd_header.proofs.IndexLemmas.{from_before, from_last, from_smaller}
use Rattle.bs_vcd_header.proofs.index.source_by.Goals as goal

pub places-init : goal.places-init
places-init c =
    from_last c.args.paths.now c.args.path.now (parts_in c.args.key) c.args.variables.now (places_in c.args.index.now.last) c.args.index.now.before.items
    c.place_of-at.result c.requires (c.place_of-at.ensures ∙ ap (places_in c.args.index.now.last) (c.tag_of.ensures ∙ ap tag_of c.plain.ensures))

pub places-smaller : goal.places-smaller
places-smaller c =
    rw c.in-Some.is (from_smaller c.args.paths.now c.args.path.now (parts_in c.args.key) c.args.variables.now (places_in c.args.index.now.last) c.args.index.now.before.items
    c.in-Some.place _ c.index-at.result.now c.places.found c.requires (rw (sym c.in-Some.is) c.places.invariant) c.index-at.ensures)

pub places-preserved : goal.places-preserved
places-preserved c =
    from_before c.args.paths.now c.args.path.now (parts_in c.args.key) c.args.variables.now (places_in c.args.index.now.last) c.args.index.now.before.items
    c.in-Some.place _ _ c.index-at.result.now c.source_here.result c.places.found c.or_next-found.result c.requires (rw (sym c.in-Some.is) c.places.invariant)
    c.source_here.ensures c.or_next-found.ensures c.index-at.ensures

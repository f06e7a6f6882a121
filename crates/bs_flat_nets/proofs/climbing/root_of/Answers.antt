use Rattle.std.proofs.Common.{◌≡◌, ◌∙◌, sym, arith, None, Some}
use Rattle.bs_flat_meaning.specs.Meaning.{joined_with}
use Rattle.bs_flat_nets.specs.Climbing.{joins_of_node}
use Rattle.bs_flat_nets.proofs.ClimbLemmas.{leads_start, leads_more, root_here, root_at_top}
use Rattle.bs_flat_nets.proofs.climbing.root_of.Goals as goal

pub climb-init : goal.climb-init
climb-init c = record { there = c.requires.there; leads = leads_start c.args.blocks.now c.args.nodes.now c.args.at c.args.net }

pub climb-preserved : goal.climb-preserved
climb-preserved c =
    let blocks = c.args.blocks.now in
    let nodes = c.args.nodes.now in
    let up = c.requires.nodes.parent c.climb.node c.climb-test.true c.climb.invariant.there in
    let joined : joined_with (joins_of_node blocks nodes c.climb.node) c.climb.outer ≡ Some c.in-Some.next =
    sym (c.outer_by_row.ensures.is (joins_of_node blocks nodes c.climb.node) c.row_of_node.ensures) ∙ c.in-Some.is in
    record {
      there = omega (arith, up, c.climb.invariant.there);
      leads =
          leads_more blocks nodes c.args.at c.args.net c.climb.node c.climb.outer c.in-Some.next c.climb-test.true c.climb.invariant.there joined
          c.climb.invariant.leads;
    }

pub returns-in-None : goal.returns-in-None
returns-in-None c =
    let blocks = c.args.blocks.now in
    let nodes = c.args.nodes.now in
    let joined : joined_with (joins_of_node blocks nodes c.climb.node) c.climb.outer ≡ None =
    sym (c.outer_by_row.ensures.is (joins_of_node blocks nodes c.climb.node) c.row_of_node.ensures) ∙ c.in-None.is in
    record {
      is =
          root_here blocks nodes c.args.at c.args.net c.climb.node c.climb.outer c.climb-test.true c.climb.invariant.there joined
          c.climb.invariant.leads;
      there = c.climb.invariant.there;
    }

pub returns : goal.returns
returns c =
    record {
      is =
          root_at_top c.args.blocks.now c.args.nodes.now c.args.at c.args.net c.climb.node c.climb.outer (omega (arith, c.climb-test.false))
          c.climb.invariant.leads;
      there = c.climb.invariant.there;
    }

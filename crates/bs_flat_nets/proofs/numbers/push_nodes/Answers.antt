use Rattle.std.proofs.Common.{◌<◌, ◌+◌, ◌++◌, [], ◌∷◌, List, ℕ, length, take, refl, sym, ap, ◌∙◌, subst, arith}
use Rattle.bs_flat_meaning.specs.Design.{paths}
use Rattle.bs_flat_nets.specs.Blocks.{design_of}
use Rattle.bs_flat_nets.specs.Climbing.{node_at}
use Rattle.bs_flat_nets.specs.Free.{free_nets, free_of, free_of_node, count_in, known_in}
use Rattle.bs_flat_nets.specs.Numbering.{AreByNode}
use Rattle.bs_flat_nets.specs.Tally.{no_tally, IsTally}
use Rattle.bs_flat_nets.specs.declared.tally.NetTally.{NetTally}
use Rattle.bs_flat_nets.proofs.RiseLemmas.{AreUpTo, up_to_top, up_to_more, by_node_at_end, free_ascend, node_ascends}
use Rattle.bs_flat_nets.proofs.TallyLemmas.{Placed, placed_none, placed_nets}
use Rattle.bs_flat_nets.proofs.PlaceLemmas.{some_node, tally_top, tally_node, whole_tally}
use Rattle.bs_flat_nets.proofs.numbers.push_nodes.Goals as goal

pub nodes-init : goal.nodes-init
nodes-init c =
    let blocks = c.args.blocks.now in
    let nodes = c.args.nodes.now in
    let top = c.args._top in
    let d = design_of blocks top in
    record {
      nets =
          subst (λ (t : NetTally). IsTally d (free_of d (take 1 (paths d))) t) (sym c.requires.first)
          (tally_top blocks nodes top c.requires.design c.requires.paths);
      placed =
          subst (λ (t : NetTally). Placed (length nodes) t) (sym c.requires.first)
          (placed_nets (length nodes) 0 (known_in blocks top) (free_nets [] (count_in blocks top)) no_tally (some_node blocks nodes top c.requires.paths)
          (placed_none (length nodes)));
      by_node =
          subst (λ (s : List ℕ). AreUpTo c.args.tally.now.places s 1)
          (sym (c.in_ok-push.ensures.ok ∙ ap (λ (s : List ℕ). s ++ 0 ∷ []) c.requires.none))
          (up_to_more no_tally c.args.tally.now [] 0 (known_in blocks top) (free_nets [] (count_in blocks top)) c.requires.first
          (free_ascend [] (count_in blocks top)) up_to_top);
    }

pub nodes-preserved : goal.nodes-preserved
nodes-preserved c =
    let blocks = c.args.blocks.now in
    let nodes = c.args.nodes.now in
    let top = c.args._top in
    let d = design_of blocks top in
    let at = c.nodes.at in
    let up : 0 < at = omega (arith, c.nodes.auto.at) in
    record {
      nets =
          subst (λ (t : NetTally). IsTally d (free_of d (take (at + 1) (paths d))) t) (sym c.in_ok-push_node.ensures)
          (tally_node blocks nodes top at c.nodes.tally c.requires.design c.requires.paths up c.nodes-test.true c.nodes.invariant.nets);
      placed =
          subst (λ (t : NetTally). Placed (length nodes) t) (sym c.in_ok-push_node.ensures)
          (placed_nets (length nodes) at (known_in blocks (node_at nodes at).of) (free_of_node blocks nodes at) c.nodes.tally c.nodes-test.true
          c.nodes.invariant.placed);
      by_node =
          subst (λ (s : List ℕ). AreUpTo c.push_node.new.tally.places s (at + 1))
          (sym (c.in_ok-push-2.ensures.ok ∙ ap (λ (n : ℕ). c.nodes.starts ++ n ∷ []) c.len.ensures))
          (up_to_more c.nodes.tally c.push_node.new.tally c.nodes.starts at (known_in blocks (node_at nodes at).of) (free_of_node blocks nodes at)
          c.in_ok-push_node.ensures (node_ascends blocks nodes at) c.nodes.invariant.by_node);
    }

pub returns : goal.returns
returns c =
    record {
      nets =
          whole_tally c.args.blocks.now c.args.nodes.now c.args._top c.nodes.at c.nodes.tally c.requires.paths c.nodes-test.false
          c.nodes.invariant.nets;
      placed = c.nodes.invariant.placed;
      by_node =
          subst (λ (s : List ℕ). AreByNode c.nodes.tally.places s)
          (sym (c.in_ok-push-3.ensures.ok ∙ ap (λ (n : ℕ). c.nodes.starts ++ n ∷ []) c.len-2.ensures))
          (by_node_at_end c.nodes.tally.places c.nodes.starts c.nodes.at c.nodes.invariant.by_node);
    }

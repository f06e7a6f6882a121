use Rattle.std.proofs.Common.{◌≡◌, ◌<◌, ◌∙◌, sym, subst, arith, List, ℕ, length}
use Rattle.bs_flat_nets.specs.Blocks.{own_of}
use Rattle.bs_flat_nets.specs.Constants.{known_constants}
use Rattle.bs_flat_nets.specs.Climbing.{node_at}
use Rattle.bs_flat_nets.proofs.WeightLemmas.{known_is}
use Rattle.bs_flat_elaborate.specs.Keys.{IsPathText}
use Rattle.bs_flat_elaborate.proofs.KeyLemmas.{key_is}
use Rattle.bs_flat_elaborate.proofs.labels.next_key.Goals as goal

pub returns-clause-is : goal.returns-clause-is
returns-clause-is c =
    let blocks = c.args.blocks.now in
    let nodes = c.args.nodes.now in
    let place = c.args.place in
    let b = c.index-blocks-of.result in
    let laid = c.requires.laid in
    let there : (node_at nodes place.node).of < length blocks = laid.climb.block place.node c.requires.there in
    let known : c.slice-known.result.now ≡ known_constants (own_of b) =
    c.slice-known.ensures
    ∙ known_is blocks c.args.numbering.now.bits (node_at nodes place.node).of b c.get.result.now laid.numbering.known there c.index-blocks-of.is
    c.get.ensures.value in
    let text : IsPathText blocks nodes place.node c.as_str.result.now =
    subst (λ (t : List ℕ). IsPathText blocks nodes place.node t) (sym c.as_str.ensures.value) c.in_ok-renew.ensures.text in
    c.in_ok-key.ensures
    ∙ key_is blocks nodes c.args.top place b c.slice-known.result.now c.as_str.result.now laid.stand c.requires.there there c.index-blocks-of.is known
    (omega (arith, c.if-place-len.false)) text

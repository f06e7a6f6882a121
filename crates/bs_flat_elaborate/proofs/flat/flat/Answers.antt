use Rattle.std.proofs.Common.{◌≤◌, ◌∙◌, sym, subst, length, List, ℕ}
use Rattle.bs_net.specs.declared.limits.TheConstants.{MAX_NETS}
use Rattle.bs_flat_nets.specs.Blocks.{design_of}
use Rattle.bs_flat_elaborate.specs.Naming.{keys_of}
use Rattle.bs_flat_elaborate.specs.Whole.{AreNamed, AreShort}
use Rattle.bs_flat_elaborate.proofs.TerminalLemmas.{flat_short}
use Rattle.bs_flat_elaborate.proofs.WholeLemmas.{flat_named, whole_is}
use Rattle.bs_flat_elaborate.proofs.flat.flat.Goals as goal

pub raw_of-requires-clause-named : goal.raw_of-requires-clause-named
raw_of-requires-clause-named c =
    let d = design_of c.args.blocks.now c.args.top in
    let few : length (keys_of d) ≤ MAX_NETS = subst (λ (l : List (List ℕ)). length l ≤ MAX_NETS) c.requires.named c.requires.few in
    subst AreNamed
    (sym
    (whole_is d c.args.names c.in-Ok.lists.inputs c.in-Ok.lists.outputs c.in-Ok.lists.consts c.in-Ok.lists.gates c.in-Ok.lists.flops c.requires.named
    c.in-Ok.ensures.inputs c.in-Ok.ensures.outputs c.in-Ok.ensures.consts c.in-Ok.ensures.gates c.in-Ok.ensures.flops))
    (flat_named c.args.blocks.now c.args.top c.requires.laid.design c.requires.takes few)

pub raw_of-requires-clause-short : goal.raw_of-requires-clause-short
raw_of-requires-clause-short c =
    let d = design_of c.args.blocks.now c.args.top in
    subst AreShort
    (sym
    (whole_is d c.args.names c.in-Ok.lists.inputs c.in-Ok.lists.outputs c.in-Ok.lists.consts c.in-Ok.lists.gates c.in-Ok.lists.flops c.requires.named
    c.in-Ok.ensures.inputs c.in-Ok.ensures.outputs c.in-Ok.ensures.consts c.in-Ok.ensures.gates c.in-Ok.ensures.flops))
    (flat_short d c.requires.small.parts c.requires.narrow)

pub returns-in-Ok : goal.returns-in-Ok
returns-in-Ok c =
    let d = design_of c.args.blocks.now c.args.top in
    c.raw_of.ensures
    ∙ whole_is d c.args.names c.in-Ok.lists.inputs c.in-Ok.lists.outputs c.in-Ok.lists.consts c.in-Ok.lists.gates c.in-Ok.lists.flops c.requires.named
    c.in-Ok.ensures.inputs c.in-Ok.ensures.outputs c.in-Ok.ensures.consts c.in-Ok.ensures.gates c.in-Ok.ensures.flops

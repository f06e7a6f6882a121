use Rattle.bs_flat_nets.proofs.FoundLemmas.{none_found}
use Rattle.bs_flat_nets.proofs.PlaceLemmas.{home_number_is}
use Rattle.bs_flat_nets.proofs.lookup.flat_net.Goals as goal

pub returns-clause-is : goal.returns-clause-is
returns-clause-is c =
    (home_number_is c.args.blocks.now c.args.nodes.now c.args.top c.args.numbering.now c.args.node c.args.net c.root_of-root.result c.in_ok-number.number
    c.requires.design c.requires.paths c.requires.numbering c.root_of-root.ensures.there c.root_of-root.ensures.is c.in_ok-number.ensures.net
    c.in_ok-number.ensures.is).is

pub returns-in_err-number-clause-none : goal.returns-in_err-number-clause-none
returns-in_err-number-clause-none c =
    none_found c.args.blocks.now c.args.nodes.now c.args.top c.args.numbering.now c.args.node c.args.net c.root_of-root.result c.from_residual.result
    c.requires.design c.requires.paths c.requires.numbering c.requires.there c.root_of-root.ensures.there c.root_of-root.ensures.is
    c.in_err-number.ensures.none

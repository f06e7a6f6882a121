use Rattle.bs_flat_nets.specs.Blocks.{design_of}
use Rattle.bs_flat_elaborate.proofs.TerminalLemmas.{places_few}
use Rattle.bs_flat_elaborate.proofs.elaboration.lay_names.Goals as goal

pub name_nets-requires-clause-few : goal.name_nets-requires-clause-few
name_nets-requires-clause-few c =
    places_few (design_of c.args.blocks.now c.args.top) c.args.numbering.places c.requires.small.nets c.requires.laid.numbering.nets

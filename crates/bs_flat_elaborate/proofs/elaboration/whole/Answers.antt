use Rattle.std.proofs.Common.{◌∙◌, sym, ap, inr}
use Rattle.std.specs.Prelude.{nat_lt}
use Rattle.bs_net.specs.Netlist.{parts_of}
use Rattle.bs_flat_meaning.specs.declared.limits.TheConstants.{MAX_TERMINALS}
use Rattle.bs_flat_nets.specs.Blocks.{design_of}
use Rattle.bs_flat_elaborate.proofs.AnswerLemmas.{whole_answer, wide_answer}
use Rattle.bs_flat_elaborate.proofs.TerminalLemmas.{terminals_are, paths_few}
use Rattle.bs_flat_elaborate.proofs.elaboration.whole.Goals as goal

pub returns-then-has_many_terminals : goal.returns-then-has_many_terminals
returns-then-has_many_terminals c =
    inr (wide_answer (design_of c.args.blocks.now c.args.top) c.requires.small c.requires.named.1 c.requires.named.2
    (sym (ap (nat_lt MAX_TERMINALS) (terminals_are c.args.blocks.now c.args.nodes.now c.args.top c.requires.laid.stand))
    ∙ sym c.if-has_many_terminals.ensures))

pub flat-requires-clause-narrow : goal.flat-requires-clause-narrow
flat-requires-clause-narrow c =
    sym (ap (nat_lt MAX_TERMINALS) (terminals_are c.args.blocks.now c.args.nodes.now c.args.top c.requires.laid.stand))
    ∙ sym c.if-has_many_terminals.ensures

pub flat-requires-clause-paths : goal.flat-requires-clause-paths
flat-requires-clause-paths c =
    paths_few (design_of c.args.blocks.now c.args.top) c.args.nodes.now c.requires.small.parts c.requires.laid.stand

pub returns-in-Ok : goal.returns-in-Ok
returns-in-Ok c =
    whole_answer (design_of c.args.blocks.now c.args.top) (parts_of c.in-Ok.raw) c.requires.small c.requires.named.1 c.requires.named.2
    (sym (ap (nat_lt MAX_TERMINALS) (terminals_are c.args.blocks.now c.args.nodes.now c.args.top c.requires.laid.stand))
    ∙ sym c.if-has_many_terminals.ensures) c.in-Ok.ensures

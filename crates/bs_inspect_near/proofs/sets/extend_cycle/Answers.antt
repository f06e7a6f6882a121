use Rattle.std.proofs.Common.{arith}
use Rattle.bs_net.specs.Netlist.{circuit}
use Rattle.bs_stim.specs.Runs.{inputs_of}
use Rattle.bs_inspect_near.specs.Known.{all_places}
use Rattle.bs_inspect_near.proofs.SetLemmas.{cycle_done}
use Rattle.bs_inspect_near.proofs.sets.extend_cycle.Goals as goal

pub words-preserved : goal.words-preserved
words-preserved c = record { size = c.extend_word.ensures.size; sets = c.in_ok-extend_word.ensures.sets }

pub words-init : goal.words-init
words-init c = record { size = c.requires.size; sets = c.requires.sets }

pub returns-clause-sets : goal.returns-clause-sets
returns-clause-sets c =
    cycle_done (circuit c.args.run.now.net.now) (inputs_of c.args.run.now.runs.now) c.args.run.now.number c.args.cycle c.args.wide c.words.word
    (all_places c.args.signals.now) c.words.sets.items (omega (arith, c.words-test.false)) c.requires.room c.words.invariant.sets

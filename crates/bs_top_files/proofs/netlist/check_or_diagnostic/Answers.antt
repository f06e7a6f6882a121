use Rattle.std.proofs.Common.{ap}
use Rattle.bs_net.specs.declared.netlist.Netlist.{Netlist}
use Rattle.bs_net.specs.Netlist.{parts_of}
use Rattle.bs_top_files.specs.Causes.{CheckSays, NoteSays}
use Rattle.bs_top_files.proofs.ReadingLemmas.{reads_passing, reads_refused}
use Rattle.bs_top_files.proofs.NotingLemmas as said
use Rattle.bs_top_files.proofs.netlist.check_or_diagnostic.Goals as goal

pub returns-in-Ok-clause-words : goal.returns-in-Ok-clause-words
returns-in-Ok-clause-words c =
    reads_passing {T = Netlist} CheckSays (λ net. net.raw) c.args.path.now c.args.text.now (parts_of c.args.raw) c.in-Ok.net c.in-Ok.ensures.ok.0
    c.in-Ok.ensures.ok.1

pub returns-in-Ok-clause-note : goal.returns-in-Ok-clause-note
returns-in-Ok-clause-note c =
    reads_passing {T = Netlist} NoteSays (λ net. net.raw) c.args.path.now c.args.text.now (parts_of c.args.raw) c.in-Ok.net c.in-Ok.ensures.ok.0
    c.in-Ok.ensures.ok.1

pub returns-in-Err-clause-words : goal.returns-in-Err-clause-words
returns-in-Err-clause-words c =
    reads_refused {T = Netlist} (λ net. net.raw) c.args.path.now c.args.text.now (parts_of c.args.raw) _ _ (ap parts_of c.in-Err.ensures.err.0)
    c.refused_diagnostic.ensures.words

pub returns-in-Err-clause-note : goal.returns-in-Err-clause-note
returns-in-Err-clause-note c =
    said.reads_refused {T = Netlist} (λ net. net.raw) c.args.path.now c.args.text.now (parts_of c.args.raw) _ _ (ap parts_of c.in-Err.ensures.err.0)
    c.refused_diagnostic.ensures.note

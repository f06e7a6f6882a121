use Rattle.bs_net.specs.declared.netlist.Netlist.{Netlist}
use Rattle.bs_net.specs.Netlist.{parts_of}
use Rattle.bs_top_files.specs.Causes.{CheckSays, NoteSays}
use Rattle.bs_top_files.proofs.ReadingLemmas.{reads_failing, reads_parts}
use Rattle.bs_top_files.proofs.NotingLemmas as said
use Rattle.bs_top_files.proofs.netlist.netlist_or_diagnostic.Goals as goal

pub returns-in-Ok-clause-words : goal.returns-in-Ok-clause-words
returns-in-Ok-clause-words c =
    reads_parts {T = Netlist} CheckSays (λ net. net.raw) c.args.path.now c.args.text.now (parts_of c.in-Ok.raw) _ c.in-Ok.ensures
    c.check_or_diagnostic.ensures.words

pub returns-in-Ok-clause-note : goal.returns-in-Ok-clause-note
returns-in-Ok-clause-note c =
    reads_parts {T = Netlist} NoteSays (λ net. net.raw) c.args.path.now c.args.text.now (parts_of c.in-Ok.raw) _ c.in-Ok.ensures
    c.check_or_diagnostic.ensures.note

pub returns-in-Err-clause-words : goal.returns-in-Err-clause-words
returns-in-Err-clause-words c =
    reads_failing {T = Netlist} (λ net. net.raw) c.args.path.now c.args.text.now c.in-Err.fault _ c.in-Err.ensures c.text_diagnostic.ensures.words
    c.text_diagnostic.ensures.want

pub returns-in-Err-clause-note : goal.returns-in-Err-clause-note
returns-in-Err-clause-note c =
    said.reads_failing {T = Netlist} (λ net. net.raw) c.args.path.now c.args.text.now c.in-Err.fault _ c.in-Err.ensures c.text_diagnostic.ensures.note
    c.text_diagnostic.ensures.none

use Rattle.bs_verilog.proofs.LawLemmas.{reads_all_that_is_written}
use Rattle.bs_verilog.proofs.grammar_law.what_is_written_is_read.Goals as goal

pub returns : goal.returns
returns c = reads_all_that_is_written c.args.source.now c.args.tokens.now

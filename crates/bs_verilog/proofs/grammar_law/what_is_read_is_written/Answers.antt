use Rattle.bs_verilog.proofs.LawLemmas.{reads_what_is_written}
use Rattle.bs_verilog.proofs.grammar_law.what_is_read_is_written.Goals as goal

pub returns : goal.returns
returns c = reads_what_is_written c.args.source.now c.args.tokens.now

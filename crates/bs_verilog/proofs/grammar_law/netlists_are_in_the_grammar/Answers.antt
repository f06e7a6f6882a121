use Rattle.bs_verilog.proofs.LawLemmas.{reads_exactly}
use Rattle.bs_verilog.proofs.grammar_law.netlists_are_in_the_grammar.Goals as goal

pub returns : goal.returns
returns c = reads_exactly c.args.source.now

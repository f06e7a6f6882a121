use Rattle.bs_flat_modules.proofs.ReadLemmas.{read_twice}
use Rattle.bs_flat_modules.proofs.reading.read_dealt.Goals as goal

pub returns-in-Err-clause-read : goal.returns-in-Err-clause-read
returns-in-Err-clause-read c = rw c.twice_of.ensures (read_twice c.args.table.now c.args.ts.now c.args.dealt.now c.in-Err.fault c.requires c.in-Err.ensures)

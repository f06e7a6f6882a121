use Rattle.std.proofs.Common.{arith}
use Rattle.bs_outside.proofs.Putting.{line_from}
use Rattle.bs_outside.proofs.output.line_end.Goals as goal

pub returns-clause-line : goal.returns-clause-line
returns-clause-line c = line_from c.args.text.now c.args.at _ (omega (arith, c.requires)) c.line_len.ensures.line

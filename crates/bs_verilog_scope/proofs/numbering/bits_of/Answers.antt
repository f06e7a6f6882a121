use Rattle.std.proofs.Common.{◌∙◌, sym}
use Rattle.bs_verilog_scope.proofs.NumberLemmas.{keys-length}
use Rattle.bs_verilog_scope.proofs.numbering.bits_of.Goals as goal

pub returns-in-Some-clause-count : goal.returns-in-Some-clause-count
returns-in-Some-clause-count c = rw (c.in-Some.is) (λ name. c.width.ensures ∙ sym (keys-length name c.in-Some.r))

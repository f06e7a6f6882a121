use Rattle.std.proofs.Common.{rules}
use Rattle.bs_vcd_header.proofs.PackedLemmas.{too_large, all_read}
use Rattle.bs_vcd_header.proofs.words.packed.Goals as goal

pub returns-in_err-checked_mul : goal.returns-in_err-checked_mul
returns-in_err-checked_mul c = search (rules, too_large)

pub returns-in_err-number : goal.returns-in_err-number
returns-in_err-number c = search (rules, too_large)

pub returns : goal.returns
returns c = search (rules, all_read)

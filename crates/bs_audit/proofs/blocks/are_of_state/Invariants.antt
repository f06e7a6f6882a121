use Rattle.std.proofs.Common.{◌≡◌, take}
use Rattle.bs_audit.proofs.BlockLemmas.{variables_of}
use Rattle.bs_audit.proofs.blocks.are_of_state.Given as goal

abbrev pub invariant-literals : goal.invariant-literals
invariant-literals l = variables_of (take l.i l.literals) ≡ variables_of (take l.i l.encoding.states)

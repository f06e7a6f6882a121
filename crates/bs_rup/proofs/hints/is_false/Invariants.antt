use Rattle.std.proofs.Common.{◌≡◌, true, take}
use Rattle.bs_log.specs.Propagation.{is_false}
use Rattle.bs_rup.proofs.hints.is_false.Given as goal

abbrev pub invariant-loop-literal : goal.invariant-loop-literal
invariant-loop-literal l = is_false l.trail (take l.literal-index l.clause) ≡ true

use Rattle.bs_audit.specs.Codes.{HasCodes}
use Rattle.bs_audit.proofs.assumed.codes_of.Given as goal

abbrev pub invariant-literals : goal.invariant-literals
invariant-literals l = HasCodes l.codes l.literals l.i

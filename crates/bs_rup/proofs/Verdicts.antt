-- A verdict names the line that is refused first.
use Rattle.std.proofs.Common.{◌≡◌, List, sym}
use Rattle.std.specs.Prelude.{Result, Ok, Err, IfOk}
use Rattle.bs_log.specs.declared.line.Line.{Line}
use Rattle.bs_log.specs.History.{Problem}
use Rattle.bs_log.specs.FirstRefused.{first_refused}
use Rattle.bs_log.proofs.FirstRefusals.{not_refused, first_is}
use Rattle.bs_rup.specs.declared.verdict.Verdict.{Verdict}
use Rattle.bs_rup.specs.declared.verdict.Verdict.TheVariants.{Accepted, Rejected}
use Rattle.bs_rup.specs.Verdict.{IsVerdict, refused_by}

pub first_of : {E : Type 0} (p : Problem) (log : List Line) (r : Result Verdict E) → IfOk r (IsVerdict p log) → IfOk r (λ v. refused_by v ≡ first_refused p log)
first_of p log (Ok Accepted) is = sym (not_refused p log is)
first_of p log (Ok (Rejected line why)) is = sym (first_is p log line why is)
first_of p log (Err e) is = tt

-- How a text ends.
use Rattle.std.proofs.Common.{◌≡◌, ℕ, ◌==◌, Bool, true, false, List, length, Option, Some, None, Result, Ok, Err, refl}
use Rattle.std.specs.Prelude.{if◌then◌else◌}
use Rattle.bs_report.specs.declared.fault.ReportFault.{ReportFault}
use Rattle.bs_report.specs.declared.fault.ReportFault.TheVariants as faults
use Rattle.bs_report.specs.declared.place.NextLine.{NextLine}
use Rattle.bs_report.specs.declared.report.Report.{Report}
use Rattle.bs_report.specs.Reading.{end_fault, ended, is_done}

by_right : (done empty : Bool) (r : Report) →
    (if done then (if empty then None else Some faults.Extra) else Some faults.Short) ≡ None →
    Ok r ≡ (if done then (if empty then Ok r else Err faults.Extra) else Err faults.Short)
by_right true true r e = refl
by_right true false r e = absurd (cc)
by_right false empty r e = absurd (cc)

by_wrong : (done empty : Bool) (r : Report) (fault : ReportFault) →
    (if done then (if empty then None else Some faults.Extra) else Some faults.Short) ≡ Some fault →
    Err fault ≡ (if done then (if empty then Ok r else Err faults.Extra) else Err faults.Short)
by_wrong true true r fault e = absurd (cc)
by_wrong true false r fault e = cc
by_wrong false empty r fault e = cc

-- nothing is wrong, and the report is whole
pub ended_right : (place : NextLine) (rest : List ℕ) (r : Report) → end_fault place rest ≡ None → Ok r ≡ ended place r rest
ended_right place rest r e = by_right (is_done place) (length rest == 0) r e

-- what is wrong
pub ended_wrong : (place : NextLine) (rest : List ℕ) (r : Report) (fault : ReportFault) → end_fault place rest ≡ Some fault → Err fault ≡ ended place r rest
ended_wrong place rest r fault e = by_wrong (is_done place) (length rest == 0) r fault e

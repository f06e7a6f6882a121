-- What an audit is about, and what it finds.
use Rattle.std.specs.Prelude.{◌≡◌, map, Option, Some, None}
use Rattle.bs_scan.specs.declared.dump.Dump.{Dump}
use Rattle.bs_scan.specs.Crash.{Recording, Crash, crash_of, DumpFits}
use Rattle.bs_log.specs.Shown.{Basis}
use Rattle.bs_encode.specs.Depth.{basis_of}
use Rattle.bs_report.specs.declared.part.Part.{Part}
use Rattle.bs_report.specs.declared.report.Report.{Report}
use Rattle.bs_report.specs.Chain.{present_of}
use Rattle.bs_report.specs.Good.{IsGood}
use Rattle.bs_report.specs.Valid.{IsValid}
use Rattle.bs_audit.specs.declared.parts.Finding.{Finding}
use Rattle.bs_audit.specs.declared.parts.Finding.TheVariants.{Accepted, Rejected}

-- what a report's log is checked against: the clauses of the netlist, and what each step assumes of its present
abbrev pub basis_for : Crash → Report → Basis
basis_for crash r = basis_of crash.circuit crash.choice (map present_of r.steps)

-- the part that a finding names
abbrev pub part_of : Finding → Option Part
part_of Accepted = None
part_of (Rejected part) = Some part

-- Against a dump that fits, a valid report is good.
abbrev pub ValidReportsAreGood : Recording → Type 0
ValidReportsAreGood r =
    (dump : Dump) (report : Report) → DumpFits r.circuit r.choice dump →
    IsValid (crash_of r dump) (basis_for (crash_of r dump) report) report → IsGood (crash_of r dump) report

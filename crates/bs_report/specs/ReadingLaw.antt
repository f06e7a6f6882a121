-- A report and its text.
use Rattle.std.specs.Prelude.{◌≡◌, ℕ, List, Ok}
use Rattle.bs_report.specs.declared.report.Report.{Report}
use Rattle.bs_report.specs.Text.{report_text, HasReportText}
use Rattle.bs_report.specs.Reading.{report_in}

-- A report that has a text is read back from it,
abbrev pub ReportsReadBack : Type 0
ReportsReadBack = (r : Report) → HasReportText r → report_in (report_text r) ≡ Ok r

-- and what is read of a text has that text and no other.
abbrev pub TextsAreReports : Type 0
TextsAreReports = (text : List ℕ) (r : Report) → report_in text ≡ Ok r → HasReportText r × (report_text r ≡ text)

-- When a text is no report, in words of texts.
use Rattle.std.specs.Prelude.{◌≡◌, ◌≢◌, ◌↔◌, ℕ, ◌-◌, ◌≤◌, List, [], ◌++◌, length, take, Err}
use Rattle.std.specs.List.{flat_map}
use Rattle.bs_bits.specs.Lines.{line, pieces_of}
use Rattle.bs_report.specs.declared.fault.ReportFault.TheVariants.{Line, Short, Extra}
use Rattle.bs_report.specs.declared.report.Report.{Report}
use Rattle.bs_report.specs.Text.{report_text, HasReportText}
use Rattle.bs_report.specs.Reading.{report_in}

-- how many whole lines a text has
abbrev pub line_count : List ℕ → ℕ
line_count text = length (pieces_of text) - 1

-- so many whole lines of a text, from its first one on
abbrev pub first_lines : ℕ → List ℕ → List ℕ
first_lines n text = flat_map line (take n (pieces_of text))

-- these bytes begin the text of some report that has a text
pub record Begins (bytes : List ℕ) : Type 0 where
  pub report : Report
  pub has_text : HasReportText report
  pub rest : List ℕ
  pub spells : report_text report ≡ bytes ++ rest

-- The lines before this one begin a report's text, which goes on behind them, and with this line they begin none.
pub record IsWrongLine (text : List ℕ) (n : ℕ) : Type 0 where
  pub counted : 1 ≤ n
  pub whole : n ≤ line_count text
  pub before : Begins (first_lines (n - 1) text)
  pub goes_on : before.rest ≢ []
  pub wrong : Begins (first_lines n text) → ⊥

-- All whole lines begin a report's text, which goes on behind them.
pub record IsShort (text : List ℕ) : Type 0 where
  pub before : Begins (first_lines (line_count text) text)
  pub goes_on : before.rest ≢ []

-- The text of a report comes first, and bytes follow.
pub record HasExtra (text : List ℕ) : Type 0 where
  pub report : Report
  pub has_text : HasReportText report
  pub rest : List ℕ
  pub more : rest ≢ []
  pub spells : text ≡ report_text report ++ rest

abbrev pub WrongLinesAreNamed : Type 0
WrongLinesAreNamed = (text : List ℕ) (n : ℕ) → (report_in text ≡ Err (Line n)) ↔ IsWrongLine text n

abbrev pub ShortTextsAreNamed : Type 0
ShortTextsAreNamed = (text : List ℕ) → (report_in text ≡ Err Short) ↔ IsShort text

abbrev pub ExtraBytesAreNamed : Type 0
ExtraBytesAreNamed = (text : List ℕ) → (report_in text ≡ Err Extra) ↔ HasExtra text

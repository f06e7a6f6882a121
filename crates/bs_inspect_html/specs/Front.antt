-- What stands in front of the tables: the style, what was asked and how it ended.
use Rattle.std.specs.Prelude.{ℕ, List, ◌++◌, length, codes, decimal, Option, if◌then◌else◌}
use Rattle.bs_net.specs.Parts.{Parts}
use Rattle.bs_net.specs.Netlist.{circuit_of}
use Rattle.bs_report.specs.declared.report.Budgets.{Budgets}
use Rattle.bs_report.specs.declared.report.Report.{Report}
use Rattle.bs_report.specs.declared.report.Stop.{Stop as StopCause}
use Rattle.bs_report.specs.declared.report.Stop.TheVariants as stops
use Rattle.bs_inspect_html.specs.Paths.{shown_path}
use Rattle.bs_inspect_html.specs.Execution.{cycles_title, reached_text, search_part}
use Rattle.bs_inspect_html.specs.Signed.{SignatureFile, items_line, job_files, styles_text}
use Rattle.bs_inspect_report.specs.Execution.{is_execution}

abbrev pub stop_text : StopCause → List ℕ
stop_text stops.Reset = codes "Stop <b>reset</b>: the states below are a way from the reset state to the dump."
stop_text stops.Length = codes "Stop <b>length</b>: as many steps were made as were asked for. The states below are a way from a recorded state to the dump."
stop_text stops.Nohit = codes "Stop <b>nohit</b>: no recorded run comes into a state of the last list, though that list is complete."
stop_text stops.Empty = codes "Stop <b>empty</b>: no state with the stored signature leads to the last state. The dump, the signature or the netlist is not the chip's."
stop_text stops.Candidates = codes "Stop <b>candidates</b>: the last list was cut, and no recorded run comes into a state of it."
stop_text stops.Conflicts = codes "Stop <b>conflicts</b>: the last search spent its budget, and no recorded run comes into a state of its list."

unfoldable pub steps_title : Report → List ℕ
steps_title r = codes "Steps back from the crash: " ++ decimal (length r.steps)

unfoldable pub title_text : Report → List ℕ
title_text r = if is_execution r then cycles_title r else steps_title r

unfoldable pub head_text : Report → Option SignatureFile → List ℕ
head_text r signature =
    codes "<!doctype html>\n<html lang='en'><head><meta charset='utf-8'><meta name='viewport' content='width=device-width'>\n<title>"
    ++ (title_text r ++ (codes "</title>\n" ++ (styles_text signature ++ codes "</head><body>\n")))

-- what the stop means, or that the state was found
abbrev pub end_words : Report → List ℕ
end_words r = if is_execution r then reached_text else stop_text r.stop

unfoldable pub stop_part : Report → List ℕ
stop_part r = codes "<h1>" ++ (title_text r ++ (codes "</h1>\n<p>" ++ (end_words r ++ codes "</p>\n")))

-- how large the chip is
unfoldable pub chip_line : Parts → List ℕ
chip_line raw =
    codes "<ul><li>" ++ (decimal (length (circuit_of raw).flops) ++ (codes " flip-flops, " ++ (decimal (length (circuit_of raw).inputs) ++ codes " data inputs</li>\n")))

-- how many lists there are
unfoldable pub lists_words : Report → List ℕ
lists_words r = codes "<li>" ++ (decimal (length r.steps) ++ codes " lists; a finished one has all predecessors, each once</li>\n")

-- the budgets
unfoldable pub budgets_line : Budgets → List ℕ
budgets_line b =
    codes "<li>asked for: " ++ (decimal b.steps ++ (codes " steps, " ++ (decimal b.candidates ++ (codes " candidates a list, " ++ (decimal b.conflicts ++ codes " lemmas a search</li></ul>\n")))))

-- how the report is checked
unfoldable pub audit_part : (netlist : List ℕ) → Option SignatureFile → (report : List ℕ) → List ℕ
audit_part netlist signature report =
    codes "<p class='d'>This page shows what the report says. Whether the report is right, this command tells, with the job's own files:</p>\n<pre>backspace audit "
    ++ (shown_path netlist ++ (job_files signature ++ (shown_path report ++ codes "</pre>\n")))

-- what a backtrace was asked for
unfoldable pub backtrace_part : Report → (netlist : List ℕ) → Option SignatureFile → (report : List ℕ) → List ℕ
backtrace_part r netlist signature report = lists_words r ++ (budgets_line r.budgets ++ audit_part netlist signature report)

-- what was asked for
unfoldable pub job_part : Report → (netlist : List ℕ) → Option SignatureFile → (report : List ℕ) → List ℕ
job_part r netlist signature report =
    if is_execution r then search_part r.budgets netlist report else backtrace_part r netlist signature report

unfoldable pub front_text : Parts → Report → (netlist : List ℕ) → Option SignatureFile → (report : List ℕ) → List ℕ
front_text raw r netlist signature report =
    head_text r signature ++ (stop_part r ++ (chip_line raw ++ (items_line signature ++ job_part r netlist signature report)))

-- Whether a report's trace is an execution that a search for a state found, and where its states stand (docs/FORMATS.md, "Texts of `backspace_inspect`").
use Rattle.std.specs.Prelude.{ℕ, ◌+◌, ◌==◌, Bool, List, length, codes, if◌then◌else◌}
use Rattle.bs_report.specs.declared.report.Report.{Report}

-- a backtrace asks for at least one step, and a search for none
abbrev pub is_execution : Report → Bool
is_execution r = r.budgets.steps == 0

-- the last state of an execution is the one that was asked for, and the first of several is that of reset
abbrev pub place_word : Report → ℕ → List ℕ
place_word r i = if i + 1 == length r.states then codes "asked" else (if i == 0 then codes "reset" else codes "passed")

-- What is said of an execution that a search for a state found.
use Rattle.std.specs.Prelude.{ℕ, List, ◌++◌, length, codes, decimal}
use Rattle.bs_report.specs.declared.report.Budgets.{Budgets}
use Rattle.bs_report.specs.declared.report.Report.{Report}
use Rattle.bs_inspect_html.specs.Paths.{shown_path}

unfoldable pub cycles_title : Report → List ℕ
cycles_title r = codes "Cycles from reset: " ++ decimal (length r.inputs)

abbrev pub reached_text : List ℕ
reached_text = codes "The state that was asked for is <b>reached</b>: the states below are an execution from reset that ends in it, and no shorter one does."

-- the budget of the search, and how the answer is checked
unfoldable pub search_words : Budgets → (netlist : List ℕ) → List ℕ
search_words b netlist =
    codes "<li>asked for: " ++ (decimal b.conflicts
    ++ (codes " lemmas a search</li></ul>\n<p class='d'>This page shows what the answer says. The answer is right if the first command writes the same one, with the job's own files. The others write clauses and their refutation, by which other checkers see that no shorter execution ends in the state:</p>\n<pre>backspace reach "
    ++ (shown_path netlist ++ (codes " STATE CYCLES --conflicts " ++ (decimal b.conflicts ++ codes "\n")))))

-- the words of a command that writes evidence
unfoldable pub evidence_words : (command netlist answer : List ℕ) → List ℕ
evidence_words command netlist answer = command ++ (shown_path netlist ++ (codes " STATE " ++ (shown_path answer ++ codes "\n")))

-- what was asked for, and how the answer is checked
unfoldable pub search_part : Budgets → (netlist answer : List ℕ) → List ℕ
search_part b netlist answer =
    search_words b netlist
    ++ (evidence_words (codes "backspace_inspect reach-cnf ") netlist answer ++ (evidence_words (codes "backspace_inspect reach-lrat ") netlist answer ++ codes "</pre>\n"))

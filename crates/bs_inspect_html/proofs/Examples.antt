-- What is said of an execution of two cycles, and of a report without a signature and with one.
use Rattle.std.proofs.Common.{◌≡◌, ℕ, Bool, true, false, List, [], ◌∷◌, ◌++◌, Option, Some, None, refl}
use Rattle.std.specs.Prelude.{codes}
use Rattle.std.specs.Fmt.{digits}
use Rattle.bs_report.specs.declared.report.Report.{Report}
use Rattle.bs_report.specs.declared.report.Stop.TheVariants as stops
use Rattle.bs_inspect_html.specs.Execution.{cycles_title, evidence_words, search_part, search_words}
use Rattle.bs_inspect_html.specs.Front.{audit_part, job_part, stop_part, title_text}
use Rattle.bs_inspect_html.specs.Paths.{shown_path}
use Rattle.bs_inspect_html.specs.Reads.{reads_of}
use Rattle.bs_inspect_html.specs.Signed.{SignatureFile, items_line, items_text, named_files}

abbrev two_cycles : Report
two_cycles =
    record {
      depth = 1;
      budgets = record { steps = 0; candidates = 0; conflicts = 100 };
      steps = [];
      stop = stops.Reset;
      states = (false ∷ []) ∷ (true ∷ []) ∷ (true ∷ []) ∷ [];
      inputs = (true ∷ []) ∷ (false ∷ []) ∷ [];
      free = [];
      log = [];
    }

found_part :
    stop_part two_cycles
    ≡ codes "<h1>Cycles from reset: 2</h1>\n<p>The state that was asked for is <b>reached</b>: the states below are an execution from reset that ends in it, and no shorter one does.</p>\n"
unfolding digits stop_part title_text cycles_title
found_part = refl

found_job :
    job_part two_cycles (codes "a<b.v") None (codes "x.txt")
    ≡ codes "<li>asked for: 100 lemmas a search</li></ul>\n<p class='d'>This page shows what the answer says. The answer is right if the first command writes the same one, with the job's own files. The others write clauses and their refutation, by which other checkers see that no shorter execution ends in the state:</p>\n<pre>backspace reach a&lt;b.v STATE CYCLES --conflicts 100\nbackspace_inspect reach-cnf a&lt;b.v STATE x.txt\nbackspace_inspect reach-lrat a&lt;b.v STATE x.txt\n</pre>\n"
unfolding digits job_part search_part search_words evidence_words shown_path
found_job = refl

-- ---- a signature

abbrev two_items : SignatureFile
two_items = record { name = codes "s&.txt"; choice = record { width = 4; depth = 1; items = (1 ∷ []) ∷ (0 ∷ 1 ∷ []) ∷ [] } }

signed_line : items_line (Some two_items) ≡ codes "<li>items of the signature: 2</li>\n"
unfolding digits items_text
signed_line = refl

signed_audit :
    audit_part (codes "n.v") (Some two_items) (codes "r.txt")
    ≡ codes "<p class='d'>This page shows what the report says. Whether the report is right, this command tells, with the job's own files:</p>\n<pre>backspace audit n.v s&amp;.txt STIMULUS DUMP r.txt</pre>\n"
unfolding audit_part shown_path named_files
signed_audit = refl

plain_audit :
    audit_part (codes "n.v") None (codes "r.txt")
    ≡ codes "<p class='d'>This page shows what the report says. Whether the report is right, this command tells, with the job's own files:</p>\n<pre>backspace audit n.v SIGNATURE STIMULUS DUMP r.txt</pre>\n"
unfolding audit_part shown_path
plain_audit = refl

-- a signature of the second of four flip-flops, and of a parity of the first and the second
reads_two : reads_of record { width = 4; depth = 1; items = (1 ∷ []) ∷ (0 ∷ 1 ∷ []) ∷ [] } ≡ true ∷ true ∷ false ∷ false ∷ []
reads_two = refl

reads_none : reads_of record { width = 2; depth = 1; items = [] } ≡ false ∷ false ∷ []
reads_none = refl

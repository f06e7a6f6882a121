-- The text of a report, computed.
use Rattle.std.proofs.Common.{◌≡◌, ℕ, true, false, [], ◌∷◌, ◌++◌, refl, Some, None, Ok}
use Rattle.std.specs.Prelude.{codes}
use Rattle.std.specs.Fmt.{digits}
use Rattle.bs_scan.specs.Seen.{whole}
use Rattle.bs_clause.specs.Literal.{Literal}
use Rattle.bs_log.specs.declared.line.Line.TheVariants as lines
use Rattle.bs_report.specs.declared.report.ListEnd.TheVariants as ends
use Rattle.bs_report.specs.declared.report.Stop.TheVariants as stops
use Rattle.bs_report.specs.declared.report.Report.{Report}
use Rattle.bs_report.specs.Reading.{report_in}
use Rattle.bs_report.specs.Text.{report_text, head_text, tail_text}

abbrev pub yes : ℕ → Literal
yes v = record { variable = v; positive = true }

abbrev pub not_ : ℕ → Literal
not_ v = record { variable = v; positive = false }

abbrev pub report : Report
report =
    record {
      depth = 1;
      budgets = record { steps = 64; candidates = 256; conflicts = 100000 };
      steps = record {
        present = whole (true ∷ []);
        stored = [];
        older = None;
        cands = record { state = false ∷ []; input = []; before = None } ∷ [];
        end = ends.Finished 7;
        hit = Some (record { run = 1; cycle = 0; state = false ∷ [] });
      } ∷ [];
      stop = stops.Reset;
      states = (false ∷ []) ∷ (true ∷ []) ∷ [];
      inputs = [] ∷ [];
      free = [];
      log = lines.Solve ∷ lines.Block 6 (not_ 5 ∷ yes 3 ∷ []) ∷ lines.Solve ∷ lines.Lemma 7 (not_ 5 ∷ not_ 4 ∷ []) (4 ∷ 1 ∷ 6 ∷ []) ∷ lines.Finish 7
          ∷ lines.Retire 8 ∷ lines.Delete (6 ∷ 7 ∷ []) ∷ [];
    }

spells : report_text report ≡
    codes "backspace 1\nasked 64 candidates 256 conflicts 100000\n"
    ++ (codes "step 1\npresent 1\nstored .\ncand 0 input .\nlist finished 7\nhit 1 0 0\nstop reset\n"
    ++ (codes "trace 1\nstate 0\ninput .\nstate 1\n"
    ++ codes "log 7\ns\nb 6 -5 3 0\ns\n7 -5 -4 0 4 1 6 0\ne 7\nr 8\nd 6 7 0\nend\n"))
unfolding head_text tail_text digits
spells = refl

-- two steps of a chip whose register keeps the signatures of two cycles
abbrev pub deeper : Report
deeper =
    record {
      depth = 2;
      budgets = record { steps = 64; candidates = 256; conflicts = 100000 };
      steps = record {
        present = whole (true ∷ true ∷ []);
        stored = true ∷ [];
        older = Some (false ∷ []);
        cands =
            record {
              state = true ∷ true ∷ [];
              input = true ∷ [];
              before = Some (record { state = true ∷ false ∷ []; input = true ∷ [] });
            } ∷ [];
        end = ends.Finished 30;
        hit = Some (record { run = 1; cycle = 1; state = true ∷ true ∷ [] });
      } ∷ record {
        present = whole (true ∷ true ∷ []);
        stored = false ∷ [];
        older = None;
        cands = record { state = false ∷ false ∷ []; input = true ∷ []; before = None } ∷ [];
        end = ends.Finished 40;
        hit = None;
      } ∷ [];
      stop = stops.Nohit;
      states = (true ∷ true ∷ []) ∷ [];
      inputs = [];
      free = [];
      log = [];
    }

spells_deeper : report_text deeper ≡
    codes "backspace 2\nasked 64 candidates 256 conflicts 100000\n"
    ++ (codes "step 1\npresent 11\nstored 1\nolder 0\ncand 11 input 1 from 10 input 1\nlist finished 30\nhit 1 1 11\n"
    ++ (codes "step 2\npresent 11\nstored 0\nolder none\ncand 00 input 1\nlist finished 40\nnohit\nstop nohit\n"
    ++ codes "trace 0\nstate 11\nlog 0\nend\n"))
unfolding head_text tail_text digits
spells_deeper = refl

-- a dump of which the second flip-flop is not known, and a list without a hit
abbrev pub partial : Report
partial =
    record {
      depth = 1;
      budgets = record { steps = 64; candidates = 256; conflicts = 100000 };
      steps = record {
        present = record { bits = true ∷ false ∷ []; free = false ∷ true ∷ [] };
        stored = true ∷ [];
        older = None;
        cands = record { state = false ∷ true ∷ []; input = true ∷ []; before = None } ∷ record {
          state = true ∷ true ∷ [];
          input = true ∷ [];
          before = None;
        } ∷ [];
        end = ends.Finished 30;
        hit = None;
      } ∷ [];
      stop = stops.Nohit;
      states = (true ∷ false ∷ []) ∷ [];
      inputs = [];
      free = false ∷ true ∷ [];
      log = [];
    }

spells_partial : report_text partial ≡
    codes "backspace 1\nasked 64 candidates 256 conflicts 100000\n"
    ++ (codes "step 1\npresent 1-\nstored 1\ncand 01 input 1\ncand 11 input 1\nlist finished 30\nnohit\nstop nohit\n"
    ++ codes "trace 0\nstate 1-\nlog 0\nend\n")
unfolding head_text tail_text digits
spells_partial = refl

reads_partial : report_in (report_text partial) ≡ Ok partial
unfolding head_text tail_text digits report_in
reads_partial = refl

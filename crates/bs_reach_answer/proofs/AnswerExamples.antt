-- Texts of answers, read by computation, and each refusal.
use Rattle.std.proofs.Common.{◌≡◌, ℕ, true, false, [], ◌∷◌, ◌++◌, refl, Ok, Err}
use Rattle.std.specs.Prelude.{codes}
use Rattle.bs_clause.specs.Literal.{Literal}
use Rattle.bs_log.specs.declared.line.Line.TheVariants as lines
use Rattle.bs_report.specs.declared.fault.ReportFault.TheVariants as faults
use Rattle.bs_reach.specs.declared.reach.Outcome.TheVariants.{Reached, Unreached, Unknown}
use Rattle.bs_reach_answer.specs.Reading.{answer_in}

abbrev not_ : ℕ → Literal
not_ v = record { variable = v; positive = false }

-- the state at reset
at_reset : answer_in (codes "reach 1\nasked 0 conflicts 10\nresult reached 0\nstate 0\nlog 0\nend\n") ≡
    Ok (record { asked = 0; conflicts = 10; outcome = Reached 0; states = (false ∷ []) ∷ []; inputs = []; log = [] })
unfolding answer_in
at_reset = refl

-- two cycles, of which the first was refuted
behind_two : answer_in
    (codes "reach 1\nasked 4 conflicts 10\nresult reached 2\nstate 00\ninput 1\nstate 01\ninput .\nstate 11\n"
    ++ codes "log 5\ns\n9 -7 0 3 1 0\ne 9\nr 10\ns\nend\n") ≡
    Ok (record {
      asked = 4;
      conflicts = 10;
      outcome = Reached 2;
      states = (false ∷ false ∷ []) ∷ (false ∷ true ∷ []) ∷ (true ∷ true ∷ []) ∷ [];
      inputs = (true ∷ []) ∷ [] ∷ [];
      log = lines.Solve ∷ lines.Lemma 9 (not_ 7 ∷ []) (3 ∷ 1 ∷ []) ∷ lines.Finish 9 ∷ lines.Retire 10 ∷ lines.Solve ∷ [];
    })
unfolding answer_in
behind_two = refl

never_reached : answer_in (codes "reach 1\nasked 0 conflicts 1\nresult unreached\nlog 0\nend\n") ≡
    Ok (record { asked = 0; conflicts = 1; outcome = Unreached; states = []; inputs = []; log = [] })
unfolding answer_in
never_reached = refl

cut_off : answer_in (codes "reach 1\nasked 1024 conflicts 1\nresult unknown 3\nlog 1\ns\nend\n") ≡
    Ok (record { asked = 1024; conflicts = 1; outcome = Unknown 3; states = []; inputs = []; log = lines.Solve ∷ [] })
unfolding answer_in
cut_off = refl

-- ---- refusals, by place

another_title : answer_in (codes "reach 2\nasked 0 conflicts 1\n") ≡ Err (faults.Line 1)
unfolding answer_in
another_title = refl

too_many_cycles : answer_in (codes "reach 1\nasked 1025 conflicts 1\n") ≡ Err (faults.Line 2)
unfolding answer_in
too_many_cycles = refl

no_conflicts : answer_in (codes "reach 1\nasked 8 conflicts 0\n") ≡ Err (faults.Line 2)
unfolding answer_in
no_conflicts = refl

longer_than_asked : answer_in (codes "reach 1\nasked 8 conflicts 1\nresult reached 9\n") ≡ Err (faults.Line 3)
unfolding answer_in
longer_than_asked = refl

no_outcome : answer_in (codes "reach 1\nasked 8 conflicts 1\nresult unreached 8\n") ≡ Err (faults.Line 3)
unfolding answer_in
no_outcome = refl

no_state : answer_in (codes "reach 1\nasked 8 conflicts 1\nresult reached 1\nlog 0\n") ≡ Err (faults.Line 4)
unfolding answer_in
no_state = refl

no_input : answer_in (codes "reach 1\nasked 8 conflicts 1\nresult reached 1\nstate 0\nstate 1\n") ≡ Err (faults.Line 5)
unfolding answer_in
no_input = refl

states_unasked : answer_in (codes "reach 1\nasked 8 conflicts 1\nresult unreached\nstate 0\n") ≡ Err (faults.Line 4)
unfolding answer_in
states_unasked = refl

no_log_line : answer_in (codes "reach 1\nasked 8 conflicts 1\nresult unreached\nlog 1\nx\n") ≡ Err (faults.Line 5)
unfolding answer_in
no_log_line = refl

no_end : answer_in (codes "reach 1\nasked 8 conflicts 1\nresult unreached\nlog 0\ns\n") ≡ Err (faults.Line 5)
unfolding answer_in
no_end = refl

ends_early : answer_in (codes "reach 1\nasked 8 conflicts 1\nresult unreached\nlog 0\nend") ≡ Err faults.Short
unfolding answer_in
ends_early = refl

line_behind : answer_in (codes "reach 1\nasked 8 conflicts 1\nresult unreached\nlog 0\nend\nend\n") ≡ Err faults.Extra
unfolding answer_in
line_behind = refl

bytes_behind : answer_in (codes "reach 1\nasked 8 conflicts 1\nresult unreached\nlog 0\nend\nx") ≡ Err faults.Extra
unfolding answer_in
bytes_behind = refl

no_block_line : answer_in (codes "reach 1\nasked 8 conflicts 1\nresult unreached\nlog 1\nb 9 -7 0\nend\n") ≡ Err (faults.Line 5)
unfolding answer_in
no_block_line = refl

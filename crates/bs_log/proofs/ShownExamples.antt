-- The texts of small logs, computed.
use Rattle.std.proofs.Common.{◌≡◌, ℕ, true, false, List, [], ◌∷◌, refl, take}
use Rattle.std.specs.Prelude.{codes}
use Rattle.std.specs.Fmt.{digits}
use Rattle.bs_clause.specs.Literal.{Literal, Clause}
use Rattle.bs_log.specs.declared.line.Line.{Line}
use Rattle.bs_log.specs.declared.line.Line.TheVariants.{Solve, Lemma, Block, Finish, Retire, Delete}
use Rattle.bs_log.specs.History.{Problem, History}
use Rattle.bs_log.specs.Refusal.{history_of}
use Rattle.bs_log.specs.Cnf.{cnf_text}
use Rattle.bs_log.specs.Proof.{lrat_text}

-- a literal and its negation, by the variable
abbrev yes : ℕ → Literal
yes v = record { variable = v; positive = true }

abbrev non : ℕ → Literal
non v = record { variable = v; positive = false }

-- ---- two flip-flops one behind the other: the clock 1, the input 2, the state 3 and 4, the next state 5 and 6, the signature 7

abbrev clauses : List Clause
clauses =
    (non 1 ∷ []) ∷ (non 5 ∷ yes 2 ∷ []) ∷ (yes 5 ∷ non 2 ∷ []) ∷ (non 6 ∷ yes 3 ∷ []) ∷ (yes 6 ∷ non 3 ∷ []) ∷ (non 7 ∷ yes 4 ∷ [])
    ∷ (yes 7 ∷ non 4 ∷ []) ∷ []

-- before 11 with the signature 1, before 11 with 0, and before 10 with 0
abbrev problem : Problem
problem =
    record {
      vars = 7;
      clauses = clauses;
      steps = (yes 8 ∷ yes 5 ∷ yes 6 ∷ yes 7 ∷ []) ∷ (yes 9 ∷ yes 5 ∷ yes 6 ∷ non 7 ∷ []) ∷ (yes 10 ∷ yes 5 ∷ non 6 ∷ non 7 ∷ []) ∷ [];
    }

abbrev log : List Line
log =
    Solve ∷ Block 8 (non 8 ∷ non 3 ∷ non 4 ∷ []) ∷ Solve ∷ Lemma 9 (non 8 ∷ non 7 ∷ non 6 ∷ []) (4 ∷ 6 ∷ 8 ∷ []) ∷ Finish 9 ∷ Retire 10 ∷ Delete (8 ∷ 9 ∷ [])
    ∷ Solve ∷ Block 11 (non 9 ∷ non 3 ∷ yes 4 ∷ []) ∷ Solve ∷ Lemma 12 (non 9 ∷ yes 7 ∷ non 6 ∷ []) (4 ∷ 7 ∷ 11 ∷ []) ∷ Finish 12 ∷ Retire 13
    ∷ Delete (11 ∷ 12 ∷ []) ∷ []

-- the lines before the finish lines of step 1 and of step 2
abbrev first : History
first = history_of (take 4 log)

abbrev second : History
second = history_of (take 11 log)

first_clauses : cnf_text problem first 1 ≡
    codes "p cnf 10 14\n-1 0\n-5 2 0\n5 -2 0\n-6 3 0\n6 -3 0\n-7 4 0\n7 -4 0\n8 0\n5 0\n6 0\n7 0\n-8 -3 -4 0\n-9 0\n-10 0\n"
unfolding digits
first_clauses = refl

first_proof : lrat_text problem first 1 9 ≡ codes "15 -8 -3 -4 0 12 0\n16 -8 -7 -6 0 4 6 15 0\n17 0 8 11 10 16 0\n"
unfolding digits
first_proof = refl

second_clauses : cnf_text problem second 2 ≡
    codes "p cnf 10 14\n-1 0\n-5 2 0\n5 -2 0\n-6 3 0\n6 -3 0\n-7 4 0\n7 -4 0\n9 0\n5 0\n6 0\n-7 0\n-9 -3 4 0\n-8 0\n-10 0\n"
unfolding digits
second_clauses = refl

-- the first step's block and its retired activation literal follow from the clause that turns the step off
second_proof : lrat_text problem second 2 12 ≡
    codes "15 -8 -3 -4 0 13 0\n16 -8 -7 -6 0 4 6 15 0\n17 -8 0 13 0\n17 d 15 16 0\n18 -9 -3 4 0 12 0\n19 -9 7 -6 0 4 7 18 0\n20 0 8 11 10 19 0\n"
unfolding digits
second_proof = refl

-- ---- an empty list behind one that is cut: before a state with the next bit 1 of a flip-flop whose input is 0

abbrev cut_problem : Problem
cut_problem = record { vars = 7; clauses = clauses; steps = (yes 8 ∷ yes 5 ∷ yes 6 ∷ yes 7 ∷ []) ∷ (yes 9 ∷ yes 6 ∷ non 3 ∷ []) ∷ [] }

abbrev cut_log : List Line
cut_log = Solve ∷ Block 8 (non 8 ∷ non 3 ∷ non 4 ∷ []) ∷ Retire 9 ∷ Delete (8 ∷ []) ∷ Solve ∷ Lemma 10 (non 6 ∷ yes 3 ∷ []) (4 ∷ []) ∷ Finish 10 ∷ Retire 11 ∷ []

empty_clauses : cnf_text cut_problem (history_of (take 6 cut_log)) 2 ≡
    codes "p cnf 9 11\n-1 0\n-5 2 0\n5 -2 0\n-6 3 0\n6 -3 0\n-7 4 0\n7 -4 0\n9 0\n6 0\n-3 0\n-8 0\n"
unfolding digits
empty_clauses = refl

empty_proof : lrat_text cut_problem (history_of (take 6 cut_log)) 2 10 ≡
    codes "12 -8 -3 -4 0 11 0\n13 -8 0 11 0\n13 d 12 0\n14 -6 3 0 4 0\n15 0 9 10 14 0\n"
unfolding digits
empty_proof = refl

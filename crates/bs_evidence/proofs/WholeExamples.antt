-- The texts of small logs, computed.
use Rattle.std.proofs.Common.{◌≡◌, ℕ, true, false, List, [], ◌∷◌, refl}
use Rattle.std.specs.Prelude.{codes}
use Rattle.std.specs.Fmt.{digits}
use Rattle.bs_clause.specs.Literal.{Literal, Clause}
use Rattle.bs_log.specs.declared.line.Line.{Line}
use Rattle.bs_log.specs.declared.line.Line.TheVariants.{Solve, Lemma, Block, Finish, Retire, Delete}
use Rattle.bs_log.specs.History.{Problem}
use Rattle.bs_log.specs.Refusal.{history_of}
use Rattle.bs_evidence.specs.WholeCnf.{whole_cnf_text}
use Rattle.bs_evidence.specs.WholeProof.{whole_lrat_text}

-- a literal and its negation, by the variable
abbrev yes : ℕ → Literal
yes v = record { variable = v; positive = true }

abbrev non : ℕ → Literal
non v = record { variable = v; positive = false }

-- ---- two flip-flops one behind the other: the clock 1, the input 2, the state 3 and 4, the next state 5 and 6, the signature 7

abbrev clauses : List Clause
clauses =
    (non 1 ∷ []) ∷ (non 5 ∷ yes 2 ∷ []) ∷ (yes 5 ∷ non 2 ∷ []) ∷ (non 6 ∷ yes 3 ∷ []) ∷ (yes 6 ∷ non 3 ∷ []) ∷ (non 7 ∷ yes 4 ∷ [])
    ∷ (yes 7 ∷ non 4 ∷ []) ∷ []

-- before 11 with the signature 1, and before 11 with 0
abbrev problem : Problem
problem =
    record { vars = 7; clauses = clauses; steps = (yes 8 ∷ yes 5 ∷ yes 6 ∷ yes 7 ∷ []) ∷ (yes 9 ∷ yes 5 ∷ yes 6 ∷ non 7 ∷ []) ∷ [] }

abbrev log : List Line
log =
    Solve ∷ Block 8 (non 8 ∷ non 3 ∷ non 4 ∷ []) ∷ Solve ∷ Lemma 9 (non 8 ∷ non 7 ∷ non 6 ∷ []) (4 ∷ 6 ∷ 8 ∷ []) ∷ Finish 9 ∷ Retire 10 ∷ Delete (8 ∷ 9 ∷ [])
    ∷ Solve ∷ Block 11 (non 9 ∷ non 3 ∷ yes 4 ∷ []) ∷ Solve ∷ Lemma 12 (non 9 ∷ yes 7 ∷ non 6 ∷ []) (4 ∷ 7 ∷ 11 ∷ []) ∷ Finish 12 ∷ Retire 13
    ∷ Delete (11 ∷ 12 ∷ []) ∷ []

both_clauses : whole_cnf_text problem (history_of log) ≡
    codes
    "p cnf 9 16\n-1 0\n-5 2 0\n5 -2 0\n-6 3 0\n6 -3 0\n-7 4 0\n7 -4 0\n-8 -3 -4 0\n-8 5 0\n-8 6 0\n-8 7 0\n-9 -3 4 0\n-9 5 0\n-9 6 0\n-9 -7 0\n8 9 0\n"
unfolding digits
both_clauses = refl

both_proof : whole_lrat_text problem (history_of log) ≡
    codes
    "17 -8 -3 -4 0 8 0\n18 -8 -7 -6 0 4 6 17 0\n19 -8 0 11 10 18 0\n19 d 17 18 0\n20 -9 -3 4 0 12 0\n21 -9 7 -6 0 4 7 20 0\n22 -9 0 15 14 21 0\n22 d 20 21 0\n23 0 19 22 16 0\n"
unfolding digits
both_proof = refl

-- ---- an empty list behind one that is cut: before a state with the next bit 1 of a flip-flop whose input is 0

abbrev cut_problem : Problem
cut_problem = record { vars = 7; clauses = clauses; steps = (yes 8 ∷ yes 5 ∷ yes 6 ∷ yes 7 ∷ []) ∷ (yes 9 ∷ yes 6 ∷ non 3 ∷ []) ∷ [] }

abbrev cut_log : List Line
cut_log = Solve ∷ Block 8 (non 8 ∷ non 3 ∷ non 4 ∷ []) ∷ Retire 9 ∷ Delete (8 ∷ []) ∷ Solve ∷ Lemma 10 (non 6 ∷ yes 3 ∷ []) (4 ∷ []) ∷ Finish 10 ∷ Retire 11 ∷ []

cut_clauses : whole_cnf_text cut_problem (history_of cut_log) ≡
    codes "p cnf 9 12\n-1 0\n-5 2 0\n5 -2 0\n-6 3 0\n6 -3 0\n-7 4 0\n7 -4 0\n-8 -3 -4 0\n-8 0\n-9 6 0\n-9 -3 0\n9 0\n"
unfolding digits
cut_clauses = refl

cut_proof : whole_lrat_text cut_problem (history_of cut_log) ≡
    codes "13 -8 -3 -4 0 8 0\n14 -8 0 9 0\n14 d 13 0\n15 -6 3 0 4 0\n16 -9 0 10 11 15 0\n17 0 16 12 0\n"
unfolding digits
cut_proof = refl

-- ---- a signature of two cycles over one flip-flop: the state 1, the next state 2, the input 3, the signature 4, the same of the cycle before 5 to 8,
-- and the link 9

abbrev linked : List Clause
linked =
    (non 2 ∷ yes 3 ∷ []) ∷ (yes 2 ∷ non 3 ∷ []) ∷ (non 4 ∷ yes 1 ∷ []) ∷ (yes 4 ∷ non 1 ∷ []) ∷ (non 6 ∷ yes 7 ∷ []) ∷ (yes 6 ∷ non 7 ∷ [])
    ∷ (non 8 ∷ yes 5 ∷ []) ∷ (yes 8 ∷ non 5 ∷ []) ∷ (non 9 ∷ non 6 ∷ yes 1 ∷ []) ∷ (non 9 ∷ yes 6 ∷ non 1 ∷ []) ∷ []

-- before 1 with the signatures 1 and, of the cycle before, 0; and before 1 with 0 right after reset
abbrev linked_problem : Problem
linked_problem =
    record {
      vars = 9;
      clauses = linked;
      steps = (yes 10 ∷ yes 2 ∷ yes 4 ∷ yes 9 ∷ non 8 ∷ []) ∷ (yes 11 ∷ yes 2 ∷ non 4 ∷ non 9 ∷ non 1 ∷ []) ∷ [];
    }

abbrev linked_log : List Line
linked_log =
    Solve ∷ Block 11 (non 10 ∷ non 1 ∷ []) ∷ Solve ∷ Lemma 12 (non 10 ∷ non 4 ∷ []) (3 ∷ 11 ∷ []) ∷ Finish 12 ∷ Retire 13 ∷ Delete (11 ∷ 12 ∷ [])
    ∷ Solve ∷ Block 14 (non 11 ∷ yes 1 ∷ []) ∷ Solve ∷ Lemma 15 (non 11 ∷ yes 1 ∷ []) (14 ∷ []) ∷ Finish 15 ∷ Retire 16 ∷ Delete (14 ∷ 15 ∷ []) ∷ []

linked_clauses : whole_cnf_text linked_problem (history_of linked_log) ≡
    codes
    "p cnf 11 21\n-2 3 0\n2 -3 0\n-4 1 0\n4 -1 0\n-6 7 0\n6 -7 0\n-8 5 0\n8 -5 0\n-9 -6 1 0\n-9 6 -1 0\n-10 -1 0\n-10 2 0\n-10 4 0\n-10 9 0\n-10 -8 0\n-11 1 0\n-11 2 0\n-11 -4 0\n-11 -9 0\n-11 -1 0\n10 11 0\n"
unfolding digits
linked_clauses = refl

linked_proof : whole_lrat_text linked_problem (history_of linked_log) ≡
    codes
    "22 -10 -1 0 11 0\n23 -10 -4 0 3 22 0\n24 -10 0 13 23 0\n24 d 22 23 0\n25 -11 1 0 16 0\n26 -11 1 0 25 0\n27 -11 0 20 26 0\n27 d 25 26 0\n28 0 24 27 21 0\n"
unfolding digits
linked_proof = refl

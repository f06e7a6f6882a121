-- The texts of small answers, computed, and each flaw.
use Rattle.std.proofs.Common.{◌≡◌, ℕ, zero, suc, true, false, List, [], ◌∷◌, refl, take, arith, Some, None}
use Rattle.std.specs.Prelude.{codes, slice_get}
use Rattle.std.specs.Fmt.{digits}
use Rattle.bs_scan.specs.Seen.{whole}
use Rattle.bs_clause.specs.Literal.{Literal}
use Rattle.bs_log.specs.declared.line.Line.{Line}
use Rattle.bs_log.specs.declared.line.Line.TheVariants.{Solve, Lemma, Finish, Retire}
use Rattle.bs_log.specs.declared.why.Why.TheVariants.{NotFalse, Order}
use Rattle.bs_log.specs.FirstRefused.{first_refused}
use Rattle.bs_log.specs.History.{Problem, step_of}
use Rattle.bs_log.specs.Refusal.{history_of}
use Rattle.bs_log.specs.Cnf.{cnf_text}
use Rattle.bs_log.specs.ShownLaw.{HasNoFinish}
use Rattle.bs_log.specs.Proof.{lrat_text}
use Rattle.bs_encode.specs.Encoded.{Encoded, unsigned}
use Rattle.bs_reach_unrolled.specs.Unrolled.{reach_problem}

-- a literal and its negation, by the variable
abbrev yes : ℕ → Literal
yes v = record { variable = v; positive = true }

abbrev non : ℕ → Literal
non v = record { variable = v; positive = false }

-- ---- a flip-flop behind another, which loads the input: the input 1, the state 2 and 3, the next state 4 and 5

abbrev shift : Encoded
shift =
    unsigned ((non 4 ∷ yes 1 ∷ []) ∷ (yes 4 ∷ non 1 ∷ []) ∷ (non 5 ∷ yes 2 ∷ []) ∷ (yes 5 ∷ non 2 ∷ []) ∷ []) 5 (yes 2 ∷ yes 3 ∷ []) (yes 4 ∷ yes 5 ∷ [])
    (yes 1 ∷ [])

-- from 00 to 11 in two cycles, and not in one
abbrev shifted : Problem
shifted = reach_problem shift (false ∷ false ∷ []) 2 (whole (true ∷ true ∷ [])) 2

abbrev shift_log : List Line
shift_log = Solve ∷ Lemma 15 (non 5 ∷ []) (3 ∷ 9 ∷ []) ∷ Finish 15 ∷ Retire 16 ∷ Solve ∷ Retire 17 ∷ []

shift_accepted : first_refused shifted shift_log ≡ None
shift_accepted = refl

length_one : cnf_text shifted (history_of (take 2 shift_log)) 1 ≡
    codes "p cnf 12 18\n-4 1 0\n4 -1 0\n-5 2 0\n5 -2 0\n-9 6 0\n9 -6 0\n-10 7 0\n10 -7 0\n-2 0\n-3 0\n-4 7 0\n4 -7 0\n-5 8 0\n5 -8 0\n11 0\n4 0\n5 0\n-12 0\n"
unfolding digits
length_one = refl

proof_one : lrat_text shifted (history_of (take 2 shift_log)) 1 15 ≡ codes "19 -5 0 3 9 0\n20 0 17 19 0\n"
unfolding digits
proof_one = refl

-- ---- a flip-flop that keeps its bit: the state 1, the next state 2

abbrev kept : Encoded
kept = unsigned ((non 2 ∷ yes 1 ∷ []) ∷ (yes 2 ∷ non 1 ∷ []) ∷ []) 2 (yes 1 ∷ []) (yes 2 ∷ []) []

-- from 0 never to 1
abbrev stuck : Problem
stuck = reach_problem kept (false ∷ []) 3 (whole (true ∷ [])) 3

abbrev stuck_log : List Line
stuck_log =
    Solve ∷ Lemma 12 (non 2 ∷ []) (1 ∷ 7 ∷ []) ∷ Finish 12 ∷ Retire 13 ∷ Solve ∷ Lemma 14 (non 4 ∷ []) (3 ∷ 9 ∷ 12 ∷ []) ∷ Finish 14 ∷ Retire 15 ∷ Solve
    ∷ Lemma 16 (non 6 ∷ []) (5 ∷ 11 ∷ 14 ∷ []) ∷ Finish 16 ∷ Retire 17 ∷ []

stuck_accepted : first_refused stuck stuck_log ≡ None
stuck_accepted = refl

length_three : cnf_text stuck (history_of (take 10 stuck_log)) 3 ≡
    codes "p cnf 9 15\n-2 1 0\n2 -1 0\n-4 3 0\n4 -3 0\n-6 5 0\n6 -5 0\n-1 0\n-2 3 0\n2 -3 0\n-4 5 0\n4 -5 0\n9 0\n6 0\n-7 0\n-8 0\n"
unfolding digits
length_three = refl

-- the first two lengths are turned off, and their lemmas stay
proof_three : lrat_text stuck (history_of (take 10 stuck_log)) 3 16 ≡
    codes "16 -2 0 1 7 0\n17 -7 0 14 0\n18 -4 0 3 9 16 0\n19 -8 0 15 0\n20 -6 0 5 11 18 0\n21 0 13 20 0\n"
unfolding digits
proof_three = refl

-- ---- flaws

-- a lemma that does not follow
wrong_hints : first_refused shifted (Solve ∷ Lemma 15 (non 5 ∷ []) (3 ∷ []) ∷ []) ≡ Some (2, NotFalse)
wrong_hints = refl

-- a log of one length more than were tried
one_length_more : first_refused (reach_problem shift (false ∷ false ∷ []) 2 (whole (true ∷ true ∷ [])) 1) shift_log ≡ Some (5, Order)
one_length_more = refl

-- the length in which the state is reached has no finish line
unfinished : HasNoFinish shift_log 2
unfinished = record { none = by }
  where
    by : (place id : ℕ) → slice_get shift_log place ≡ Some (Finish id) → step_of (history_of (take place shift_log)) ≡ 2 → ⊥
    by zero id e step = cc
    by (suc zero) id e step = cc
    by (suc (suc zero)) id e step = let no : 1 ≡ 2 = step in absurd (omega (arith, no))
    by (suc (suc (suc zero))) id e step = cc
    by (suc (suc (suc (suc zero)))) id e step = cc
    by (suc (suc (suc (suc (suc zero))))) id e step = cc
    by (suc (suc (suc (suc (suc (suc n)))))) id e step = cc

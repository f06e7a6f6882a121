-- The proof of a step's list over its clauses, and its text as LRAT has it (docs/FORMATS.md, "Clauses for other checkers").
use Rattle.std.specs.Prelude.{◌≡◌, ℕ, ◌+◌, ◌==◌, cond, List, [], ◌∷◌, ◌++◌, length, map, IsTrue, unwrap_or}
use Rattle.std.specs.List.{position}
use Rattle.bs_clause.specs.Literal.{Literal, Clause, negation, same_literal}
use Rattle.bs_log.specs.declared.line.Line.{Line}
use Rattle.bs_log.specs.declared.line.Line.TheVariants.{Lemma, Block, Retire, Delete}
use Rattle.bs_log.specs.History.{Problem, History, step_of, last_id, state_of}
use Rattle.bs_log.specs.Refusal.{assumptions_of, names_stand, lemma_is_unit, lemma_is_false}
use Rattle.bs_log.specs.Refutation.{blocks_of}
use Rattle.bs_log.specs.Lines.{proof_line, raised}
use Rattle.bs_log.specs.declared.id_offsets.Frame.{Frame}
use Rattle.bs_log.specs.Cnf.{behind, closed, cnf_of}

-- ---- what a proof is

-- clauses alone, with no step
abbrev pub alone : List Clause → Problem
alone clauses = record { vars = 0; clauses = clauses; steps = [] }

-- a lemma with the next id that follows by reverse unit propagation from clauses that stand, or a deletion of lemmas that stand
abbrev pub IsProofLine : Problem → History → Line → Type 0
IsProofLine q h (Lemma id lits hints) =
    (id ≡ last_id q h + 1)
    × IsTrue (names_stand (state_of q h) (Lemma id lits hints))
    × IsTrue (lemma_is_unit (state_of q h) (Lemma id lits hints))
    × IsTrue (lemma_is_false (state_of q h) (Lemma id lits hints))
IsProofLine q h (Delete ids) = IsTrue (names_stand (state_of q h) (Delete ids))
IsProofLine q h _ = ⊥

-- each line is right behind those before it; the newest line stands first
abbrev pub IsProof : Problem → History → Type 0
IsProof q [] = Unit {0}
IsProof q (line ∷ earlier) = IsProofLine q earlier line × IsProof q earlier

-- the newest line is the empty clause
abbrev pub EndsEmpty : History → Type 0
EndsEmpty (Lemma id [] hints ∷ earlier) = Unit {0}
EndsEmpty h = ⊥

pub record IsRefutation (clauses : List Clause) (h : History) : Type 0 where
  pub right : IsProof (alone clauses) h
  pub last : EndsEmpty h

-- ---- the proof of a list

-- the clause from which a block follows: the same block of the step itself, or the clause that turns the other step off
abbrev pub block_hint : Frame → History → ℕ
block_hint f h = cond (step_of h == f.step) (f.own + length (blocks_of h f.step) + 1) (f.closed + step_of h)

-- what a line of the log is in the proof
abbrev pub shown_line : Frame → Problem → History → Line → List Line
shown_line f p h (Lemma id lits hints) = Lemma (raised f id) lits (map (raised f) hints) ∷ []
shown_line f p h (Block id lits) = Lemma (raised f id) lits (block_hint f h ∷ []) ∷ []
shown_line f p h (Retire id) = Lemma (raised f id) (closed p (step_of h)) ((f.closed + step_of h) ∷ []) ∷ []
shown_line f p h (Delete ids) = Delete (map (raised f) ids) ∷ []
shown_line f p h _ = []

abbrev pub shown : Frame → Problem → History → History
shown f p [] = []
shown f p (line ∷ earlier) = shown_line f p earlier line ++ shown f p earlier

-- where the parts of a step's clauses stand, the last id of each part before
abbrev pub frame_of : Problem → History → ℕ → Frame
frame_of p h step =
    record {
      front = length p.clauses;
      by = length (behind p h step);
      own = length p.clauses + length (assumptions_of p step);
      closed = length p.clauses + length (assumptions_of p step) + length (blocks_of h step);
      step = step;
    }

-- the lemma of this id
abbrev pub lemma_in : History → ℕ → Clause
lemma_in [] id = []
lemma_in (Lemma other lits hints ∷ earlier) id = cond (other == id) lits (lemma_in earlier id)
lemma_in (_ ∷ earlier) id = lemma_in earlier id

-- the id of the clause of an assumption that denies a literal
abbrev pub unit_id : ℕ → Clause → Literal → ℕ
unit_id front assumptions l = front + unwrap_or (position (λ m. same_literal (negation l) m) assumptions) 0 + 1

-- the empty clause, from what the step assumes against each literal of its last lemma, and that lemma
abbrev pub ending : Frame → Clause → Clause → (last id : ℕ) → Line
ending f assumptions lemma last id = Lemma (last + 1) [] (map (unit_id f.front assumptions) lemma ++ raised f id ∷ [])

abbrev pub proof_with : Frame → Problem → History → List Clause → Clause → ℕ → History
proof_with f p h clauses assumptions id = ending f assumptions (lemma_in h id) (last_id (alone clauses) (shown f p h)) id ∷ shown f p h

-- the proof of a step's list, where the lemma of this id finishes it
abbrev pub proof_of : Problem → History → (step id : ℕ) → History
proof_of p h step id = proof_with (frame_of p h step) p h (cnf_of p h step) (assumptions_of p step) id

-- ---- the text

-- the lines in their order
abbrev pub proof_text : Problem → History → List ℕ
proof_text q [] = []
proof_text q (line ∷ earlier) = proof_text q earlier ++ proof_line (last_id q earlier) line

abbrev pub lrat_text : Problem → History → (step id : ℕ) → List ℕ
lrat_text p h step id = proof_text (alone (cnf_of p h step)) (proof_of p h step id)

-- The proof that all finished lists are complete, over their clauses, and its text as LRAT has it (docs/FORMATS.md, "Clauses for other checkers").
use Rattle.std.specs.Prelude.{ℕ, ◌+◌, ◌-◌, ◌==◌, not, cond, List, [], ◌∷◌, ◌++◌, length, map, reverse, Option, Some, None, is_some}
use Rattle.std.specs.List.{filter, flat_map, range_with_len}
use Rattle.bs_clause.specs.Literal.{Clause}
use Rattle.bs_log.specs.declared.line.Line.{Line}
use Rattle.bs_log.specs.declared.line.Line.TheVariants.{Lemma, Block, Retire, Delete}
use Rattle.bs_log.specs.History.{Problem, History, step_of, last_id}
use Rattle.bs_log.specs.Refutation.{blocks_of}
use Rattle.bs_log.specs.Cnf.{closed}
use Rattle.bs_log.specs.Lines.{raised}
use Rattle.bs_log.specs.Proof.{alone, unit_id, lemma_in, proof_text}
use Rattle.bs_log.specs.declared.id_offsets.Frame.{Frame}
use Rattle.bs_evidence.specs.WholeCnf.{finish_of, rest_of, part_of, whole_behind, whole_cnf_of}
use Rattle.bs_evidence.specs.declared.whole_walk.Under.{Under}

-- ---- where the clauses of a line stand

-- the step that is under way behind these lines, and the lemma that finishes it so far
abbrev pub under_of : History → Under
under_of h = record { step = step_of h; finish = finish_of h (step_of h) }

-- the clauses behind the netlist's that these lines give: those of the steps that are over, and the blocks of the one that is under way
abbrev pub so_far : Problem → History → List Clause
so_far p h = flat_map (part_of p h) (range_with_len 1 (step_of h - 1)) ++ reverse (blocks_of h (step_of h))

-- the last id of a clause before those that the next line gives
abbrev pub place_of : Problem → History → ℕ
place_of p h = length p.clauses + length (so_far p h)

-- ---- the lines of the proof

-- the literals of a clause that are not over this variable
abbrev pub besides : ℕ → Clause → Clause
besides variable c = filter (λ l. not (l.variable == variable)) c

-- what the clause that turns a step off follows from, where the step's own clauses stand behind this place: the clause itself where no
-- lemma finishes the step, and else what the step assumes against each literal of that lemma, and the lemma
abbrev pub off_hints : Frame → Problem → (ℕ → Clause) → (step place : ℕ) → Option ℕ → List ℕ
off_hints f p lemma step place None = (place + 1) ∷ []
off_hints f p lemma step place (Some id) = map (unit_id place (rest_of p step)) (besides (p.vars + step) (lemma id)) ++ raised f id ∷ []

-- what a line of the log is in the proof, where its own clauses stand behind this place
abbrev pub line_at : Frame → Problem → (ℕ → Clause) → Under → (place : ℕ) → Line → List Line
line_at f p lemma u place (Lemma id lits hints) = Lemma (raised f id) lits (map (raised f) hints) ∷ []
line_at f p lemma u place (Block id lits) = Lemma (raised f id) lits ((place + 1) ∷ []) ∷ []
line_at f p lemma u place (Retire id) = Lemma (raised f id) (closed p u.step) (off_hints f p lemma u.step place u.finish) ∷ []
line_at f p lemma u place (Delete ids) = Delete (map (raised f) ids) ∷ []
line_at f p lemma u place _ = []

abbrev pub whole_shown : Frame → Problem → History → History
whole_shown f p [] = []
whole_shown f p (line ∷ earlier) = line_at f p (lemma_in earlier) (under_of earlier) (place_of p earlier) line ++ whole_shown f p earlier

-- how far ids go up; of a frame only the first two parts are read here
abbrev pub whole_frame : Problem → History → Frame
whole_frame p h = record { front = length p.clauses; by = length (whole_behind p h); own = 0; closed = 0; step = 0 }

-- the id of a line that ends a finished step, with the step
abbrev pub ended_at : Under → Line → List (ℕ × ℕ)
ended_at u (Retire id) = cond (is_some u.finish) ((id, u.step) ∷ []) []
ended_at u line = []

-- those of all lines, in their order
abbrev pub ended : History → List (ℕ × ℕ)
ended [] = []
ended (line ∷ earlier) = ended earlier ++ ended_at (under_of earlier) line

-- the empty clause, from the clauses that turn the finished steps off, and the last clause
abbrev pub whole_ending : Frame → History → (last : ℕ) → Line
whole_ending f h last = Lemma (last + 1) [] (map (λ e. raised f e.0) (ended h) ++ (f.front + f.by) ∷ [])

abbrev pub whole_proof_with : Frame → Problem → History → List Clause → History
whole_proof_with f p h clauses = whole_ending f h (last_id (alone clauses) (whole_shown f p h)) ∷ whole_shown f p h

-- the proof that all finished lists of a log are complete
abbrev pub whole_proof_of : Problem → History → History
whole_proof_of p h = whole_proof_with (whole_frame p h) p h (whole_cnf_of p h)

abbrev pub whole_lrat_text : Problem → History → List ℕ
whole_lrat_text p h = proof_text (alone (whole_cnf_of p h)) (whole_proof_of p h)

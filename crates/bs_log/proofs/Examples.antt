-- Small logs and texts, computed.
use Rattle.std.proofs.Common.{◌≡◌, ℕ, true, false, List, [], ◌∷◌, refl, Some, None}
use Rattle.std.specs.Prelude.{codes}
use Rattle.bs_clause.specs.Literal.{Literal, Clause}
use Rattle.bs_log.specs.declared.line.Line.{Line}
use Rattle.bs_log.specs.declared.line.Line.TheVariants.{Solve, Lemma, Block, Finish, Retire, Delete}
use Rattle.bs_log.specs.declared.why.Why.TheVariants.{Order, NoClause, NotUnit, NotFalse, BadBlock, BadEnd}
use Rattle.bs_log.specs.History.{Problem}
use Rattle.bs_log.specs.FirstRefused.{first_refused}
use Rattle.bs_log.specs.LineReading.{line_in}

-- a literal and its negation, by the variable
abbrev yes : ℕ → Literal
yes v = record { variable = v; positive = true }

abbrev non : ℕ → Literal
non v = record { variable = v; positive = false }

-- a gate that is the negation of its input, and a flip-flop behind it
abbrev clauses : List Clause
clauses = (non 2 ∷ non 3 ∷ []) ∷ (yes 2 ∷ yes 3 ∷ []) ∷ (non 1 ∷ []) ∷ (non 4 ∷ yes 2 ∷ []) ∷ (yes 4 ∷ non 2 ∷ []) ∷ []

abbrev problem : Problem
problem = record { vars = 4; clauses = clauses; steps = (yes 5 ∷ yes 4 ∷ []) ∷ [] }

abbrev lemma_line : Line
lemma_line = Lemma 7 (non 5 ∷ non 4 ∷ []) (4 ∷ 1 ∷ 6 ∷ [])

-- a step that lists one solution: these lines with the block, the lemma and the finish line given
abbrev log : Line → Line → Line → List Line
log block lemma finish = Solve ∷ block ∷ Solve ∷ lemma ∷ finish ∷ Retire 8 ∷ Delete (6 ∷ 7 ∷ []) ∷ []

abbrev block_line : Line
block_line = Block 6 (non 5 ∷ yes 3 ∷ [])

one_step_is_accepted : first_refused problem (log block_line lemma_line (Finish 7)) ≡ None
one_step_is_accepted = refl

finish_names_a_block : first_refused problem (log block_line lemma_line (Finish 6)) ≡ Some (5, NoClause)
finish_names_a_block = refl

block_without_activation_first : first_refused problem (log (Block 6 (yes 3 ∷ non 5 ∷ [])) lemma_line (Finish 7)) ≡ Some (2, BadBlock)
block_without_activation_first = refl

hint_is_not_unit : first_refused problem (log block_line (Lemma 7 (non 5 ∷ non 4 ∷ []) (1 ∷ 6 ∷ [])) (Finish 7)) ≡ Some (4, NotUnit)
hint_is_not_unit = refl

last_hint_is_not_false : first_refused problem (log block_line (Lemma 7 (non 5 ∷ non 4 ∷ []) (4 ∷ 1 ∷ [])) (Finish 7)) ≡ Some (4, NotFalse)
last_hint_is_not_false = refl

lemma_does_not_end_the_step : first_refused problem (log block_line (Lemma 7 (non 5 ∷ non 4 ∷ non 3 ∷ []) (4 ∷ 1 ∷ [])) (Finish 7)) ≡ Some (5, BadEnd)
lemma_does_not_end_the_step = refl

log_ends_inside_a_step : first_refused problem (Solve ∷ block_line ∷ Solve ∷ lemma_line ∷ Finish 7 ∷ []) ≡ Some (6, Order)
log_ends_inside_a_step = refl

retire_text : line_in (codes "r 8") ≡ Some (Retire 8)
retire_text = refl

leading_zero : line_in (codes "r 08") ≡ None
leading_zero = refl

lemma_without_hints : line_in (codes "7 -5 0 0") ≡ None
lemma_without_hints = refl

lemma_text : line_in (codes "7 -5 -4 0 4 1 6 0") ≡ Some lemma_line
lemma_text = refl

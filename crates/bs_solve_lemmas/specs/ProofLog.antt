-- The proof log of a search: what its log is about, and the lines so far.
use Rattle.std.specs.Prelude.{◌≡◌, ℕ, ◌+◌, List, [], ◌∷◌, ◌++◌, map}
use Rattle.std.specs.List.{AllByRecursion, filter}
use Rattle.bs_clause.specs.Literal.{Clause}
use Rattle.bs_log.specs.declared.line.Line.{Line}
use Rattle.bs_log.specs.declared.line.Line.TheVariants.{Lemma, Delete}
use Rattle.bs_log.specs.History.{Problem, History, live, last_id}
use Rattle.bs_log.specs.Refusal.{NoneRefused, is_lemma}
use Rattle.bs_log.specs.Lean.{LemmasAreLean}
use Rattle.bs_log.specs.LineForms.{HasText}

-- the lines stand newest first
pub record ProofLog : Type 0 where
  pub problem : Problem
  pub history : History

-- the clauses that stand, in the order of their ids
abbrev pub standing : ProofLog → List Clause
standing b = map (λ e. e.literals) (live b.problem b.history)

-- the ids of the lemmas that stand
abbrev pub lemma_ids : ProofLog → List ℕ
lemma_ids b = map (λ e. e.id) (filter is_lemma (live b.problem b.history))

-- the id that the next clause gets: no id is given twice
abbrev pub next_id : ProofLog → ℕ
next_id b = last_id b.problem b.history + 1

-- no line is refused, the lemmas are lean, and each line has a text
pub record IsKept (b : ProofLog) : Type 0 where
  pub right : NoneRefused b.problem b.history
  pub lean : LemmasAreLean b.problem b.history
  pub texts : AllByRecursion HasText b.history

-- the last id that was given, and the ids of the lemmas
pub record IsRecorded (last : ℕ) (ids : List ℕ) (b : ProofLog) : Type 0 where
  pub kept : IsKept b
  pub last_is : last ≡ last_id b.problem b.history
  pub lemmas : ids ≡ lemma_ids b

-- one more line
abbrev pub with_line : ProofLog → Line → ProofLog
with_line b line = record { problem = b.problem; history = line ∷ b.history }

-- one more step
abbrev pub with_member : ProofLog → Clause → ProofLog
with_member b member = record {
  problem = record { vars = b.problem.vars; clauses = b.problem.clauses; steps = b.problem.steps ++ member ∷ [] };
  history = b.history;
}

-- one more lemma
abbrev pub with_lemma : ProofLog → ℕ → Clause → List ℕ → ProofLog
with_lemma b id lits hints = record { problem = b.problem; history = Lemma id lits hints ∷ b.history }

-- one line that takes clauses away, if there are any
abbrev pub without : ProofLog → List ℕ → ProofLog
without b [] = b
without b (id ∷ ids) = with_line b (Delete (id ∷ ids))

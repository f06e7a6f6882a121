-- Which lines a log may have, and which it is refused for.
use Rattle.std.specs.Prelude.{◌≡◌, ℕ, ◌+◌, ◌-◌, ◌==◌, nat_le, nat_lt, Bool, true, false, not, ◌&&◌, ◌||◌, cond, List, [], ◌∷◌, ◌++◌, length, reverse}
use Rattle.std.specs.Prelude.{Option, Some, None, is_some, unwrap_or, slice_get, option_map, IsTrue}
use Rattle.std.specs.List.{list_any, list_all, find, filter_map}
use Rattle.bs_clause.specs.Literal.{Clause, negation, same_literal, has_literal}
use Rattle.bs_log.specs.declared.line.Line.{Line}
use Rattle.bs_log.specs.declared.line.Line.TheVariants.{Solve, Lemma, Block, Finish, Retire, Delete}
use Rattle.bs_log.specs.declared.why.Why.{Why}
use Rattle.bs_log.specs.declared.why.Why.TheVariants.{Order, NoClause, Duplicate, NotUnit, NotFalse, BadBlock, BadEnd}
use Rattle.bs_log.specs.declared.origin.Origin.TheVariants.{Learnt, Blocked}
use Rattle.bs_log.specs.declared.phase.Phase.{Phase}
use Rattle.bs_log.specs.declared.phase.Phase.TheVariants.{BetweenSteps, InSolve, AfterBlock, AfterRetire}
use Rattle.bs_log.specs.History.{Problem, History, Entry, State, state_of, activation_of}
use Rattle.bs_log.specs.Propagation.{hints_are_unit, last_is_false}

-- ---- the order of lines

abbrev pub in_solve : Phase → Bool
in_solve InSolve = true
in_solve _ = false

abbrev pub is_after_block : Phase → Bool
is_after_block AfterBlock = true
is_after_block _ = false

abbrev pub is_after_retire : Phase → Bool
is_after_retire AfterRetire = true
is_after_retire _ = false

-- no step is under way
abbrev pub is_between_steps : Phase → Bool
is_between_steps BetweenSteps = true
is_between_steps AfterRetire = true
is_between_steps _ = false

abbrev pub is_ascending : List ℕ → Bool
is_ascending [] = true
is_ascending (x ∷ []) = true
is_ascending (x ∷ y ∷ xs) = nat_lt x y && is_ascending (y ∷ xs)

-- each step is a solve with its lemmas, any number of times a block and a solve with its lemmas, then a block, a
-- finish line or nothing, and then the retire line, which one delete line may follow; ids are given one after another
abbrev pub in_order : Problem → State → Line → Bool
in_order p s Solve = is_after_block s.phase || (is_between_steps s.phase && nat_le s.step (length p.steps))
in_order p s (Lemma id lits hints) = in_solve s.phase && (id == s.last_id + 1)
in_order p s (Block id lits) = in_solve s.phase && (id == s.last_id + 1)
in_order p s (Finish id) = in_solve s.phase
in_order p s (Retire id) = not (is_between_steps s.phase) && (id == s.last_id + 1)
in_order p s (Delete ids) = is_after_retire s.phase && is_ascending ids

-- the log is as many steps as there are
abbrev pub is_complete : Problem → State → Bool
is_complete p s = is_between_steps s.phase && (s.step == length p.steps + 1)

-- ---- the clauses that a line names

abbrev pub entry_of : List Entry → ℕ → Option Entry
entry_of entries id = find (λ e. e.id == id) entries

abbrev pub is_lemma : Entry → Bool
is_lemma e = elim e.origin [ Learnt ↦ true | _ ↦ false ]

abbrev pub is_lemma_or_block : Entry → Bool
is_lemma_or_block e = elim e.origin [ Learnt ↦ true | Blocked ↦ true | _ ↦ false ]

-- there is an entry, and it passes the test
abbrev pub passes : (Entry → Bool) → Option Entry → Bool
passes test None = false
passes test (Some e) = test e

-- each hint names a live clause, a finish line a live lemma, and a delete line live lemmas and blocks
abbrev pub names_stand : State → Line → Bool
names_stand s (Lemma id lits hints) = list_all (λ h. is_some (entry_of s.live h)) hints
names_stand s (Finish id) = passes is_lemma (entry_of s.live id)
names_stand s (Delete ids) = list_all (λ d. passes is_lemma_or_block (entry_of s.live d)) ids
names_stand s _ = true

-- the clauses of these ids
abbrev pub clauses_of : List Entry → List ℕ → List Clause
clauses_of entries ids = filter_map (λ id. option_map (λ e. e.literals) (entry_of entries id)) ids

-- ---- what a line says

abbrev pub has_distinct_variables : Clause → Bool
has_distinct_variables [] = true
has_distinct_variables (l ∷ ls) = not (list_any (λ m. m.variable == l.variable) ls) && has_distinct_variables ls

abbrev pub names_no_variable_twice : Line → Bool
names_no_variable_twice (Lemma id lits hints) = has_distinct_variables lits
names_no_variable_twice (Block id lits) = has_distinct_variables lits
names_no_variable_twice _ = true

-- the negation of the activation literal, and then literals of the clauses' own variables
abbrev pub is_block_of : Problem → ℕ → Clause → Bool
is_block_of p step [] = false
is_block_of p step (first ∷ rest) =
    same_literal first (negation (activation_of p step)) && list_all (λ l. nat_le l.variable p.vars) rest

abbrev pub block_fits : Problem → State → Line → Bool
block_fits p s (Block id lits) = is_block_of p s.step lits
block_fits p s _ = true

abbrev pub lemma_is_unit : State → Line → Bool
lemma_is_unit s (Lemma id lits hints) = hints_are_unit lits (clauses_of s.live hints)
lemma_is_unit s _ = true

abbrev pub lemma_is_false : State → Line → Bool
lemma_is_false s (Lemma id lits hints) = last_is_false lits (clauses_of s.live hints)
lemma_is_false s _ = true

-- the assumptions of a step, from 1
abbrev pub assumptions_of : Problem → ℕ → Clause
assumptions_of p step = unwrap_or (slice_get p.steps (step - 1)) []

-- the clause holds only negations of the assumptions
abbrev pub denies : Clause → Clause → Bool
denies assumptions c = list_all (λ l. has_literal assumptions (negation l)) c

abbrev pub finish_fits : Problem → State → Line → Bool
finish_fits p s (Finish id) = passes (λ e. denies (assumptions_of p s.step) e.literals) (entry_of s.live id)
finish_fits p s _ = true

-- ---- refusals

-- the tests of a line in their order, each with its reason
abbrev pub tests_of : Problem → State → Line → List (Bool × Why)
tests_of p s line =
    (in_order p s line, Order) ∷
    (names_stand s line, NoClause) ∷
    (names_no_variable_twice line, Duplicate) ∷
    (block_fits p s line, BadBlock) ∷
    (lemma_is_unit s line, NotUnit) ∷
    (lemma_is_false s line, NotFalse) ∷
    (finish_fits p s line, BadEnd) ∷ []

-- the reason of the first test that fails
abbrev pub first_failing : List (Bool × Why) → Option Why
first_failing [] = None
first_failing (t ∷ ts) = cond t.0 (first_failing ts) (Some t.1)

abbrev pub refusal : Problem → State → Line → Option Why
refusal p s line = first_failing (tests_of p s line)

-- no line of the history is refused
abbrev pub NoneRefused : Problem → History → Type 0
NoneRefused p [] = Unit {0}
NoneRefused p (line ∷ earlier) = (refusal p (state_of p earlier) line ≡ None) × NoneRefused p earlier

abbrev pub history_of : List Line → History
history_of log = reverse log

pub record IsAccepted (p : Problem) (log : List Line) : Type 0 where
  pub lines : NoneRefused p (history_of log)
  pub complete : IsTrue (is_complete p (state_of p (history_of log)))

-- the rest of the log, after lines of which none is refused, begins with a refused line, or ends inside a step
abbrev pub IsRefusedNext : Problem → History → List Line → Why → Type 0
IsRefusedNext p earlier [] why = (is_complete p (state_of p earlier) ≡ false) × (why ≡ Order)
IsRefusedNext p earlier (line ∷ rest) why = refusal p (state_of p earlier) line ≡ Some why

-- line number n, from 1, is the first that is refused, and this is the first reason
pub record IsFirstRefused (p : Problem) (log : List Line) (n : ℕ) (why : Why) : Type 0 where
  pub before : List Line
  pub rest : List Line
  pub parts : log ≡ before ++ rest
  pub number : n ≡ length before + 1
  pub right : NoneRefused p (history_of before)
  pub refused : IsRefusedNext p (history_of before) rest why

-- How the clauses of a log stand in an arena and in watch lists.
use Rattle.std.specs.Prelude.{◌≡◌, ◌⊎◌, ℕ, ◌<◌, ◌≤◌, Bool, true, false, List, [], ◌∷◌, length, Some, is_some, option_map, unwrap_or, All, Contains, IsPermutation, slice_get}
use Rattle.bs_clause.specs.Literal.{Clause}
use Rattle.bs_log.specs.declared.origin.Origin.{Origin}
use Rattle.bs_log.specs.declared.origin.Origin.TheVariants.{Axiom, Learnt, Blocked, Retired}
use Rattle.bs_log.specs.History.{Entry, live}
use Rattle.bs_log.specs.Refusal.{entry_of}
use Rattle.bs_arena.specs.Arena.{Held, held_at, literals_at}
use Rattle.bs_watch.specs.declared.lists.Watcher.{Watcher}
use Rattle.bs_watch.specs.Lists.{IsAttached}
use Rattle.bs_watch.specs.Watch.{WatchState, Serves}
use Rattle.bs_solve_lemmas.specs.declared.row.LoggedClause.{LoggedClause}
use Rattle.bs_solve_lemmas.specs.Keeping.{AreHeld}
use Rattle.bs_solve_lemmas.specs.Rows.{AreRowsAmong}
use Rattle.bs_solve_lemmas.specs.ProofLog.{ProofLog}
use Rattle.bs_solve.specs.declared.database.Database.{Database}

-- the clauses that stand, with their ids
abbrev pub entries : ProofLog → List Entry
entries b = live b.problem b.history

abbrev pub is_live : List Held → ℕ → Bool
is_live clauses r = is_some (held_at clauses r)

-- the id of the clause of a reference
abbrev pub id_in : List Held → ℕ → ℕ
id_in clauses r = unwrap_or (option_map (λ h. h.id) (held_at clauses r)) 0

-- the clause of the id is this one, with its literals in some order
abbrev pub IsSpelled : List Entry → ℕ → Clause → Type 0
IsSpelled es id c = (e : Entry) × (entry_of es id ≡ Some e) × IsPermutation e.literals c

-- a live clause is the one of the entry
pub record IsClauseOf (clauses : List Held) (e : Entry) (r : ℕ) : Type 0 where
  pub live : is_live clauses r ≡ true
  pub id_is : id_in clauses r ≡ e.id
  pub same : IsPermutation e.literals (literals_at clauses r)

-- The live clauses are those that stand, each once and with its literals in some order. Those of two literals or more are
-- attached, and the others are listed. The lemmas and the blocks among them have rows.
pub record HoldsEntries (lists : List (List Watcher)) (clauses : List Held) (database : Database) (es : List Entry) : Type 0 where
  pub spelled : (r : ℕ) → is_live clauses r ≡ true → IsSpelled es (id_in clauses r) (literals_at clauses r)
  pub held : (e : Entry) → Contains es e → (r : ℕ) × IsClauseOf clauses e r
  pub once : (q r : ℕ) → is_live clauses q ≡ true → is_live clauses r ≡ true → id_in clauses q ≡ id_in clauses r → q ≡ r
  pub attached : (r : ℕ) → is_live clauses r ≡ true → 2 ≤ length (literals_at clauses r) → IsAttached lists r
  pub short : (r : ℕ) → is_live clauses r ≡ true → length (literals_at clauses r) < 2 → Contains database.shorts.items r
  pub listed : All (λ r. is_live clauses r ≡ true) database.shorts.items
  pub few : All (λ r. length (literals_at clauses r) < 2) database.shorts.items
  pub rows : AreRowsAmong clauses database.rows.items es
  pub rows_live : AreHeld clauses database.rows.items

-- the row of a lemma, and of a block
abbrev pub rows_for : ℕ → ℕ → Origin → List LoggedClause
rows_for id r Axiom = []
rows_for id r Learnt = record { id = id; clause = r; is_lemma = true } ∷ []
rows_for id r Blocked = record { id = id; clause = r; is_lemma = false } ∷ []
rows_for id r Retired = []

-- the clause is attached, or listed where it has fewer than two literals, and the trail is as it was
pub record HasJoined (old new : WatchState) (old_shorts new_shorts : List ℕ) (clauses : List Held) (r : ℕ) : Type 0 where
  pub serves : Serves new clauses
  pub trail : new.trail ≡ old.trail
  pub levels : new.levels ≡ old.levels
  pub head : new.head ≡ old.head
  pub attached : (q : ℕ) → IsAttached old.lists q → IsAttached new.lists q
  pub long : 2 ≤ length (literals_at clauses r) → IsAttached new.lists r
  pub shorts : (q : ℕ) → Contains old_shorts q → Contains new_shorts q
  pub short : length (literals_at clauses r) < 2 → Contains new_shorts r
  pub front : (k q : ℕ) → slice_get old_shorts k ≡ Some q → slice_get new_shorts k ≡ Some q
  pub listed : (q : ℕ) → Contains new_shorts q → Contains old_shorts q ⊎ ((q ≡ r) × (length (literals_at clauses r) < 2))

-- A search between two rounds, over its watch and its arena.
use Rattle.std.specs.Prelude.{◌≡◌, ℕ, List, Some, take, slice_get}
use Rattle.bs_arena.specs.Arena.{Held}
use Rattle.bs_watch.specs.declared.visit.Outcome.{Outcome}
use Rattle.bs_watch.specs.declared.visit.Outcome.TheVariants.{Quiet, Conflict}
use Rattle.bs_watch.specs.declared.watch.Level.{Level}
use Rattle.bs_watch.specs.Places.{literals_of}
use Rattle.bs_watch.specs.Watch.{WatchState, Serves}
use Rattle.bs_solve_lemmas.specs.Reasons.{IsReasoned, IsConflictAt}
use Rattle.bs_solve_lemmas.specs.Places.{LoggedTrail}
use Rattle.bs_solve_lemmas.specs.ProofLog.{ProofLog}
use Rattle.bs_solve_lemmas.specs.Round.{InSearch}
use Rattle.bs_solve.specs.Database.{HoldsEntries, entries}
use Rattle.bs_solve.specs.Ground.{IsGround}
use Rattle.bs_solve.specs.declared.database.Database.{Database}
use Rattle.bs_solve.specs.Seen.{seen, is_quiet}
use Rattle.bs_solve.specs.Begun.{AreBegun, AreSatisfied}

-- the trail as the log sees it
abbrev pub seen_trail : WatchState → LoggedTrail
seen_trail w = record { vars = w.trail.vars; places = seen w.trail.places }

-- the clauses that stand are in the arena and are watched, and the trail is made of levels, of reasons and of short clauses' literals
pub record IsRunning (base : ℕ) (proof : ProofLog) (w : WatchState) (clauses : List Held) (database : Database) : Type 0 where
  pub holds_entries : HoldsEntries w.lists clauses database (entries proof)
  pub serves : Serves w clauses
  pub begun : AreBegun base w.levels w.trail.places
  pub satisfied : AreSatisfied database.shorts.items clauses w.levels w.trail.places
  pub reasoned : IsReasoned clauses w.trail.places
  pub ground : (v : Level) → slice_get w.levels 0 ≡ Some v → IsGround (entries proof) database.shorts.items clauses (take v.start w.trail.places)

-- a conflict is that of a live clause
abbrev pub Clashes : List Held → WatchState → Outcome → Type 0
Clashes clauses w Quiet = Unit {0}
Clashes clauses w (Conflict r) = IsConflictAt clauses (literals_of w.trail.places) r

-- a search between two rounds, as the log and as the watch see it
pub record InRound (old : ProofLog) (vars base conflicts limit : ℕ) (proof : ProofLog) (w : WatchState) (clauses : List Held) (database : Database)
    (outcome : Outcome) : Type 0 where
  pub vars_is : w.trail.vars ≡ vars
  pub running : IsRunning base proof w clauses database
  pub search : InSearch old vars base conflicts limit proof (seen w.trail.places) (is_quiet outcome)
  pub clashes : Clashes clauses w outcome

-- What an arena holds.
use Rattle.std.specs.Prelude.{◌≡◌, ◌≢◌, IsSome, ℕ, ◌+◌, ◌-◌, ◌==◌, ◌<◌, ◌≤◌, ◌^◌, min, List, [], length, map, Option, sum_by, swap, option_map, All}
use Rattle.std.specs.Prelude.{AllPairs, Contains}
use Rattle.std.specs.List.{find, filter}
use Rattle.std.specs.Option.{unwrap_or}
use Rattle.bs_clause.specs.Literal.{Literal, IsVariable}
pub use Rattle.bs_clause.specs.Literal.{AreCodes, literal_of}
use Rattle.bs_arena.specs.declared.reference.TheConstants.{WORD_LIMIT}
use Rattle.bs_arena.specs.Words.{Stored, PlacedClause, spelling_of, clauses_in}

-- a live clause with its reference
pub record Held : Type 0 where
  pub ref : ℕ
  pub id : ℕ
  pub literals : List Literal

-- the live clauses in order, the references of these and of the dead ones since the last compaction, how many words are in
-- use, and how many more there is room for
pub record Content : Type 0 where
  pub clauses : List Held
  pub places : List ℕ
  pub words : ℕ
  pub spare : ℕ

-- the live clause of a reference
abbrev pub held_at : List Held → ℕ → Option Held
held_at clauses r = find (λ h. h.ref == r) clauses

-- its literals
abbrev pub literals_at : List Held → ℕ → List Literal
literals_at clauses r = unwrap_or (option_map (λ h. h.literals) (held_at clauses r)) []

-- the words that the clauses take: four, and one for each literal
abbrev pub live_words : List Held → ℕ
live_words clauses = sum_by (λ h. length h.literals + 4) clauses

-- how many more words there is room for
abbrev pub spare_of : ℕ → ℕ → ℕ
spare_of capacity count = min capacity WORD_LIMIT - count

-- with two of its literals in each other's place
abbrev pub swapped : Held → ℕ → ℕ → Held
swapped h i j = record { ref = h.ref; id = h.id; literals = swap h.literals i j }

-- a clause without its reference
abbrev pub meaning : Held → ℕ × List Literal
meaning h = (h.id, h.literals)

-- each clause that was live is still as it was
pub record Keeps (old new : List Held) : Type 0 where
  pub kept : (r : ℕ) → IsSome (held_at old r) → held_at new r ≡ held_at old r

-- each reference but this one names what it named before
pub record KeepsOthers (old new : List Held) (r : ℕ) : Type 0 where
  pub kept : (q : ℕ) → q ≢ r → held_at new q ≡ held_at old q

-- a clause that can be added: its id has 64 bits, its literals have codes, and a word counts them
pub record IsHeld (h : Held) : Type 0 where
  pub id : h.id < 2 ^ 64
  pub literals : All (λ l. IsVariable l.variable) h.literals
  pub short : length h.literals < 2 ^ 32

-- what holds of every arena
pub record IsContent (c : Content) : Type 0 where
  pub placed : All (λ h. Contains c.places h.ref) c.clauses
  pub ascends : AllPairs (λ g h. g.ref < h.ref) c.clauses
  pub each : All IsHeld c.clauses
  pub fits : live_words c.clauses ≤ c.words

-- ---- the clauses that words spell

abbrev pub held : PlacedClause → Held
held p = record { ref = p.place; id = p.clause.id; literals = map literal_of p.clause.codes }

abbrev pub live_in : List PlacedClause → List Held
live_in ps = map held (filter (λ p. p.clause.live) ps)

abbrev pub clauses_of : List ℕ → List Held
clauses_of words = live_in (clauses_in 0 0 words)

-- where clauses begin, dead ones among them
abbrev pub places_of : List ℕ → List ℕ
places_of words = map (λ p. p.place) (clauses_in 0 0 words)

-- the clauses as they are stored, and the live ones among them
abbrev pub stored_in : List ℕ → List Stored
stored_in words = map (λ p. p.clause) (clauses_in 0 0 words)

abbrev pub kept_in : List ℕ → List Stored
kept_in words = filter (λ c. c.live) (stored_in words)

pub record IsStored (c : Stored) : Type 0 where
  pub id : c.id < 2 ^ 64
  pub codes : AreCodes c.codes
  pub short : length c.codes < 2 ^ 32

-- the words spell clauses
pub record IsWellFormed (words : List ℕ) : Type 0 where
  pub stored : List Stored
  pub each : All IsStored stored
  pub spelled : words ≡ spelling_of stored

-- the words of an arena, with the words and the number of its live clauses
pub record IsArena (words : List ℕ) (live count : ℕ) : Type 0 where
  pub form : IsWellFormed words
  pub few : length words ≤ WORD_LIMIT
  pub live_is : live ≡ live_words (clauses_of words)
  pub count_is : count ≡ length (clauses_of words)

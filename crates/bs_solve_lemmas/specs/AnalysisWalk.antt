-- Conflict analysis: a false clause is resolved with reasons, back along the trail.
use Rattle.std.specs.Prelude.{◌≡◌, ◌≢◌, ◌↔◌, ℕ, true, List, [], ◌∷◌, map, reverse, take, is_some, All, Any, Contains, IsTrue}
use Rattle.bs_clause.specs.Literal.{Literal, Clause, negation}
use Rattle.bs_log.specs.Refusal.{has_distinct_variables}
use Rattle.bs_log.specs.Propagation.{hints_are_unit, last_is_false}
use Rattle.bs_log.specs.Lean.{IsResolventOf}
use Rattle.bs_arena.specs.Arena.{Held, held_at, literals_at}
use Rattle.bs_watch.specs.Places.{Place, literals_of}
use Rattle.bs_watch.specs.Trail.{IsFalseOn, IsOpenOn}
use Rattle.bs_solve_lemmas.specs.Reasons.{Spells}
use Rattle.bs_solve_lemmas.specs.Chain.{Link, hints_of}
use Rattle.bs_solve_lemmas.specs.Derives.{Derives}

-- the clauses of these references, the last one first
abbrev pub clauses_at : List Held → List ℕ → List Clause
clauses_at clauses hints = map (literals_at clauses) (reverse hints)

-- the lemma is the resolvent of these clauses, and right by them as hints
pub record IsRightBy (lemma : Clause) (hints : List Clause) : Type 0 where
  pub unit : IsTrue (hints_are_unit lemma hints)
  pub last : IsTrue (last_is_false lemma hints)
  pub resolvent : IsResolventOf lemma hints

-- The lemma is right by the clauses of these references, however their literals are ordered. The last hint comes
-- first here.
pub record IsLearnt (clauses : List Held) (lemma : Clause) (hints : List ℕ) : Type 0 where
  pub live : All (λ r. is_some (held_at clauses r) ≡ true) hints
  pub distinct : has_distinct_variables lemma ≡ true
  pub right : (said : ℕ → Clause) → Spells clauses said → IsRightBy lemma (map said (reverse hints))

-- each link's literal is denied in the clause of a later one, or in the last clause
abbrev pub AreUsed : List Link → Clause → Type 0
AreUsed [] last = Unit {0}
AreUsed (k ∷ ks) last = Any (λ c. Contains c (negation k.literal)) (hints_of ks last) × AreUsed ks last

-- the literal stands in one of the clauses, and no link makes its variable true
pub record IsLeft (links : List Link) (last : Clause) (l : Literal) : Type 0 where
  pub stands : Any (λ c. Contains c l) (hints_of links last)
  pub apart : All (λ k. k.literal.variable ≢ l.variable) links

-- the places down to one of the trail have been looked at: the literals that are left, with the clauses that were
-- resolved, the false one first
pub record IsWalk (clauses : List Held) (trail : List Place) (down : ℕ) (left : Clause) (hints : List ℕ) : Type 0 where
  pub links : List Link
  pub last : Clause
  pub named : clauses_at clauses hints ≡ hints_of links last
  pub live : All (λ r. is_some (held_at clauses r) ≡ true) hints
  pub derives : Derives left links last
  pub distinct : has_distinct_variables left ≡ true
  pub false_now : All (IsFalseOn (literals_of trail)) left
  pub ahead : All (λ k. IsOpenOn (literals_of (take down trail)) k.literal) links
  pub links_apart : has_distinct_variables (map (λ k. k.literal) links) ≡ true
  pub apart : All (λ k. All (λ l. k.literal.variable ≢ l.variable) left) links
  pub is_left : (l : Literal) → Contains left l ↔ IsLeft links last l
  pub used : AreUsed links last

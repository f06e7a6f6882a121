-- Conflict analysis: literals that are false are traded for the reasons of their falsehood, back along the trail.
use Rattle.std.specs.Prelude.{◌≡◌, ◌⊎◌, List, [], ◌∷◌, ◌++◌, IsTrue, All, Contains}
use Rattle.std.specs.Bool.{IsFalse}
use Rattle.bs_clause.specs.Literal.{Literal, Clause, negation, has_literal}
use Rattle.bs_log.specs.Refusal.{has_distinct_variables}
use Rattle.bs_log.specs.Propagation.{start_of}
use Rattle.bs_solve_lemmas.specs.Chain.{Link, IsDenied, IsChain}

-- no link's variable is assigned before its turn
abbrev pub AreFresh : Clause → List Literal → List Link → Type 0
AreFresh lemma trues [] = Unit {0}
AreFresh lemma trues (k ∷ ks) =
    IsFalse (has_literal (trues ++ start_of lemma) k.literal) × IsFalse (has_literal (trues ++ start_of lemma) (negation k.literal)) ×
    AreFresh lemma (k.literal ∷ trues) ks

-- wherever these literals are denied, the links lead to the false clause
abbrev pub Derives : List Literal → List Link → Clause → Type 0
Derives falses links last =
    (lemma : Clause) (trues : List Literal) → All (IsDenied lemma trues) falses → AreFresh lemma trues links → IsChain lemma trues links last

-- the false clause itself
abbrev pub DerivesAtConflict : Type 0
DerivesAtConflict = (last : Clause) → Derives last [] last

-- one literal is traded for its reason's others
abbrev pub DerivesBackwards : Type 0
DerivesBackwards =
    (falses next : List Literal) (links : List Link) (last : Clause) (k : Link) → Derives falses links last →
    IsTrue (has_literal k.clause k.literal) → IsTrue (has_distinct_variables k.clause) →
    All (λ m. (m ≡ negation k.literal) ⊎ Contains next m) falses → All (λ m. (m ≡ k.literal) ⊎ Contains next m) k.clause →
    Derives next (k ∷ links) last

-- what is left is the lemma
abbrev pub DerivesLemma : Type 0
DerivesLemma = (lemma : Clause) (links : List Link) (last : Clause) → Derives lemma links last → AreFresh lemma [] links → IsChain lemma [] links last

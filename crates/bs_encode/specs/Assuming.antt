-- What a step assumes, and what blocks a state (docs/FORMATS.md, "Clauses of the transition relation").
use Rattle.std.specs.Prelude.{◌≡◌, ℕ, ◌+◌, Bool, true, not, List, [], ◌∷◌, ◌++◌, map, length, slice_get, slice_index_or, All, Option, Some, None}
use Rattle.std.specs.Option.{option_to_list}
use Rattle.bs_clause.specs.Literal.{Literal, Clause, negation}
use Rattle.bs_log.specs.History.{Problem}
use Rattle.bs_scan.specs.declared.seen.Seen.{Seen}
use Rattle.bs_scan.specs.Seen.{kept}
use Rattle.bs_scan.specs.Present.{Present}
use Rattle.bs_encode.specs.Tables.{lit}
use Rattle.bs_encode.specs.Encoded.{Encoded}

-- each literal's variable with the sign of its bit
abbrev pub signed : List Literal → List Bool → List Literal
signed [] bits = []
signed (l ∷ ls) [] = []
signed (l ∷ ls) (b ∷ bits) = lit l.variable b ∷ signed ls bits

-- the same at the places where the bit is known
abbrev pub signed_seen : List Literal → Seen → List Literal
signed_seen ls seen = signed (kept seen.free ls) (kept seen.free seen.bits)

-- a state, as far as it is known, whose register holds a signature, and perhaps an older one
abbrev pub asking : Seen → List Bool → Option (List Bool) → Present
asking present stored older = record { state = present; stored = stored ∷ option_to_list older }

-- a signature that may be there has so many bits
abbrev pub AreWide : ℕ → Option (List Bool) → Type 0
AreWide items signature = All (λ t. length t ≡ items) (option_to_list signature)

-- what is assumed of the cycle before, under a link: where an older signature is stored, that the other time frame shows it and leads to
-- the state, and otherwise that the state is the one at reset
abbrev pub before_assumed : Encoded → Literal → Option (List Bool) → Clause
before_assumed e l None = negation l ∷ e.at_reset
before_assumed e l (Some older) = l ∷ signed e.older_signatures older

-- the same where there is a second time frame
abbrev pub older_assumed : Encoded → Option Literal → Option (List Bool) → Clause
older_assumed e None older = []
older_assumed e (Some l) older = before_assumed e l older

-- what a step assumes: its activation literal, that the next state shows the present one, that the signature is the last one stored, and what
-- the older one says of the cycle before
abbrev pub assumptions_for : Encoded → Literal → Present → Clause
assumptions_for e activation q =
    activation ∷ (signed_seen e.next q.state ++ (signed e.signatures (slice_index_or q.stored 0 []) ++ older_assumed e e.link (slice_get q.stored 1)))

-- the state is another one
abbrev pub block_for : Encoded → List Bool → Clause
block_for e state = signed e.states (map not state)

-- the assumptions of the steps from number n on, whose activation literal is the variable of that number above the others
abbrev pub steps_from : Encoded → ℕ → List Present → List Clause
steps_from e n [] = []
steps_from e n (q ∷ qs) = assumptions_for e (lit (e.variables + n) true) q ∷ steps_from e (n + 1) qs

-- the problem of a listing's log, with a step for each present
abbrev pub problem_of : Encoded → List Present → Problem
problem_of e presents =
    record {
      vars = e.variables;
      clauses = e.clauses;
      steps = steps_from e 1 presents;
    }

-- The unrolled clauses: a time frame of the transition clauses for each cycle, the units of the reset state, and the links between
-- time frames (docs/FORMATS.md, "Unrolled clauses").
use Rattle.std.specs.Prelude.{ℕ, zero, suc, ◌+◌, ◌-◌, ◌*◌, Bool, true, List, [], ◌∷◌, ◌++◌, map}
use Rattle.std.specs.List.{range_with_len, flat_map}
use Rattle.bs_clause.specs.Literal.{Literal, Clause}
use Rattle.bs_log.specs.History.{Problem}
use Rattle.bs_scan.specs.declared.seen.Seen.{Seen}
use Rattle.bs_encode.specs.Tables.{lit}
use Rattle.bs_encode.specs.Encoded.{Encoded}
use Rattle.bs_encode.specs.Assuming.{signed, signed_seen}
use Rattle.bs_encode.specs.Frame.{raised_all, links}

-- how much higher the variables of time frame number c are, from 0
abbrev pub base_of : Encoded → ℕ → ℕ
base_of e c = c * e.variables

-- the clauses of a time frame
abbrev pub frame_of : Encoded → ℕ → List Clause
frame_of e c = map (raised_all (base_of e c)) e.clauses

-- the literals of a time frame
abbrev pub states_at : Encoded → ℕ → List Literal
states_at e c = raised_all (base_of e c) e.states

abbrev pub inputs_at : Encoded → ℕ → List Literal
inputs_at e c = raised_all (base_of e c) e.inputs

abbrev pub next_at : Encoded → ℕ → List Literal
next_at e c = raised_all (base_of e c) e.next

-- the next state of a time frame is the state of the time frame behind it
abbrev pub links_of : Encoded → ℕ → List Clause
links_of e c = links (next_at e c) (states_at e (c + 1))

-- the units of the state at reset, where there is a time frame
abbrev pub reset_units : Encoded → List Bool → ℕ → List Clause
reset_units e reset zero = []
reset_units e reset (suc k) = map (λ l. l ∷ []) (signed e.states reset)

-- the clauses of k cycles
abbrev pub unrolled : Encoded → List Bool → ℕ → List Clause
unrolled e reset k =
    flat_map (frame_of e) (range_with_len 0 k)
    ++ (reset_units e reset k
    ++ flat_map (links_of e) (range_with_len 0 (k - 1)))

-- what step number j, from 1, assumes: its activation literal, and that time frame j - 1 leads to a state that shows p
abbrev pub length_assumes : Encoded → ℕ → Seen → ℕ → Clause
length_assumes e k p j = lit (k * e.variables + j) true ∷ signed_seen (next_at e (j - 1)) p

-- what a log with a step for each length from 1 to `count` is about
abbrev pub reach_problem : Encoded → List Bool → ℕ → Seen → ℕ → Problem
reach_problem e reset k p count =
    record {
      vars = k * e.variables;
      clauses = unrolled e reset k;
      steps = map (length_assumes e k p) (range_with_len 1 count);
    }

-- Unrolling, one more at a time, and the room for it.
use Rattle.std.proofs.Common.{◌≡◌, ℕ, suc, ◌+◌, ◌*◌, ◌<◌, ◌≤◌, List, [], ◌∷◌, ◌++◌, ap, sym, ◌∙◌, arith}
use Rattle.std.specs.List.{All, range_with_len, flat_map}
use Rattle.std.proofs.lemmas.List.{append_assoc, append-nil}
use Rattle.std.proofs.lemmas.List.Elements.{All-weaker}
use Rattle.std.proofs.lemmas.Nat.{mul-le}
use Rattle.std.proofs.Math.Nat.{suc-mul}
use Rattle.bs_clause.specs.declared.literal.TheConstants.{VARIABLE_LIMIT}
use Rattle.bs_clause.specs.Literal.{Literal, Clause}
use Rattle.bs_clause.specs.Range.{IsWithin, HasVariables}
use Rattle.bs_encode.specs.Encoded.{Encoded}
use Rattle.std.proofs.lemmas.List.Concat.{flat_map-append}
use Rattle.bs_bits.proofs.RangeLemmas.{range_push}
use Rattle.bs_reach_unrolled.specs.declared.limits.TheConstants.{MAX_FRAME_VARIABLES}
use Rattle.bs_encode.specs.Frame.{HasRoom, HasRooms}
use Rattle.bs_reach_unrolled.specs.Room.{IsUnrollable}

-- one place more
flat_more : {X : Type 0} (f : ℕ → List X) (k : ℕ) → flat_map f (range_with_len 0 (k + 1)) ≡ flat_map f (range_with_len 0 k) ++ f k
flat_more {X} f k =
    ap (flat_map f) (range_push k)
    ∙ (flat_map-append f (range_with_len 0 k) (k ∷ []) ∙ ap (λ (ys : List X). flat_map f (range_with_len 0 k) ++ ys) (append-nil (f k)))

pub flat_step : {X : Type 0} (f : ℕ → List X) (base into next : List X) (k : ℕ) → next ≡ into ++ f k → into ≡ base ++ flat_map f (range_with_len 0 k) →
    next ≡ base ++ flat_map f (range_with_len 0 (k + 1))
flat_step {X} f base into next k grown so_far =
    grown
    ∙ (ap (λ (l : List X). l ++ f k) so_far
    ∙ (append_assoc base (flat_map f (range_with_len 0 k)) (f k) ∙ ap (λ (l : List X). base ++ l) (sym (flat_more f k))))

-- ---- room

pub base_fits : (n k c : ℕ) → c < k → k * n ≤ MAX_FRAME_VARIABLES → c * n + n ≤ MAX_FRAME_VARIABLES
base_fits n k c lt room =
    let more : suc c * n ≤ k * n = mul-le (suc c) n k n lt (omega arith) in
    omega (arith, more, suc-mul c n, room)

pub room_above : (n by : ℕ) (c : Clause) → HasVariables n c → by + n ≤ MAX_FRAME_VARIABLES → HasRoom by c
room_above n by c h room = All-weaker (IsWithin n) (λ (l : Literal). by + l.variable < VARIABLE_LIMIT) (λ l w. omega (arith, w.1, room)) c h

pub rooms_above : (n by : ℕ) (cs : List Clause) → All (HasVariables n) cs → by + n ≤ MAX_FRAME_VARIABLES → HasRooms by cs
rooms_above n by cs h room = All-weaker (HasVariables n) (HasRoom by) (λ c w. room_above n by c w room) cs h

pub frame_room : (e : Encoded) (k c by : ℕ) → IsUnrollable e k → c < k → by ≡ c * e.variables → HasRooms by e.clauses
frame_room e k c by u lt is = rooms_above e.variables by e.clauses u.clauses (omega (arith, is, base_fits e.variables k c lt u.room))

pub states_room : (e : Encoded) (k c by : ℕ) → IsUnrollable e k → c < k → by ≡ c * e.variables → HasRoom by e.states
states_room e k c by u lt is = room_above e.variables by e.states u.states (omega (arith, is, base_fits e.variables k c lt u.room))

pub next_room : (e : Encoded) (k c by : ℕ) → IsUnrollable e k → c < k → by ≡ c * e.variables → HasRoom by e.next
next_room e k c by u lt is = room_above e.variables by e.next u.next (omega (arith, is, base_fits e.variables k c lt u.room))

pub inputs_room : (e : Encoded) (k c by : ℕ) → IsUnrollable e k → c < k → by ≡ c * e.variables → HasRoom by e.inputs
inputs_room e k c by u lt is = room_above e.variables by e.inputs u.inputs (omega (arith, is, base_fits e.variables k c lt u.room))

pub frames_fit : (n k c : ℕ) → c < k → c * n + n ≤ k * n
frames_fit n k c lt = let more : suc c * n ≤ k * n = mul-le (suc c) n k n lt (omega arith) in omega (arith, more, suc-mul c n)

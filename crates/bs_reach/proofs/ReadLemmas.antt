-- What is read of a time frame has room and values.
use Rattle.std.proofs.Common.{◌≡◌, ℕ, ◌+◌, ◌*◌, ◌<◌, ◌≤◌, List, sym, subst, arith}
use Rattle.std.specs.List.{All}
use Rattle.std.proofs.lemmas.List.Elements.{All-weaker}
use Rattle.bs_clause.specs.Literal.{Literal}
use Rattle.bs_clause.specs.Range.{IsWithin, HasVariables}
use Rattle.bs_reach_unrolled.specs.declared.limits.TheConstants.{MAX_FRAME_VARIABLES}
use Rattle.bs_encode.specs.Frame.{HasRoom}
use Rattle.bs_reach_unrolled.proofs.UnrollLemmas.{base_fits, frames_fit, room_above}

pub read_room : (n k c by : ℕ) (ls from : List Literal) → HasVariables n ls → c < k → k * n ≤ MAX_FRAME_VARIABLES → by ≡ c * n → from ≡ ls → HasRoom by from
read_room n k c by ls from range lt room is same =
    subst (HasRoom by) (sym same) (room_above n by ls range (omega (arith, is, base_fits n k c lt room)))

pub read_wide : (n k c m by : ℕ) (ls from : List Literal) → HasVariables n ls → c < k → k * n ≤ m → by ≡ c * n → from ≡ ls →
    All (λ (l : Literal). by + l.variable ≤ m) from
read_wide n k c m by ls from range lt wide is same =
    subst (All (λ (l : Literal). by + l.variable ≤ m)) (sym same)
    (All-weaker (IsWithin n) (λ (l : Literal). by + l.variable ≤ m) (λ l w. omega (arith, w.1, is, frames_fit n k c lt, wide)) ls range)

-- What is known of bits in two valuations.
use Rattle.std.specs.Prelude.{◌≡◌, ℕ, Bool, true, false, List, length, fold, All, slice_index_or, if◌then◌else◌}
use Rattle.bs_net.specs.declared.net.NetId.{NetId}
use Rattle.bs_net.specs.declared.net.Gate.{Gate}
use Rattle.bs_net.specs.declared.net.Flop.{Flop}
use Rattle.bs_net.specs.declared.net.Const.{Const}
use Rattle.bs_net.specs.declared.net.Mode.{Mode}
use Rattle.bs_net.specs.declared.net.Mode.TheVariants.{Plain, Enable, Clear}
use Rattle.bs_net.specs.declared.gate.Kind.{Kind}
use Rattle.bs_net.specs.declared.gate.Kind.TheVariants.{And, Nand, Or, Nor, Xor, Xnor, Buf, Not}
use Rattle.bs_net.specs.Circuit.{IsSettled, bit_at}
use Rattle.bs_sim.specs.declared.mark.Mark.{Mark}
use Rattle.bs_sim.specs.declared.mark.Mark.TheVariants.{Low, High, Still, Moved}

-- ---- what a mark says

-- what a mark says of a bit in the one valuation and in the other
abbrev pub Holds : Mark → Bool → Bool → Type 0
Holds Low p q = (p ≡ false) × (q ≡ false)
Holds High p q = (p ≡ true) × (q ≡ true)
Holds Still p q = p ≡ q
Holds Moved p q = Unit {0}

-- the mark of a net
abbrev pub mark_at : List Mark → ℕ → Mark
mark_at marks n = slice_index_or marks n Moved

-- what the marks say of all nets holds of two valuations
pub record Hold (marks : List Mark) (v w : List Bool) : Type 0 where
  pub each : (n : ℕ) → Holds (mark_at marks n) (bit_at v n) (bit_at w n)

-- they say nothing
pub record SayNothing (marks : List Mark) : Type 0 where
  pub each : (v w : List Bool) → Hold marks v w

-- new marks hold of two valuations in this relation, of which the old ones hold
pub record StayHeld (Related : List Bool → List Bool → Type 0) (old new : List Mark) : Type 0 where
  pub size : length new ≡ length old
  pub each : (v w : List Bool) → Related v w → Hold old v w → Hold new v w

-- ---- marks of what is made of bits

-- of a bit that is told
abbrev pub fixed : Bool → Mark
fixed bit = if bit then High else Low

-- of the complement
abbrev pub flipped : Mark → Mark
flipped Low = High
flipped High = Low
flipped Still = Still
flipped Moved = Moved

-- of whether both bits are 1
abbrev pub met : Mark → Mark → Mark
met Low other = Low
met High other = other
met Still Low = Low
met Still High = Still
met Still Still = Still
met Still Moved = Moved
met Moved Low = Low
met Moved High = Moved
met Moved Still = Moved
met Moved Moved = Moved

-- of whether one of two bits is 1
abbrev pub joined : Mark → Mark → Mark
joined one other = flipped (met (flipped one) (flipped other))

-- of whether two bits differ
abbrev pub differed : Mark → Mark → Mark
differed Low other = other
differed High other = flipped other
differed Still Low = Still
differed Still High = Still
differed Still Still = Still
differed Still Moved = Moved
differed Moved other = Moved

-- ---- marks of a gate and of what a flip-flop loads

-- of whether all nets show 1, one does, an odd number does
abbrev pub all_mark : List Mark → List NetId → Mark
all_mark marks nets = fold (λ mark n. met mark (mark_at marks n.0)) High nets

abbrev pub any_mark : List Mark → List NetId → Mark
any_mark marks nets = fold (λ mark n. joined mark (mark_at marks n.0)) Low nets

abbrev pub odd_mark : List Mark → List NetId → Mark
odd_mark marks nets = fold (λ mark n. differed mark (mark_at marks n.0)) Low nets

-- of the first net of some
abbrev pub first_mark : List Mark → List NetId → Mark
first_mark marks nets = mark_at marks (slice_index_or nets 0 (record { 0 = 0 })).0

-- of a gate of this kind
abbrev pub gate_mark : List Mark → Kind → List NetId → Mark
gate_mark marks And nets = all_mark marks nets
gate_mark marks Nand nets = flipped (all_mark marks nets)
gate_mark marks Or nets = any_mark marks nets
gate_mark marks Nor nets = flipped (any_mark marks nets)
gate_mark marks Xor nets = odd_mark marks nets
gate_mark marks Xnor nets = flipped (odd_mark marks nets)
gate_mark marks Buf nets = first_mark marks nets
gate_mark marks Not nets = flipped (first_mark marks nets)

-- of what a mode loads, of the marks of d and q
abbrev pub mode_mark : List Mark → Mode → Mark → Mark → Mark
mode_mark marks Plain d q = d
mode_mark marks (Enable e) d q = joined (met (mark_at marks e.0) d) (met (flipped (mark_at marks e.0)) q)
mode_mark marks (Clear r) d q = met (flipped (mark_at marks r.0)) d

abbrev pub flop_mark : List Mark → Flop → Mark
flop_mark marks f = mode_mark marks f.mode (mark_at marks f.d.0) (mark_at marks f.q.0)

-- whether a bit is known to be the same
abbrev pub is_known : Mark → Bool
is_known Low = true
is_known High = true
is_known Still = true
is_known Moved = false

-- ---- two valuations

-- the gates are settled in both
abbrev pub AreSettled : List Gate → List Bool → List Bool → Type 0
AreSettled gates v w = All (IsSettled v) gates × All (IsSettled w) gates

-- the constants are shown in both
abbrev pub AreShown : List Const → List Bool → List Bool → Type 0
AreShown constants v w = All (λ k. bit_at v k.net.0 ≡ k.value) constants × All (λ k. bit_at w k.net.0 ≡ k.value) constants

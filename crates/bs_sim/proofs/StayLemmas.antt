-- Marks stay right while nets are marked one by one.
use Rattle.std.proofs.Common.{◌≡◌, ℕ, ◌<◌, Bool, List, length, get_or, set, subst, sym, ◌∙◌, length-set}
use Rattle.std.specs.Prelude.{IsTrue}
use Rattle.std.specs.List.{All}
use Rattle.bs_net.specs.declared.net.Gate.{Gate}
use Rattle.bs_net.specs.Circuit.{IsSettled, bit_at, shown}
use Rattle.bs_net.specs.Gate.{gate_value, takes}
use Rattle.bs_sim.specs.declared.mark.Mark.{Mark}
use Rattle.bs_sim.specs.Marks.{Holds, Hold, StayHeld, AreSettled, gate_mark}
use Rattle.bs_sim.proofs.MarkLemmas.{holds_of, gate_holds, hold_set}

abbrev Valuations : Type 1
Valuations = List Bool → List Bool → Type 0

-- ---- marks stay right

-- one net more is marked
pub stay_set : (R : Valuations) (old marks : List Mark) (n : ℕ) (m : Mark) → StayHeld R old marks → n < length marks →
    ((v w : List Bool) → R v w → Hold marks v w → Holds m (bit_at v n) (bit_at w n)) → StayHeld R old (set marks n m)
stay_set R old marks n m h lt right =
    record {
      size = length-set marks n m ∙ h.size;
      each = λ v w r k. let now = h.each v w r k in hold_set marks v w now n m lt (right v w r now);
    }

-- what holds of each holds of the one that stands in a place
pub of_each : {X : Type 0} (P : X → Type 0) (xs : List X) (i : ℕ) (x : X) → i < length xs → x ≡ get_or xs i x → All P xs → P x
of_each P xs i x lt e h = subst P (sym e) (h i x lt)

pub stay_gate : (gates : List Gate) (old marks : List Mark) (i : ℕ) (g : Gate) → i < length gates → g ≡ get_or gates i g → StayHeld (AreSettled gates) old marks →
    All (λ (h : Gate). h.out.0 < length old) gates → All (λ (h : Gate). IsTrue (takes h.kind (length h.ins))) gates →
    StayHeld (AreSettled gates) old (set marks g.out.0 (gate_mark marks g.kind g.ins))
stay_gate gates old marks i g lt e h placed taken =
    let below : g.out.0 < length marks =
    subst (λ (n : ℕ). g.out.0 < n) (sym h.size) (of_each (λ (k : Gate). k.out.0 < length old) gates i g lt e placed) in
    let takes_them : IsTrue (takes g.kind (length g.ins)) = of_each (λ (k : Gate). IsTrue (takes k.kind (length k.ins))) gates i g lt e taken in
    stay_set (AreSettled gates) old marks g.out.0 (gate_mark marks g.kind g.ins) h below
    (λ v w r now.
    holds_of (gate_mark marks g.kind g.ins) (bit_at v g.out.0) (bit_at w g.out.0) (gate_value g.kind (shown v g.ins)) (gate_value g.kind (shown w g.ins))
    (of_each (IsSettled v) gates i g lt e r.0) (of_each (IsSettled w) gates i g lt e r.1) (gate_holds marks v w now g.kind g.ins takes_them))

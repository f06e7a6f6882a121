-- What the marks of one cycle say of the valuation that stands there.
use Rattle.std.specs.Prelude.{◌≡◌, ◌≢◌, ℕ, ◌<◌, ◌⊎◌, ◌-◌, Bool, true, false, not, List, ◌++◌, length, All}
use Rattle.std.specs.List.{list_all}
use Rattle.bs_net.specs.Circuit.{Circuit, IsSettled, bit_at, shown, state_nets, next_state}
use Rattle.bs_net.specs.Netlist.{Checked, circuit}
use Rattle.bs_sim.specs.declared.mark.Mark.{Mark}
use Rattle.bs_sim.specs.declared.mark.Mark.TheVariants.{Low, High, Still, Moved}
use Rattle.bs_sim.specs.Marks.{Holds, Hold, mark_at}
use Rattle.bs_net_facts.specs.declared.fact.Fact.{Fact}
use Rattle.bs_net_facts.specs.declared.block.Block.{Block}
use Rattle.bs_net_facts.specs.declared.known_loads.KnownNet.{KnownNet}
use Rattle.bs_net_facts.specs.Facts.{HoldsIn, FitsSome, Follow, valuation_at}
use Rattle.bs_net_facts.specs.Blocks.{begun, lasting, stretch}

-- ---- the board

-- a netlist with marks of its nets
pub record Marking : Type 0 where
  pub net : Checked
  pub marks : List Mark

-- they hold in every valuation that fits
pub record Blank (m : Marking) : Type 0 where
  pub size : length m.marks ≡ (circuit m.net).nets
  pub each : (v : List Bool) → FitsSome (circuit m.net) v → Hold m.marks v v

-- and so do those of the nets that are not listed
pub record IsKept (net : Checked) (marks : List Mark) (trail : List ℕ) : Type 0 where
  pub size : length marks ≡ (circuit net).nets
  pub placed : All (λ m. m < length marks) trail
  pub each : (v : List Bool) → FitsSome (circuit net) v → (n : ℕ) → All (λ m. m ≢ n) trail → Holds (mark_at marks n) (bit_at v n) (bit_at v n)

-- a net takes a mark
pub record Marks (n : ℕ) (mark : Mark) (old new : List Mark) : Type 0 where
  pub size : length new ≡ length old
  pub each : (v : List Bool) → Hold old v v → Holds mark (bit_at v n) (bit_at v n) → Hold new v v

-- nothing is known any more of these nets, and of others what was known
pub record Unmarks (nets : List ℕ) (old new : List Mark) : Type 0 where
  pub size : length new ≡ length old
  pub each : (n : ℕ) → (mark_at new n ≡ Moved) ⊎ ((mark_at new n ≡ mark_at old n) × All (λ m. m ≢ n) nets)

-- new marks hold of each valuation of this kind of which the old ones hold
pub record Stays (Kind : List Bool → Type 0) (old new : Marking) : Type 0 where
  pub net : new.net ≡ old.net
  pub each : (v : List Bool) → Kind v → Hold old.marks v v → Hold new.marks v v

-- ---- kinds of valuations

-- they show some bits
abbrev pub ShowBits : List Fact → List Bool → Type 0
ShowBits bits v = All (λ f. bit_at v f.net.0 ≡ f.bit) bits

-- they show the facts of a cycle
abbrev pub ShowAt : ℕ → List Fact → List Bool → Type 0
ShowAt cycle facts v = All (λ f. f.cycle ≡ cycle → bit_at v f.net.0 ≡ f.bit) facts

-- what is known of the flip-flops before the cycle holds
abbrev pub ShowKept : List KnownNet → List Bool → Type 0
ShowKept kept v = All (λ k. Holds k.mark (bit_at v k.net.0) (bit_at v k.net.0)) kept

-- the gates are settled
abbrev pub AllSettled : Circuit → List Bool → Type 0
AllSettled c v = All (IsSettled v) c.gates

-- they show a block's bits, in the cycle in which these are given
pub record ShowBegun (b : Block) (t : ℕ) (v : List Bool) : Type 0 where
  pub each : b.begun ≡ true → t ≡ b.since → ShowBits b.bits v

-- all of this in one cycle of a block
pub record IsGivenAt (c : Circuit) (b : Block) (kept : List KnownNet) (t : ℕ) (v : List Bool) : Type 0 where
  pub kept_holds : ShowKept kept v
  pub given_holds : ShowAt t b.given v
  pub begun_holds : ShowBegun b t v
  pub gates_hold : AllSettled c v

-- ---- what marks tell

-- whether a mark says that a net has a bit
abbrev pub has_bit : Mark → Bool → Bool
has_bit Low bit = not bit
has_bit High bit = bit
has_bit Still bit = false
has_bit Moved bit = false

-- whether they say so of some nets
abbrev pub tell_bits : List Mark → List Fact → Bool
tell_bits marks bits = list_all (λ f. has_bit (mark_at marks f.net.0) f.bit) bits

-- what flip-flops show in the next cycle
pub record Carry (c : Circuit) (marks : List Mark) (kept : List KnownNet) : Type 0 where
  pub each : (v w : List Bool) → Hold marks v v → shown w (state_nets c) ≡ next_state c v → ShowKept kept w

-- more of them
pub record CarryOn (c : Circuit) (marks : List Mark) (old new : List KnownNet) : Type 0 where
  pub each : Carry c marks old → Carry c marks new

-- ---- what holds of each sequence of valuations in which a block's facts hold

pub record Known (c : Circuit) (b : Block) (P : List (List Bool) → Type 0) : Type 0 where
  pub each : (vs : List (List Bool)) → b.at < length vs → Follow c vs → All (HoldsIn vs) (b.given ++ begun b) → P vs

-- the flip-flops before a cycle
abbrev pub KeptAt : Circuit → Block → ℕ → List KnownNet → Type 0
KeptAt c b t kept = Known c b (λ vs. t < length vs → ShowKept kept (valuation_at vs t))

-- the block's bits before a cycle
abbrev pub ForcedBefore : Circuit → Block → ℕ → Type 0
ForcedBefore c b t = Known c b (λ vs. All (HoldsIn vs) (stretch b.bits b.since (t - b.since)))

-- all of them
abbrev pub Forced : Circuit → Block → Type 0
Forced c b = Known c b (λ vs. All (HoldsIn vs) (lasting b))

-- a pass before a cycle of a block
pub record IsBefore (net : Checked) (b : Block) (t : ℕ) (m : Marking) (kept : List KnownNet) : Type 0 where
  pub same : m.net ≡ net
  pub blank : Blank m
  pub kept_holds : KeptAt (circuit net) b t kept
  pub so_far : ForcedBefore (circuit net) b t

-- Facts of a trace, and what they force (docs/DEFINITIONS.md, "Fact").
use Rattle.std.specs.Prelude.{◌≡◌, ℕ, ◌+◌, ◌<◌, ◌==◌, ◌&&◌, Bool, List, [], ◌++◌, length, All, slice_index_or}
use Rattle.std.specs.Bool.{beq}
use Rattle.bs_net.specs.Circuit.{Circuit, Fits, bit_at, shown, state_nets, next_state}
use Rattle.bs_net_facts.specs.declared.fact.Fact.{Fact}

-- whether a fact is the same as another one, of the same net and with the same bit, a cycle later
abbrev pub is_again : Fact → Fact → Bool
is_again f g = (g.net.0 == f.net.0) && (beq g.bit f.bit && (g.cycle == f.cycle + 1))

-- ---- valuations of cycles that follow each other

-- the valuation of a cycle
abbrev pub valuation_at : List (List Bool) → ℕ → List Bool
valuation_at vs t = slice_index_or vs t []

-- a fact holds in them
abbrev pub HoldsIn : List (List Bool) → Fact → Type 0
HoldsIn vs f = bit_at (valuation_at vs f.cycle) f.net.0 ≡ f.bit

-- some state and some input
pub record FitsSome (c : Circuit) (v : List Bool) : Type 0 where
  pub state : List Bool
  pub input : List Bool
  pub fits : Fits c state input v

-- each fits some state and some input, and the next one shows the state that it loads
pub record Follow (c : Circuit) (vs : List (List Bool)) : Type 0 where
  pub fit : (t : ℕ) → t < length vs → FitsSome c (valuation_at vs t)
  pub lead : (t : ℕ) → t + 1 < length vs → shown (valuation_at vs (t + 1)) (state_nets c) ≡ next_state c (valuation_at vs t)

-- where the given facts hold in so many cycles so do these, whatever the states and the inputs are
pub record Force (c : Circuit) (cycles : ℕ) (given facts : List Fact) : Type 0 where
  pub each : (vs : List (List Bool)) → length vs ≡ cycles → Follow c vs → All (HoldsIn vs) given → All (HoldsIn vs) facts

-- ---- a trace

-- each state has a bit for each flip-flop, each input one for each data input, and there is one state more than inputs
pub record IsWayOf (c : Circuit) (states inputs : List (List Bool)) : Type 0 where
  pub one_more : length states ≡ length inputs + 1
  pub state_widths : All (λ s. length s ≡ length c.flops) states
  pub input_widths : All (λ x. length x ≡ length c.inputs) inputs

-- a valuation that fits a moment of a trace: its state and its input, and at the last moment any input
pub record FitsMoment (c : Circuit) (states inputs : List (List Bool)) (t : ℕ) (v : List Bool) : Type 0 where
  pub input : List Bool
  pub same : t < length inputs → input ≡ slice_index_or inputs t []
  pub fits : Fits c (slice_index_or states t []) input v

-- a fact is the trace's: each valuation that fits its moment shows it, and there is such a moment and such a net
pub record IsReal (c : Circuit) (states inputs : List (List Bool)) (f : Fact) : Type 0 where
  pub in_time : f.cycle < length states
  pub placed : f.net.0 < c.nets
  pub each : (v : List Bool) → FitsMoment c states inputs f.cycle v → bit_at v f.net.0 ≡ f.bit

-- ---- blocks compose

-- what is forced by given facts and by facts that they force is forced by them
abbrev pub ForcesCompose : Type 0
ForcesCompose =
    (c : Circuit) (cycles : ℕ) (given facts more : List Fact) → Force c cycles given facts → Force c cycles (given ++ facts) more →
    Force c cycles given (facts ++ more)

-- and by more facts
abbrev pub MoreForce : Type 0
MoreForce =
    (c : Circuit) (cycles : ℕ) (given others facts : List Fact) → Force c cycles given facts → Force c cycles (others ++ given) facts

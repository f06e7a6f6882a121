-- A block: bits that stand from one cycle to another, and the facts that force them (docs/DEFINITIONS.md, "Block").
use Rattle.std.specs.Prelude.{◌≡◌, ℕ, ◌<◌, ◌≤◌, ◌+◌, ◌-◌, Bool, true, not, ◌&&◌, ◌||◌, ◌==◌, List, [], ◌++◌, length, map, All, IsTrue, if◌then◌else◌}
use Rattle.std.specs.Prelude.{nat_lt, zero, suc}
use Rattle.std.specs.List.{list_any}
use Rattle.bs_net.specs.Circuit.{Circuit}
use Rattle.bs_net_facts.specs.declared.fact.Fact.{Fact}
use Rattle.bs_net_facts.specs.declared.block.Block.{Block}
use Rattle.bs_net_facts.specs.Facts.{Force, IsReal}

-- the fact at another cycle
abbrev pub moved : ℕ → Fact → Fact
moved cycle f = record { net = f.net; cycle = cycle; bit = f.bit }

-- some bits at each of so many cycles
abbrev pub stretch : List Fact → ℕ → ℕ → List Fact
stretch bits since zero = []
stretch bits since (suc n) = stretch bits since n ++ map (moved (since + n)) bits

-- a block's bits, in each cycle in which they stand
abbrev pub lasting : Block → List Fact
lasting b = stretch b.bits b.since (b.at + 1 - b.since)

-- a block's bits at the first moment, where they have stood since then
abbrev pub begun : Block → List Fact
begun b = if b.begun then map (moved b.since) b.bits else []

-- whether a fact is before a block's first cycle, or up to its last one and of another net than its own
abbrev pub is_earlier : Block → Fact → Bool
is_earlier b f = nat_lt f.cycle b.since || (not (nat_lt b.at f.cycle) && not (list_any (λ p. p.net.0 == f.net.0) b.bits))

-- A block's facts and bits are the trace's, its facts come before its bits or are of other nets, and in every sequence of following
-- valuations in which the facts hold so do its bits, in each cycle. Bits that have stood since the first moment may be given there.
pub record IsBlock (c : Circuit) (states inputs : List (List Bool)) (b : Block) : Type 0 where
  pub real : All (IsReal c states inputs) b.given
  pub shown : All (IsReal c states inputs) (lasting b)
  pub earlier : All (λ f. IsTrue (is_earlier b f)) b.given
  pub some : 0 < length b.bits
  pub in_order : b.since ≤ b.at
  pub start : b.begun ≡ true → b.since ≡ 0
  pub forced : Force c (length states) (b.given ++ begun b) (lasting b)

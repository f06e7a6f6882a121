-- Data inputs that stand still nearly all through a trace. They are told once, and no more at each block (docs/FORMATS.md, "Causes").
use Rattle.std.specs.Prelude.{◌≡◌, ℕ, ◌+◌, ◌-◌, ◌*◌, ◌==◌, ◌&&◌, nat_le, nat_lt, not, Bool, true, false, List, [], ◌∷◌, length, filter, slice_index_or, if◌then◌else◌}
use Rattle.std.specs.List.{flat_map, list_any, range_with_len}
use Rattle.bs_net.specs.Netlist.{circuit}
use Rattle.bs_net_facts.specs.declared.fact.Fact.{Fact}
use Rattle.bs_net_facts.specs.Blocks.{moved}
use Rattle.bs_net_facts.specs.Seen.{Seen}
use Rattle.bs_inspect_causes.specs.declared.account.Account.{Account}
use Rattle.bs_inspect_causes.specs.Accounts.{AreFactsOf}
use Rattle.bs_inspect_causes.specs.Since.{AreAges}
use Rattle.bs_inspect_why.specs.declared.still.TheConstants.{STILL_CYCLES, STILL_SHARE}

-- ---- which they are

-- whether a bit that stands since a cycle up to the end of so many cycles stands still: in that many cycles, and in all but one of so many
abbrev pub is_still : (cycles since : ℕ) → Bool
is_still cycles since = nat_le (since + STILL_CYCLES) cycles && nat_le (STILL_SHARE * since) cycles

-- a fact at the cycle since which it stands, where it stands still
abbrev pub still_since : ℕ → Fact → ℕ → List Fact
still_since cycles f since = if is_still cycles since then moved since f ∷ [] else []

abbrev pub no_fact : Fact
no_fact = record { net = record { 0 = 0 }; cycle = 0; bit = false }

abbrev pub still_at : ℕ → List Fact → List ℕ → ℕ → List Fact
still_at cycles facts ages i = still_since cycles (slice_index_or facts i no_fact) (slice_index_or ages i 0)

-- those of the first facts that stand still
abbrev pub stills_of : ℕ → List Fact → List ℕ → ℕ → List Fact
stills_of cycles facts ages count = flat_map (still_at cycles facts ages) (range_with_len 0 count)

-- the data inputs that stand still up to the last cycle that has an input, each at the cycle since which it stands
pub record AreStills (m : Seen) (stills : List Fact) : Type 0 where
  pub facts : List Fact
  pub are : AreFactsOf m (circuit m.net).inputs (length m.inputs - 1) facts
  pub ages : List ℕ
  pub aged : AreAges (circuit m.net) m.states m.inputs facts (length facts) ages
  pub stills_are : stills ≡ stills_of (length m.inputs) facts ages (length facts)

-- the same where they are told once: not where all is told, and not of a trace without an input
abbrev pub AreStillsWhere : Bool → Seen → List Fact → Type 0
AreStillsWhere true m stills = AreStills m stills
AreStillsWhere false m stills = stills ≡ []

abbrev pub AreStillsFor : Bool → Seen → List Fact → Type 0
AreStillsFor all m stills = AreStillsWhere (not all && nat_lt 0 (length m.inputs)) m stills

-- ---- what they stand for

-- whether a fact that stands still stands for another one: that of the same net at its cycle or a later one
abbrev pub covers : Fact → Fact → Bool
covers f s = (s.net.0 == f.net.0) && nat_le s.cycle f.cycle

abbrev pub is_covered : List Fact → Fact → Bool
is_covered stills f = list_any (covers f) stills

-- the facts that are told at a block
abbrev pub shown : List Fact → List Fact → List Fact
shown stills facts = filter (λ f. not (is_covered stills f)) facts

-- whether a fact that stands still stands for one that is given in an account
abbrev pub is_given_in : Fact → Account → Bool
is_given_in s a = list_any (λ f. covers f s) a.block.given

-- those that stand for a given fact of some account
abbrev pub used : List Account → List Fact → List Fact
used accounts stills = filter (λ s. list_any (is_given_in s) accounts) stills

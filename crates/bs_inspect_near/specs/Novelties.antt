-- What one run alone has: of each signal the first cycle with a value that no other run ever has.
use Rattle.std.specs.Prelude.{◌≡◌, ◌⊎◌, ℕ, ◌<◌, List, [], ◌∷◌, length, slice_index_or, Option, Some, None}
use Rattle.std.specs.List.{flat_map}
use Rattle.std.specs.declared.cmp.Ordering.{Ordering}
use Rattle.std.specs.Ordering.{nat_cmp, ordering_then}
use Rattle.bs_net.specs.Circuit.{Circuit}
use Rattle.bs_inspect_view.specs.Signals.{Signal}
use Rattle.bs_scan.specs.Moments.{Run}
use Rattle.bs_inspect_near.specs.Values.{HaveMany, IsNovel, IsShared}
use Rattle.bs_inspect_near.specs.declared.novelty.Novelty.{Novelty}

-- a signal of no bit
abbrev pub no_signal : Signal
no_signal = record { base = []; high = None; places = [] }

abbrev pub signal_at : List Signal → ℕ → Signal
signal_at signals i = slice_index_or signals i no_signal

-- ---- what is found

-- What is found of the signal at a place: the first cycle with a value that no other run ever has; or nothing, where others have more
-- than `MAX_VALUES` values, or each value of the run.
pub record IsNovelty (c : Circuit) (runs : List Run) (number i : ℕ) (places : List ℕ) (found : Option Novelty) : Type 0 where
  pub place : (f : Novelty) → found ≡ Some f → f.place ≡ i
  pub novel : (f : Novelty) → found ≡ Some f → IsNovel c runs number places f.cycle f.count
  pub none : found ≡ None → HaveMany c runs number places ⊎ IsShared c runs number places

abbrev pub one_or_none : Option Novelty → List Novelty
one_or_none None = []
one_or_none (Some f) = f ∷ []

-- the novelties of the first signals, in order
pub record AreNovelties (c : Circuit) (runs : List Run) (number : ℕ) (signals : List Signal) (count : ℕ) (novelties : List Novelty) : Type 0 where
  pub all : List (Option Novelty)
  pub long : length all ≡ count
  pub each : (i : ℕ) → i < count → IsNovelty c runs number i (signal_at signals i).places (slice_index_or all i None)
  pub are : novelties ≡ flat_map one_or_none all

-- by cycles, and of one cycle in the order of the signals
abbrev pub novelty_cmp : Novelty → Novelty → Ordering
novelty_cmp a b = ordering_then (nat_cmp a.cycle b.cycle) (nat_cmp a.place b.place)

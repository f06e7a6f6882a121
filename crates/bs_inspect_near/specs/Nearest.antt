-- The recorded moment whose state differs in the fewest known bits (docs/FORMATS.md, "Texts of `backspace_inspect`").
use Rattle.std.specs.Prelude.{◌≡◌, ℕ, ◌<◌, ◌≤◌, List, [], length, slice_index_or}
use Rattle.bs_net.specs.Circuit.{Circuit}
use Rattle.bs_scan.specs.declared.seen.Seen.{Seen}
use Rattle.bs_scan.specs.Seen.{whole}
use Rattle.bs_scan.specs.Moments.{IsMoment, Moment, Run, moment, state_of}
use Rattle.bs_inspect_near.specs.Distance.{distance}
use Rattle.bs_inspect_near.specs.declared.search.Near.{Near}

abbrev pub moment_of : Near → Moment
moment_of near = moment near.run near.cycle

-- A moment that differs in so many bits is no nearer than this one; where it is as near its run is no lower, and in the same run its
-- cycle is no earlier.
pub record IsNoNearer (near : Near) (bits : ℕ) (m : Moment) : Type 0 where
  pub more : near.count ≤ bits
  pub lower : bits ≡ near.count → near.run ≤ m.run
  pub earlier : bits ≡ near.count → m.run ≡ near.run → near.cycle ≤ m.cycle

-- the moment of the runs that is nearest to what is seen of a state: that of the lowest run, and there the earliest, with how many known
-- bits differ
pub record IsNearest (c : Circuit) (runs : List Run) (seen : Seen) (near : Near) : Type 0 where
  pub recorded : IsMoment runs (moment_of near)
  pub counted : near.count ≡ distance (state_of c runs (moment_of near)) seen
  pub nearest : (m : Moment) → IsMoment runs m → IsNoNearer near (distance (state_of c runs m) seen) m

abbrev pub no_near : Near
no_near = record { run = 0; cycle = 0; count = 0 }

abbrev pub no_state : Seen
no_state = whole []

-- the nearest to each of some states, in their order
pub record AreNearest (c : Circuit) (runs : List Run) (states : List Seen) (nears : List Near) : Type 0 where
  pub count : length nears ≡ length states
  pub each : (i : ℕ) → i < length states → IsNearest c runs (slice_index_or states i no_state) (slice_index_or nears i no_near)

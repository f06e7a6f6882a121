-- What is told of each cycle of some facts.
use Rattle.std.specs.Prelude.{◌≡◌, ℕ, ◌<◌, List, length, slice_index_or}
use Rattle.bs_net.specs.Parts.{Parts}
use Rattle.bs_net_facts.specs.declared.fact.Fact.{Fact}
use Rattle.bs_inspect_why_words.specs.declared.reason.Reason.{Reason}
use Rattle.bs_inspect_why_words.specs.Causes.{first_cycle}
use Rattle.bs_inspect_why_words.specs.Facts.{TellsFirst}
use Rattle.bs_inspect_why_words.specs.Stretches.{stretch_back}

-- the first facts of a stretch, and their cycle
pub record IsReason (raw : Parts) (most : ℕ) (facts : List Fact) (r : Reason) : Type 0 where
  pub cycle : r.cycle ≡ first_cycle facts
  pub tells : TellsFirst raw most facts r.words

-- so many stretches, from the last one on
pub record AreReasons (raw : Parts) (most : ℕ) (facts : List Fact) (begins : List ℕ) (count : ℕ) (reasons : List Reason) : Type 0 where
  pub size : length reasons ≡ count
  pub each : (j : ℕ) (d : Reason) → j < count → IsReason raw most (stretch_back facts begins j) (slice_index_or reasons j d)

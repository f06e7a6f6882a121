-- For each hash, a cycle at which a run leads to a state that has it, and no later one than the first.
use Rattle.std.specs.Prelude.{ℕ, ◌<◌, ◌≤◌, List, length, slice_index_or}
use Rattle.std.specs.HashMap.{HashMap}
use Rattle.bs_chip.specs.Index.{HasBy}
use Rattle.bs_preimage_recorded.specs.declared.forward.NextStateHashes.{NextStateHashes}
use Rattle.bs_preimage_recorded.specs.Forward.{no_row}

module _ {S : Type 0} where
  -- the first so many hashes have this cycle, or one before
  pub record HaveBy (first : HashMap ℕ ℕ S) (hashes : List ℕ) (cycle count : ℕ) : Type 0 where
    pub each : (n : ℕ) → n < count → HasBy first (slice_index_or hashes n 0) cycle

  -- the hashes of the first so many rows have their row, or one before
  pub record AreNoted (low high : HashMap ℕ ℕ S) (cycles : ℕ) (rows : List NextStateHashes) : Type 0 where
    pub within : cycles ≤ length rows
    pub lows : (k : ℕ) → k < cycles → HaveBy low (slice_index_or rows k no_row).low k (length (slice_index_or rows k no_row).low)
    pub highs : (k : ℕ) → k < cycles → HaveBy high (slice_index_or rows k no_row).high k (length (slice_index_or rows k no_row).high)

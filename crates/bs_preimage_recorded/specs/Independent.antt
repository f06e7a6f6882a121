-- Flip-flops that no data input moves once one data input has a value.
use Rattle.std.specs.Prelude.{◌≡◌, ℕ, ◌<◌, Bool, true, false, List, length, slice_index_or}
use Rattle.bs_net.specs.Circuit.{Circuit, next}
use Rattle.bs_preimage_recorded.specs.declared.split.Split.{Split}

-- next bits of flagged flip-flops are the same under all inputs in which this data input has the value
pub record IsIndependent (c : Circuit) (input : ℕ) (value : Bool) (flags : List Bool) : Type 0 where
  pub size : length flags ≡ length c.flops
  pub same : (k : ℕ) → slice_index_or flags k false ≡ true → (state a b : List Bool) → length state ≡ length c.flops → length a ≡ length c.inputs →
      length b ≡ length c.inputs → slice_index_or a input false ≡ value → slice_index_or b input false ≡ value →
      slice_index_or (next c state a) k false ≡ slice_index_or (next c state b) k false

-- a data input, and flip-flops that no other one moves where it is 0, and where it is 1
pub record IsSplit (c : Circuit) (split : Split) : Type 0 where
  pub placed : split.input < length c.inputs
  pub low : IsIndependent c split.input false split.low
  pub high : IsIndependent c split.input true split.high

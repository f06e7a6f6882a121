-- The lowest number that passes a test.
use Rattle.std.specs.Prelude.{◌≡◌, ℕ, ◌<◌, Bool, true, false}

-- n is below the count and passes, and no lower number does
pub record IsLowest (test : ℕ → Bool) (count n : ℕ) : Type 0 where
  pub below : n < count
  pub passes : test n ≡ true
  pub lowest : (k : ℕ) → k < n → test k ≡ false

-- no number below the count passes
pub record NonePasses (test : ℕ → Bool) (count : ℕ) : Type 0 where
  pub each : (k : ℕ) → k < count → test k ≡ false

-- Three files in memory.
use Rattle.std.specs.Prelude.{◌≡◌, ℕ, List, [], ◌∷◌, codes, Vec, String, string_bytes}
use Rattle.std.specs.declared.alloc.Global.{Global}
use Rattle.bs_outside.specs.Files.{Files}

pub record AreTexts (files : Files) (netlist signature stimulus : List ℕ) : Type 0 where
  pub first : String Global × Vec ℕ Global
  pub second : String Global × Vec ℕ Global
  pub third : String Global × Vec ℕ Global
  pub is : files ≡ first ∷ second ∷ third ∷ []
  pub names : (string_bytes first.0 ≡ codes "netlist") × (string_bytes second.0 ≡ codes "signature") × (string_bytes third.0 ≡ codes "stimulus")
  pub texts : (first.1.items ≡ netlist) × (second.1.items ≡ signature) × (third.1.items ≡ stimulus)

-- The file of names with values, and what it makes ready.
use Rattle.std.specs.Prelude.{ℕ, List, map}
use Rattle.bs_net.specs.Parts.{Parts}
use Rattle.bs_outside.specs.declared.file.File.TheVariants as files
use Rattle.bs_outside.specs.Plan.{Plan, end, ◌>>=◌, read_as}
use Rattle.bs_top_files.specs.Entry.{netlist_of}
use Rattle.bs_top_files.specs.Causes.{Case}
use Rattle.bs_inspect_seen.specs.Given.{Given, given_in}
use Rattle.bs_inspect_seen.specs.Readings.{givens_read}
use Rattle.bs_inspect_seen.specs.declared.loading.Named.{Named as CodeNamed}

-- a netlist's parts, and names of its flip-flops with their values
pub record Named : Type 0 where
  pub raw : Parts
  pub givens : List Given

abbrev pub named_in : CodeNamed → Named
named_in t = record { raw = t.net.raw; givens = map given_in t.givens.items }

-- the file, and last whether the words are names with values
abbrev pub named_of : List ℕ → List (List ℕ) → Plan Case Named
named_of netlist words = do
  raw ← netlist_of netlist
  givens ← read_as files.Name (givens_read raw words)
  end record { raw = raw; givens = givens }

-- ---- what is left of a walk behind the netlist

abbrev pub named_step : Parts → List (List ℕ) → Plan Case Named
named_step raw words = do
  givens ← read_as files.Name (givens_read raw words)
  end record { raw = raw; givens = givens }

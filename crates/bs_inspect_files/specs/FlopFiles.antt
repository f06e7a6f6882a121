-- The files of a request about flip-flops, one after the other, and what they make ready.
use Rattle.std.specs.Prelude.{ℕ, Bool, List, length, Option, Some, None}
use Rattle.bs_net.specs.Parts.{Parts}
use Rattle.bs_outside.specs.declared.file.File.TheVariants as files
use Rattle.bs_outside.specs.Plan.{Plan, end, ◌>>=◌, fetched, read_as}
use Rattle.bs_top_files.specs.Entry.{netlist_of}
use Rattle.bs_top_files.specs.Causes.{Case}
use Rattle.bs_inspect_files.specs.Readings.{called_in, file_in, joined, order_read, pattern_read}
use Rattle.bs_inspect_files.specs.declared.ready.Scanned.{Scanned as CodeScanned}

-- a netlist's parts, where nets have these names
abbrev pub named_of : List ℕ → List (List ℕ) → Plan Case Parts
named_of netlist names = do
  raw ← netlist_of netlist
  known ← read_as files.Name (called_in raw names)
  end raw

-- a netlist's parts, the flip-flops of a scan chain in its order, and a pattern in that order
pub record Scanned : Type 0 where
  pub raw : Parts
  pub order : List ℕ
  pub pattern : List Bool

abbrev pub scanned_in : CodeScanned → Scanned
scanned_in t = record { raw = t.net.raw; order = t.order.items; pattern = t.pattern }

abbrev pub order_of : Parts → List ℕ → Plan Case (List ℕ)
order_of raw name = do
  text ← fetched files.Map name
  read_as files.Map (order_read name raw text)

-- the bits of a word, or of the file that it names behind `@`: one for each of so many lines
abbrev pub bits_from : ℕ → List ℕ → Option (List ℕ) → Plan Case (List Bool)
bits_from lines word None = read_as files.State (pattern_read lines word)
bits_from lines word (Some name) = fetched files.Dump name >>= λ text. read_as files.State (pattern_read lines (joined text))

abbrev pub bits_of : ℕ → List ℕ → Plan Case (List Bool)
bits_of lines word = bits_from lines word (file_in word)

-- the netlist, the order, and the bits, as many as the lines of the order
abbrev pub scanned_of : (netlist order pattern : List ℕ) → Plan Case Scanned
scanned_of netlist order pattern = do
  raw ← netlist_of netlist
  chain ← order_of raw order
  bits ← bits_of (length chain) pattern
  end record { raw = raw; order = chain; pattern = bits }

-- ---- what is left of a walk once its first files are read

-- behind the netlist
abbrev pub chain_step : Parts → (order pattern : List ℕ) → Plan Case Scanned
chain_step raw order pattern = do
  chain ← order_of raw order
  bits ← bits_of (length chain) pattern
  end record { raw = raw; order = chain; pattern = bits }

-- behind the order
abbrev pub pattern_step : Parts → List ℕ → List ℕ → Plan Case Scanned
pattern_step raw chain pattern = do
  bits ← bits_of (length chain) pattern
  end record { raw = raw; order = chain; pattern = bits }

-- ---- a file of bits, once it is fetched

abbrev pub joined_step : ℕ → List ℕ → Plan Case (List Bool)
joined_step lines text = read_as files.State (pattern_read lines (joined text))

-- a file of bits, from its name on
abbrev pub bits_file : ℕ → List ℕ → Plan Case (List Bool)
bits_file lines name = fetched files.Dump name >>= λ text. joined_step lines text

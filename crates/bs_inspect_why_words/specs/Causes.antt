-- The lines of the causes of one cycle (docs/FORMATS.md, "Causes").
use Rattle.std.specs.Prelude.{◌≡◌, ℕ, ◌+◌, ◌-◌, ◌==◌, ◌&&◌, nat_lt, Bool, true, false, List, [], ◌∷◌, ◌++◌, length, map, take, codes, decimal, slice_index_or, if◌then◌else◌}
use Rattle.std.specs.Bool.{beq}
use Rattle.std.specs.List.{flat_map}
use Rattle.bs_bits.specs.Lines.{line}
use Rattle.bs_inspect_view.specs.Rtl.{rtl_text}
use Rattle.bs_inspect_view.specs.Signals.{AreSignals, Signal}
use Rattle.bs_inspect_view.specs.Values.{value_text}
use Rattle.bs_inspect_report.specs.Signal.{bit_at}
use Rattle.bs_net.specs.Circuit.{Circuit}
use Rattle.bs_net.specs.Netlist.{circuit}
use Rattle.bs_net_facts.specs.declared.fact.Fact.{Fact}
use Rattle.bs_net_facts.specs.Seen.{Seen}
use Rattle.bs_inspect_why_words.specs.declared.limits.TheConstants.{RECENT}
use Rattle.bs_inspect_why_words.specs.declared.limits.Limits.{Limits}
use Rattle.bs_inspect_why_words.specs.declared.row.Row.{Row}
use Rattle.bs_inspect_why_words.specs.Facts.{fact_bits, fact_keys, more_words, signal_at, signal_words}
use Rattle.bs_inspect_why_words.specs.Rows.{AreRows}
use Rattle.bs_inspect_causes.specs.Since.{AreAges}

-- a signal's change in the cycle is new
abbrev pub age_words : ℕ → ℕ → List ℕ
age_words cycle since = if (since == cycle) && nat_lt 0 cycle then codes ", new" else codes ", since " ++ decimal since

-- what a line of causes begins with
abbrev pub by_words : ℕ → List ℕ
by_words cycle = codes "    by " ++ (decimal cycle ++ codes " ")

-- the line of a signal
abbrev pub by_line : ℕ → List Bool → Signal → ℕ → List ℕ
by_line cycle bits s since = line (by_words cycle ++ (signal_words bits s ++ age_words cycle since))

-- ---- lines of several signals

-- whether a signal stands in a line with others: where lines are shared, one bit that is older
abbrev pub is_old : Bool → ℕ → List Signal → Row → Bool
is_old shares cycle signals r = shares && ((length (signal_at signals r.place).places == 1) && nat_lt (r.since + RECENT) cycle)

abbrev pub row_line : Bool → ℕ → List Bool → List Signal → Row → List ℕ
row_line shares cycle bits signals r =
    if is_old shares cycle signals r then [] else by_line cycle bits (signal_at signals r.place) r.since

-- the bit of a signal of one bit
abbrev pub only_bit : List Bool → Signal → Bool
only_bit bits s = bit_at bits (slice_index_or s.places 0 0)

-- a row whose signal stands in the line of a bit
abbrev pub old_row : Bool → ℕ → List Bool → List Signal → Bool → Row → List Row
old_row shares cycle bits signals bit r =
    if is_old shares cycle signals r && beq (only_bit bits (signal_at signals r.place)) bit then r ∷ [] else []

abbrev pub old_rows : Bool → ℕ → List Bool → List Signal → Bool → List Row → List Row
old_rows shares cycle bits signals bit rows = flat_map (old_row shares cycle bits signals bit) rows

abbrev pub row_name : List Signal → Row → List ℕ
row_name signals r = rtl_text (signal_at signals r.place)

abbrev pub behind_name : List Signal → Row → List ℕ
behind_name signals r = codes ", " ++ row_name signals r

-- the names of signals, one behind another
abbrev pub row_names : List Signal → List Row → List ℕ
row_names signals [] = []
row_names signals (r ∷ rs) = row_name signals r ++ flat_map (behind_name signals) rs

-- the line of the signals with a bit
abbrev pub old_words : ℕ → ℕ → List Signal → Bool → List Row → List ℕ
old_words most cycle signals bit rows =
    line (by_words cycle ++ (row_names signals (take most rows) ++ (more_words (length rows - most) ++ (codes " = " ++ value_text (bit ∷ [])))))

-- the same, where there are some
abbrev pub old_line : ℕ → ℕ → List Signal → Bool → List Row → List ℕ
old_line most cycle signals bit rows = if length rows == 0 then [] else old_words most cycle signals bit rows

abbrev pub old_lines : ℕ → Bool → ℕ → List Bool → List Signal → List Row → List ℕ
old_lines most shares cycle bits signals rows =
    old_line most cycle signals false (old_rows shares cycle bits signals false rows)
    ++ old_line most cycle signals true (old_rows shares cycle bits signals true rows)

-- the lines of all signals: where there are many, older single bits share one for 0 and one for 1
abbrev pub rows_lines : ℕ → Bool → ℕ → List Bool → List Signal → List Row → List ℕ
rows_lines most shares cycle bits signals rows =
    flat_map (row_line shares cycle bits signals) rows ++ old_lines most shares cycle bits signals rows

abbrev pub first_cycle : List Fact → ℕ
first_cycle facts = slice_index_or (map (λ f. f.cycle) facts) 0 0

-- signals of facts, the last change first, with the cycles since which these have stood
pub record HasRows (c : Circuit) (states inputs : List (List Bool)) (facts : List Fact) (signals : List Signal) (rows : List Row) : Type 0 where
  pub ages : List ℕ
  pub aged : AreAges c states inputs facts (length facts) ages
  pub ordered : AreRows ages signals rows

-- the lines of some signals
pub record TellsRowsOf (m : Seen) (limits : Limits) (facts : List Fact) (signals : List Signal) (text : List ℕ) : Type 0 where
  pub rows : List Row
  pub has : HasRows (circuit m.net) m.states m.inputs facts signals rows
  pub says : text ≡ rows_lines limits.names (nat_lt limits.causes (length rows)) (first_cycle facts) (fact_bits facts) signals rows

-- the lines of causes in one cycle, the newest change first
pub record TellsRows (m : Seen) (limits : Limits) (facts : List Fact) (text : List ℕ) : Type 0 where
  pub signals : List Signal
  pub are : AreSignals [] (fact_keys m.net.raw facts) signals
  pub tells : TellsRowsOf m limits facts signals text

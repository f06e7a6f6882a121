-- The cells of the page and the lines of `trace` show the same bits.
use Rattle.std.specs.Prelude.{◌≡◌, ℕ, Bool, List, [], slice_index_or}
use Rattle.bs_report.specs.declared.report.Report.{Report}
use Rattle.bs_inspect_report.specs.Signal.{signal_bits}
use Rattle.bs_inspect_html.specs.Cells.{bits_at}
use Rattle.bs_inspect_page.specs.Page.{input_figure, state_figure}

-- the bits of a signal of flip-flops at a state, and of one of data inputs at an input
pub record AreTracedBits (r : Report) (opens : List (List Bool)) (signed : List Bool) (places : List ℕ) (i : ℕ) : Type 0 where
  pub flops : bits_at (state_figure r opens signed) places i ≡ signal_bits (slice_index_or r.states i []) places
  pub inputs : bits_at (input_figure r) places i ≡ signal_bits (slice_index_or r.inputs i []) places

abbrev pub CellsAreTraced : Type 0
CellsAreTraced = (r : Report) (opens : List (List Bool)) (signed : List Bool) (places : List ℕ) (i : ℕ) → AreTracedBits r opens signed places i

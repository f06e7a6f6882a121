-- The lines of a netlist's flip-flops and data inputs (docs/FORMATS.md, "Texts of `backspace_inspect`").
use Rattle.std.specs.Prelude.{◌≡◌, ℕ, ◌==◌, not, ◌&&◌, false, List, [], ◌∷◌, ◌++◌, length, codes, decimal, slice_index_or, if◌then◌else◌}
use Rattle.std.specs.List.{flat_map, range_with_len}
use Rattle.bs_bits.specs.Lines.{line}
use Rattle.bs_bits.specs.Text.{digit_of}
use Rattle.bs_net.specs.declared.net.NetId.{NetId}
use Rattle.bs_net.specs.declared.net.Flop.{Flop}
use Rattle.bs_net.specs.declared.net.Mode.TheVariants.{Plain}
use Rattle.bs_net.specs.Parts.{Parts, key_at}
use Rattle.bs_net.specs.Netlist.{circuit_of}
use Rattle.bs_inspect_netlist.specs.declared.mark.Measure.TheVariants.{Source}
use Rattle.bs_inspect_netlist.specs.Marks.{AreMarks, mark_at}

-- the key of a net behind a space, where it is another net than this one and shows its value
abbrev pub copy_piece : Parts → List ℕ → ℕ → ℕ → List ℕ
copy_piece r sources n m = if (mark_at sources m == n) && not (m == n) then codes " " ++ key_at r m else []

-- the keys of all nets that show the value of this one through `buf` and `assign` alone
abbrev pub copies_text : Parts → List ℕ → ℕ → List ℕ
copies_text r sources n = flat_map (copy_piece r sources n) (range_with_len 0 (length r.names))

-- a flip-flop by its number: its key, its bit at reset, and the further keys that show its value
abbrev pub flop_line : Parts → List ℕ → ℕ → Flop → List ℕ
flop_line r sources i f =
    line (decimal i ++ (codes " " ++ (key_at r f.q.0 ++ (codes " " ++ ((digit_of f.reset ∷ []) ++ copies_text r sources f.q.0)))))

-- a data input by its number: its key, and the further keys that show its value
abbrev pub input_line : Parts → List ℕ → ℕ → NetId → List ℕ
input_line r sources i n = line (decimal i ++ (codes " " ++ (key_at r n.0 ++ copies_text r sources n.0)))

-- no flip-flop and no net, which stand past the end of a list
abbrev pub no_net : NetId
no_net = record { 0 = 0 }

abbrev pub no_flop : Flop
no_flop = record { q = no_net; d = no_net; ck = no_net; reset = false; mode = Plain }

-- the lines of the flip-flop and of the data input with this number
abbrev pub flop_at_line : Parts → List ℕ → ℕ → List ℕ
flop_at_line r sources i = flop_line r sources i (slice_index_or r.flops i no_flop)

abbrev pub input_at_line : Parts → List ℕ → ℕ → List ℕ
input_at_line r sources i = input_line r sources i (slice_index_or (circuit_of r).inputs i no_net)

-- a line for each flip-flop, in the order of the scan chain
abbrev pub flops_lines : Parts → List ℕ → List ℕ
flops_lines r sources = flat_map (flop_at_line r sources) (range_with_len 0 (length r.flops))

-- a line for each data input, in the order of an input's bits
abbrev pub inputs_lines : Parts → List ℕ → List ℕ
inputs_lines r sources = flat_map (input_at_line r sources) (range_with_len 0 (length (circuit_of r).inputs))

-- the text tells each flip-flop once, in order
pub record TellsFlops (r : Parts) (text : List ℕ) : Type 0 where
  pub sources : List ℕ
  pub are : AreMarks Source r sources
  pub says : text ≡ flops_lines r sources

-- the text tells each data input once, in order
pub record TellsInputs (r : Parts) (text : List ℕ) : Type 0 where
  pub sources : List ℕ
  pub are : AreMarks Source r sources
  pub says : text ≡ inputs_lines r sources

-- The sizes of a netlist, line by line (docs/FORMATS.md, "Texts of `backspace_inspect`").
use Rattle.std.specs.Prelude.{◌≡◌, ℕ, ◌==◌, not, ◌&&◌, Bool, true, false, List, ◌++◌, length, map, max, fold, codes, decimal, count_by}
use Rattle.std.specs.List.{flat_map, range_with_len}
use Rattle.bs_bits.specs.Lines.{line}
use Rattle.bs_net.specs.declared.net.NetId.{NetId}
use Rattle.bs_net.specs.declared.net.Gate.{Gate}
use Rattle.bs_net.specs.declared.net.Flop.{Flop}
use Rattle.bs_net.specs.declared.net.Mode.{Mode}
use Rattle.bs_net.specs.declared.net.Mode.TheVariants.{Plain, Enable, Clear}
use Rattle.bs_net.specs.declared.gate.Kind.{Kind}
use Rattle.bs_net.specs.declared.gate.Kind.TheVariants.{And, Nand, Or, Nor, Xor, Xnor, Buf, Not}
use Rattle.bs_net.specs.Parts.{Parts, load_nets}
use Rattle.bs_net.specs.Netlist.{circuit_of}
use Rattle.bs_inspect_netlist.specs.declared.mark.Measure.TheVariants.{Level}
use Rattle.bs_inspect_netlist.specs.Marks.{AreMarks}

-- a line of a word and a number
abbrev pub number_line : List ℕ → ℕ → List ℕ
number_line word number = line (word ++ decimal number)

-- the greatest of some numbers, 0 where there are none
abbrev pub greatest : List ℕ → ℕ
greatest numbers = fold max 0 numbers

abbrev pub is_kind : Kind → Kind → Bool
is_kind And And = true
is_kind Nand Nand = true
is_kind Or Or = true
is_kind Nor Nor = true
is_kind Xor Xor = true
is_kind Xnor Xnor = true
is_kind Buf Buf = true
is_kind Not Not = true
is_kind _ _ = false

-- how many gates are of a kind
abbrev pub kind_count : Kind → List Gate → ℕ
kind_count kind gates = count_by (λ g. is_kind kind g.kind) gates

abbrev pub is_plain : Mode → Bool
is_plain Plain = true
is_plain _ = false

abbrev pub has_enable : Mode → Bool
has_enable (Enable e) = true
has_enable _ = false

abbrev pub has_clear : Mode → Bool
has_clear (Clear r) = true
has_clear _ = false

-- how many flip-flops are of a cell: `dffe` has an enable and `dffr` a clear; of the plain ones `dff` is 0 at reset and `dffs` 1
abbrev pub dff_count : List Flop → ℕ
dff_count flops = count_by (λ f. is_plain f.mode && not f.reset) flops

abbrev pub dffs_count : List Flop → ℕ
dffs_count flops = count_by (λ f. is_plain f.mode && f.reset) flops

abbrev pub dffe_count : List Flop → ℕ
dffe_count flops = count_by (λ f. has_enable f.mode) flops

abbrev pub dffr_count : List Flop → ℕ
dffr_count flops = count_by (λ f. has_clear f.mode) flops

-- every net that a gate reads or by which a flip-flop loads, once for each place
abbrev pub readers : Parts → List NetId
readers r = flat_map (λ g. g.ins) r.gates ++ flat_map load_nets r.flops

-- how many places read a net
abbrev pub fan_out : Parts → ℕ → ℕ
fan_out r n = count_by (λ m. m.0 == n) (readers r)

-- the same of each net
abbrev pub fan_outs : Parts → List ℕ
fan_outs r = map (fan_out r) (range_with_len 0 (length r.names))

-- the most places that read one net
abbrev pub most_readers : Parts → ℕ
most_readers r = greatest (fan_outs r)

-- the most nets that one gate reads
abbrev pub most_inputs : List Gate → ℕ
most_inputs gates = greatest (map (λ g. length g.ins) gates)

-- the flip-flops, and those of each cell
unfoldable pub flops_lines : List Flop → List ℕ
flops_lines flops =
    number_line (codes "flops ") (length flops)
    ++ (number_line (codes "dff ") (dff_count flops)
    ++ (number_line (codes "dffs ") (dffs_count flops)
    ++ (number_line (codes "dffe ") (dffe_count flops)
    ++ number_line (codes "dffr ") (dffr_count flops))))

-- the ports and nets
unfoldable pub ports_lines : Parts → List ℕ
ports_lines r =
    number_line (codes "inputs ") (length (circuit_of r).inputs)
    ++ (number_line (codes "outputs ") (length r.outputs)
    ++ number_line (codes "nets ") (length r.names))

-- the gates, and those of each kind
unfoldable pub tables_lines : List Gate → List ℕ
tables_lines gates =
    number_line (codes "gates ") (length gates)
    ++ (number_line (codes "and ") (kind_count And gates)
    ++ (number_line (codes "nand ") (kind_count Nand gates)
    ++ (number_line (codes "or ") (kind_count Or gates)
    ++ number_line (codes "nor ") (kind_count Nor gates))))

unfoldable pub parities_lines : List Gate → List ℕ
parities_lines gates =
    number_line (codes "xor ") (kind_count Xor gates)
    ++ (number_line (codes "xnor ") (kind_count Xnor gates)
    ++ (number_line (codes "buf ") (kind_count Buf gates)
    ++ number_line (codes "not ") (kind_count Not gates)))

-- the depth of the levels, and the greatest fan-in and fan-out
unfoldable pub depths_lines : Parts → List ℕ → List ℕ
depths_lines r levels =
    number_line (codes "depth ") (greatest levels)
    ++ (number_line (codes "fanin ") (most_inputs r.gates)
    ++ number_line (codes "fanout ") (most_readers r))

abbrev pub stats_lines : Parts → List ℕ → List ℕ
stats_lines r levels = flops_lines r.flops ++ (ports_lines r ++ (tables_lines r.gates ++ (parities_lines r.gates ++ depths_lines r levels)))

-- the text tells the sizes; the depth is the greatest level of a net
pub record TellsSizes (r : Parts) (text : List ℕ) : Type 0 where
  pub levels : List ℕ
  pub are : AreMarks Level r levels
  pub says : text ≡ stats_lines r levels

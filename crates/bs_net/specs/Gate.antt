-- The kinds of gates: their values, and how many inputs they take (IEEE 1364-2005, 7.2).
use Rattle.std.specs.Prelude.{ℕ, ◌%◌, Bool, not, ◌==◌, List, count_by, slice_index_or, false, nat_lt}
use Rattle.std.specs.List.{list_all, list_any}
use Rattle.bs_net.specs.declared.gate.Kind.{Kind}
use Rattle.bs_net.specs.declared.gate.Kind.TheVariants.{And, Nand, Or, Nor, Xor, Xnor, Buf, Not}

-- whether a bit is 1
abbrev pub is_one : Bool → Bool
is_one b = b

-- the number of ones is odd
abbrev pub is_odd : List Bool → Bool
is_odd bits = count_by is_one bits % 2 == 1

-- the value of a gate on its inputs' bits: `And` is 1 where all are, `Or` where one is, `Xor` where the number of ones is odd;
-- `Nand`, `Nor` and `Xnor` are their complements, `Buf` is its one bit and `Not` the complement of that
abbrev pub gate_value : Kind → List Bool → Bool
gate_value And bits = list_all is_one bits
gate_value Nand bits = not (list_all is_one bits)
gate_value Or bits = list_any is_one bits
gate_value Nor bits = not (list_any is_one bits)
gate_value Xor bits = is_odd bits
gate_value Xnor bits = not (is_odd bits)
gate_value Buf bits = slice_index_or bits 0 false
gate_value Not bits = not (slice_index_or bits 0 false)

-- how many inputs a kind takes: `Buf` and `Not` one, and the others at least one
abbrev pub takes : Kind → ℕ → Bool
takes Buf n = n == 1
takes Not n = n == 1
takes _ n = nat_lt 0 n

use Rattle.std.proofs.Common.{◌≡◌, ℕ, ◌<◌, take, length, map, get_or, None}
use Rattle.std.specs.Prelude.{string_bytes}
use Rattle.bs_flat_nets.proofs.BitLemmas.{bit_in}
use Rattle.bs_flat_nets.proofs.constants.bit_table.Given as goal

abbrev pub invariant-consts : goal.invariant-consts
invariant-consts l = record {
  wide : length l.table.items ≡ length l.names;
  is : (n : ℕ) → n < length (map string_bytes l.names) → get_or l.table.items n None ≡ bit_in (map string_bytes l.names) (take l.constant-index l.consts) n;
}

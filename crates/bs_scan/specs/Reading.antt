-- What the functions that read a signature file promise each other.
use Rattle.std.specs.Prelude.{◌≡◌, ℕ, ◌<◌, ◌++◌, List, [], Option, None, Some, length, slice_index_or, slice_set, is_none, if◌then◌else◌, Result, Ok}
use Rattle.std.specs.List.{sum_by}
use Rattle.bs_bits.specs.Lines.{words_of}
use Rattle.bs_net.specs.Parts.{Parts}
use Rattle.bs_scan.specs.declared.fault.ChoiceFault.{ChoiceFault}
use Rattle.bs_bits.specs.Reading.{◌>>=◌}
use Rattle.bs_net_names.specs.Keys.{KeyParts}
use Rattle.bs_scan.specs.ChoiceText.{flop_of_net, flop_parts}

-- the words that are left of a line
abbrev pub words_left : Option (List ℕ) → List (List ℕ)
words_left None = []
words_left (Some text) = words_of text

-- for each net the flip-flop whose output it is
pub record IsTable (net : Parts) (table : List (Option ℕ)) : Type 0 where
  pub every_net : length table ≡ length net.names
  pub flop : (n : ℕ) → n < length net.names → slice_index_or table n None ≡ flop_of_net net.flops n

-- such a table, and what the key of each flip-flop says
pub record AreNames (net : Parts) (table : List (Option ℕ)) (keys : List KeyParts) : Type 0 where
  pub by_net : IsTable net table
  pub called : keys ≡ flop_parts net

-- a flip-flop at a net, unless there is one already
abbrev pub noted : List (Option ℕ) → ℕ → ℕ → List (Option ℕ)
noted table n flop = if is_none (slice_index_or table n None) then slice_set table n (Some flop) else table

-- what is read before what is left
abbrev pub with_front : {A : Type 0} → List A → Result (List A) ChoiceFault → Result (List A) ChoiceFault
with_front front rest = rest >>= λ rest. Ok (front ++ rest)

-- the bytes of some lines, without their line feeds
abbrev pub bytes_in : List (List ℕ) → ℕ
bytes_in lines = sum_by (λ line. length line) lines

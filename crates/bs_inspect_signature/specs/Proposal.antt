-- The proposal of a signature (docs/FORMATS.md, "Texts of `backspace_inspect`").
use Rattle.std.specs.Prelude.{ℕ, List, [], ◌++◌, length, map, codes, slice_index_or}
use Rattle.std.specs.List.{flat_map}
use Rattle.bs_bits.specs.Lines.{line}
use Rattle.bs_net.specs.Parts.{Parts}
use Rattle.bs_inspect_signature.specs.Mixed.{mixed_items}

-- the keys of the flip-flops, in the order of a state's bits
abbrev pub flop_keys : Parts → List (List ℕ)
flop_keys raw = map (λ f. slice_index_or raw.names f.q.0 []) raw.flops

-- a name behind a space
abbrev pub name_words : List (List ℕ) → ℕ → List ℕ
name_words keys flop = codes " " ++ slice_index_or keys flop []

-- an item in a signature file
abbrev pub xor_line : List (List ℕ) → List ℕ → List ℕ
xor_line keys item = line (codes "xor" ++ flat_map (name_words keys) item)

-- a proposal of so many items as a signature file, by the keys of the flip-flops
abbrev pub mixed_lines : List (List ℕ) → ℕ → List ℕ
mixed_lines keys count = flat_map (xor_line keys) (mixed_items (length keys) count)

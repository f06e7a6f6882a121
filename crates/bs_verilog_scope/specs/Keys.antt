-- The text of a name, and the keys of nets (docs/FORMATS.md, "Keys").
use Rattle.std.specs.Prelude.{ℕ, ◌+◌, ◌-◌, Bool, ◌&&◌, ◌||◌, nat_le, if◌then◌else◌, List, [], ◌∷◌, ◌++◌, map, codes, slice_index_or, Option, Some, None}
use Rattle.std.specs.List.{list_all, range_with_len}
use Rattle.std.specs.Fmt.{decimal}
use Rattle.bs_lex.specs.Bytes.{begins_name, is_of_name}
use Rattle.bs_lex.specs.Tokens.{first}
use Rattle.bs_lex.specs.declared.lexeme.Name.{Name}
use Rattle.bs_verilog_syntax.specs.declared.tree.Range.{Range}

-- names are numbered by their text, so equal numbers are equal names
abbrev pub text : List (List ℕ) → Name → List ℕ
text names n = slice_index_or names n.id []

-- the text has the form of a Name
abbrev pub is_plain : List ℕ → Bool
is_plain name = begins_name (first name) && list_all is_of_name name

unfoldable pub scalar_key : List ℕ → List ℕ
scalar_key name = if is_plain name then name else codes "\\" ++ name

unfoldable pub bit_key : List ℕ → ℕ → List ℕ
bit_key name i =
    let index = codes "[" ++ decimal i ++ codes "]" in
    if is_plain name then name ++ index else index ++ codes "\\" ++ name

abbrev pub constant_key : Bool → List ℕ
constant_key b = if b then codes "1'b1" else codes "1'b0"

-- how many bits a vector has: one of the differences is 0
abbrev pub width : Range → ℕ
width r = 1 + ((r.left - r.right) + (r.right - r.left))

-- the index of a vector's k-th bit, counted from 0 at the left bound
abbrev pub index_at : Range → ℕ → ℕ
index_at r k = if nat_le r.left r.right then r.left + k else r.left - k

-- the vector has a bit with this index
abbrev pub has_index : Range → ℕ → Bool
has_index r i = nat_le r.left i && nat_le i r.right || nat_le r.right i && nat_le i r.left

-- the keys of a declared net's bits: a vector's from the left bound to the right
unfoldable pub keys : List ℕ → Option Range → List (List ℕ)
keys name None = scalar_key name ∷ []
keys name (Some r) = map (λ k. bit_key name (index_at r k)) (range_with_len 0 (width r))

-- Worked files of names: the lines of a vector, of a bit and of both, and lines that are refused.
use Rattle.std.proofs.Common.{◌≡◌, ℕ, List, [], ◌∷◌, ◌++◌, Result, Ok, Err, refl}
use Rattle.std.specs.Prelude.{codes, decimal}
use Rattle.bs_inspect_names.specs.declared.fault.MapFault.{MapFault}
use Rattle.bs_inspect_names.specs.declared.fault.MapFault.TheVariants as M
use Rattle.bs_inspect_names.specs.Mapping.{map_in}

-- the names of `n[1]`, `n[0]` and `e`
abbrev names : List ℕ → Result (List (List ℕ)) MapFault
names text = map_in (codes "n[1]" ∷ codes "n[0]" ∷ codes "e" ∷ []) text

abbrev bit : List ℕ → ℕ → List ℕ
bit base n = base ++ (codes "[" ++ (decimal n ++ codes "]"))

vector : names (codes "n tb.m") ≡ Ok (bit (codes "tb.m") 1 ∷ bit (codes "tb.m") 0 ∷ codes "e" ∷ [])
vector = refl

ranges : names (codes "\\n[1:0] m[0:7]") ≡ Ok (bit (codes "m") 1 ∷ bit (codes "m") 0 ∷ codes "e" ∷ [])
ranges = refl

part : names (codes "n[0:0] m") ≡ Ok (codes "n[1]" ∷ bit (codes "m") 0 ∷ codes "e" ∷ [])
part = refl

own_line : names (codes "n m" ++ 10 ∷ codes "[0]\\n x") ≡ Ok (bit (codes "m") 1 ∷ codes "x" ∷ codes "e" ∷ [])
own_line = refl

beyond : names (codes "e x" ++ 10 ∷ codes "n m[2:1]") ≡ Err (M.Range 2)
beyond = refl

twice : names (codes "n[1:0] m" ++ 10 ∷ codes "n[1:1] x") ≡ Err (M.Twice 2)
twice = refl

apart : names (codes "n[1:1] m" ++ 10 ∷ codes "n[0:0] x") ≡ Ok (bit (codes "m") 1 ∷ bit (codes "x") 0 ∷ codes "e" ∷ [])
apart = refl

unknown : names (codes "n[3:2] m") ≡ Err (M.Unknown 1)
unknown = refl

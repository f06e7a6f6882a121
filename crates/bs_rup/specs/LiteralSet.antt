-- A set of codes: of the usual ones by their marks, and of the others by a search tree.
use Rattle.std.specs.Prelude.{◌≡◌, ℕ, ◌==◌, nat_lt, Bool, false, not, ◌||◌, ◌&&◌, List, length, slice_index_or, if◌then◌else◌}
use Rattle.std.specs.BTreeSet.{contains}
use Rattle.std.specs.Ordering.{nat_cmp}
use Rattle.bs_clause.specs.Literal.{Literal, code_of, has_literal}
use Rattle.bs_rup.specs.declared.marks.LiteralSet.{LiteralSet}

-- whether the code is in the set
abbrev pub is_marked : LiteralSet → ℕ → Bool
is_marked marks code =
    if nat_lt code (length marks.usual.items) then slice_index_or marks.usual.items code false
    else contains nat_cmp marks.others code

-- one code more
pub record Adds (before after : LiteralSet) (code : ℕ) : Type 0 where
  pub marked : (c : ℕ) → is_marked after c ≡ (code == c || is_marked before c)

-- the same codes
pub record IsSameSet (before after : LiteralSet) : Type 0 where
  pub marked : (c : ℕ) → is_marked after c ≡ is_marked before c

-- one code less
pub record Unmarks (before after : LiteralSet) (code : ℕ) : Type 0 where
  pub marked : (c : ℕ) → is_marked after c ≡ (not (code == c) && is_marked before c)

-- the codes of these literals less
pub record UnmarksAll (before after : LiteralSet) (literals : List Literal) : Type 0 where
  pub marked : (l : Literal) → is_marked after (code_of l) ≡ (not (has_literal literals l) && is_marked before (code_of l))

-- The refusals of a ring, and of more tops than one.
use Rattle.std.specs.Prelude.{◌≡◌, ℕ, ◌≤◌, List, [], length, Option, None, unwrap_or, slice_index_or, Err}
use Rattle.bs_flat_meaning.specs.declared.fault.FlatFault.{FlatFault}
use Rattle.bs_flat_meaning.specs.declared.statements.Written.{Written}
use Rattle.bs_flat_meaning.specs.Pieces.{Piece}
use Rattle.bs_flat_meaning.specs.Connecting.{ReadModule}
use Rattle.bs_flat_meaning.specs.Reading.{Answer}
use Rattle.bs_flat_meaning.specs.declared.ranks.Ranked as code
use Rattle.bs_flat_meaning.specs.Hierarchy.{AreOf, IsRankedSo}

-- the name of a module, where these are the numbers of the modules' names
abbrev pub name_of : List (List ℕ) → List (Option ℕ) → ℕ → List ℕ
name_of table ids n = slice_index_or table (unwrap_or (slice_index_or ids n None) 0) []

-- such modules make no ring, and one at most is a top
pub record HasOneTop (ids : List (Option ℕ)) (written : List (List Written)) (r : code.Ranked) : Type 0 where
  pub ranked : IsRankedSo ids written r
  pub one : length r.tops ≤ 1

-- such modules are answered with this refusal
pub record IsRefused (table : List (List ℕ)) (ids : List (Option ℕ)) (written : List (List Written)) (fault : FlatFault) : Type 0 where
  pub is : (ms : List Piece) (ks : List ReadModule) → AreOf ids written ms ks → Answer table ms ks (Err fault)

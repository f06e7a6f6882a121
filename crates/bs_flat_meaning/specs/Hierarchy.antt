-- What the modules of a text are to each other: a ring of them, or an order, children first, and those that none instances.
use Rattle.std.specs.Prelude.{false, ◌≡◌, ◌<◌, ◌≤◌, ℕ, List, length, map, Option, All}
use Rattle.bs_flat_meaning.specs.declared.statements.Written.{Written}
use Rattle.bs_flat_meaning.specs.Pieces.{Piece, name_id}
use Rattle.bs_flat_meaning.specs.Connecting.{ReadModule}
use Rattle.bs_flat_meaning.specs.Reading as reading
use Rattle.bs_flat_meaning.specs.Ring.{IsChildrenFirst}
use Rattle.bs_flat_meaning.specs.ModuleNumbers.{numbers_by}
use Rattle.bs_flat_meaning.specs.declared.ranks.Ranked as code
use Rattle.bs_flat_meaning.specs.declared.ranks.Hierarchy.{Hierarchy}
use Rattle.bs_flat_meaning.specs.declared.ranks.Hierarchy.TheVariants as kinds

-- the modules have names with these numbers, and write these instances
pub record AreOf (ids : List (Option ℕ)) (written : List (List Written)) (ms : List Piece) (ks : List ReadModule) : Type 0 where
  pub named : map name_id ms ≡ ids
  pub writes : map (λ k. k.written) ks ≡ written

-- such modules instance each other in this ring
pub record IsRingOf (ids : List (Option ℕ)) (written : List (List Written)) (ring : List ℕ) : Type 0 where
  pub is : (ms : List Piece) (ks : List ReadModule) → AreOf ids written ms ks → reading.IsRing ms ks ring

-- such modules make no ring, these are the ones that none instances, the order has each after those that it instances, and these are
-- the numbers of those
pub record IsRankedSo (ids : List (Option ℕ)) (written : List (List Written)) (r : code.Ranked) : Type 0 where
  pub no_ring : (ms : List Piece) (ks : List ReadModule) → AreOf ids written ms ks → reading.has_ring ms ks ≡ false
  pub tops : (ms : List Piece) (ks : List ReadModule) → AreOf ids written ms ks → r.tops ≡ reading.tops ms ks
  pub order : IsChildrenFirst (numbers_by ids written) r.order
  pub below : r.below ≡ numbers_by ids written
  pub there : All (λ ns. All (λ n. n < length ids) ns) r.below
  pub few : length r.tops ≤ length ids

abbrev pub IsHierarchy : List (Option ℕ) → List (List Written) → Hierarchy → Type 0
IsHierarchy ids written (kinds.Ringed ring) = IsRingOf ids written ring
IsHierarchy ids written (kinds.Ranked r) = IsRankedSo ids written r

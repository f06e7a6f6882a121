-- What a signature is taken of (docs/DEFINITIONS.md, "Signature").
use Rattle.std.specs.Prelude.{◌≡◌, ◌⊎◌, ℕ, ◌<◌, ◌≤◌, List, All, length}
use Rattle.std.specs.List.{sum_by}
use Rattle.bs_scan.specs.declared.choice.TheConstants.{MAX_ITEMS, MAX_ITEM_FLOPS}

-- the number of flip-flops, how many signatures the register keeps, and the items: the flip-flops of each, by number
pub record Chosen : Type 0 where
  pub width : ℕ
  pub depth : ℕ
  pub items : List (List ℕ)

-- how many signatures the register keeps
abbrev pub depth_of : Chosen → ℕ
depth_of choice = choice.depth

-- the register keeps the signature of the last state, or those of the last two
abbrev pub IsDepth : ℕ → Type 0
IsDepth depth = (depth ≡ 1) ⊎ (depth ≡ 2)

-- the same items with another depth
abbrev pub with_depth : Chosen → ℕ → Chosen
with_depth choice depth = record { width = choice.width; depth = depth; items = choice.items }

-- how many flip-flop numbers the items have in all
abbrev pub numbers_of : List (List ℕ) → ℕ
numbers_of items = sum_by (λ item. length item) items

-- it keeps one signature or two, the flip-flop numbers are below the width, and there are not too many items and numbers
pub record IsChoice (choice : Chosen) : Type 0 where
  pub kept : IsDepth choice.depth
  pub in_range : All (λ item. All (λ flop. flop < choice.width) item) choice.items
  pub few_items : length choice.items ≤ MAX_ITEMS
  pub few_numbers : numbers_of choice.items ≤ MAX_ITEM_FLOPS

-- The runs of each instance in the order of their nets.
use Rattle.std.specs.Prelude.{◌≡◌, ℕ, ◌+◌, ◌-◌, Bool, true, false, not, ◌&&◌, nat_eq, nat_le, List, [], ◌∷◌, Some, None}
use Rattle.std.specs.List.{flat_map, list_any}
use Rattle.bs_flat_meaning.specs.Design.{Join}
use Rattle.bs_flat_meaning.specs.Meaning.{joined_with}
use Rattle.bs_flat_nets.specs.Blocks.{joins_of_run}
use Rattle.bs_flat_nets.specs.Constants.{covers}
use Rattle.bs_flat_nets.specs.declared.blocks.FlatModule.{FlatModule}
use Rattle.bs_flat_nets.specs.declared.blocks.Child.{Child}
use Rattle.bs_flat_nets.specs.declared.blocks.JoinedNets.{JoinedNets}

-- whether runs stand in the order of their nets, the first no lower than a number, and none begins before the end of another
abbrev pub are_apart : ℕ → List JoinedNets → Bool
are_apart next [] = true
are_apart next (r ∷ rs) = nat_le next r.inner && are_apart (r.inner + r.width) rs

-- the net of the parent with which a run joins a net that it covers
abbrev pub outer_net : JoinedNets → ℕ → ℕ
outer_net r n = r.outer + (n - r.inner)

-- whether a run joins a net, and not with this one
abbrev pub joins_other : ℕ → ℕ → JoinedNets → Bool
joins_other n m r = covers r n && not (nat_eq (outer_net r n) m)

-- runs in order say of each net with which it is joined
pub record IsRow (js : List Join) (row : List JoinedNets) : Type 0 where
  pub apart : are_apart 0 row ≡ true
  pub none : (n : ℕ) → list_any (λ r. covers r n) row ≡ false → joined_with js n ≡ None
  pub some : (n m : ℕ) → list_any (λ r. covers r n) row ≡ true → list_any (joins_other n m) row ≡ false → joined_with js n ≡ Some m

-- two lists are of one length, and each two members at the same place are related
abbrev pub Beside : {X Y : Type 0} → (X → Y → Type 0) → List X → List Y → Type 0
Beside R [] [] = Unit {0}
Beside R [] (y ∷ ys) = ⊥
Beside R (x ∷ xs) [] = ⊥
Beside R (x ∷ xs) (y ∷ ys) = R x y × Beside R xs ys

-- the runs of a child in order, of each of a block's, and of each of each block's
abbrev pub IsChildRow : Child → List JoinedNets → Type 0
IsChildRow c row = IsRow (flat_map joins_of_run c.joins) row

abbrev pub AreBlockRows : FlatModule → List (List JoinedNets) → Type 0
AreBlockRows b rows = Beside IsChildRow b.children rows

abbrev pub AreRows : List FlatModule → List (List (List JoinedNets)) → Type 0
AreRows blocks rows = Beside AreBlockRows blocks rows

-- The signature register.
use Rattle.std.specs.Prelude.{◌≡◌, Bool, false, List, [], ◌∷◌, length, take, if◌then◌else◌}
use Rattle.bs_scan.specs.Choice.{Chosen, depth_of, IsDepth}
use Rattle.bs_scan.specs.Signature.{signature}

-- the signatures that the register holds, the last one first
pub record Register : Type 0 where
  pub choice : Chosen
  pub stored : List (List Bool)

abbrev pub cleared : Register → Register
cleared register = record { choice = register.choice; stored = [] }

-- a clock edge stores the signature of the state before it, and drops what is older than the depth
abbrev pub clocked : Register → List Bool → Register
clocked register state =
    record { choice = register.choice; stored = take (depth_of register.choice) (signature register.choice state ∷ register.stored) }

-- what a register shows: the bits of the last signature and of the older one, each where it is held
abbrev pub shown : Chosen → Bool → List Bool → Bool → List Bool → Register
shown choice held bits older_held older =
    record { choice = choice; stored = if held then bits ∷ (if older_held then older ∷ [] else []) else [] }

-- there is room for the last signature, and for the older one where two are kept, and none is held where one is kept
pub record IsRegister (choice : Chosen) (bits : List Bool) (older_held : Bool) (older : List Bool) : Type 0 where
  pub kept : IsDepth (depth_of choice)
  pub last : length bits ≡ length choice.items
  pub before : depth_of choice ≡ 2 → length older ≡ length choice.items
  pub alone : depth_of choice ≡ 1 → older_held ≡ false

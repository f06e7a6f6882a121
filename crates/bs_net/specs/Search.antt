-- A depth-first search over fan-in, which lists each gate after the gates that it reads.
use Rattle.std.specs.Prelude.{◌≡◌, ℕ, ◌<◌, ◌≤◌, ◌+◌, ◌-◌, Bool, true, ◌&&◌, List, [], ◌∷◌, ◌++◌, length, take, slice_index_or, slice_set, All, nat_eq}
use Rattle.std.specs.Prelude.{Option, Some, None, if◌then◌else◌, sum, map, replicate}
use Rattle.std.specs.List.{list_all, IsDistinct}
use Rattle.bs_net.specs.declared.net.NetId.{NetId}
use Rattle.bs_net.specs.declared.net.Gate.{Gate}
use Rattle.bs_net.specs.declared.search.GateMark.{GateMark}
use Rattle.bs_net.specs.declared.search.GateMark.TheVariants.{New, Open, Listed}
use Rattle.bs_net.specs.declared.search.OpenGate.{OpenGate}
use Rattle.bs_net.specs.declared.search.OpenGate.TheVariants.{Whole, Ready, Unlisted, OnPath}
use Rattle.bs_net.specs.Loops.{is_in, gate_at, feeds}

-- how far a search is: the mark of each gate, how many of its inputs are not examined, the open gates and the listed
-- ones, the newest first
pub record State : Type 0 where
  pub marks : List GateMark
  pub left : List ℕ
  pub path : List ℕ
  pub listed : List ℕ

-- the mark of a gate: listed, or open on the path, or new
abbrev pub mark_of : List ℕ → List ℕ → ℕ → GateMark
mark_of path listed g = if is_in g listed then Listed else if is_in g path then Open else New

-- ---- steps

-- gate h is opened
abbrev pub entered : State → ℕ → State
entered s h = record { marks = slice_set s.marks h Open; left = s.left; path = h ∷ s.path; listed = s.listed }

-- one more input of gate g is examined
abbrev pub advanced : State → ℕ → State
advanced s g = record { marks = s.marks; left = slice_set s.left g (slice_index_or s.left g 0 - 1); path = s.path; listed = s.listed }

-- the newest open gate is listed
abbrev pub closed_from : State → List ℕ → State
closed_from s [] = s
closed_from s (g ∷ rest) = record { marks = slice_set s.marks g Listed; left = s.left; path = rest; listed = g ∷ s.listed }

-- the same, for a path as it is
abbrev pub closed : State → State
closed s = closed_from s s.path

-- ---- what the search keeps

-- the gate that drives a net, where one does
abbrev pub driver_at : List (Option ℕ) → ℕ → Option ℕ
driver_at table n = slice_index_or table n None

-- the table has each gate at its output, and no other
pub record IsDriverTable (gates : List Gate) (table : List (Option ℕ)) : Type 0 where
  pub sound : (n g : ℕ) → driver_at table n ≡ Some g → (g < length gates) × ((gate_at gates g).out.0 ≡ n)
  pub complete : (g : ℕ) → g < length gates → driver_at table (gate_at gates g).out.0 ≡ Some g

-- whether a driver, where there is one, is listed
abbrev pub is_listed : List ℕ → Option ℕ → Bool
is_listed listed None = true
is_listed listed (Some g) = is_in g listed

-- the net is driven by no gate, or by a listed one
abbrev pub is_ready : List (Option ℕ) → List ℕ → NetId → Bool
is_ready table listed n = is_listed listed (driver_at table n.0)

-- the inputs of a gate that are examined
abbrev pub examined : List Gate → List ℕ → ℕ → List NetId
examined gates left g = take (length (gate_at gates g).ins - slice_index_or left g 0) (gate_at gates g).ins

-- each gate of the list feeds the next
abbrev pub feeds_down : List Gate → List ℕ → Bool
feeds_down gates [] = true
feeds_down gates (g ∷ []) = true
feeds_down gates (g ∷ h ∷ rest) = feeds gates g h && feeds_down gates (h ∷ rest)

-- each listed gate reads only nets that are driven by no gate, or by one that was listed before
abbrev pub lists_after : List Gate → List (Option ℕ) → List ℕ → Bool
lists_after gates table [] = true
lists_after gates table (g ∷ before) = list_all (is_ready table before) (gate_at gates g).ins && lists_after gates table before

-- the marks tell path and list, no gate is on both or twice, each open gate feeds the one opened before it, all examined inputs
-- are ready, and the list is in order
pub record IsSearch (gates : List Gate) (table : List (Option ℕ)) (s : State) : Type 0 where
  pub marks_placed : length s.marks ≡ length gates
  pub left_placed : length s.left ≡ length gates
  pub marks : (g : ℕ) → g < length gates → slice_index_or s.marks g New ≡ mark_of s.path s.listed g
  pub within : (g : ℕ) → g < length gates → slice_index_or s.left g 0 ≤ length (gate_at gates g).ins
  pub distinct : IsDistinct nat_eq (s.path ++ s.listed)
  pub placed : All (λ g. g < length gates) (s.path ++ s.listed)
  pub path : feeds_down gates s.path ≡ true
  pub ready : (g : ℕ) → g < length gates → list_all (is_ready table s.listed) (examined gates s.left g) ≡ true
  pub after : lists_after gates table s.listed ≡ true

-- what each step makes smaller
abbrev pub effort : List Gate → State → ℕ
effort gates s = sum s.left + (length gates - length s.listed) + (length gates - (length s.path + length s.listed))

-- ---- what a look finds

-- the newest open gate
abbrev pub top : State → ℕ
top s = slice_index_or s.path 0 0

-- a net with no meaning, which stands past the end of a list
abbrev pub no_net : NetId
no_net = record { 0 = 0 }

-- the next input of a gate to be examined
abbrev pub next_input : List Gate → State → ℕ → NetId
next_input gates s g = slice_index_or (gate_at gates g).ins (length (gate_at gates g).ins - slice_index_or s.left g 0) no_net

-- gate h feeds the newest open gate and is open itself
pub record ClosesLoop (gates : List Gate) (s : State) (h : ℕ) : Type 0 where
  pub open_gate : is_in h s.path ≡ true
  pub feeds_top : feeds gates h (top s) ≡ true

-- what a look at the newest open gate tells
abbrev pub Finds : List Gate → List (Option ℕ) → State → OpenGate → Type 0
Finds gates table s Whole = slice_index_or s.left (top s) 0 ≡ 0
Finds gates table s Ready = (0 < slice_index_or s.left (top s) 0) × (is_ready table s.listed (next_input gates s (top s)) ≡ true)
Finds gates table s (Unlisted h) = (h < length gates) × (slice_index_or s.marks h New ≡ New) × (feeds gates h (top s) ≡ true)
Finds gates table s (OnPath h) = ClosesLoop gates s h

-- the table has a place for each net that a gate reads
abbrev pub CoversInputs : List Gate → List (Option ℕ) → Type 0
CoversInputs gates table = All (λ g. All (λ n. n.0 < length table) g.ins) gates

-- no gate becomes new again
abbrev pub StayFound : State → State → Type 0
StayFound old new = (g : ℕ) → slice_index_or new.marks g New ≡ New → slice_index_or old.marks g New ≡ New

-- what a look finds by the mark of the gate that drives the next input
abbrev pub MarkFinds : GateMark → ℕ → OpenGate → Type 0
MarkFinds New h look = look ≡ Unlisted h
MarkFinds Open h look = look ≡ OnPath h
MarkFinds Listed h look = look ≡ Ready

-- the search before its first step
abbrev pub start : List Gate → State
start gates = record { marks = replicate (length gates) New; left = map (λ g. length g.ins) gates; path = []; listed = [] }

-- the table of drivers, filled by these gates, the first of which has the number i
abbrev pub filled : List (Option ℕ) → ℕ → List Gate → List (Option ℕ)
filled table i [] = table
filled table i (g ∷ gs) = filled (slice_set table g.out.0 (Some i)) (i + 1) gs

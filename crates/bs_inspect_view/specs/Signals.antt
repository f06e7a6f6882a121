-- Bits that make a vector, by their keys.
use Rattle.std.specs.Prelude.{◌≡◌, ℕ, ◌<◌, ◌+◌, ◌-◌, ◌==◌, ◌&&◌, ◌||◌, nat_le, Bool, false, List, [], ◌∷◌, ◌++◌, length, map}
use Rattle.std.specs.Prelude.{slice_index_or, All, Option, Some, None, if◌then◌else◌}
use Rattle.std.specs.List.{AllAdjacentBelow, flat_map, list_any}
use Rattle.std.specs.Str.{bytes_eq}
use Rattle.std.specs.List.Sorted.{IsPermutation, IsSorted}
use Rattle.std.specs.declared.cmp.Ordering.{Ordering}
use Rattle.std.specs.Ordering.{nat_cmp, ordering_then}
use Rattle.std.specs.Cmp.Lexicographic.{slice_cmp}
use Rattle.bs_net_names.specs.Keys.{KeyParts, key_parts}
use Rattle.bs_net_names.specs.Naming.{is_named}
use Rattle.bs_net_names.specs.Ranges.{range_text}
use Rattle.bs_inspect_view.specs.declared.signal.Member.{Member as CodeMember}
use Rattle.bs_inspect_view.specs.declared.signal.Signal.{Signal as CodeSignal}

-- a place of a list of keys, with what its key says
pub record Member : Type 0 where
  pub base : List ℕ
  pub bit : Option ℕ
  pub place : ℕ

abbrev pub member_in : CodeMember → Member
member_in s = record { base = s.base.now; bit = s.bit; place = s.place }

-- whether a bit is one of these names, or there are none
abbrev pub is_wanted : List (List ℕ) → KeyParts → Bool
is_wanted only parts = (length only == 0) || list_any (is_named parts) only

abbrev pub member_of : KeyParts → ℕ → Member
member_of parts place = record { base = parts.base; bit = parts.bit; place = place }

-- a place whose key is wanted
abbrev pub wanted : List (List ℕ) → List ℕ → ℕ → List Member
wanted only key place = if is_wanted only (key_parts key) then member_of (key_parts key) place ∷ [] else []

-- those of the keys that are wanted, in order, with places from this one on
abbrev pub members_from : List (List ℕ) → ℕ → List (List ℕ) → List Member
members_from only place [] = []
members_from only place (key ∷ keys) = wanted only key place ++ members_from only (place + 1) keys

abbrev pub members_of : List (List ℕ) → List (List ℕ) → List Member
members_of only keys = members_from only 0 keys

-- ---- signals

-- a net by itself, or consecutive bits of a vector from the one with the number `high` down; and the place of each
pub record Signal : Type 0 where
  pub base : List ℕ
  pub high : Option ℕ
  pub places : List ℕ

abbrev pub signal_in : CodeSignal → Signal
signal_in s = record { base = s.base.now; high = s.high; places = s.places }

abbrev pub lower : Option ℕ → Option ℕ
lower None = None
lower (Some n) = Some (n - 1)

-- the bits that a signal stands for
abbrev pub bits_from : List ℕ → Option ℕ → List ℕ → List Member
bits_from base high [] = []
bits_from base high (p ∷ ps) = (record { base = base; bit = high; place = p }) ∷ bits_from base (lower high) ps

abbrev pub bits_of : Signal → List Member
bits_of s = bits_from s.base s.high s.places

-- the bits of the code's signals
abbrev pub all_bits : List CodeSignal → List Member
all_bits signals = flat_map bits_of (map signal_in signals)

-- a bit is the next lower one of a signal
pub record GoesOn (s : Signal) (m : Member) : Type 0 where
  pub high : ℕ
  pub vector : s.high ≡ Some high
  pub next : m ≡ record { base = s.base; bit = Some (high - length s.places); place = m.place }

-- ---- their order, and where one ends

-- the number of a bit, and 0 for a net by itself
abbrev pub height : Option ℕ → ℕ
height None = 0
height (Some n) = n

-- by the bytes of the names, of one name the greater bit first, and of one bit the lower place first
abbrev pub member_cmp : Member → Member → Ordering
member_cmp a b =
    ordering_then (ordering_then (slice_cmp nat_cmp a.base b.base) (nat_cmp (height b.bit) (height a.bit))) (nat_cmp a.place b.place)

-- whether a bit is so many lower than the greatest one
abbrev pub is_below : Option ℕ → Option ℕ → ℕ → Bool
is_below None bit count = false
is_below (Some high) None count = false
is_below (Some high) (Some bit) count = nat_le count high && (bit == high - count)

-- whether a bit is the next lower one of a signal
abbrev pub goes_on : Signal → Member → Bool
goes_on s m = is_below s.high m.bit (length s.places) && bytes_eq s.base m.base

-- the first bit of a signal
abbrev pub first_of : Signal → Member
first_of s = record { base = s.base; bit = s.high; place = slice_index_or s.places 0 0 }

-- each signal has a bit, and none goes on with the first bit of the next one
pub record AreWhole (signals : List Signal) : Type 0 where
  pub some : All (λ s. 0 < length s.places) signals
  pub parted : AllAdjacentBelow (λ s t. goes_on s (first_of t) ≡ false) signals (length signals)

-- These signals are the bits of these keys that are wanted, each once, in the order of `member_cmp`. Bits of a vector that stand behind
-- one another, each the next lower one, are one signal.
pub record AreSignals (only keys : List (List ℕ)) (signals : List Signal) : Type 0 where
  pub sorted : List Member
  pub each_once : IsPermutation (members_of only keys) sorted
  pub bits : flat_map bits_of signals ≡ sorted
  pub in_order : IsSorted member_cmp sorted
  pub whole : AreWhole signals

-- the code's signals, each whole so far
abbrev pub AreWholeIn : List CodeSignal → Type 0
AreWholeIn signals = AreWhole (map signal_in signals)

-- the last of some signals does not go on with a bit
pub record EndsBefore (signals : List CodeSignal) (m : Member) : Type 0 where
  pub apart : (d : CodeSignal) → 0 < length signals → goes_on (signal_in (slice_index_or signals (length signals - 1) d)) m ≡ false

-- a signal may stand behind others
pub record MayFollow (signals : List CodeSignal) (next : Signal) : Type 0 where
  pub some : 0 < length next.places
  pub ends : EndsBefore signals (first_of next)

-- ---- the name of a signal

-- a net's key, or the name of a vector with its greatest and its least bit
abbrev pub name_text : Signal → List ℕ
name_text s = s.base ++ range_text s.high (length s.places)

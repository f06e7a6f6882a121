-- How many items are enough, by lists at moments of the runs (docs/FORMATS.md, "Texts of `backspace_inspect`").
use Rattle.std.specs.Prelude.{◌≡◌, ◌≢◌, ◌⊎◌, ℕ, ◌<◌, ◌+◌, not, nat_lt, ◌||◌, Bool, true, false, List, [], ◌∷◌, ◌++◌, length, slice_index_or, Some, None}
use Rattle.std.specs.List.{count_by}
use Rattle.bs_net.specs.Netlist.{circuit_of}
use Rattle.bs_net.specs.Parts.{Parts}
use Rattle.bs_stim.specs.Runs.{Stimulus, inputs_of}
use Rattle.bs_scan.specs.Choice.{Chosen}
use Rattle.bs_scan.specs.Moments.{Moment}
use Rattle.bs_inspect_signature.specs.MomentCount.{AreMomentCounts, count_cut, is_one, most_others, taken_of}
use Rattle.bs_inspect_signature.specs.Reading.{mixed_choice}
use Rattle.bs_inspect_signature.specs.declared.counting.ListPurpose.TheVariants.{Ones}
use Rattle.bs_inspect_signature.specs.declared.enough.EnoughItems.{EnoughItems}
use Rattle.bs_inspect_signature.specs.declared.enough.EnoughItems.TheVariants.{Number, NoneAt, NoneRead}
use Rattle.bs_inspect_signature.specs.declared.enough.ItemsVerdict.{ItemsVerdict}
use Rattle.bs_inspect_signature.specs.declared.enough.ItemsVerdict.TheVariants.{Suffices, GivenUp, Unread}
use Rattle.bs_inspect_signature.specs.declared.lists.MomentCount.{MomentCount}

-- how many lists are not of one predecessor: of none, of more, or cut
abbrev pub others : List MomentCount → ℕ
others all = count_by (λ entry. not (is_one entry.count)) all

-- a list is cut, or more are not of one predecessor than may be at so many moments
abbrev pub is_refuted : ℕ → List MomentCount → Bool
is_refuted taken lists = nat_lt 0 (count_cut lists) || nat_lt (most_others taken) (others lists)

-- how many moments are taken where numbers of items are tried
abbrev pub count_tried : Parts → Stimulus → ℕ
count_tried raw stimulus = taken_of Ones (length (circuit_of raw).flops) (inputs_of stimulus)

-- A proposal of so many items is enough: it is a signature, and of the lists at all moments that are taken none is cut, and few are not of
-- one predecessor.
pub record IsEnough (raw : Parts) (stimulus : Stimulus) (count : ℕ) : Type 0 where
  pub choice : Chosen
  pub is : Some choice ≡ mixed_choice raw count
  pub lists : List MomentCount
  pub counts : AreMomentCounts Ones (circuit_of raw) choice (inputs_of stimulus) lists
  pub taken : length lists ≡ count_tried raw stimulus
  pub few : is_refuted (count_tried raw stimulus) lists ≡ false

-- the last list is that at this moment
pub record EndsAt (lists : List MomentCount) (at : Moment) : Type 0 where
  pub before : List MomentCount
  pub last : MomentCount
  pub split : lists ≡ before ++ last ∷ []
  pub is : at ≡ last.moment

-- what lists say of a number of items, at so many moments that may be taken
pub record IsVerdict (taken : ℕ) (lists : List MomentCount) (verdict : ItemsVerdict) : Type 0 where
  pub suffices : verdict ≡ Suffices → is_refuted taken lists ≡ false
  pub refuted : (at : Moment) → verdict ≡ GivenUp at → is_refuted taken lists ≡ true
  pub ends : (at : Moment) → verdict ≡ GivenUp at → EndsAt lists at
  pub read : verdict ≢ Unread

-- it is a signature, and it is given up at this moment: with the list there one is cut, or too many are not of one predecessor
pub record IsGivenUp (raw : Parts) (stimulus : Stimulus) (count : ℕ) (at : Moment) : Type 0 where
  pub choice : Chosen
  pub is : Some choice ≡ mixed_choice raw count
  pub lists : List MomentCount
  pub counts : AreMomentCounts Ones (circuit_of raw) choice (inputs_of stimulus) lists
  pub many : is_refuted (count_tried raw stimulus) lists ≡ true
  pub ends : EndsAt lists at

-- it is given up at some moment
pub record IsGivenUpSome (raw : Parts) (stimulus : Stimulus) (count : ℕ) : Type 0 where
  pub at : Moment
  pub is : IsGivenUp raw stimulus count at

-- a proposal of so many items is not enough
abbrev pub IsTooFew : Parts → Stimulus → ℕ → Type 0
IsTooFew raw stimulus count = (None ≡ mixed_choice raw count) ⊎ IsGivenUpSome raw stimulus count

-- whether a number of items is enough
abbrev pub suffices : ItemsVerdict → Bool
suffices Suffices = true
suffices (GivenUp at) = false
suffices Unread = false

-- the answer where so many items are the last
abbrev pub answer_of : ℕ → ItemsVerdict → EnoughItems
answer_of count Suffices = Number count
answer_of count (GivenUp at) = NoneAt count at
answer_of count Unread = NoneRead

-- what is said of so many items
pub record IsJudged (raw : Parts) (stimulus : Stimulus) (count : ℕ) (verdict : ItemsVerdict) : Type 0 where
  pub suffices : verdict ≡ Suffices → IsEnough raw stimulus count
  pub given_up : (at : Moment) → verdict ≡ GivenUp at → IsGivenUp raw stimulus count at
  pub unread : verdict ≡ Unread → None ≡ mixed_choice raw count

-- this is the first of some numbers of items that is enough
pub record IsFirstEnough (raw : Parts) (stimulus : Stimulus) (numbers : List ℕ) (count : ℕ) : Type 0 where
  pub place : ℕ
  pub there : place < length numbers
  pub is : count ≡ slice_index_or numbers place 0
  pub enough : IsEnough raw stimulus count
  pub before : (i : ℕ) → i < place → IsTooFew raw stimulus (slice_index_or numbers i 0)

-- none of some numbers is enough, and the last is this one, and given up at this moment
pub record IsNoneAt (raw : Parts) (stimulus : Stimulus) (numbers : List ℕ) (count : ℕ) (at : Moment) : Type 0 where
  pub each : (i : ℕ) → i < length numbers → IsTooFew raw stimulus (slice_index_or numbers i 0)
  pub place : ℕ
  pub last : place + 1 ≡ length numbers
  pub is : count ≡ slice_index_or numbers place 0
  pub given_up : IsGivenUp raw stimulus count at

-- none of some numbers is enough, and a proposal with the last is no signature
pub record IsNoneRead (raw : Parts) (stimulus : Stimulus) (numbers : List ℕ) : Type 0 where
  pub each : (i : ℕ) → i < length numbers → IsTooFew raw stimulus (slice_index_or numbers i 0)
  pub last : (i : ℕ) → i + 1 ≡ length numbers → None ≡ mixed_choice raw (slice_index_or numbers i 0)

-- the first of some numbers of items that is enough, or that none is
pub record TellsEnough (raw : Parts) (stimulus : Stimulus) (numbers : List ℕ) (enough : EnoughItems) : Type 0 where
  pub some : (count : ℕ) → enough ≡ Number count → IsFirstEnough raw stimulus numbers count
  pub none_at : (count : ℕ) (at : Moment) → enough ≡ NoneAt count at → IsNoneAt raw stimulus numbers count at
  pub none_read : enough ≡ NoneRead → IsNoneRead raw stimulus numbers

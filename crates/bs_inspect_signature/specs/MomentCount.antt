-- How many predecessors the states at some moments have.
use Rattle.std.specs.Prelude.{◌≡◌, ◌⊎◌, ℕ, ◌<◌, ◌≤◌, ◌+◌, ◌-◌, ◌/◌, ◌^◌, max, nat_le, ◌==◌, Bool, true, false, List, [], ◌∷◌, length, map, take, All, None, if◌then◌else◌}
use Rattle.std.specs.List.{count_by, range_with_len, sum_by}
use Rattle.bs_scan.specs.declared.seen.Seen.{Seen}
use Rattle.bs_scan.specs.Seen.{whole}
use Rattle.bs_clause.specs.Literal.{Literal}
use Rattle.bs_clause.specs.Range.{HasVariables}
use Rattle.bs_clause.specs.UnitRun.{IsUnitRun}
use Rattle.bs_net.specs.Circuit.{Circuit}
use Rattle.bs_scan.specs.Choice.{Chosen}
use Rattle.bs_scan.specs.Moments.{Run, run_of, state_of}
use Rattle.bs_scan.specs.Signature.{predecessors, stored_at}
use Rattle.bs_scan.specs.Present.{Present}
use Rattle.bs_encode.specs.Assuming.{assumptions_for, asking}
use Rattle.bs_encode.specs.Depth.{encoding_by}
use Rattle.bs_encode.specs.Encoded.{Encoded}
use Rattle.bs_report.specs.declared.report.Cand.{Cand}
use Rattle.bs_report.specs.declared.report.ListEnd.{ListEnd}
use Rattle.bs_report.specs.declared.report.ListEnd.TheVariants.{Finished, Candidates, Conflicts}
use Rattle.bs_report.specs.Step.{Ascend, IsCandidate, listed}
use Rattle.bs_inspect_signature.specs.Spread.{count_taken, later_moments, moment_taken}
use Rattle.bs_inspect_signature.specs.declared.counting.ListPurpose.{ListPurpose}
use Rattle.bs_inspect_signature.specs.declared.counting.ListPurpose.TheVariants.{Numbers, Ones}
use Rattle.bs_inspect_signature.specs.declared.counting.TheConstants.{MAX_LEMMAS, MAX_LISTED, MAX_TRY_LEMMAS, MAX_TRY_LISTED}
use Rattle.bs_inspect_signature.specs.declared.lists.TheConstants.{MAX_LISTED_BITS, MAX_TRY_WIDTH, OTHERS_PART}
use Rattle.bs_inspect_signature.specs.declared.spread.TheConstants.{MAX_MOMENTS, MAX_TRY_MOMENTS}
use Rattle.bs_inspect_signature.specs.declared.counting.PredecessorCount.{PredecessorCount}
use Rattle.bs_inspect_signature.specs.declared.counting.PredecessorCount.TheVariants.{Whole, More, Spent}
use Rattle.bs_inspect_signature.specs.declared.lists.MomentCount.{MomentCount}

-- how many members a list may have
abbrev pub most_listed : ListPurpose → ℕ
most_listed Numbers = MAX_LISTED
most_listed Ones = MAX_TRY_LISTED

-- how many lemmas a solve may log
abbrev pub most_lemmas : ListPurpose → ℕ
most_lemmas Numbers = MAX_LEMMAS
most_lemmas Ones = MAX_TRY_LEMMAS

-- what a list counts, by its end
abbrev pub counted_as : List Cand → ListEnd → PredecessorCount
counted_as cands (Finished id) = Whole (length cands)
counted_as cands Candidates = More
counted_as cands Conflicts = Spent (length cands)

-- Whole: these are all that were asked for. More: they are one more than a list may have. Spent: the search for the next one was given up.
abbrev pub Counts : ListPurpose → List (List Bool) → List Cand → PredecessorCount → Type 0
Counts aim asked cands (Whole n) = (listed cands ≡ asked) × (n ≡ length cands)
Counts aim asked cands More = length cands ≡ most_listed aim + 1
Counts aim asked cands (Spent n) = (n ≡ length cands) × (length cands ≤ most_listed aim)

-- the lemmas that a solve may log may be too few: the variables that a unit run over the clauses and what a step assumes leaves open
-- have more values than that, whatever unit run it is
pub record IsHard (lemmas : ℕ) (e : Encoded) (asked : Present) : Type 0 where
  pub activation : Literal
  pub many : (run : List Literal) → HasVariables e.variables run → IsUnitRun e.clauses (assumptions_for e activation asked) run →
      lemmas < 2 ^ (e.variables - length run)

-- one signature is stored, and the search for what agrees with it is hard
pub record IsHardFor (lemmas : ℕ) (c : Circuit) (choice : Chosen) (present : Seen) (stored : List (List Bool)) : Type 0 where
  pub held : List Bool
  pub is : stored ≡ held ∷ []
  pub hard : IsHard lemmas (encoding_by c choice) (asking present held None)

-- the number is that of a list of predecessors that agree with the stored signatures; the search was given up only where it is hard
pub record IsCountOf (aim : ListPurpose) (c : Circuit) (choice : Chosen) (present : Seen) (stored : List (List Bool)) (count : PredecessorCount) : Type 0 where
  pub cands : List Cand
  pub ascend : Ascend (listed cands)
  pub right : All (IsCandidate c choice present stored) cands
  pub is : Counts aim (predecessors c choice present stored) cands count
  pub spent : (n : ℕ) → count ≡ Spent n → IsHardFor (most_lemmas aim) c choice present stored

-- the same of a moment's state and of what the register holds there
abbrev pub IsMomentCount : ListPurpose → Circuit → Chosen → List Run → MomentCount → Type 0
IsMomentCount aim c choice runs entry =
    IsCountOf aim c choice (whole (state_of c runs entry.moment)) (stored_at c choice (run_of runs entry.moment.run) entry.moment.cycle) entry.count

-- how many are counted: of a list that was cut those that it has, up to `MAX_LISTED`
abbrev pub number_of : PredecessorCount → ℕ
number_of (Whole n) = n
number_of More = MAX_LISTED
number_of (Spent n) = n

abbrev pub is_cut : PredecessorCount → Bool
is_cut (Whole n) = false
is_cut More = true
is_cut (Spent n) = true

-- how many lists were cut
abbrev pub count_cut : List MomentCount → ℕ
count_cut all = count_by (λ entry. is_cut entry.count) all

-- whether there is one predecessor, and no other
abbrev pub is_one : PredecessorCount → Bool
is_one (Whole n) = n == 1
is_one More = false
is_one (Spent n) = false

-- How much of the room a list takes that was not cut: that of its members, or 1 where it is not of one predecessor.
abbrev pub whole_weight : ListPurpose → PredecessorCount → ℕ
whole_weight Numbers count = number_of count
whole_weight Ones count = if is_one count then 0 else 1

-- How much of the room a list takes: one that was cut as much as a longest one.
abbrev pub weight_of : ListPurpose → PredecessorCount → ℕ
weight_of aim count = if is_cut count then MAX_LISTED else whole_weight aim count

abbrev pub weights_of : ListPurpose → List MomentCount → ℕ
weights_of aim all = sum_by (λ entry. weight_of aim entry.count) all

-- how many moments may be taken, by the number of flip-flops
abbrev pub most_moments : ListPurpose → ℕ → ℕ
most_moments Numbers width = MAX_MOMENTS
most_moments Ones width = if nat_le width MAX_TRY_WIDTH then MAX_TRY_MOMENTS else MAX_MOMENTS

-- how many are taken
abbrev pub taken_of : ListPurpose → ℕ → List Run → ℕ
taken_of aim width runs = count_taken (most_moments aim width) (length (later_moments runs))

-- how many lists at so many moments may not be of one predecessor
abbrev pub most_others : ℕ → ℕ
most_others taken = taken / OTHERS_PART

-- how much room there is for all lists, by the number of flip-flops and by how many moments are taken
abbrev pub room_of : ListPurpose → (width taken : ℕ) → ℕ
room_of Numbers width taken = MAX_LISTED_BITS / max width 1
room_of Ones width taken = most_others taken + 1

-- The first of the moments that are taken are counted, in their order: a further one while those before leave room.
pub record AreMomentCounts (aim : ListPurpose) (c : Circuit) (choice : Chosen) (runs : List Run) (all : List MomentCount) : Type 0 where
  pub moments : map (λ entry. entry.moment) all ≡ map (moment_taken (most_moments aim (length c.flops)) (later_moments runs)) (range_with_len 0 (length all))
  pub each : All (IsMomentCount aim c choice runs) all
  pub few : length all ≤ taken_of aim (length c.flops) runs
  pub begun : (i : ℕ) → i < length all → weights_of aim (take i all) < room_of aim (length c.flops) (taken_of aim (length c.flops) runs)
  pub ended :
      (length all ≡ taken_of aim (length c.flops) runs)
      ⊎ (room_of aim (length c.flops) (taken_of aim (length c.flops) runs) ≤ weights_of aim all)

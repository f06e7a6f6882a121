-- What is counted, cycle by cycle.
use Rattle.std.specs.Prelude.{◌≡◌, ℕ, ◌+◌, ◌-◌, ◌*◌, ◌^◌, ◌≤◌, nat_lt, nat_le, ◌==◌, ◌&&◌, Bool, List, [], ◌∷◌, ◌++◌, length, fold, min, slice_index_or, Option, None, Result, Ok, if◌then◌else◌}
use Rattle.std.specs.Option.{option_or, unwrap_or}
use Rattle.bs_bits.specs.Reading.{◌>>=◌}
use Rattle.bs_net.specs.Circuit.{Circuit, next}
use Rattle.bs_scan.specs.Moments.{Run, state_at}
use Rattle.bs_vcd_header.specs.declared.fault.VcdFault.{VcdFault}
use Rattle.bs_vcd_header.specs.declared.sources.BitSource.{BitSource}
use Rattle.bs_vcd.specs.History.{History, Moment, time_if}
use Rattle.bs_vcd.specs.Levels.{Known, known_in}
use Rattle.bs_vcd.specs.Sampled.{or_fault, rises}
use Rattle.bs_vcd.specs.Watching.{known_after}
use Rattle.bs_inspect_check.specs.declared.flops.FlopComparison.{FlopComparison}
use Rattle.bs_inspect_check.specs.declared.level.FlopLevel.{FlopLevel}
use Rattle.bs_inspect_check.specs.declared.tally.CycleEnd.{CycleEnd}
use Rattle.bs_inspect_check.specs.declared.tally.RunTally.{RunTally as CodeTally}
use Rattle.bs_inspect_check.specs.declared.walk.RunWatch.{RunWatch as CodeWatch}
use Rattle.bs_inspect_check.specs.Flops.{agreeing, count_unknown, differs, first_different, shared, sum_unknown}
use Rattle.bs_inspect_check.specs.Samples.{levels_by}

-- ---- a run that is replayed

-- a machine, a run, and a state of it
pub record Replayed : Type 0 where
  pub circuit : Circuit
  pub run : Run
  pub state : List Bool

abbrev pub in_state : Replayed → List Bool → Replayed
in_state r state = record { circuit = r.circuit; run = r.run; state = state }

-- the state behind that of a cycle, where the run goes on
abbrev pub next_state : Circuit → Run → ℕ → List Bool → List Bool
next_state c run cycle state = if nat_lt cycle (length run) then next c state (slice_index_or run cycle []) else state

-- ---- what is counted

-- 1 where it is so, and else 0
abbrev pub one_if : Bool → ℕ
one_if is = if is then 1 else 0

-- how many cycles have ended, how many agree before the first one that differs, how many bits are unknown in these, that one if there is
-- one, and the state in which the run stands
pub record RunTally : Type 0 where
  pub ended : ℕ
  pub agreed : ℕ
  pub unknown : ℕ
  pub differing : List CycleEnd
  pub state : List Bool

abbrev pub tally_in : CodeTally → List Bool → RunTally
tally_in t state =
    record { ended = t.ended; agreed = t.agreed; unknown = t.unknown; differing = t.differing; state = state }

-- the cycle that ends is one of the run's, and none before it differs
abbrev pub is_open : ℕ → (ended : ℕ) → List CycleEnd → Bool
is_open cycles ended differing = (length differing == 0) && nat_le ended cycles

abbrev pub passed : RunTally → RunTally
passed t = record { ended = t.ended + 1; agreed = t.agreed; unknown = t.unknown; differing = t.differing; state = t.state }

abbrev pub different : RunTally → List FlopLevel → RunTally
different t levels =
    record {
      ended = t.ended + 1;
      agreed = t.agreed;
      unknown = t.unknown;
      differing = t.differing ++ (record { cycle = t.ended; state = t.state; levels = levels }) ∷ [];
      state = t.state;
    }

abbrev pub agreed : RunTally → ℕ → List Bool → RunTally
agreed t unknown state =
    record { ended = t.ended + 1; agreed = t.agreed + 1; unknown = t.unknown + unknown; differing = t.differing; state = state }

-- what comes of the end of a cycle
abbrev pub looked : Circuit → Run → RunTally → List FlopLevel → RunTally
looked c run t levels =
    if differs t.state levels then different t levels else agreed t (count_unknown levels) (next_state c run t.ended t.state)

abbrev pub stepped : Circuit → Run → RunTally → List FlopLevel → RunTally
stepped c run t levels = if is_open (length run) t.ended t.differing then looked c run t levels else passed t

-- what is counted by the ends of cycles
abbrev pub tally_of : Circuit → Run → List (List FlopLevel) → RunTally
tally_of c run all =
    record {
      ended = length all;
      agreed = length (agreeing (shared c run all));
      unknown = sum_unknown (agreeing (shared c run all));
      differing = first_different (shared c run all);
      state = state_at c run (min (length (agreeing (shared c run all))) (length run));
    }

-- the counts are small
pub record IsSmall (t : CodeTally) : Type 0 where
  pub agreed : t.agreed ≤ t.ended
  pub unknown : t.unknown ≤ t.agreed * 2 ^ 32

-- ---- from moment to moment

-- the time of the first change so far, what is known, and what is counted
pub record RunWatch : Type 0 where
  pub first : Option ℕ
  pub known : Known
  pub tally : RunTally

abbrev pub watch_in : CodeWatch → List Bool → RunWatch
watch_in w state = record { first = w.first; known = known_in w.known; tally = tally_in w.tally state }

-- what is counted at the end of a moment
abbrev pub closed : BitSource → List (Option BitSource) → Circuit → Run → Known → Known → RunTally → RunTally
closed clock sources c run before behind t = if rises clock before behind then stepped c run t (levels_by sources before) else t

-- the moment behind
abbrev pub moved : BitSource → List (Option BitSource) → Circuit → Run → RunWatch → Moment → RunWatch
moved clock sources c run w m =
    record {
      first = option_or w.first (time_if m.changes m.time);
      known = known_after w.known m.changes;
      tally = closed clock sources c run w.known (known_after w.known m.changes) w.tally;
    }

-- behind all moments, where the text has no fault
abbrev pub walked : BitSource → List (Option BitSource) → Circuit → Run → RunWatch → History → Result RunWatch VcdFault
walked clock sources c run w h = or_fault h.fault (fold (moved clock sources c run) w h.moments)

-- the end of the text ends the last cycle
abbrev pub lasted : List (Option BitSource) → Circuit → Run → RunWatch → RunWatch
lasted sources c run w = record { first = w.first; known = w.known; tally = stepped c run w.tally (levels_by sources w.known) }

-- all cycles
abbrev pub whole : BitSource → List (Option BitSource) → Circuit → Run → RunWatch → History → Result RunWatch VcdFault
whole clock sources c run w h = walked clock sources c run w h >>= λ v. Ok (lasted sources c run v)

-- nothing is known and counted before the first moment
pub record IsBegin (w : CodeWatch) : Type 0 where
  pub first : w.first ≡ None
  pub known : known_in w.known ≡ λ id. None
  pub tally : w.tally ≡ record { ended = 0; agreed = 0; unknown = 0; differing = [] }

-- what is counted, as an answer
abbrev pub comparison_in : (cycles : ℕ) → (found : List Bool) → CodeWatch → FlopComparison
comparison_in cycles found w =
    record {
      cycles = cycles;
      edges = w.tally.ended - 1;
      begin = unwrap_or w.first 0;
      agreed = w.tally.agreed;
      unknown = w.tally.unknown;
      differing = w.tally.differing;
      found = found;
    }

abbrev pub comparison_by : (cycles : ℕ) → (found : List Bool) → RunWatch → FlopComparison
comparison_by cycles found w =
    record {
      cycles = cycles;
      edges = w.tally.ended - 1;
      begin = unwrap_or w.first 0;
      agreed = w.tally.agreed;
      unknown = w.tally.unknown;
      differing = w.tally.differing;
      found = found;
    }

-- How an answer that few time frames gave is one of more time frames.
use Rattle.std.specs.Prelude.{ℕ, ◌+◌, ◌-◌, ◌*◌, nat_le, Bool, true, false, ◌&&◌, List, length}
use Rattle.bs_scan.specs.declared.seen.Seen.{Seen}
use Rattle.bs_log.specs.declared.line.Line.{Line}
use Rattle.bs_net.specs.Circuit.{Circuit}
use Rattle.bs_encode.specs.Encoded.{Encoded}
use Rattle.bs_reach.specs.declared.offsets.Shift.{Shift}
use Rattle.bs_reach.specs.declared.reach.Outcome.{Outcome}
use Rattle.bs_reach.specs.declared.reach.Outcome.TheVariants.{Reached, Unreached, Unknown}
use Rattle.bs_reach.specs.declared.wider.TheConstants.{ID_ROOM}
use Rattle.bs_reach.specs.declared.wider.FewFrames.{FewFrames}
use Rattle.bs_reach.specs.declared.wider.FewFrames.TheVariants.{Verdict, More, Whole}
use Rattle.bs_reach.specs.Reach.{IsReach}

-- where the unrolled clauses of j cycles, and what a log adds to them, stand in the list of k cycles
abbrev pub shift_between : Encoded → ℕ → ℕ → Shift
shift_between e j k =
    record {
      vars = j * e.variables;
      vars_by = (k - j) * e.variables;
      front = j * length e.clauses;
      front_by = (k - j) * length e.clauses;
      listed = j * length e.clauses + (length e.states + (j - 1) * (2 * length e.states));
      listed_by = (k - j) * length e.clauses + (k - j) * (2 * length e.states);
    }

-- whether the ids of a time frame's clauses and of the lines are small
abbrev pub has_small_ids : Encoded → List Line → Bool
has_small_ids e log = nat_le (length e.clauses) ID_ROOM && nat_le (length e.states) ID_ROOM && nat_le (length log) ID_ROOM

abbrev pub is_reached : Outcome → Bool
is_reached (Reached j) = true
is_reached Unreached = false
is_reached (Unknown j) = false

-- what is told is a right answer
abbrev pub LookFits : Circuit → Seen → ℕ → ℕ → FewFrames → Type 0
LookFits c p k b (Verdict r) = IsReach c p k b r
LookFits c p k b More = Unit {0}
LookFits c p k b Whole = Unit {0}

-- The way of a run itself to a present that is known in part.
use Rattle.std.specs.Prelude.{◌≡◌, ℕ, ◌+◌, ◌==◌, ◌&&◌, Bool, true, false, List, [], slice_index_or, Option, Some, None}
use Rattle.bs_bits.specs.Bits.{bits_eq}
use Rattle.bs_scan.specs.declared.dump.Dump.{Dump}
use Rattle.bs_scan.specs.declared.seen.Seen.{Seen}
use Rattle.bs_scan.specs.Seen.{is_shown}
use Rattle.bs_scan.specs.Crash.{Recording, dump_at}
use Rattle.bs_scan.specs.Moments.{moment, IsMoment, run_of, state_at}
use Rattle.bs_report.specs.declared.report.Cand.{Cand}

-- whether what a register holds is this signature
abbrev pub held_is : Option (List Bool) → List Bool → Bool
held_is None stored = false
held_is (Some held) stored = bits_eq held stored

-- whether a dump shows a present, and its register holds the stored signature and keeps no other
abbrev pub is_asked : Dump → Seen → List Bool → Bool
is_asked dump present stored = (dump.depth == 1) && held_is dump.stored stored && is_shown present dump.state.bits

-- the state of a run at a cycle with its recorded input
abbrev pub own_cand : Recording → ℕ → ℕ → Cand
own_cand r run cycle =
    record { state = state_at r.circuit (run_of r.runs run) cycle; input = slice_index_or (run_of r.runs run) cycle []; before = None }

-- the candidate is that of a moment, whose run goes on to a dump that is asked about
pub record IsOwn (r : Recording) (present : Seen) (stored : List Bool) (run cycle : ℕ) (cand : Cand) : Type 0 where
  pub is : cand ≡ own_cand r run cycle
  pub next : IsMoment r.runs (moment run (cycle + 1))
  pub asked : is_asked (dump_at r (moment run (cycle + 1))) present stored ≡ true

-- What a walk made ready has as many cycles as were asked for.
use Rattle.std.proofs.Common.{◌≡◌, inl, inr, ℕ, Bool, List, Result, Ok, Err, ap}
use Rattle.bs_scan.specs.declared.seen.Seen.{Seen}
use Rattle.bs_net.specs.Parts.{Parts}
use Rattle.bs_outside.specs.Calls.{FetchCall}
use Rattle.bs_outside.specs.declared.file.File.TheVariants as files
use Rattle.bs_outside.specs.Plan.{Tells, Counts, Ends, PlanOutcome, ready, refused, faulted, Reason, ◌>>=◌, end, read_as}
use Rattle.bs_outside.specs.Telling.{WalksDiagnosed}
use Rattle.bs_top_files.specs.Causes.{Case, CheckSays, NoteSays}
use Rattle.bs_top_files.specs.Readings.{netlist_in}
use Rattle.bs_top_reach.specs.declared.target.Target.{Target as CodeTarget}
use Rattle.bs_top_reach.specs.Shown.{target_in}
use Rattle.bs_top_reach.specs.Target.{Target, room_in, sized_step, stated_step, state_in, target_of}

-- the cycles of what is ready
abbrev cycles_in : PlanOutcome Case Target → ℕ
cycles_in (ready t) = t.cycles
cycles_in (refused file why) = 0
cycles_in (faulted file) = 0

of_sized : (told : Tells) (before now : Counts) (raw : Parts) (state : Seen) (cycles : ℕ) (t : Target) (fits : Result Bool (Reason Case)) →
    Ends told before now (read_as files.Netlist fits >>= (λ (b : Bool). end record { raw = raw; state = state; cycles = cycles })) (ready t) → t.cycles ≡ cycles
of_sized told before now raw state cycles t (Ok b) e = ap cycles_in e
of_sized told before now raw state cycles t (Err why) e = absurd cc

of_stated : (told : Tells) (before now : Counts) (raw : Parts) (cycles : ℕ) (t : Target) (seen : Result Seen (Reason Case)) →
    Ends told before now (read_as files.State seen >>= (λ (s : Seen). sized_step raw s cycles)) (ready t) → t.cycles ≡ cycles
of_stated told before now raw cycles t (Ok s) e = of_sized told before now raw s cycles t (room_in raw cycles) e
of_stated told before now raw cycles t (Err why) e = absurd cc

of_read : (told : Tells) (before now : Counts) (state : List ℕ) (cycles : ℕ) (t : Target) (read : Result Parts (Reason Case)) →
    Ends told before now (read_as files.Netlist read >>= (λ (raw : Parts). stated_step raw state cycles)) (ready t) → t.cycles ≡ cycles
of_read told before now state cycles t (Ok raw) e = of_stated told before now raw cycles t (state_in raw state) e
of_read told before now state cycles t (Err why) e = absurd cc

of_plan : (told : Tells) (before now : Counts) (netlist state : List ℕ) (cycles : ℕ) (t : Target) →
    Ends told before now (target_of netlist state cycles) (ready t) → t.cycles ≡ cycles
of_plan told before now netlist state cycles t (inl (bytes, comes, rest)) = of_read told before now state cycles t (netlist_in netlist bytes) rest
of_plan told before now netlist state cycles t (inr (inl (over, ended))) = absurd cc
of_plan told before now netlist state cycles t (inr (inr (rose, ended))) = absurd cc

pub cycles_asked : {S : Type 0} (held : S → Tells) (faults : S → Counts) (leads : S → FetchCall → S → Type 0) (before now : S)
    (netlist state : List ℕ) (cycles : ℕ) (t : CodeTarget) →
    WalksDiagnosed CheckSays NoteSays held faults leads before now (target_of netlist state cycles) target_in (Ok t) →
    t.cycles ≡ cycles
cycles_asked held faults leads before now netlist state cycles t walks =
    of_plan (held before) (faults before) (faults now) netlist state cycles (target_in t) walks.line.1

-- Which words are a job, and which job they are (docs/FORMATS.md, "Command words").
use Rattle.std.specs.Prelude.{ℕ, ◌^◌, ◌-◌, ◌==◌, ◌||◌, Bool, true, false, List, [], ◌∷◌, codes, Option, Some, None, if◌then◌else◌}
use Rattle.std.specs.List.{list_all}
use Rattle.std.specs.Option.{option_map, option_and_then, unwrap_or}
use Rattle.std.specs.Str.{bytes_eq}
use Rattle.bs_stim.specs.declared.limits.TheConstants.{MAX_RUNS, MAX_CYCLES}
use Rattle.bs_top_words.specs.declared.limits.TheConstants.{DEFAULT_STEPS, DEFAULT_CANDIDATES, DEFAULT_CONFLICTS, MAX_BOUND}
use Rattle.bs_top_words.specs.Options.{number_between}
use Rattle.bs_top_words.specs.CommandLine.{CommandLine, read_line}

-- the files and budgets of `run`
pub record RunJob : Type 0 where
  pub netlist : List ℕ
  pub signature : List ℕ
  pub stimulus : List ℕ
  pub dump : List ℕ
  pub steps : ℕ
  pub candidates : ℕ
  pub conflicts : ℕ

-- the files of `audit` and `wave`
pub record AuditJob : Type 0 where
  pub netlist : List ℕ
  pub signature : List ℕ
  pub stimulus : List ℕ
  pub dump : List ℕ
  pub report : List ℕ

-- the files and the moment of `dump`
pub record DumpJob : Type 0 where
  pub netlist : List ℕ
  pub signature : List ℕ
  pub stimulus : List ℕ
  pub run : ℕ
  pub cycle : ℕ

-- the file of `reach`, the word of its state, its cycles and its budget
pub record ReachJob : Type 0 where
  pub netlist : List ℕ
  pub state : List ℕ
  pub cycles : ℕ
  pub conflicts : ℕ

pub data Job : Type 0 where
  Run : RunJob → Job
  Audit : AuditJob → Job
  Dump : DumpJob → Job
  Demo : ℕ → Job
  Wave : AuditJob → Job
  Reach : ReachJob → Job

-- `run` has four file names, and a budget that is not given has its default
abbrev pub run_at : CommandLine → List (List ℕ) → Option Job
run_at line (netlist ∷ signature ∷ stimulus ∷ dump ∷ []) = Some (Run record {
  netlist = netlist;
  signature = signature;
  stimulus = stimulus;
  dump = dump;
  steps = unwrap_or line.steps DEFAULT_STEPS;
  candidates = unwrap_or line.candidates DEFAULT_CANDIDATES;
  conflicts = unwrap_or line.conflicts DEFAULT_CONFLICTS;
})
run_at line _ = None

abbrev pub run_job : CommandLine → Option Job
run_job line = run_at line line.positions

-- `audit` has five file names
abbrev pub audit_at : List (List ℕ) → Option Job
audit_at (netlist ∷ signature ∷ stimulus ∷ dump ∷ report ∷ []) =
    Some (Audit record { netlist = netlist; signature = signature; stimulus = stimulus; dump = dump; report = report })
audit_at _ = None

abbrev pub audit_job : CommandLine → Option Job
audit_job line = audit_at line.positions

abbrev pub dump_of : List ℕ → List ℕ → List ℕ → Option ℕ → Option ℕ → Option Job
dump_of netlist signature stimulus (Some run) (Some cycle) =
    Some (Dump record { netlist = netlist; signature = signature; stimulus = stimulus; run = run; cycle = cycle })
dump_of netlist signature stimulus (Some run) None = None
dump_of netlist signature stimulus None cycle = None

-- `dump` has three file names, a run from 1 and a cycle from 0
abbrev pub dump_at : List (List ℕ) → Option Job
dump_at (netlist ∷ signature ∷ stimulus ∷ run ∷ cycle ∷ []) =
    dump_of netlist signature stimulus (number_between 1 MAX_RUNS run) (number_between 0 MAX_CYCLES cycle)
dump_at _ = None

abbrev pub dump_job : CommandLine → Option Job
dump_job line = dump_at line.positions

-- `demo` has one number below 2 ^ 64
abbrev pub demo_at : List (List ℕ) → Option Job
demo_at (number ∷ []) = option_map (λ (n : ℕ). Demo n) (number_between 0 (2 ^ 64 - 1) number)
demo_at _ = None

abbrev pub demo_job : CommandLine → Option Job
demo_job line = demo_at line.positions

-- `wave` has the five file names of `audit`
abbrev pub wave_at : List (List ℕ) → Option Job
wave_at (netlist ∷ signature ∷ stimulus ∷ dump ∷ report ∷ []) =
    Some (Wave record { netlist = netlist; signature = signature; stimulus = stimulus; dump = dump; report = report })
wave_at _ = None

abbrev pub wave_job : CommandLine → Option Job
wave_job line = wave_at line.positions

-- a state: one or more characters 0, 1 and -, which says that a bit is not known
abbrev pub is_bit : ℕ → Bool
is_bit c = c == 48 || c == 49

abbrev pub is_mark : ℕ → Bool
is_mark c = is_bit c || c == 45

abbrev pub is_state : List ℕ → Bool
is_state [] = false
is_state (c ∷ cs) = list_all is_mark (c ∷ cs)

-- where the word is a state and the number one of cycles
abbrev pub reach_of : List ℕ → List ℕ → ℕ → Bool → Option ℕ → Option Job
reach_of netlist state conflicts true (Some cycles) =
    Some (Reach record { netlist = netlist; state = state; cycles = cycles; conflicts = conflicts })
reach_of netlist state conflicts true None = None
reach_of netlist state conflicts false cycles = None

-- `reach` has a file name, a state and a number of cycles, and its budget has a default
abbrev pub reach_at : CommandLine → List (List ℕ) → Option Job
reach_at line (netlist ∷ state ∷ cycles ∷ []) =
    reach_of netlist state (unwrap_or line.conflicts DEFAULT_CONFLICTS) (is_state state) (number_between 0 MAX_BOUND cycles)
reach_at line _ = None

-- the other options belong to `run`
abbrev pub reach_if : CommandLine → (steps candidates : Option ℕ) → Option Job
reach_if line None None = reach_at line line.positions
reach_if line None (Some n) = None
reach_if line (Some n) candidates = None

abbrev pub reach_job : CommandLine → Option Job
reach_job line = reach_if line line.steps line.candidates

-- the command takes options
abbrev pub has_budget : List ℕ → Bool
has_budget command = bytes_eq command (codes "run") || bytes_eq command (codes "reach")

-- the job of a command and what stands behind it
abbrev pub command_job : List ℕ → CommandLine → Option Job
command_job command line =
    if bytes_eq command (codes "run") then run_job line
    else (if bytes_eq command (codes "reach") then reach_job line
    else (if bytes_eq command (codes "audit") then audit_job line
    else (if bytes_eq command (codes "dump") then dump_job line
    else (if bytes_eq command (codes "demo") then demo_job line
    else (if bytes_eq command (codes "wave") then wave_job line
    else None)))))

-- the job that words are: the first is the command, and options belong to `run` and `reach`
abbrev pub job_of : List (List ℕ) → Option Job
job_of [] = None
job_of (command ∷ words) = option_and_then (command_job command) (read_line (has_budget command) words)

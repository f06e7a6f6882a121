-- The first line of a block (docs/FORMATS.md, "Causes").
use Rattle.std.specs.Prelude.{◌≡◌, ℕ, ◌<◌, ◌+◌, ◌-◌, ◌==◌, nat_lt, nat_le, Bool, false, List, [], ◌++◌, length, codes, decimal, slice_get, slice_index_or, Option, Some, None, if◌then◌else◌}
use Rattle.std.specs.List.{flat_map}
use Rattle.bs_bits.specs.Bits.{bits_eq}
use Rattle.bs_bits.specs.Lines.{line}
use Rattle.bs_net.specs.Circuit.{Circuit}
use Rattle.bs_net.specs.Netlist.{circuit}
use Rattle.bs_inspect_view.specs.Signals.{AreSignals, Signal}
use Rattle.bs_inspect_view.specs.Values.{value_text}
use Rattle.bs_inspect_report.specs.Execution.{is_execution}
use Rattle.bs_inspect_report.specs.Signal.{signal_bits}
use Rattle.bs_report.specs.declared.report.HitLine.{HitLine}
use Rattle.bs_report.specs.declared.report.Report.{Report}
use Rattle.bs_report.specs.declared.report.Step.{Step}
use Rattle.bs_net_facts.specs.declared.fact.Fact.{Fact}
use Rattle.bs_net_facts.specs.Facts.{IsReal}
use Rattle.bs_net_facts.specs.Seen.{Seen}
use Rattle.bs_inspect_why_words.specs.Facts.{fact_bits, fact_keys, signals_words}
use Rattle.bs_inspect_why_words.specs.declared.episode.Episode.{Episode as CodeEpisode}

-- bits that stand from one cycle to another, and the facts that are told of them
pub record Episode : Type 0 where
  pub bits : List Fact
  pub since : ℕ
  pub at : ℕ
  pub begun : Bool
  pub causes : List Fact
  pub holds : List Fact
  pub idle : List Fact

abbrev pub episode_in : CodeEpisode → Episode
episode_in e = record { bits = e.bits.now; since = e.since; at = e.at; begun = e.begun; causes = e.causes.now; holds = e.holds.now; idle = e.idle.now }

-- ---- bits before

-- a net with a bit before a cycle
abbrev pub one_before : ℕ → Fact → Bool → Fact
one_before cycle f bit = record { net = f.net; cycle = cycle - 1; bit = bit }

-- the bits of the same nets in the cycle before one, where there is such a one
pub record AreBefore (c : Circuit) (states inputs : List (List Bool)) (facts : List Fact) (since count : ℕ) (befores : List Bool) : Type 0 where
  pub size : length befores ≡ count
  pub each : (i : ℕ) (d : Fact) → i < count → IsReal c states inputs (one_before since (slice_index_or facts i d) (slice_index_or befores i false))

-- how many nets have a bit before a cycle
abbrev pub before_count : ℕ → List Fact → ℕ
before_count since facts = if since == 0 then 0 else length facts

-- ---- words

-- the run and the cycle of a hit
abbrev pub hit_moment : Option HitLine → List ℕ
hit_moment None = []
hit_moment (Some hit) = codes " (run " ++ (decimal hit.run ++ (codes " cycle " ++ (decimal hit.cycle ++ codes ")")))

abbrev pub step_moment : Option Step → List ℕ
step_moment None = []
step_moment (Some step) = hit_moment step.hit

-- where a state of a backtrace comes from: the last is the dump, and the one before it the hit of the first step, and so on
abbrev pub found_moment : Report → ℕ → List ℕ
found_moment r i =
    if nat_le (length r.states) (i + 1) then codes " (dump)" else step_moment (slice_get r.steps (length r.states - 2 - i))

-- the same of any trace; a state of an execution is told by its cycle alone
abbrev pub moment_words : Report → ℕ → List ℕ
moment_words r i = if is_execution r then [] else found_moment r i

-- since when the bits stand
abbrev pub since_words : Episode → List ℕ
since_words e = if e.begun then codes ", since 0" else (if nat_lt e.since e.at then codes ", since " ++ decimal e.since else [])

abbrev pub value_behind : List Bool → Signal → List ℕ
value_behind bits s = codes " " ++ value_text (signal_bits bits s.places)

abbrev pub values_words : List Bool → List Signal → List ℕ
values_words bits signals = flat_map (value_behind bits) signals

abbrev pub at_words : ℕ → List ℕ
at_words cycle = codes " at " ++ decimal cycle

-- a chain of so many steps from its first value, with its cycle
abbrev pub steps_words : ℕ → List Signal → List Bool → ℕ → List ℕ
steps_words steps signals befores cycle =
    codes ", in " ++ (decimal steps ++ (codes " steps from" ++ (values_words befores signals ++ at_words cycle)))

-- a chain, or the value before
abbrev pub from_words : ℕ → List Signal → (bits befores : List Bool) → ℕ → List ℕ
from_words steps signals bits befores since =
    if nat_lt 1 steps then steps_words steps signals befores (since - 1)
    else (if bits_eq befores bits then codes ", as before" else codes ", before" ++ values_words befores signals)

abbrev pub before_words : ℕ → List Signal → (bits befores : List Bool) → ℕ → List ℕ
before_words steps signals bits befores since = if since == 0 then [] else from_words steps signals bits befores since

-- the cycle of a block, its bits, and since when they stand
abbrev pub front_words : List Signal → List Bool → Episode → List ℕ
front_words signals bits e = decimal e.at ++ (codes " " ++ (signals_words bits signals ++ since_words e))

abbrev pub head_line : Report → ℕ → List Signal → (bits befores : List Bool) → Episode → ℕ → List ℕ
head_line r steps signals bits befores e since =
    line (decimal e.at ++ (codes " " ++ (signals_words bits signals ++ (since_words e ++
    (before_words steps signals bits befores since ++ moment_words r e.at)))))

-- the line of a block by its signals
pub record TellsHeadOf (m : Seen) (r : Report) (steps : ℕ) (signals : List Signal) (first last : Episode) (text : List ℕ) : Type 0 where
  pub befores : List Bool
  pub before : AreBefore (circuit m.net) m.states m.inputs last.bits last.since (before_count last.since last.bits) befores
  pub says : text ≡ head_line r steps signals (fact_bits first.bits) befores first last.since

-- a block's cycle and bits, since when they stand, what they were before, and where the state of the cycle comes from
pub record TellsHead (m : Seen) (r : Report) (steps : ℕ) (first last : Episode) (text : List ℕ) : Type 0 where
  pub signals : List Signal
  pub are : AreSignals [] (fact_keys m.net.raw first.bits) signals
  pub tells : TellsHeadOf m r steps signals first last text

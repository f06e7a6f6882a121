-- The report of a toggling flip-flop is valid, and copies of it with one change are not; the steps of a shift register.
use Rattle.std.proofs.Common.{◌≡◌, ℕ, true, false, [], ◌∷◌, List, Bool, refl, Some, None}
use Rattle.std.specs.Prelude.{⊤, not}
use Rattle.bs_log.specs.declared.why.Why.TheVariants.{Order as order}
use Rattle.bs_scan.specs.declared.seen.Seen.{Seen}
use Rattle.bs_scan.specs.Seen.{whole}
use Rattle.bs_net.specs.declared.net.NetId.{NetId}
use Rattle.bs_net.specs.declared.gate.Kind.TheVariants.{Not}
use Rattle.bs_net.specs.declared.net.Mode.TheVariants.{Plain}
use Rattle.bs_net.specs.Circuit.{Circuit, next, settled, all_bits}
use Rattle.bs_scan.specs.Moments.{state_at, first_moment}
use Rattle.bs_scan.specs.Signature.{predecessors}
use Rattle.bs_clause.specs.Literal.{Clause}
use Rattle.bs_log.specs.declared.line.Line.TheVariants as lines
use Rattle.bs_report.specs.declared.part.Part.TheVariants as parts
use Rattle.bs_report.specs.declared.report.ListEnd.TheVariants as ends
use Rattle.bs_report.specs.declared.report.Stop.TheVariants as stops
use Rattle.bs_scan.specs.Crash.{Crash}
use Rattle.bs_report.specs.declared.report.Step.{Step}
use Rattle.bs_report.specs.Trace.{trace_end, trace_states, trace_inputs}
use Rattle.bs_log.specs.Shown.{Basis}
use Rattle.bs_report.specs.Valid.{first_failing, first_of_all, each_step, step_parts, cause_of}
use Rattle.bs_report.proofs.Examples.{yes, not_, report}

abbrev net : ℕ → NetId
net n = record { 0 = n }

-- net 0 is the clock, net 1 the inverter's output, and net 2 the flip-flop
abbrev toggle : Circuit
toggle =
    record {
      nets = 3;
      clock = net 0;
      inputs = [];
      flops = record { q = net 2; d = net 1; ck = net 0; reset = false; mode = Plain } ∷ [];
      gates = record { kind = Not; out = net 1; ins = net 2 ∷ [] } ∷ [];
      constants = [];
    }

abbrev crash : Crash
crash =
    record {
      circuit = toggle;
      choice = record { width = 1; depth = 1; items = [] };
      runs = ([] ∷ []) ∷ [];
      dump = record { state = whole (true ∷ []); stored = Some []; older = None; depth = 1 };
    }

abbrev basis : Basis
basis =
    record {
      problem = record {
        vars = 4;
        clauses = (not_ 2 ∷ not_ 3 ∷ []) ∷ (yes 2 ∷ yes 3 ∷ []) ∷ (not_ 1 ∷ []) ∷ (not_ 4 ∷ yes 2 ∷ []) ∷ (yes 4 ∷ not_ 2 ∷ []) ∷ [];
        steps = (yes 5 ∷ yes 4 ∷ []) ∷ [];
      };
      block = block_of;
    }
  where
    block_of : List Bool → Clause
    block_of [] = []
    block_of (b ∷ bs) = record { variable = 3; positive = not b } ∷ []

-- what these examples compute with
unfoldable pub computed : ⊤
unfolding first_failing predecessors first_moment state_at next settled all_bits
computed = tt

is_valid : first_failing crash basis report ≡ None
unfolding computed
is_valid = refl

-- another cause, another trace and another end are each refused
other_cause : first_failing crash basis (record report { stop = stops.Length }) ≡ Some parts.Stop
unfolding computed
other_cause = refl

other_trace : first_failing crash basis (record report { inputs = [] }) ≡ Some parts.Trace
unfolding computed
other_trace = refl

other_depth : first_failing crash basis (record report { depth = 2 }) ≡ Some parts.Format
unfolding computed
other_depth = refl

no_retire : first_failing crash basis (record report { log = lines.Solve ∷ [] }) ≡ Some (parts.Log 2 order)
unfolding computed
no_retire = refl

-- ---- a shift register of two flip-flops, three steps back to reset

abbrev shift : Circuit
shift =
    record {
      nets = 4;
      clock = net 0;
      inputs = net 1 ∷ [];
      flops = record { q = net 2; d = net 1; ck = net 0; reset = false; mode = Plain } ∷ record {
        q = net 3;
        d = net 2;
        ck = net 0;
        reset = false;
        mode = Plain;
      } ∷ [];
      gates = [];
      constants = [];
    }

abbrev one : List Bool
one = true ∷ []

abbrev shift_crash : Crash
shift_crash =
    record {
      circuit = shift;
      choice = record { width = 2; depth = 1; items = (1 ∷ []) ∷ [] };
      runs = (one ∷ one ∷ one ∷ []) ∷ [];
      dump = record { state = whole (true ∷ true ∷ []); stored = Some one; older = None; depth = 1 };
    }

abbrev step_to : List Bool → Bool → List Bool → ℕ → Step
step_to present stored state cycle =
    record {
      present = whole present;
      stored = stored ∷ [];
      older = None;
      cands = record { state = state; input = one; before = None } ∷ [];
      end = ends.Finished 0;
      hit = Some (record { run = 1; cycle = cycle; state = state });
    }

abbrev shift_steps : List Step
shift_steps = step_to (true ∷ true ∷ []) true (true ∷ true ∷ []) 2 ∷ step_to (true ∷ true ∷ []) false (true ∷ false ∷ []) 1
    ∷ step_to (true ∷ false ∷ []) false (false ∷ false ∷ []) 0 ∷ []

steps_are_right : first_of_all (each_step (step_parts shift_crash (record report { steps = shift_steps })) 0 shift_steps) ≡ None
unfolding computed
steps_are_right = refl

stops_at_reset : cause_of shift_crash (record { steps = 64; candidates = 256; conflicts = 100000 }) shift_steps ≡ Some stops.Reset
unfolding computed
stops_at_reset = refl

stops_by_length : cause_of shift_crash (record { steps = 1; candidates = 256; conflicts = 100000 })
    (step_to (true ∷ true ∷ []) true (true ∷ true ∷ []) 2 ∷ []) ≡ Some stops.Length
unfolding computed
stops_by_length = refl

goes_through : trace_states (true ∷ true ∷ []) shift_steps ≡ (false ∷ false ∷ []) ∷ (true ∷ false ∷ []) ∷ (true ∷ true ∷ []) ∷ (true ∷ true ∷ []) ∷ []
goes_through = refl

goes_under : trace_inputs shift_steps ≡ one ∷ one ∷ one ∷ []
goes_under = refl

lists_one : predecessors shift (record { width = 2; depth = 1; items = (1 ∷ []) ∷ [] }) (whole (true ∷ true ∷ [])) (one ∷ []) ≡ (true ∷ true ∷ []) ∷ []
unfolding computed
lists_one = refl

-- ---- the same of a dump of which the second flip-flop is not known

abbrev partial_crash : Crash
partial_crash =
    record {
      circuit = shift;
      choice = record { width = 2; depth = 1; items = (1 ∷ []) ∷ [] };
      runs = (one ∷ one ∷ one ∷ []) ∷ [];
      dump = record { state = record { bits = true ∷ false ∷ []; free = false ∷ true ∷ [] }; stored = Some one; older = None; depth = 1 };
    }

-- two candidates, of which one is met
abbrev first_step : Step
first_step =
    record {
      present = record { bits = true ∷ false ∷ []; free = false ∷ true ∷ [] };
      stored = one;
      older = None;
      cands = record { state = false ∷ true ∷ []; input = one; before = None } ∷ record { state = true ∷ true ∷ []; input = one; before = None } ∷ [];
      end = ends.Finished 0;
      hit = Some (record { run = 1; cycle = 2; state = true ∷ true ∷ [] });
    }

abbrev partial_steps : List Step
partial_steps = first_step ∷ step_to (true ∷ true ∷ []) false (true ∷ false ∷ []) 1 ∷ step_to (true ∷ false ∷ []) false (false ∷ false ∷ []) 0 ∷ []

partial_steps_are_right : first_of_all (each_step (step_parts partial_crash (record report { steps = partial_steps })) 0 partial_steps) ≡ None
unfolding computed
partial_steps_are_right = refl

-- the trace ends where the hit leads, which shows the known bit
ends_where_the_hit_leads : trace_end partial_crash partial_steps ≡ whole (true ∷ true ∷ [])
unfolding computed
ends_where_the_hit_leads = refl

ends_at_the_dump_without_a_hit : trace_end partial_crash (record first_step { hit = None } ∷ []) ≡ partial_crash.dump.state
unfolding computed
ends_at_the_dump_without_a_hit = refl

-- a candidate that leads elsewhere, and a present with another known bit
elsewhere : first_of_all (step_parts partial_crash (record report { steps = partial_steps }) 0
    (record first_step { cands = record { state = false ∷ true ∷ []; input = false ∷ []; before = None } ∷ [] })) ≡ Some (parts.Candidate 1 1)
unfolding computed
elsewhere = refl

known_too_much : first_of_all (step_parts partial_crash (record report { steps = partial_steps }) 0 (record first_step { present = whole (true ∷ true ∷ []) }))
    ≡ Some (parts.Present 1)
unfolding computed
known_too_much = refl

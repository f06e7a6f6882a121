-- An execution of two cycles, one of none, and a dump known in part, as text, as table and as comments of a waveform.
use Rattle.std.proofs.Common.{◌≡◌, ℕ, Bool, true, false, List, [], ◌∷◌, Option, Some, None, refl}
use Rattle.std.specs.Prelude.{codes}
use Rattle.std.specs.Fmt.{digits}
use Rattle.bs_report.specs.declared.report.Report.{Report}
use Rattle.bs_report.specs.declared.report.Stop.TheVariants as stops
use Rattle.bs_inspect_view.specs.Signals.{Signal}
use Rattle.bs_inspect_report.specs.Remarks.{remarks}
use Rattle.bs_inspect_report.specs.Table.{trace_rows}
use Rattle.bs_inspect_report.specs.Trace.{Signals, trace_lines}
use Rattle.bs_inspect_report.specs.declared.window.Window.{Window}

-- what a search found: these states of one flip-flop, and these inputs of one bit
abbrev found : (states inputs : List (List Bool)) → Report
found states inputs =
    record {
      depth = 1;
      budgets = record { steps = 0; candidates = 0; conflicts = 100 };
      steps = [];
      stop = stops.Reset;
      states = states;
      inputs = inputs;
      free = [];
      log = [];
    }

abbrev bit : List ℕ → Signal
bit name = record { base = name; high = None; places = 0 ∷ [] }

abbrev signals : Signals
signals = record { flops = bit (codes "q") ∷ []; inputs = bit (codes "d") ∷ [] }

abbrev two_cycles : Report
two_cycles = found ((false ∷ []) ∷ (true ∷ []) ∷ (true ∷ []) ∷ []) ((true ∷ []) ∷ (false ∷ []) ∷ [])

abbrev no_cycle : Report
no_cycle = found ((true ∷ []) ∷ []) []

abbrev part : (from : ℕ) → (to last : Option ℕ) → Window
part from to last = record { from = from; to = to; last = last }

abbrev whole : Window
whole = part 0 None None

worked_trace :
    trace_lines two_cycles signals false whole
    ≡ codes "0 state reset\n0 flop q = 0\n0 input d = 1\n1 state passed\n1 flop q = 1\n1 input d = 0\n2 state asked\n"
unfolding digits
worked_trace = refl

-- the input stands still, and is told once, or in each cycle
abbrev still : Report
still = found ((false ∷ []) ∷ (true ∷ []) ∷ (true ∷ []) ∷ []) ((true ∷ []) ∷ (true ∷ []) ∷ [])

worked_still : trace_lines still signals false whole ≡ codes "0 state reset\n0 flop q = 0\n0 input d = 1\n1 state passed\n1 flop q = 1\n2 state asked\n"
unfolding digits
worked_still = refl

worked_all :
    trace_lines still signals true whole
    ≡ codes "0 state reset\n0 flop q = 0\n0 input d = 1\n1 state passed\n1 flop q = 1\n1 input d = 1\n2 state asked\n2 flop q = 1\n"
unfolding digits
worked_all = refl

-- the last two states, and of these the first
worked_last : trace_lines two_cycles signals false (part 0 None (Some 2)) ≡ codes "1 state passed\n1 flop q = 1\n1 input d = 0\n2 state asked\n"
unfolding digits
worked_last = refl

worked_part : trace_lines two_cycles signals false (part 0 (Some 1) (Some 2)) ≡ codes "1 state passed\n1 flop q = 1\n1 input d = 0\n"
unfolding digits
worked_part = refl

worked_from : trace_rows two_cycles signals (part 1 (Some 1) None) ≡ codes "state,from,run,cycle,q,d\n1,passed,,,1,0\n"
unfolding digits
worked_from = refl

worked_table : trace_rows two_cycles signals whole ≡ codes "state,from,run,cycle,q,d\n0,reset,,,0,1\n1,passed,,,1,0\n2,asked,,,1,\n"
unfolding digits
worked_table = refl

worked_remarks : remarks two_cycles ≡ codes "$comment 0 state reset $end\n$comment 1 state passed $end\n$comment 2 state asked $end\n"
unfolding digits
worked_remarks = refl

worked_reset : trace_lines no_cycle signals false whole ≡ codes "0 state asked\n0 flop q = 1\n"
unfolding digits
worked_reset = refl

-- ---- a dump of two flip-flops, of which the second is not known, without a hit

abbrev seen_dump : Report
seen_dump =
    record {
      depth = 1;
      budgets = record { steps = 4; candidates = 20; conflicts = 100 };
      steps = [];
      stop = stops.Nohit;
      states = (true ∷ false ∷ []) ∷ [];
      inputs = [];
      free = false ∷ true ∷ [];
      log = [];
    }

abbrev two_flops : Signals
two_flops = record {
  flops =
      (record { base = codes "v"; high = Some 1; places = 0 ∷ 1 ∷ [] }) ∷ (record { base = codes "q"; high = None; places = 1 ∷ [] })
      ∷ (record { base = codes "w"; high = Some 1; places = 0 ∷ 0 ∷ [] }) ∷ [];
  inputs = bit (codes "d") ∷ [];
}

worked_seen : trace_lines seen_dump two_flops false whole ≡ codes "0 state dump\n0 flop v[1:0] = 0b1-\n0 flop q = -\n0 flop w[1:0] = 0x3\n"
unfolding digits
worked_seen = refl

worked_seen_table : trace_rows seen_dump two_flops whole ≡ codes "state,from,run,cycle,v[1:0],q,w[1:0],d\n0,dump,,,0b1-,-,0x3,\n"
unfolding digits
worked_seen_table = refl

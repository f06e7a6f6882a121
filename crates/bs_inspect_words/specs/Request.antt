-- Which words are a request, and which request they are (docs/FORMATS.md, "Words of `backspace_inspect`").
use Rattle.std.specs.Prelude.{ℕ, nat_lt, nat_le, ◌==◌, Bool, true, false, ◌&&◌, ◌||◌, List, [], ◌∷◌, length, take, drop, codes, Option, Some, None, if◌then◌else◌}
use Rattle.std.specs.Option.{option_map, option_and_then}
use Rattle.std.specs.Str.{bytes_eq}
use Rattle.bs_bits.specs.Lines.{number_in}
use Rattle.bs_stim.specs.declared.limits.TheConstants.{MAX_CYCLES, MAX_RUNS}
use Rattle.bs_top_words.specs.declared.flags.Flag.{Flag}
use Rattle.bs_top_words.specs.declared.flags.Flag.TheVariants as F
use Rattle.bs_top_words.specs.Given.{Setting, Given, read_all, start}
use Rattle.bs_top_words.specs.Job.{is_state}
use Rattle.bs_top_words.specs.Options.{number_between}
use Rattle.bs_vcd.specs.declared.cycles.When.{When}
use Rattle.bs_vcd.specs.declared.cycles.When.TheVariants as W
use Rattle.bs_inspect_usages.specs.declared.window.TraceWindow.{TraceWindow}
use Rattle.bs_inspect_usages.specs.Numbers.{cycle_at, drawn_most, from_of, items_in, layers, length_of, most_lines, step_in, window_of}
use Rattle.bs_inspect_usages.specs.Settings.{all_flags, fit, is_given, value_of, values_of}

-- the file of `keys`, and one name or more
pub record KeysRequest : Type 0 where
  pub netlist : List ℕ
  pub names : List (List ℕ)

-- the file of `seen`, and one name with a value or more
pub record SeenRequest : Type 0 where
  pub netlist : List ℕ
  pub values : List (List ℕ)

-- the files of `trace`, and what it shows: every flip-flop and data input in each cycle, which states, and these names alone, where
-- there are any
pub record TraceRequest : Type 0 where
  pub netlist : List ℕ
  pub report : List ℕ
  pub all : Bool
  pub window : TraceWindow
  pub only : List (List ℕ)

-- the files of `candidates`, and these names that it shows alone, where there are any
pub record ListsRequest : Type 0 where
  pub netlist : List ℕ
  pub report : List ℕ
  pub only : List (List ℕ)

-- the files of `wave`, the cycle at which it begins, and what it draws: every net, and these names alone, where there are any
pub record WaveRequest : Type 0 where
  pub netlist : List ℕ
  pub report : List ℕ
  pub all : Bool
  pub from : ℕ
  pub only : List (List ℕ)

-- the files of `gtkw`, the name of a waveform, and what that draws
pub record GtkwRequest : Type 0 where
  pub netlist : List ℕ
  pub report : List ℕ
  pub wave : List ℕ
  pub all : Bool
  pub from : ℕ
  pub only : List (List ℕ)

-- the files of `page`, of which that of a signature may be given, how many signals of a kind it draws at most, and the names of those
-- that it draws alone, where there are any
pub record PageRequest : Type 0 where
  pub netlist : List ℕ
  pub report : List ℕ
  pub signature : Option (List ℕ)
  pub most : ℕ
  pub only : List (List ℕ)

-- the files of `stimulus`, one of values or more, with the file of names, where there is one; the name of the clock, and the path of
-- a scope
pub record StimulusRequest : Type 0 where
  pub netlist : List ℕ
  pub vcds : List (List ℕ)
  pub clock : List ℕ
  pub scope : Option (List ℕ)
  pub names : Option (List ℕ)

-- the files of `dump`, and when it is taken; the clock, the scope, the file of names and that of a signature, where they are given; and
-- whether bits may be unknown there
pub record DumpRequest : Type 0 where
  pub netlist : List ℕ
  pub vcd : List ℕ
  pub at : When
  pub clock : Option (List ℕ)
  pub scope : Option (List ℕ)
  pub names : Option (List ℕ)
  pub signature : Option (List ℕ)
  pub partial : Bool

-- the files of `check`, one of values or more, with the file of names, where there is one; the clock and the scope, where they are given
pub record CheckRequest : Type 0 where
  pub netlist : List ℕ
  pub runs : List ℕ
  pub vcds : List (List ℕ)
  pub clock : Option (List ℕ)
  pub scope : Option (List ℕ)
  pub names : Option (List ℕ)

-- the files of `signature`, and how many items it is to have
pub record SignatureRequest : Type 0 where
  pub netlist : List ℕ
  pub runs : List ℕ
  pub items : ℕ

-- the files of `unscan`, and the bits of a pattern
pub record UnscanRequest : Type 0 where
  pub netlist : List ℕ
  pub order : List ℕ
  pub pattern : List ℕ

-- the files of `near`
pub record NearRequest : Type 0 where
  pub netlist : List ℕ
  pub runs : List ℕ
  pub dump : List ℕ

-- the files of `bench`, and the name of a module
pub record BenchRequest : Type 0 where
  pub netlist : List ℕ
  pub runs : List ℕ
  pub report : List ℕ
  pub top : List ℕ

-- the files of `cnf` and `lrat`, and the number of a step; where there is none, all lists are meant
pub record EvidenceRequest : Type 0 where
  pub netlist : List ℕ
  pub signature : List ℕ
  pub report : List ℕ
  pub step : Option ℕ

-- the files of `reach-cnf` and `reach-lrat`, the bits of a state between them, and a length; where there is none, all lengths that the
-- answer refutes are meant
pub record LengthsRequest : Type 0 where
  pub netlist : List ℕ
  pub state : List ℕ
  pub answer : List ℕ
  pub length : Option ℕ

-- the files of `novel`, the number of a run, and how many lines it tells at most
pub record NovelRequest : Type 0 where
  pub netlist : List ℕ
  pub runs : List ℕ
  pub run : ℕ
  pub most : ℕ

-- the files of `why`, a name, a cycle of the trace where one is given, how many layers, whether these end at flip-flops and inputs alone,
-- whether all is told, and whether as a table
pub record WhyRequest : Type 0 where
  pub netlist : List ℕ
  pub report : List ℕ
  pub name : List ℕ
  pub at : Option ℕ
  pub depth : ℕ
  pub flops : Bool
  pub all : Bool
  pub csv : Bool

pub data Request : Type 0 where
  Help : Request
  Version : Request
  Flops : List ℕ → Request
  Inputs : List ℕ → Request
  Stats : List ℕ → Request
  Keys : KeysRequest → Request
  Seen : SeenRequest → Request
  Trace : TraceRequest → Request
  TraceTable : TraceRequest → Request
  Steps : List ℕ → Request
  StepsTable : List ℕ → Request
  Lists : ListsRequest → Request
  Wave : WaveRequest → Request
  Gtkw : GtkwRequest → Request
  Stimulus : StimulusRequest → Request
  Dump : DumpRequest → Request
  Check : CheckRequest → Request
  Signature : SignatureRequest → Request
  Unscan : UnscanRequest → Request
  Bench : BenchRequest → Request
  Cnf : EvidenceRequest → Request
  Lrat : EvidenceRequest → Request
  ReachCnf : LengthsRequest → Request
  ReachLrat : LengthsRequest → Request
  Page : PageRequest → Request
  Novel : NovelRequest → Request
  Near : NearRequest → Request
  Why : WhyRequest → Request

-- ---- commands without options

-- whether a command has neither words by position nor options
abbrev pub is_alone : Given → Bool
is_alone given = (length given.settings == 0) && (length given.positions == 0)

abbrev pub alone : Request → Given → Option Request
alone request given = if is_alone given then Some request else None

-- the words by position of a command without options
abbrev pub bare : Given → Option (List (List ℕ))
bare given = if length given.settings == 0 then Some given.positions else None

abbrev pub name_of : List (List ℕ) → Option (List ℕ)
name_of (name ∷ []) = Some name
name_of _ = None

-- the one word by position of a command without options
abbrev pub only_name : Given → Option (List ℕ)
only_name given = option_and_then name_of (bare given)

abbrev pub named : (List ℕ → Request) → Given → Option Request
named request given = option_map request (only_name given)

-- `keys` has a file name, and one name or more
abbrev pub keys_of : List (List ℕ) → Option Request
keys_of (netlist ∷ name ∷ names) = Some (Keys record { netlist = netlist; names = name ∷ names })
keys_of _ = None

abbrev pub keys_request : Given → Option Request
keys_request given = option_and_then keys_of (bare given)

-- `seen` has a file name, and one name with a value or more
abbrev pub seen_of : List (List ℕ) → Option Request
seen_of (netlist ∷ value ∷ values) = Some (Seen record { netlist = netlist; values = value ∷ values })
seen_of _ = None

abbrev pub seen_request : Given → Option Request
seen_request given = option_and_then seen_of (bare given)

-- `unscan` has two file names, and bits
abbrev pub unscan_of : List (List ℕ) → Option Request
unscan_of (netlist ∷ order ∷ pattern ∷ []) = Some (Unscan record { netlist = netlist; order = order; pattern = pattern })
unscan_of _ = None

abbrev pub unscan_request : Given → Option Request
unscan_request given = option_and_then unscan_of (bare given)

-- `near` has three file names
abbrev pub near_of : List (List ℕ) → Option Request
near_of (netlist ∷ runs ∷ dump ∷ []) = Some (Near record { netlist = netlist; runs = runs; dump = dump })
near_of _ = None

abbrev pub near_request : Given → Option Request
near_request given = option_and_then near_of (bare given)

-- `bench` has three file names, and the name of a module
abbrev pub bench_asked : List (List ℕ) → Option Request
bench_asked (netlist ∷ runs ∷ report ∷ top ∷ []) = Some (Bench record { netlist = netlist; runs = runs; report = report; top = top })
bench_asked _ = None

abbrev pub bench_request : Given → Option Request
bench_request given = option_and_then bench_asked (bare given)

-- ---- a report

abbrev pub trace_flags : List Flag
trace_flags = F.All ∷ F.From ∷ F.To ∷ F.Last ∷ F.Only ∷ F.Csv ∷ []

abbrev pub trace_for : Bool → TraceRequest → Request
trace_for true t = TraceTable t
trace_for false t = Trace t

-- `trace` has two file names
abbrev pub trace_of : List (List ℕ) → (csv all : Bool) → Option TraceWindow → List (List ℕ) → Option Request
trace_of (netlist ∷ report ∷ []) csv all (Some window) only =
    Some (trace_for csv record { netlist = netlist; report = report; all = all; window = window; only = only })
trace_of _ csv all window only = None

abbrev pub trace_words : List (List ℕ) → List Setting → Option Request
trace_words positions settings =
    if fit trace_flags settings
    then trace_of positions (is_given F.Csv settings) (is_given F.All settings) (window_of settings) (values_of F.Only settings)
    else None

abbrev pub trace_request : Given → Option Request
trace_request given = trace_words given.positions given.settings

abbrev pub steps_flags : List Flag
steps_flags = F.Csv ∷ []

abbrev pub steps_for : Bool → List ℕ → Request
steps_for true report = StepsTable report
steps_for false report = Steps report

-- `steps` has one file name
abbrev pub steps_of : List (List ℕ) → Bool → Option Request
steps_of (report ∷ []) csv = Some (steps_for csv report)
steps_of _ csv = None

abbrev pub steps_words : List (List ℕ) → List Setting → Option Request
steps_words positions settings = if fit steps_flags settings then steps_of positions (is_given F.Csv settings) else None

abbrev pub steps_request : Given → Option Request
steps_request given = steps_words given.positions given.settings

abbrev pub lists_flags : List Flag
lists_flags = F.Only ∷ []

-- `candidates` has two file names
abbrev pub lists_of : List (List ℕ) → List (List ℕ) → Option Request
lists_of (netlist ∷ report ∷ []) only = Some (Lists record { netlist = netlist; report = report; only = only })
lists_of _ only = None

abbrev pub lists_words : List (List ℕ) → List Setting → Option Request
lists_words positions settings = if fit lists_flags settings then lists_of positions (values_of F.Only settings) else None

abbrev pub lists_request : Given → Option Request
lists_request given = lists_words given.positions given.settings

abbrev pub wave_flags : List Flag
wave_flags = F.All ∷ F.From ∷ F.Only ∷ []

-- `wave` has two file names
abbrev pub wave_of : List (List ℕ) → Option ℕ → Bool → List (List ℕ) → Option Request
wave_of (netlist ∷ report ∷ []) (Some from) all only =
    Some (Wave record { netlist = netlist; report = report; all = all; from = from; only = only })
wave_of _ from all only = None

abbrev pub wave_words : List (List ℕ) → List Setting → Option Request
wave_words positions settings =
    if fit wave_flags settings
    then wave_of positions (from_of (value_of F.From settings)) (is_given F.All settings) (values_of F.Only settings)
    else None

abbrev pub wave_request : Given → Option Request
wave_request given = wave_words given.positions given.settings

-- `gtkw` has two file names and the name of a waveform, and takes the options of `wave`
abbrev pub gtkw_of : List (List ℕ) → Option ℕ → Bool → List (List ℕ) → Option Request
gtkw_of (netlist ∷ report ∷ wave ∷ []) (Some from) all only =
    Some (Gtkw record { netlist = netlist; report = report; wave = wave; all = all; from = from; only = only })
gtkw_of _ from all only = None

abbrev pub gtkw_words : List (List ℕ) → List Setting → Option Request
gtkw_words positions settings =
    if fit wave_flags settings
    then gtkw_of positions (from_of (value_of F.From settings)) (is_given F.All settings) (values_of F.Only settings)
    else None

abbrev pub gtkw_request : Given → Option Request
gtkw_request given = gtkw_words given.positions given.settings

abbrev pub page_flags : List Flag
page_flags = F.Only ∷ F.Most ∷ F.Signature ∷ []

-- `page` has two file names
abbrev pub page_of : List (List ℕ) → Option ℕ → (signature : Option (List ℕ)) → List (List ℕ) → Option Request
page_of (netlist ∷ report ∷ []) (Some most) signature only =
    Some (Page record { netlist = netlist; report = report; signature = signature; most = most; only = only })
page_of _ most signature only = None

abbrev pub page_words : List (List ℕ) → List Setting → Option Request
page_words positions settings =
    if fit page_flags settings
    then page_of positions (drawn_most (value_of F.Most settings) (length (values_of F.Only settings))) (value_of F.Signature settings)
    (values_of F.Only settings)
    else None

abbrev pub page_request : Given → Option Request
page_request given = page_words given.positions given.settings

-- ---- the values of a simulator

abbrev pub stimulus_flags : List Flag
stimulus_flags = F.Clock ∷ F.Scope ∷ F.Map ∷ []

-- a stimulus has a run or more, and no more than it may have
abbrev pub are_runs : List (List ℕ) → Bool
are_runs vcds = nat_lt 0 (length vcds) && nat_le (length vcds) MAX_RUNS

abbrev pub stimulus_for : (netlist : List ℕ) → (vcds : List (List ℕ)) → (clock : List ℕ) → (scope names : Option (List ℕ)) → Option Request
stimulus_for netlist vcds clock scope names =
    if are_runs vcds
    then Some (Stimulus record { netlist = netlist; vcds = vcds; clock = clock; scope = scope; names = names })
    else None

-- `stimulus` has the name of a netlist and those of values, and a clock
abbrev pub stimulus_of : List (List ℕ) → (clock scope names : Option (List ℕ)) → Option Request
stimulus_of (netlist ∷ vcds) (Some clock) scope names = stimulus_for netlist vcds clock scope names
stimulus_of _ clock scope names = None

abbrev pub stimulus_words : List (List ℕ) → List Setting → Option Request
stimulus_words positions settings =
    if fit stimulus_flags settings
    then stimulus_of positions (value_of F.Clock settings) (value_of F.Scope settings) (value_of F.Map settings)
    else None

abbrev pub stimulus_request : Given → Option Request
stimulus_request given = stimulus_words given.positions given.settings

abbrev pub check_for : (netlist runs : List ℕ) → (vcds : List (List ℕ)) → (clock scope names : Option (List ℕ)) → Option Request
check_for netlist runs vcds clock scope names =
    if are_runs vcds
    then Some (Check record { netlist = netlist; runs = runs; vcds = vcds; clock = clock; scope = scope; names = names })
    else None

-- `check` has the names of a netlist and of recorded runs, and those of values
abbrev pub check_of : List (List ℕ) → (clock scope names : Option (List ℕ)) → Option Request
check_of (netlist ∷ runs ∷ vcds) clock scope names = check_for netlist runs vcds clock scope names
check_of _ clock scope names = None

abbrev pub check_words : List (List ℕ) → List Setting → Option Request
check_words positions settings =
    if fit stimulus_flags settings
    then check_of positions (value_of F.Clock settings) (value_of F.Scope settings) (value_of F.Map settings)
    else None

abbrev pub check_request : Given → Option Request
check_request given = check_words given.positions given.settings

abbrev pub dump_flags : List Flag
dump_flags = F.Time ∷ F.Cycle ∷ F.Clock ∷ F.Scope ∷ F.Map ∷ F.Signature ∷ F.Partial ∷ []

abbrev pub at_time : Option ℕ → Option When
at_time None = None
at_time (Some time) = Some (W.Time time)

abbrev pub at_cycle : Option ℕ → Option When
at_cycle None = None
at_cycle (Some cycle) = Some (W.Cycle cycle)

-- a time or a cycle
abbrev pub when_of : (time cycle : Option (List ℕ)) → Option When
when_of None None = None
when_of (Some time) None = at_time (number_in time)
when_of None (Some cycle) = at_cycle (number_between 0 MAX_CYCLES cycle)
when_of (Some time) (Some cycle) = None

-- what of a dump may be given, or not
pub record DumpOptions : Type 0 where
  pub clock : Option (List ℕ)
  pub scope : Option (List ℕ)
  pub names : Option (List ℕ)
  pub signature : Option (List ℕ)
  pub partial : Bool

abbrev pub dump_options : List Setting → DumpOptions
dump_options settings = record {
  clock = value_of F.Clock settings;
  scope = value_of F.Scope settings;
  names = value_of F.Map settings;
  signature = value_of F.Signature settings;
  partial = is_given F.Partial settings;
}

-- `dump` has two file names, and a moment
abbrev pub dump_of : List (List ℕ) → Option When → DumpOptions → Option Request
dump_of (netlist ∷ vcd ∷ []) (Some at) o =
    Some (Dump record {
      netlist = netlist;
      vcd = vcd;
      at = at;
      clock = o.clock;
      scope = o.scope;
      names = o.names;
      signature = o.signature;
      partial = o.partial;
    })
dump_of _ at o = None

abbrev pub dump_words : List (List ℕ) → List Setting → Option Request
dump_words positions settings =
    if fit dump_flags settings
    then dump_of positions (when_of (value_of F.Time settings) (value_of F.Cycle settings)) (dump_options settings)
    else None

abbrev pub dump_request : Given → Option Request
dump_request given = dump_words given.positions given.settings

-- ---- a signature

abbrev pub signature_flags : List Flag
signature_flags = F.Bits ∷ []

-- `signature` has two file names, and a number of items from 1 to the most of a signature
abbrev pub signature_of : List (List ℕ) → Option ℕ → Option Request
signature_of (netlist ∷ runs ∷ []) (Some items) = Some (Signature record { netlist = netlist; runs = runs; items = items })
signature_of _ items = None

abbrev pub signature_words : List (List ℕ) → List Setting → Option Request
signature_words positions settings =
    if fit signature_flags settings then signature_of positions (items_in (value_of F.Bits settings)) else None

abbrev pub signature_request : Given → Option Request
signature_request given = signature_words given.positions given.settings

-- ---- lists

abbrev pub evidence_flags : List Flag
evidence_flags = F.Step ∷ []

-- `cnf` and `lrat` have three file names, and perhaps the number of a step
abbrev pub evidence_of : List (List ℕ) → Option (Option ℕ) → Option EvidenceRequest
evidence_of (netlist ∷ signature ∷ report ∷ []) (Some step) = Some record { netlist = netlist; signature = signature; report = report; step = step }
evidence_of _ step = None

abbrev pub evidence_words : List (List ℕ) → List Setting → Option EvidenceRequest
evidence_words positions settings =
    if fit evidence_flags settings then evidence_of positions (step_in (value_of F.Step settings)) else None

abbrev pub cnf_request : Given → Option Request
cnf_request given = option_map (λ (t : EvidenceRequest). Cnf t) (evidence_words given.positions given.settings)

abbrev pub lrat_request : Given → Option Request
lrat_request given = option_map (λ (t : EvidenceRequest). Lrat t) (evidence_words given.positions given.settings)

-- ---- lengths of an answer

-- a state is one or more characters 0 and 1
abbrev pub lengths_for : (netlist state answer : List ℕ) → Option ℕ → Option LengthsRequest
lengths_for netlist state answer length =
    if is_state state then Some record { netlist = netlist; state = state; answer = answer; length = length } else None

abbrev pub lengths_at : List (List ℕ) → Option (Option ℕ) → Option LengthsRequest
lengths_at (netlist ∷ state ∷ answer ∷ []) (Some length) = lengths_for netlist state answer length
lengths_at _ length = None

-- three words by position, and those behind them
abbrev pub lengths_behind : (positions behind : List (List ℕ)) → Option LengthsRequest
lengths_behind positions behind =
    option_and_then (λ (given : Given). lengths_at given.positions (length_of behind)) (read_all [] positions start)

-- `reach-cnf` and `reach-lrat` have a file name, the bits of a state and a file name, and last perhaps `--length` and a number
abbrev pub lengths_words : List (List ℕ) → Option LengthsRequest
lengths_words words = if nat_lt (length words) 3 then None else lengths_behind (take 3 words) (drop 3 words)

-- ---- the values that one run alone has

abbrev pub novel_flags : List Flag
novel_flags = F.Most ∷ []

abbrev pub novel_for : (netlist runs : List ℕ) → (run most : Option ℕ) → Option Request
novel_for netlist runs (Some run) (Some most) = Some (Novel record { netlist = netlist; runs = runs; run = run; most = most })
novel_for netlist runs run most = None

-- `novel` has two file names, and a run's number from 1
abbrev pub novel_of : List (List ℕ) → Option ℕ → Option Request
novel_of (netlist ∷ runs ∷ run ∷ []) most = novel_for netlist runs (number_between 1 MAX_RUNS run) most
novel_of _ most = None

abbrev pub novel_words : List (List ℕ) → List Setting → Option Request
novel_words positions settings = if fit novel_flags settings then novel_of positions (most_lines (value_of F.Most settings)) else None

abbrev pub novel_request : Given → Option Request
novel_request given = novel_words given.positions given.settings

-- ---- what forces the bits of a name

abbrev pub why_flags : List Flag
why_flags = F.At ∷ F.Depth ∷ F.Flops ∷ F.All ∷ F.Csv ∷ []

abbrev pub why_for : (netlist report name : List ℕ) → Option (Option ℕ) → Option ℕ → (flops all csv : Bool) → Option Request
why_for netlist report name (Some at) (Some depth) flops all csv =
    Some (Why record { netlist = netlist; report = report; name = name; at = at; depth = depth; flops = flops; all = all; csv = csv })
why_for netlist report name at depth flops all csv = None

-- `why` has two file names, and a name of the netlist
abbrev pub why_of : List (List ℕ) → Option (Option ℕ) → Option ℕ → (flops all csv : Bool) → Option Request
why_of (netlist ∷ report ∷ name ∷ []) at depth flops all csv = why_for netlist report name at depth flops all csv
why_of _ at depth flops all csv = None

abbrev pub why_words : List (List ℕ) → List Setting → Option Request
why_words positions settings =
    if fit why_flags settings
    then why_of positions (cycle_at (value_of F.At settings)) (layers (value_of F.Depth settings)) (is_given F.Flops settings) (is_given F.All settings)
    (is_given F.Csv settings)
    else None

abbrev pub why_request : Given → Option Request
why_request given = why_words given.positions given.settings

-- ---- the command

abbrev pub is_help : List ℕ → Bool
is_help command = bytes_eq command (codes "help") || (bytes_eq command (codes "-h") || bytes_eq command (codes "--help"))

abbrev pub is_version : List ℕ → Bool
is_version command = bytes_eq command (codes "version") || (bytes_eq command (codes "-V") || bytes_eq command (codes "--version"))

-- the request of a command and what stands behind it
unfoldable pub bare_request : List ℕ → Given → Option Request
bare_request command given =
    if is_help command then alone Help given
    else (if is_version command then alone Version given
    else (if bytes_eq command (codes "flops") then named (λ (n : List ℕ). Flops n) given
    else (if bytes_eq command (codes "inputs") then named (λ (n : List ℕ). Inputs n) given
    else (if bytes_eq command (codes "stats") then named (λ (n : List ℕ). Stats n) given
    else None))))

unfoldable pub other_request : List ℕ → Given → Option Request
other_request command given =
    if bytes_eq command (codes "steps") then steps_request given
    else (if bytes_eq command (codes "dump") then dump_request given
    else (if bytes_eq command (codes "signature") then signature_request given
    else (if bytes_eq command (codes "unscan") then unscan_request given
    else (if bytes_eq command (codes "bench") then bench_request given
    else (if bytes_eq command (codes "cnf") then cnf_request given
    else (if bytes_eq command (codes "lrat") then lrat_request given
    else (if bytes_eq command (codes "novel") then novel_request given
    else (if bytes_eq command (codes "near") then near_request given
    else (if bytes_eq command (codes "why") then why_request given
    else bare_request command given)))))))))

unfoldable pub command_request : List ℕ → Given → Option Request
command_request command given =
    if bytes_eq command (codes "trace") then trace_request given
    else (if bytes_eq command (codes "candidates") then lists_request given
    else (if bytes_eq command (codes "wave") then wave_request given
    else (if bytes_eq command (codes "gtkw") then gtkw_request given
    else (if bytes_eq command (codes "stimulus") then stimulus_request given
    else (if bytes_eq command (codes "check") then check_request given
    else (if bytes_eq command (codes "keys") then keys_request given
    else (if bytes_eq command (codes "page") then page_request given
    else (if bytes_eq command (codes "seen") then seen_request given
    else other_request command given))))))))

-- the request of a command whose options stand anywhere behind it
abbrev pub given_request : List ℕ → List (List ℕ) → Option Request
given_request command words = option_and_then (command_request command) (read_all all_flags words start)

unfoldable pub spelled_request : List ℕ → List (List ℕ) → Option Request
spelled_request command words =
    if bytes_eq command (codes "reach-cnf") then option_map (λ (t : LengthsRequest). ReachCnf t) (lengths_words words)
    else (if bytes_eq command (codes "reach-lrat") then option_map (λ (t : LengthsRequest). ReachLrat t) (lengths_words words)
    else given_request command words)

-- the request that words are: the first is the command
abbrev pub request_of : List (List ℕ) → Option Request
request_of [] = None
request_of (command ∷ words) = spelled_request command words

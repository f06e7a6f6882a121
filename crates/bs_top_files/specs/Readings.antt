-- What the text of a file is to a job: a value, or the reason of its refusal, which has the file's path.
use Rattle.std.specs.Prelude.{ℕ, ◌*◌, ◌&&◌, ◌==◌, nat_le, nat_lt, Bool, true, false, List, length, Result, Ok, Err, if◌then◌else◌}
use Rattle.bs_bits.specs.Lines.{lines_of}
use Rattle.bs_net.specs.Circuit.{reset_state}
use Rattle.bs_net.specs.Netlist.{circuit_of}
use Rattle.bs_net.specs.Parts.{Parts}
use Rattle.bs_scan.specs.Choice.{Chosen, depth_of}
use Rattle.bs_scan.specs.ChoiceText.{choice_of}
use Rattle.bs_scan.specs.DumpText.{dump_of}
use Rattle.bs_scan.specs.Moments.{Moment, moment}
use Rattle.bs_scan.specs.declared.dump.Dump.{Dump}
use Rattle.bs_scan.specs.declared.fault.ChoiceFault.{ChoiceFault}
use Rattle.bs_stim.specs.Runs.{Stimulus, run_at}
use Rattle.bs_stim.specs.StimulusText.{stimulus_of}
use Rattle.bs_net.specs.Decided.{passes}
use Rattle.bs_lex.specs.declared.token.Token.{Token}
use Rattle.bs_lex.specs.Lexemes.{lexemes_of, names_of}
use Rattle.bs_verilog_syntax.specs.Reading.{Rest}
use Rattle.bs_verilog.specs.Netlist.{netlist_text, tokenised}
use Rattle.bs_flat_meaning.specs.Pieces.{Piece, modules_of}
use Rattle.bs_flat_meaning.specs.Connecting.{ReadModule}
use Rattle.bs_flat_meaning.specs.Reading.{as_verilog, read_modules, has_ring, flattened}
use Rattle.bs_report.specs.declared.report.Report.{Report}
use Rattle.bs_report.specs.Reading.{report_in}
use Rattle.bs_note_files.specs.declared.dump.Widths.{Widths}
use Rattle.bs_outside.specs.Plan.{Reason}
use Rattle.bs_top_files.specs.Causes.{Case, text_reason, check_reason, signature_reason, stimulus_reason, dump_reason, range_reason, report_reason}
use Rattle.bs_top_files.specs.Causes.{too_large_reason, partial_reason, with_reason}
use Rattle.bs_top_files.specs.Refusals.{TextFault, with_one, in_rings, with_fault}
use Rattle.bs_top_files.specs.declared.limits.TheConstants.{MAX_WAVE_VALUES}

-- what a text of one module is: its parts, or its first fault
abbrev pub one_module : List ℕ → Result Parts TextFault
one_module bytes = with_fault (as_verilog (netlist_text bytes))

-- the flat parts of modules that were read, or their first fault; where they instance each other in rings, any ring may be told
unfoldable pub modules_in : List (List ℕ) → List Piece → List ReadModule → Result Parts TextFault
modules_in table ms ks = if has_ring ms ks then Err in_rings else with_fault (flattened table ms ks)

-- the flat parts of a text of several modules, with these names and lexemes
unfoldable pub several_modules : List (List ℕ) → Rest → Result Parts TextFault
several_modules table ts =
    elim (read_modules table ts) as (λ _. Result Parts TextFault) [ Ok ks ↦ modules_in table (modules_of ts) ks | Err fault ↦ Err (with_one fault) ]

-- the parts of a text with these tokens; the flag says that it has fewer than two modules other than cells
abbrev pub tokens_in : Bool → List ℕ → List Token → Result Parts TextFault
tokens_in true bytes tokens = one_module bytes
tokens_in false bytes tokens = several_modules (names_of bytes tokens) (lexemes_of bytes tokens)

-- the parts of a text
unfoldable pub text_in : List ℕ → Result Parts TextFault
text_in bytes =
    elim (tokenised bytes) as (λ _. Result Parts TextFault) [
      | Err fault ↦ one_module bytes
      | Ok tokens ↦ tokens_in (nat_lt (length (modules_of (lexemes_of bytes tokens))) 2) bytes tokens
    ]

-- parts of a text that pass the check of a netlist
abbrev pub checked_in : (path text : List ℕ) → Parts → Result Parts (Reason Case)
checked_in path text raw = if passes raw then Ok raw else Err (check_reason path text raw)

abbrev pub checked_of : (path text : List ℕ) → Result Parts (Reason Case) → Result Parts (Reason Case)
checked_of path text (Ok raw) = checked_in path text raw
checked_of path text (Err reason) = Err reason

-- the parts of a netlist, which pass the check
abbrev pub netlist_in : (path text : List ℕ) → Result Parts (Reason Case)
netlist_in path text = checked_of path text (with_reason (text_reason path text) (text_in text))

-- what the lines of a signature file say
abbrev pub choice_in : Parts → List (List ℕ) → Result Chosen ChoiceFault
choice_in raw texts = choice_of raw texts

-- what a signature is taken of, by the keys of a netlist's flip-flops
abbrev pub signature_in : Parts → (path text : List ℕ) → Result Chosen (Reason Case)
signature_in raw path text = with_reason (signature_reason raw path text) (choice_in raw (lines_of text))

-- the runs of a stimulus, with so many bits in an input line
abbrev pub stimulus_in : ℕ → (path text : List ℕ) → Result Stimulus (Reason Case)
stimulus_in width path text = with_reason (stimulus_reason width path text) (stimulus_of width (lines_of text))

-- what a dump is due to have
abbrev pub widths_of : Parts → Chosen → Widths
widths_of raw choice = record { flops = length (circuit_of raw).flops; depth = depth_of choice; items = length choice.items }

-- a dump of a netlist and of what its signatures are taken of
abbrev pub dump_in : Parts → Chosen → (path text : List ℕ) → Result Dump (Reason Case)
dump_in raw choice path text =
    with_reason (dump_reason (widths_of raw choice) path text)
    (dump_of (reset_state (circuit_of raw)) (depth_of choice) (length choice.items) (lines_of text))

-- whether the runs have the moment: a run from 1, and a cycle from 0 to the run's number of cycles
abbrev pub has_moment : Stimulus → ℕ → ℕ → Bool
has_moment runs run cycle = nat_le 1 run && nat_le run (length runs.runs) && nat_le cycle (length (run_at runs run).inputs)

-- a moment of the runs
abbrev pub moment_in : Stimulus → ℕ → ℕ → Result Moment (Reason Case)
moment_in runs run cycle = if has_moment runs run cycle then Ok (moment run cycle) else Err (range_reason runs run)

-- a report
abbrev pub report_read : (path text : List ℕ) → Result Report (Reason Case)
report_read path text = with_reason (report_reason path text) (report_in text)

-- whether a waveform of the report's trace has few enough values: one for each net at each state
abbrev pub is_drawable : Parts → Report → Bool
is_drawable raw report = nat_le (length raw.names * length report.states) MAX_WAVE_VALUES

abbrev pub drawable_in : List ℕ → Parts → Report → Result Bool (Reason Case)
drawable_in path raw report = if is_drawable raw report then Ok true else Err (too_large_reason path)

-- whether all is known of the trace's last state
abbrev pub is_known : Report → Bool
is_known report = length report.free == 0

-- whether the trace of the report with this path has a waveform
abbrev pub size_in : List ℕ → Parts → Report → Result Bool (Reason Case)
size_in path raw report = if is_known report then drawable_in path raw report else Err (partial_reason path)

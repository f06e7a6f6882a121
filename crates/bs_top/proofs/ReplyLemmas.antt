-- What is answered for a report, a finding, a search or a backtrace, where memory sufficed for its text.
use Rattle.std.proofs.Common.{◌≡◌, ◌≢◌, ℕ, length, Bool, false, Result, Ok, Err, Vec, refl, Option, ap, subst, sym, ◌∙◌}
use Rattle.std.specs.Prelude.{IfOk}
use Rattle.std.specs.declared.alloc.Global.{Global}
use Rattle.bs_scan.specs.declared.seen.Seen.{Seen}
use Rattle.bs_bits.specs.declared.memory.NoMemory.{NoMemory}
use Rattle.bs_net.specs.Circuit.{Circuit}
use Rattle.bs_net.specs.Netlist.{circuit_of}
use Rattle.bs_net.specs.Parts.{Parts}
use Rattle.bs_stim.specs.Runs.{Stimulus}
use Rattle.bs_scan.specs.declared.dump.Dump.{Dump}
use Rattle.bs_scan.specs.Choice.{Chosen}
use Rattle.bs_scan.specs.Crash.{Crash, DumpFits, Recording, recording_of}
use Rattle.bs_report.specs.declared.report.Budgets.{Budgets}
use Rattle.bs_report.specs.declared.report.Report.{Report}
use Rattle.bs_report.specs.Text.{report_text}
use Rattle.bs_report.specs.declared.part.Part.{Part}
use Rattle.bs_loop.specs.Searched.{TellsCut}
use Rattle.bs_reach.specs.declared.reach.Reach.{Reach}
use Rattle.bs_reach.specs.Reach.{IsReach}
use Rattle.bs_reach.specs.Text.{reach_text}
use Rattle.bs_wave.specs.declared.wave.Wave.{Wave}
use Rattle.bs_wave.specs.Wave.{IsWaveOf}
use Rattle.bs_wave.specs.WaveText.{wave_text}
use Rattle.bs_note_calls.specs.Stops.{cut_lists}
use Rattle.bs_call.specs.declared.note.Note.TheVariants.{Wanting}
use Rattle.bs_call.specs.declared.note.Response.{Response}
use Rattle.bs_call.specs.Endings.{is_searched, miss_text_of, rejected_text_if, run_text}
use Rattle.bs_call.specs.Note.{DueText, SureText}
use Rattle.bs_top_files.specs.Entry.{CrashFiles, recording_in}
use Rattle.bs_outside.specs.declared.status.Status.TheVariants.{Done}
use Rattle.bs_top.specs.Drawn.{IsDrawn, IsTraceWave}
use Rattle.bs_top.specs.Finishes.{Answers, Audits, demo_budgets, Draws, Finds, IsBacktrace, reach_status, Reports, stop_status, Summarises}
use Rattle.bs_top.specs.Rejected.{finding_status, finding_text}
use Rattle.bs_top.specs.Said.{AuditSaid, DrawSaid, is_rejected, miss_of, ReachSaid, RunSaid}
use Rattle.bs_top.specs.Summary.{summary_text}

pub reports_told : {crash : Crash} {budgets : Budgets} (report : Report) (r : Result Response NoMemory) → IsBacktrace crash budgets report →
    IfOk r (λ a. a.reply.status ≡ stop_status report.stop) → IfOk r (λ a. a.reply.text.items ≡ report_text report) →
    IfOk r (λ a. Reports crash budgets a.reply.status a.reply.text.items)
reports_told report (Ok a) is status text = record { report = report; backtrace = is; written = text; answered = status }
reports_told report (Err want) is status text = tt

pub audits_told : {crash : Crash} {report : Report} (part : Option Part) (r : Result Response NoMemory) → Finds crash report part →
    IfOk r (λ a. a.reply.status ≡ finding_status part) → IfOk r (λ a. a.reply.text.items ≡ finding_text part) →
    IfOk r (λ a. Audits crash report a.reply.status a.reply.text.items)
audits_told part (Ok a) finds status text = record { part = part; finds = finds; answered = status; written = text }
audits_told part (Err want) finds status text = tt

pub draws_told : {crash : Crash} (raw : Parts) {report : Report} (part : Option Part) (r : Result Response NoMemory) → Finds crash report part →
    IfOk r (λ a. a.reply.status ≡ finding_status part) → IfOk r (λ a. IsDrawn raw report part a.reply.text.items) →
    IfOk r (λ a. Draws raw crash report a.reply.status a.reply.text.items)
draws_told raw part (Ok a) finds status drawn = record { part = part; finds = finds; answered = status; written = drawn }
draws_told raw part (Err want) finds status drawn = tt

pub answers_told : {c : Circuit} {p : Seen} {k b : ℕ} (reach : Reach) (r : Result Response NoMemory) → IsReach c p k b reach →
    IfOk r (λ a. a.reply.status ≡ reach_status reach.outcome) → IfOk r (λ a. a.reply.text.items ≡ reach_text reach) →
    IfOk r (λ a. Answers c p k b a.reply.status a.reply.text.items)
answers_told reach (Ok a) is status text = record { reach = reach; right = is; written = text; answered = status }
answers_told reach (Err want) is status text = tt

pub wave_told : (raw : Parts) (report : Report) (wave : Wave) (r : Result (Vec ℕ Global) NoMemory) → IsWaveOf raw report.states report.inputs wave →
    IfOk r (λ text. text.items ≡ wave_text wave) → IfOk r (λ text. IsTraceWave raw report text.items)
wave_told raw report wave (Ok text) is written = record { wave = wave; is = is; written = written }
wave_told raw report wave (Err want) is written = tt

pub summarises_told : (number : ℕ) {crash : Crash} (report : Report) (r : Result (Vec ℕ Global) NoMemory) → IsBacktrace crash demo_budgets report →
    IfOk r (λ text. text.items ≡ summary_text number report) → IfOk r (λ text. Summarises number crash Done text.items)
summarises_told number report (Ok text) is written = record { report = report; backtrace = is; written = written; answered = refl }
summarises_told number report (Err want) is written = tt

-- ---- what is said besides

pub reports_said : (budgets : Budgets) (crash_files : CrashFiles) (report : Report) (cut : Bool) (r : Result Response NoMemory) (before chip : Recording) →
    before ≡ recording_in crash_files.setup → chip ≡ recording_in crash_files.setup → TellsCut before budgets.conflicts report.steps cut →
    IfOk r (λ a. a.reply.text.items ≡ report_text report) →
    IfOk r (λ a. DueText (run_text chip crash_files.dump crash_files.setup.runs (length report.steps) report.stop cut (cut_lists report.steps)) a.note) →
    IfOk r (λ a. is_searched (length report.steps) report.stop ≡ false → a.note ≢ Wanting) →
    IfOk r (λ a. RunSaid budgets crash_files a.reply.text.items a.note)
reports_said budgets crash_files report cut (Ok a) before chip was is tells text says sure = record {
  report = report;
  written = text;
  cut = cut;
  tells = subst (λ (q : Recording). TellsCut q budgets.conflicts report.steps cut) was tells;
  says = subst (λ (q : Recording). DueText (run_text q crash_files.dump crash_files.setup.runs (length report.steps) report.stop cut (cut_lists report.steps)) a.note) is says;
  sure = sure;
}
reports_said budgets crash_files report cut (Err want) before chip was is tells text says sure = tt

-- the dump has the width of a chip of its setup, whatever was asked of it
pub fits_chip : (c : Circuit) (raw : Parts) (choice : Chosen) (runs : Stimulus) (dump : Dump) (before chip : Recording) → DumpFits c choice dump →
    c ≡ circuit_of raw → before ≡ recording_of raw choice runs → chip ≡ before → length dump.state.bits ≡ length chip.circuit.flops
fits_chip c raw choice runs dump before chip fits same is still =
    fits.state ∙ ap (λ (q : Circuit). length q.flops) same ∙ ap (λ (q : Recording). length q.circuit.flops) (sym (still ∙ is))

pub audits_said : (part : Option Part) (r : Result Response NoMemory) → IfOk r (λ a. a.reply.text.items ≡ finding_text part) →
    IfOk r (λ a. SureText (rejected_text_if (is_rejected part)) a.note) → IfOk r (λ a. AuditSaid a.reply.text.items a.note)
audits_said part (Ok a) text says = record { part = part; written = text; says = says }
audits_said part (Err want) text says = tt

pub draws_said : (raw : Parts) (report : Report) (part : Option Part) (r : Result Response NoMemory) → IfOk r (λ a. IsDrawn raw report part a.reply.text.items) →
    IfOk r (λ a. SureText (rejected_text_if (is_rejected part)) a.note) → IfOk r (λ a. DrawSaid raw report a.reply.text.items a.note)
draws_said raw report part (Ok a) text says = record { part = part; written = text; says = says }
draws_said raw report part (Err want) text says = tt

pub answers_said : (reach : Reach) (r : Result Response NoMemory) → IfOk r (λ a. a.reply.text.items ≡ reach_text reach) →
    IfOk r (λ a. SureText (miss_text_of (miss_of reach.outcome)) a.note) → IfOk r (λ a. ReachSaid a.reply.text.items a.note)
answers_said reach (Ok a) text says = record { reach = reach; written = text; says = says }
answers_said reach (Err want) text says = tt

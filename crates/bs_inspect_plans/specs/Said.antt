-- What is said of an answer, besides.
use Rattle.std.specs.Prelude.{◌≡◌, ◌==◌, ℕ, List, find, filter, length, map, slice_index_or, Option, Some, None, Result, Ok, Err, if◌then◌else◌, []}
use Rattle.std.specs.List.{range_with_len}
use Rattle.bs_bits.specs.declared.memory.NoMemory.{NoMemory}
use Rattle.bs_net.specs.Parts.{Parts}
use Rattle.bs_outside.specs.Calls.{FetchCall}
use Rattle.bs_outside.specs.declared.reply.Reply.{Reply}
use Rattle.bs_outside.specs.declared.status.Status.{Status}
use Rattle.bs_call.specs.declared.note.Response.{Response}
use Rattle.bs_call.specs.declared.note.Note.{Note}
use Rattle.bs_call.specs.declared.note.Note.TheVariants.{Silent}
use Rattle.bs_call.specs.Note.{Due, DueText}
use Rattle.bs_call.specs.Prepared.{NoteAlong}
use Rattle.bs_top_files.specs.Causes.{NoteSays}
use Rattle.bs_inspect_words.specs.Request.{Request}
use Rattle.bs_inspect_values.specs.Simulated.{Simulated, clock_key}
use Rattle.bs_inspect_values.specs.SimulatedRun.{SimulatedRun, is_late}
use Rattle.bs_inspect_files.specs.FlopFiles.{Scanned}
use Rattle.bs_inspect_usages.specs.Usages.{words_text}
use Rattle.bs_inspect_netlist.specs.Order.{is_unlisted, unlisted_count}
use Rattle.bs_inspect_notes.specs.Names.{unlisted_text}
use Rattle.bs_inspect_notes.specs.Simulations.{data_clock_text, late_text}
use Rattle.bs_inspect_report.specs.Keys.{flop_keys}
use Rattle.bs_inspect_plans.specs.Rejections.{rejected_text}
use Rattle.bs_inspect_plans.specs.declared.rejection.Rejecting.TheVariants as R
use Rattle.bs_inspect_plans.specs.Windows.{window_text}
use Rattle.bs_inspect_plans.specs.Lacking.{lacking_text}
use Rattle.bs_inspect_plans.specs.Sources.{source_of, sources_of}
use Rattle.bs_inspect_plans.specs.Work.{Work, plan_of, to_trace, to_runs, to_dump, to_table, to_state, to_evidence, to_lengths, to_why, to_bench}

-- a run whose values begin late
abbrev pub late_doubt : Option SimulatedRun → Option (List ℕ)
late_doubt None = None
late_doubt (Some r) = Some (late_text r.run.name r.begin)

-- a clock that is a data input, or else the first run whose values begin late
abbrev pub runs_doubt : List ℕ → Simulated → Option (List ℕ)
runs_doubt clock s = if s.sampled.data_clock then Some (data_clock_text clock (clock_key s.raw)) else late_doubt (find is_late s.sampled.runs)

-- the keys of flip-flops, which have these, that an order has no line for
abbrev pub keys_unlisted : List (List ℕ) → List ℕ → List (List ℕ)
keys_unlisted keys order = map (λ flop. slice_index_or keys flop []) (filter (is_unlisted order) (range_with_len 0 (length keys)))

abbrev pub unlisted_keys : Parts → List ℕ → List (List ℕ)
unlisted_keys raw order = keys_unlisted (flop_keys raw) order

-- the flip-flops of a netlist that an order has no line for, so many of them, where there are some
abbrev pub count_doubt : ℕ → Parts → List ℕ → Option (List ℕ)
count_doubt count raw order = if count == 0 then None else Some (unlisted_text count (length raw.flops) (unlisted_keys raw order))

abbrev pub order_doubt : Scanned → Option (List ℕ)
order_doubt scanned = count_doubt (unlisted_count (length scanned.raw.flops) scanned.order) scanned.raw scanned.order

-- What is said of work that is done, by its text: what is doubtful about runs; which flip-flops a scan chain lacks; what it means that an
-- answer is rejected; how long a trace is, where none of its states is told; how many flip-flops of a dump are not there; and nothing of other
-- work.
abbrev pub work_note : Work → Option (List ℕ → Option (List ℕ))
work_note (to_runs clock simulated) = Some (λ text. runs_doubt clock simulated)
work_note (to_state scanned) = Some (λ text. order_doubt scanned)
work_note (to_dump dumped) = Some (λ text. lacking_text dumped.taken.lacks)
work_note (to_why q trace_files) = Some (rejected_text R.Why)
work_note (to_bench top bench_files) = Some (rejected_text R.Bench)
work_note (to_evidence kind step report_files) = Some (rejected_text R.Evidence)
work_note (to_lengths kind asked answer_files) = Some (rejected_text R.Evidence)
work_note (to_trace all w only trace_files) = Some (λ text. window_text w (length trace_files.report.states))
work_note (to_table w only trace_files) = Some (λ text. window_text w (length trace_files.report.states))
work_note _ = None

abbrev pub said_by : Option (List ℕ → Option (List ℕ)) → List ℕ → Option (List ℕ)
said_by None text = None
said_by (Some says) text = says text

abbrev pub WorkSaid : Work → List ℕ → Note → Type 0
WorkSaid work text note = DueText (said_by (work_note work) text) note

-- what is said of the answer to a request, after these fetches
abbrev pub RequestSaid : Request → List FetchCall → Status → List ℕ → Note → Type 0
RequestSaid request = NoteAlong NoteSays WorkSaid (source_of (sources_of request)) (plan_of request)

-- the same of words: those that are no request have a note on what is wrong with them
abbrev pub WordsSaid : List (List ℕ) → Option Request → List FetchCall → Status → List ℕ → Note → Type 0
WordsSaid words None = λ fetches status text note. Due (λ said. said ≡ words_text words) note
WordsSaid words (Some request) = RequestSaid request

-- a reply on which there is no note
abbrev pub silent : Result Reply NoMemory → Result Response NoMemory
silent (Ok reply) = Ok record { reply = reply; note = Silent }
silent (Err want) = Err want

-- The answer of a program to words: what it says of the words, the files, the output and the notes.
use Rattle.std.specs.Prelude.{◌≡◌, ◌≢◌, ℕ, List, Result, IfOk, OnErr}
use Rattle.std.specs.Io.KnownBytes.{Keeps}
use Rattle.bs_bits.specs.declared.memory.NoMemory.{NoMemory}
use Rattle.bs_outside.specs.Clauses.{Answered, AnsweredAsTold, AnsweredWhole, CallByCall, CallsWanting, IsCalm, IsWordsOnlyFor, ReadFaultOf, RefusesFirstOf}
use Rattle.bs_outside.specs.Faults.{Rose}
use Rattle.bs_outside.specs.Texts.{Output, PutsText}
use Rattle.bs_outside.specs.declared.status.Status.{Status}
use Rattle.bs_outside.specs.declared.status.Status.TheVariants.{ReadFault, WriteFault}
use Rattle.bs_call.specs.Said.{CallNoted}
use Rattle.bs_call.specs.Meaning.{Meaning, planned, Source}

pub record AnswersWords {S K N J C W : Type 0} (p : Meaning J C W) (from : Source S) (shelf_before shelf_now : S) (to : Output K) (sink_before sink_now : K)
    (say : Output N) (notes_before notes_now : N) (words_of : List (List ℕ)) (answer : Result Status NoMemory) : Type 0 where
  -- Whatever the files were: what was written is what the words call for, or its front where a put failed.
  pub answered : IfOk answer (λ status. Answered p.allows p.finishes (from.held shelf_before) (from.faults shelf_before) (from.faults shelf_now)
      (planned p words_of) (to.written sink_before) (to.written sink_now) status)
  pub words : IfOk answer (λ status. status ≢ WriteFault → IsWordsOnlyFor (p.asked words_of) status)
  -- Where the shelf tells the files, they settle the answer, but for a fault.
  pub told : IfOk answer (λ status. status ≢ ReadFault → status ≢ WriteFault →
      AnsweredAsTold p.allows p.finishes (from.held shelf_before) (planned p words_of) (to.written sink_before) (to.written sink_now) status)
  -- The status of a refusal comes exactly where the first refusal of the walk is of the file, or the state, that it names.
  pub refusals : IfOk answer (λ status. status ≢ ReadFault → status ≢ WriteFault →
      RefusesFirstOf (from.held shelf_before) (from.faults shelf_before) (from.faults shelf_now) (planned p words_of) status)
  -- A fault is answered only where one was counted, and one that was counted is answered.
  pub read_fault : IfOk answer (λ status. status ≡ ReadFault →
      ReadFaultOf (from.held shelf_before) (from.faults shelf_before) (from.faults shelf_now) (planned p words_of) (to.written sink_before) (to.written sink_now))
  pub read_counted : IfOk answer (λ status. status ≢ ReadFault → status ≢ WriteFault →
      (name : List ℕ) → from.faults shelf_now name ≡ from.faults shelf_before name)
  pub write_fault : IfOk answer (λ status. status ≡ WriteFault → Rose (to.faults sink_before) (to.faults sink_now))
  pub write_counted : IfOk answer (λ status. status ≢ WriteFault → to.faults sink_now ≡ to.faults sink_before)
  -- With no fault, the answer is whole.
  pub complete : IsCalm (from.held shelf_before) (from.faults shelf_before) (from.faults shelf_now) (planned p words_of) (to.faults sink_before) (to.faults sink_now) →
      IfOk answer (λ status. AnsweredAsTold p.allows p.finishes (from.held shelf_before) (planned p words_of) (to.written sink_before) (to.written sink_now) status)
  pub whole : IsCalm (from.held shelf_before) (from.faults shelf_before) (from.faults shelf_now) (planned p words_of) (to.faults sink_before) (to.faults sink_now) →
      IfOk answer (λ status. AnsweredWhole p.allows p.finishes (from.held shelf_before) (from.faults shelf_before) (from.faults shelf_now)
      (planned p words_of) (to.written sink_before) (to.written sink_now) status)
  -- Call by call: each file of the job is asked for once, in its order, up to the one that stops it, and then each line of the
  -- text is put, up to and with one whose put fails; once memory ran out none is put.
  pub calls : IfOk answer (λ status. CallByCall p.allows p.finishes from.leads shelf_before shelf_now to.leads sink_before sink_now (planned p words_of) status)
  pub calls_wanting : OnErr answer (CallsWanting from.leads shelf_before shelf_now sink_before sink_now (planned p words_of))
  -- A netlist of several modules, by which the words above speak of a circuit, is the flat netlist of their design, and means it.
  pub design : p.design
  -- Once memory ran out, nothing was written, and no fault of the sink was counted.
  pub no_memory : OnErr answer (Keeps (to.written sink_before) (to.written sink_now) × (to.faults sink_now ≡ to.faults sink_before))
  -- What is said: nothing on work that calls for no note, and else exactly one put, of a note on this answer, and on a file about the
  -- very bytes that were fetched; or that the output failed; or that memory ran out.
  pub noted : IfOk answer (λ status. CallNoted p.allows p.finishes (p.speaks words_of (p.asked words_of)) from.leads shelf_before shelf_now
      to.leads sink_before sink_now say notes_before notes_now (planned p words_of) status)
  pub noted_wanting : OnErr answer (PutsText say notes_before notes_now p.memory)

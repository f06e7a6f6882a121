-- The parts of the answer of a program, from what was prepared and what went out.
use Rattle.std.proofs.Common.{ℕ, List, Ok, Err, refl}
use Rattle.bs_bits.specs.declared.memory.NoMemory.{NoMemory}
use Rattle.bs_outside.specs.Delivery.{Delivers, PutsLines}
use Rattle.bs_outside.specs.Prepared.{IsWork}
use Rattle.bs_outside.specs.Texts.{Output, PutsText}
use Rattle.bs_outside.specs.declared.status.Status.{Status}
use Rattle.bs_outside.proofs.Clauses.{answered, answered_as_told, call_by_call, calls_wanting, complete, complete_whole, read_counted, read_fault_of}
use Rattle.bs_outside.proofs.Clauses.{refuses_first_of, words_only}
use Rattle.bs_outside.proofs.Putting.{keeps_same}
use Rattle.bs_call.specs.Said.{SaysSent}
use Rattle.bs_call.specs.declared.note.Response.{Response}
use Rattle.bs_call.proofs.AnswerLemmas.{call_noted}
use Rattle.bs_call.specs.Answering.{AnswersWords}
use Rattle.bs_call.specs.Meaning.{Meaning, PreparedFor, Source}

-- an answer went out, and the note on it
pub answers : {S K N J C W : Type 0} {p : Meaning J C W} {from : Source S} {shelf_before shelf_now : S} {to : Output K} {sink_before sink_now : K}
    {say : Output N} {notes_before notes_now : N} {answer : Response} {status : Status} (words : List (List ℕ)) → IsWork p.finishes → p.design →
    PreparedFor p from shelf_before shelf_now words (Ok answer) →
    Delivers answer.reply.status answer.reply.text.items (to.written sink_before) (to.written sink_now) (to.faults sink_before) (to.faults sink_now) status →
    PutsLines to.leads sink_before sink_now answer.reply.text.items status →
    SaysSent to.leads sink_before sink_now answer.reply.text.items say notes_before notes_now answer.note status →
    AnswersWords p from shelf_before shelf_now to sink_before sink_now say notes_before notes_now words (Ok status)
answers {p = p} words kind means made sent lines says = record {
  answered = answered made.reply.answer sent;
  words = λ write. words_only p.plan_of (p.asked words) kind made.reply.answer sent write;
  told = λ read write. answered_as_told made.reply.answer sent read write;
  refusals = λ read write. refuses_first_of kind made.reply.answer sent read write;
  read_fault = λ is. read_fault_of kind made.reply.answer sent is;
  read_counted = λ read write. read_counted made.reply.answer sent read write;
  write_fault = sent.fault;
  write_counted = sent.steady;
  complete = λ calm. complete kind made.reply.answer sent calm;
  whole = λ calm. complete_whole kind made.reply.answer sent calm;
  calls = call_by_call made.reply sent lines;
  calls_wanting = tt;
  design = means;
  no_memory = tt;
  noted = call_noted made sent lines says;
  noted_wanting = tt;
}

-- memory ran out, and that was said
pub answers_wanting : {S K N J C W : Type 0} {p : Meaning J C W} {from : Source S} {shelf_before shelf_now : S} {to : Output K} {sink : K} {say : Output N}
    {notes_before notes_now : N} {want : NoMemory} (words : List (List ℕ)) → p.design → PreparedFor p from shelf_before shelf_now words (Err want) →
    PutsText say notes_before notes_now p.memory →
    AnswersWords p from shelf_before shelf_now to sink sink say notes_before notes_now words (Err want)
answers_wanting {to = to} {sink = sink} words means made said = record {
  answered = tt;
  words = tt;
  told = tt;
  refusals = tt;
  read_fault = tt;
  read_counted = tt;
  write_fault = tt;
  write_counted = tt;
  complete = λ calm. tt;
  whole = λ calm. tt;
  calls = tt;
  calls_wanting = calls_wanting made.reply;
  design = means;
  no_memory = (keeps_same (to.written sink), refl);
  noted = tt;
  noted_wanting = said;
}

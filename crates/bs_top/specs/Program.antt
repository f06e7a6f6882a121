-- What `backspace` means, as a program.
use Rattle.std.specs.Prelude.{◌≡◌}
use Rattle.bs_call.specs.Meaning.{Meaning}
use Rattle.bs_note_calls.specs.Faults.{memory_text}
use Rattle.bs_note_calls.specs.Words.{unread_text}
use Rattle.bs_call.specs.Note.{Sure}
use Rattle.bs_top_files.specs.Law.{NetlistsMeanDesigns}
use Rattle.bs_top_files.specs.Causes.{Case, CheckSays}
use Rattle.bs_top_words.specs.Job.{Job, job_of}
use Rattle.bs_top.specs.Finishes.{finishes}
use Rattle.bs_top.specs.Said.{WordsSaid}
use Rattle.bs_top.specs.Work.{Work, plan_of}

abbrev pub backspace_means : Meaning Job Case Work
backspace_means =
    record {
      asked = job_of;
      plan_of = plan_of;
      allows = CheckSays;
      finishes = finishes;
      speaks = WordsSaid;
      memory = memory_text;
      unread = Sure (λ text. text ≡ unread_text);
      design = NetlistsMeanDesigns;
    }

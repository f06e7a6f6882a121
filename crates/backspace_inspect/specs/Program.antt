-- What `backspace_inspect` means, as a program.
use Rattle.std.specs.Prelude.{◌≡◌}
use Rattle.bs_call.specs.Meaning.{Meaning}
use Rattle.bs_call.specs.Note.{Due}
use Rattle.bs_top_files.specs.Causes.{Case, CheckSays}
use Rattle.bs_inspect_plans.specs.Finishes.{finishes}
use Rattle.bs_inspect_plans.specs.Said.{WordsSaid}
use Rattle.bs_inspect_plans.specs.Work.{Work, plan_of}
use Rattle.bs_inspect_usages.specs.Usages.{memory_text, unread_text}
use Rattle.bs_inspect_words.specs.Request.{Request, request_of}

abbrev pub inspect_means : Meaning Request Case Work
inspect_means =
    record {
      asked = request_of;
      plan_of = plan_of;
      allows = CheckSays;
      finishes = finishes;
      speaks = WordsSaid;
      memory = memory_text;
      unread = Due (λ text. text ≡ unread_text);
      design = Unit {0};
    }

use Rattle.std.proofs.Common.{map}
use Rattle.std.specs.Prelude.{string_bytes}
use Rattle.bs_call.proofs.AnswerLemmas.{noted_nothing}
use Rattle.bs_inspect_words.specs.Request.{request_of}
use Rattle.bs_inspect_plans.proofs.WorkLemmas.{noted_words_as}
use Rattle.backspace_inspect.proofs.top.prepare.Goals as goal

pub returns-in-Ok : goal.returns-in-Ok
returns-in-Ok g c =
    noted_words_as (map string_bytes c.args.words.now) _ (request_of (map string_bytes c.args.words.now)) _ c.in-Ok.ensures c.asked_answer.ensures

pub returns-in-Err : goal.returns-in-Err
returns-in-Err g c = noted_nothing _

use Rattle.std.proofs.Common.{map, ap, sym}
use Rattle.std.specs.Prelude.{string_bytes}
use Rattle.bs_call.proofs.AnswerLemmas.{noted_words}
use Rattle.bs_inspect_words.specs.Asked.{shown_request}
use Rattle.bs_inspect_plans.proofs.WorkLemmas.{noted_words_as}
use Rattle.backspace_inspect.proofs.top.asked_answer.Goals as goal

pub returns-in-Some : goal.returns-in-Some
returns-in-Some g c =
    noted_words_as (map string_bytes c.args.words.now) _ (shown_request c.args.asked) _ (sym (ap shown_request c.in-Some.is)) c.request_answer-answer.ensures

pub returns-in-None : goal.returns-in-None
returns-in-None g c =
    noted_words_as (map string_bytes c.args.words.now) _ (shown_request c.args.asked) _ (sym (ap shown_request c.in-None.is))
    (noted_words _ c.words_answer.ensures.reply c.words_answer.ensures.note)

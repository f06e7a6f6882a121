use Rattle.std.proofs.Common.{map}
use Rattle.std.specs.Prelude.{string_bytes}
use Rattle.bs_call.proofs.CallLemmas.{answers, answers_wanting}
use Rattle.bs_call.proofs.answering.answer_words.Goals as goal

pub returns-in-Ok : goal.returns-in-Ok
returns-in-Ok g c =
    answers (map string_bytes c.args.words.now) c.in-Ok.ensures.work c.in-Ok.ensures.design c.in-Ok.ensures.prepared c.deliver_noted.ensures.sent
    c.deliver_noted.ensures.lines c.deliver_noted.ensures.said

pub returns-in-Err : goal.returns-in-Err
returns-in-Err g c = answers_wanting (map string_bytes c.args.words.now) c.in-Err.ensures.design c.in-Err.ensures.prepared c.say_memory.ensures

pub deliver_noted-requires : goal.deliver_noted-requires
deliver_noted-requires g c = c.in-Ok.ensures.prepared.reply.answer.no_write

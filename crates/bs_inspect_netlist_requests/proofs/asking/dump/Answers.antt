use Rattle.std.proofs.Common.{ℕ, subst}
use Rattle.std.specs.Prelude.{IfOk}
use Rattle.bs_call.specs.Note.{DueText}
use Rattle.bs_inspect_plans.specs.Lacking.{lacking_text}
use Rattle.bs_inspect_values.specs.Dumped.{dumped_of}
use Rattle.bs_inspect_plans.specs.Asked.{dump_files}
use Rattle.bs_inspect_words.specs.Asked.{dump_in}
use Rattle.bs_inspect_words.specs.Request.{Dump as Asked}
use Rattle.bs_inspect_plans.specs.Sources.{source_of, sources_of}
use Rattle.bs_inspect_plans.specs.Work.{to_dump}
use Rattle.bs_inspect_plans.proofs.WorkLemmas.{walked_noted, walked_stop}
use Rattle.bs_inspect_netlist_requests.proofs.asking.dump.Goals as goal

pub returns-in-Ok : goal.returns-in-Ok
returns-in-Ok g c =
    walked_noted (dumped_of (dump_files (dump_in c.args.asked.now))) to_dump
    (source_of (sources_of (Asked (dump_in c.args.asked.now)))) _ _ c.lacking_noted.ensures.reply
    (subst (λ (n : ℕ). IfOk c.lacking_noted.result (λ answer. DueText (lacking_text n) answer.note)) c.lacks_in.ensures c.lacking_noted.ensures.note)
    c.in-Ok.ensures c.tell_dump.ensures

pub returns-in-Err : goal.returns-in-Err
returns-in-Err g c =
    walked_stop (dumped_of (dump_files (dump_in c.args.asked.now))) to_dump
    _ (sources_of (Asked (dump_in c.args.asked.now))) _ c.dump_sources.ensures c.in-Err.ensures c.stop_at.ensures.reply c.stop_at.ensures.note

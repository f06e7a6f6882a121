use Rattle.std.proofs.Common.{Some, sym, ◌∙◌, ap}
use Rattle.std.specs.Prelude.{map, string_bytes}
use Rattle.bs_call.proofs.AnswerLemmas.{noted_alone}
use Rattle.bs_top_words.specs.Job.{job_of}
use Rattle.bs_top_words.specs.Shown.{job_in, shown_job}
use Rattle.bs_top.proofs.AskedLemmas.{budget_is, conflicts_fit, cycles_fit}
use Rattle.bs_top.proofs.WorkLemmas.{prepared_for, prepared_none, prepared_short}
use Rattle.bs_top.proofs.top.prepare.Goals as goal

pub run-requires : goal.run-requires
run-requires g c =
    budget_is (map string_bytes c.args.words.now) _
    (sym (sym c.in_ok-job.ensures.read ∙ (ap shown_job c.in-Some-Run.is ∙ ap (λ j. Some (job_in j)) c.in-Some-Run.field-0-is)))

pub returns-in_err-job : goal.returns-in_err-job
returns-in_err-job g c = prepared_short (map string_bytes c.args.words.now) _ _ _ c.from_residual.ensures.0

pub returns-in-Some-Run : goal.returns-in-Some-Run
returns-in-Some-Run g c =
    prepared_for (map string_bytes c.args.words.now) _ (job_of (map string_bytes c.args.words.now))
    (sym (sym c.in_ok-job.ensures.read ∙ (ap shown_job c.in-Some-Run.is ∙ ap (λ j. Some (job_in j)) c.in-Some-Run.field-0-is))) c.run.ensures

pub returns-in-Some-Audit : goal.returns-in-Some-Audit
returns-in-Some-Audit g c =
    prepared_for (map string_bytes c.args.words.now) _ (job_of (map string_bytes c.args.words.now))
    (sym (sym c.in_ok-job.ensures.read ∙ (ap shown_job c.in-Some-Audit.is ∙ ap (λ j. Some (job_in j)) c.in-Some-Audit.field-0-is))) c.audit.ensures

pub returns-in-Some-Demo : goal.returns-in-Some-Demo
returns-in-Some-Demo g c =
    prepared_for (map string_bytes c.args.words.now) _ (job_of (map string_bytes c.args.words.now))
    (sym (sym c.in_ok-job.ensures.read ∙ (ap shown_job c.in-Some-Demo.is ∙ ap (λ j. Some (job_in j)) c.in-Some-Demo.field-0-is)))
    (noted_alone _ c.demo.ensures)

pub returns-in-Some-Dump : goal.returns-in-Some-Dump
returns-in-Some-Dump g c =
    prepared_for (map string_bytes c.args.words.now) _ (job_of (map string_bytes c.args.words.now))
    (sym (sym c.in_ok-job.ensures.read ∙ (ap shown_job c.in-Some-Dump.is ∙ ap (λ j. Some (job_in j)) c.in-Some-Dump.field-0-is))) c.dump.ensures

pub returns-in-Some-Wave : goal.returns-in-Some-Wave
returns-in-Some-Wave g c =
    prepared_for (map string_bytes c.args.words.now) _ (job_of (map string_bytes c.args.words.now))
    (sym (sym c.in_ok-job.ensures.read ∙ (ap shown_job c.in-Some-Wave.is ∙ ap (λ j. Some (job_in j)) c.in-Some-Wave.field-0-is))) c.wave.ensures

pub reach-requires-clause-cycles : goal.reach-requires-clause-cycles
reach-requires-clause-cycles g c =
    cycles_fit (map string_bytes c.args.words.now) _
    (sym (sym c.in_ok-job.ensures.read ∙ (ap shown_job c.in-Some-Reach.is ∙ ap (λ j. Some (job_in j)) c.in-Some-Reach.field-0-is)))

pub reach-requires-clause-limit : goal.reach-requires-clause-limit
reach-requires-clause-limit g c =
    conflicts_fit (map string_bytes c.args.words.now) _
    (sym (sym c.in_ok-job.ensures.read ∙ (ap shown_job c.in-Some-Reach.is ∙ ap (λ j. Some (job_in j)) c.in-Some-Reach.field-0-is)))

pub returns-in-Some-Reach : goal.returns-in-Some-Reach
returns-in-Some-Reach g c =
    prepared_for (map string_bytes c.args.words.now) _ (job_of (map string_bytes c.args.words.now))
    (sym (sym c.in_ok-job.ensures.read ∙ (ap shown_job c.in-Some-Reach.is ∙ ap (λ j. Some (job_in j)) c.in-Some-Reach.field-0-is))) c.reach.ensures

pub returns-in-None : goal.returns-in-None
returns-in-None g c =
    prepared_none (map string_bytes c.args.words.now) (job_of (map string_bytes c.args.words.now)) _
    (sym (sym c.in_ok-job.ensures.read ∙ ap shown_job c.in-None.is)) c.words_answer.ensures.reply c.words_answer.ensures.note

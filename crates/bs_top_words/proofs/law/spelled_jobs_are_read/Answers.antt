use Rattle.bs_top_words.proofs.JobLemmas.{spelled_jobs_are_read}
use Rattle.bs_top_words.proofs.law.spelled_jobs_are_read.Goals as goal

pub returns : goal.returns
returns c = spelled_jobs_are_read

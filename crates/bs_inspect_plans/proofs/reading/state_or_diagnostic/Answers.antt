use Rattle.std.proofs.Common.{ℕ, subst}
use Rattle.bs_scan.specs.declared.seen.Seen.{Seen}
use Rattle.bs_outside.specs.Diagnostic.{noted, worded}
use Rattle.bs_outside.specs.Walks.{Reads}
use Rattle.bs_top_files.specs.Causes.{CheckSays, NoteSays}
use Rattle.bs_inspect_plans.specs.Readings.{state_read}
use Rattle.bs_inspect_plans.proofs.reading.state_or_diagnostic.Goals as goal

pub returns-clause-words : goal.returns-clause-words
returns-clause-words c =
    subst (λ (w : ℕ). Reads {T = Seen} CheckSays (λ (seen : Seen). seen) (state_read w c.args.path.now c.args.text.now) (worded c.seen_or_diagnostic.result))
    c.width.ensures c.seen_or_diagnostic.ensures.words

pub returns-clause-note : goal.returns-clause-note
returns-clause-note c =
    subst (λ (w : ℕ). Reads {T = Seen} NoteSays (λ (seen : Seen). seen) (state_read w c.args.path.now c.args.text.now) (noted c.seen_or_diagnostic.result))
    c.width.ensures c.seen_or_diagnostic.ensures.note

use Rattle.std.proofs.Common.{ℕ, List, Some, None, map}
use Rattle.std.specs.Prelude.{string_bytes}
use Rattle.bs_inspect_usages.proofs.ReasonLemmas.{reason_by}
use Rattle.bs_inspect_usages.proofs.reason.reason_for.Goals as goal

pub returns-in-Some : goal.returns-in-Some
returns-in-Some c =
    reason_by c.args.command.now (map string_bytes c.args.words.now) (Some c.in-Some.sentence.now) _ _ c.in-Some.ensures c.copy_of.ensures

pub returns-in-None : goal.returns-in-None
returns-in-None c = reason_by c.args.command.now (map string_bytes c.args.words.now) None _ _ c.in-None.ensures c.number_sentence.ensures

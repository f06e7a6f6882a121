use Rattle.std.proofs.Common.{map}
use Rattle.std.specs.Prelude.{string_bytes}
use Rattle.bs_inspect_usages.proofs.ReasonLemmas.{number_found, number_none}
use Rattle.bs_inspect_usages.proofs.reason.number_sentence.Goals as goal

pub returns-in-Some : goal.returns-in-Some
returns-in-Some c =
    number_found c.args.command.now (map string_bytes c.args.words.now) _ _ _ c.in-Some.ensures.is c.bad_sentence.ensures

pub returns-in-None : goal.returns-in-None
returns-in-None c = number_none c.args.command.now (map string_bytes c.args.words.now) _ _ c.in-None.ensures.is c.once_sentence.ensures

use Rattle.std.proofs.Common.{map}
use Rattle.std.specs.Prelude.{string_bytes}
use Rattle.bs_inspect_usages.proofs.TwiceLemmas.{once_found, once_none}
use Rattle.bs_inspect_usages.proofs.reason.once_sentence.Goals as goal

pub returns-in-Some : goal.returns-in-Some
returns-in-Some c =
    once_found c.args.command.now (map string_bytes c.args.words.now) _ _ _ c.in-Some.ensures.is c.again_sentence.ensures

pub returns-in-None : goal.returns-in-None
returns-in-None c = once_none c.args.command.now (map string_bytes c.args.words.now) _ _ c.in-None.ensures.is c.stand_sentence.ensures

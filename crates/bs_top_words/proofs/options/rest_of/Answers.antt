use Rattle.bs_top_words.proofs.Prefixes.{rest_from}
use Rattle.bs_top_words.proofs.options.rest_of.Goals as goal

pub returns : goal.returns
returns c = rest_from _ _ _ c.strip_prefix.ensures.cases

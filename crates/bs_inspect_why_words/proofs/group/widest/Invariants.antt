use Rattle.bs_inspect_why_words.specs.Groups.{IsWidestOf}
use Rattle.bs_inspect_why_words.proofs.group.widest.Given as goal

abbrev pub invariant-groups : goal.invariant-groups
invariant-groups l = IsWidestOf l.reasons l.groups l.i l.best l.most

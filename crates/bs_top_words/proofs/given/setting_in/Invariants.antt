use Rattle.std.proofs.Common.{◌≡◌, drop}
use Rattle.bs_top_words.specs.Given.{setting_in}
use Rattle.bs_top_words.proofs.given.setting_in.Given as goal

abbrev pub invariant-flags : goal.invariant-flags
invariant-flags l = setting_in l.flags l.word ≡ setting_in (drop l.flag-index l.flags) l.word

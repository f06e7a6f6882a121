use Rattle.std.proofs.Common.{◌≡◌, map, drop}
use Rattle.bs_top_words.specs.Asked.{setting_of}
use Rattle.bs_inspect_usages.specs.Settings.{value_of}
use Rattle.bs_inspect_usages.proofs.settings.value_of.Given as goal

abbrev pub invariant-settings : goal.invariant-settings
invariant-settings l = value_of l.flag (map setting_of l.settings) ≡ value_of l.flag (map setting_of (drop l.setting-index l.settings))

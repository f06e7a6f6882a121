use Rattle.std.proofs.Common.{◌≡◌, take, map}
use Rattle.bs_top_words.specs.Asked.{setting_of}
use Rattle.bs_inspect_usages.specs.Settings.{values_of}
use Rattle.bs_inspect_usages.proofs.settings.values_of.Given as goal

abbrev pub invariant-settings : goal.invariant-settings
invariant-settings l = map (λ s. s.now) l.values.items ≡ values_of l.flag (map setting_of (take l.setting-index l.settings))

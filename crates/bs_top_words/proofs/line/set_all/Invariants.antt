use Rattle.std.proofs.Common.{◌≡◌, drop, map}
use Rattle.bs_top_words.specs.Asked.{setting_of}
use Rattle.bs_top_words.specs.CommandLine.{set_all}
use Rattle.bs_top_words.specs.Shown.{line_in}
use Rattle.bs_top_words.proofs.line.set_all.Given as goal

abbrev pub invariant-settings : goal.invariant-settings
invariant-settings l =
    set_all (line_in l.line) (map setting_of (drop l.setting-index l.settings)) ≡ set_all (line_in l.initial.line) (map setting_of l.settings)

-- Tests over the options of the code and of the definitions.
use Rattle.std.proofs.Common.{◌≡◌, Bool, true, false, ◌&&◌, ◌||◌, List, [], ◌∷◌, map, refl, ap, sym, ◌∙◌}
use Rattle.std.specs.List.{list_all, list_any}
use Rattle.std.proofs.lemmas.List.Folds.{list_all-map}
use Rattle.bs_top_words.specs.declared.flags.Flag.{Flag}
use Rattle.bs_top_words.specs.declared.given.Setting.{Setting as CodeSetting}
use Rattle.bs_top_words.specs.Asked.{setting_of}
use Rattle.bs_top_words.specs.Flags.{is_flag}
use Rattle.bs_inspect_usages.specs.Settings.{fit, has_flag, is_among, is_given, is_once}

any_setting : (flag : Flag) (settings : List CodeSetting) →
    list_any (λ s. is_flag flag s.flag) settings ≡ list_any (has_flag flag) (map setting_of settings)
any_setting flag [] = refl
any_setting flag (s ∷ settings) = ap (λ (b : Bool). is_flag flag s.flag || b) (any_setting flag settings)

pub given_by : (flag : Flag) (settings : List CodeSetting) (b : Bool) → b ≡ list_any (λ s. is_flag flag s.flag) settings →
    b ≡ is_given flag (map setting_of settings)
given_by flag settings b e = e ∙ any_setting flag settings

-- whether all are among the options, and then whether each of these comes once
abbrev both : List Flag → List CodeSetting → Bool → Bool
both flags settings each = each && list_all (is_once (map setting_of settings)) flags

fit_by : (flags : List Flag) (settings : List CodeSetting) (each : Bool) → each ≡ list_all (λ s. is_among flags s.flag) settings →
    both flags settings each ≡ fit flags (map setting_of settings)
fit_by flags settings each e = ap (both flags settings) (e ∙ sym (list_all-map (λ s. is_among flags s.flag) setting_of settings))

pub fit_then : (flags : List Flag) (settings : List CodeSetting) (each once : Bool) → each ≡ list_all (λ s. is_among flags s.flag) settings →
    each ≡ true → once ≡ list_all (λ f. is_once (map setting_of settings) f) flags → once ≡ fit flags (map setting_of settings)
fit_then flags settings each once e is same = same ∙ (sym (ap (both flags settings) is) ∙ fit_by flags settings each e)

pub fit_else : (flags : List Flag) (settings : List CodeSetting) (each : Bool) → each ≡ list_all (λ s. is_among flags s.flag) settings →
    each ≡ false → false ≡ fit flags (map setting_of settings)
fit_else flags settings each e not = sym (ap (both flags settings) not) ∙ fit_by flags settings each e

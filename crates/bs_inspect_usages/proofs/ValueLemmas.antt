-- The first value of an option, setting by setting.
use Rattle.std.proofs.Common.{◌≡◌, ℕ, ◌<◌, ◌≤◌, ◌+◌, true, false, List, length, map, drop, get_or, Option, Some, None, refl, ap, sym, ◌∙◌}
use Rattle.std.proofs.lemmas.List.{drop_more, drop_all}
use Rattle.bs_top_words.specs.declared.flags.Flag.{Flag}
use Rattle.bs_top_words.specs.declared.given.Setting.{Setting as CodeSetting}
use Rattle.bs_top_words.specs.Asked.{setting_of}
use Rattle.bs_top_words.specs.Flags.{is_flag}
use Rattle.bs_inspect_usages.specs.Settings.{value_of}

abbrev value : Flag → List CodeSetting → Option (List ℕ)
value flag ss = value_of flag (map setting_of ss)

pub value_more : (flag : Flag) (ss : List CodeSetting) (i : ℕ) (d : CodeSetting) → i < length ss →
    value_of flag (map setting_of ss) ≡ value_of flag (map setting_of (drop i ss)) → is_flag flag (get_or ss i d).flag ≡ false →
    value_of flag (map setting_of ss) ≡ value_of flag (map setting_of (drop (i + 1) ss))
value_more flag ss i d lt e not = e ∙ (ap (value flag) (drop_more ss i d lt) ∙ rw not refl)

pub value_found : (flag : Flag) (ss : List CodeSetting) (i : ℕ) (d : CodeSetting) (v : List ℕ) → i < length ss →
    value_of flag (map setting_of ss) ≡ value_of flag (map setting_of (drop i ss)) → is_flag flag (get_or ss i d).flag ≡ true →
    v ≡ (get_or ss i d).value.now → Some v ≡ value_of flag (map setting_of ss)
value_found flag ss i d v lt e is same = ap Some same ∙ sym (e ∙ (ap (value flag) (drop_more ss i d lt) ∙ rw is refl))

pub value_none : (flag : Flag) (ss : List CodeSetting) (i : ℕ) → length ss ≤ i →
    value_of flag (map setting_of ss) ≡ value_of flag (map setting_of (drop i ss)) → None ≡ value_of flag (map setting_of ss)
value_none flag ss i le e = sym (e ∙ ap (value flag) (drop_all i ss le))

-- The option of a table in a word, option by option.
use Rattle.std.proofs.Common.{◌≡◌, ℕ, ◌<◌, ◌≤◌, ◌+◌, true, false, List, length, map, drop, get_or, Option, Some, None, refl, ap, sym, ◌∙◌}
use Rattle.std.proofs.lemmas.List.{drop_more, drop_all}
use Rattle.bs_top_words.specs.declared.flags.Flag.{Flag}
use Rattle.bs_top_words.specs.Flags.{value_behind}
use Rattle.bs_top_words.specs.Given.{Setting, setting_in}

abbrev setting : Flag → List ℕ → Setting
setting flag value = record { flag = flag; value = value }

pub setting_more : (flags : List Flag) (word : List ℕ) (i : ℕ) (d : Flag) → i < length flags → setting_in flags word ≡ setting_in (drop i flags) word →
    value_behind (get_or flags i d) word ≡ None → setting_in flags word ≡ setting_in (drop (i + 1) flags) word
setting_more flags word i d lt e none = e ∙ (ap (λ (fs : List Flag). setting_in fs word) (drop_more flags i d lt) ∙ rw none refl)

pub setting_found : (flags : List Flag) (word : List ℕ) (i : ℕ) (d : Flag) (v : List ℕ) → i < length flags →
    setting_in flags word ≡ setting_in (drop i flags) word → value_behind (get_or flags i d) word ≡ Some v →
    Some (setting (get_or flags i d) v) ≡ setting_in flags word
setting_found flags word i d v lt e is = sym (e ∙ (ap (λ (fs : List Flag). setting_in fs word) (drop_more flags i d lt) ∙ rw is refl))

pub setting_none : (flags : List Flag) (word : List ℕ) (i : ℕ) → length flags ≤ i → setting_in flags word ≡ setting_in (drop i flags) word →
    None ≡ setting_in flags word
setting_none flags word i le e = sym (e ∙ ap (λ (fs : List Flag). setting_in fs word) (drop_all i flags le))

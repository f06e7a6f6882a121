-- The file that a word names, and the bytes of a pattern in a file, one by one.
use Rattle.std.proofs.Common.{◌≡◌, ℕ, ◌<◌, ◌+◌, true, false, nat_eq, cond, List, [], ◌∷◌, ◌++◌, length, take, drop, get_or, Option, Some, None, Bor, refl, sym, ◌∙◌, ap, subst}
use Rattle.std.specs.Prelude.{not, MatchOption, if◌then◌else◌}
use Rattle.std.specs.Option.{option_copied}
use Rattle.std.specs.List.{starts_with}
use Rattle.std.specs.Str.{IsCharBoundary}
use Rattle.std.specs.Str.Pattern.{FindsTextPrefix}
use Rattle.std.proofs.lemmas.Str.Pattern.{starts_text}
use Rattle.std.proofs.lemmas.List.Elements.{filter_more}
use Rattle.bs_inspect_files.specs.Readings.{is_white, joined}

-- what stands behind a prefix
pub behind_from : (prefix word : List ℕ) (r : Option (Bor (List ℕ))) →
    MatchOption r (FindsTextPrefix prefix word None)
    (λ x. (k : ℕ) × FindsTextPrefix prefix word (Some k) × (x.now ≡ drop k word) × (length x.now + k ≡ length word)) →
    option_copied r ≡ (if starts_with nat_eq word prefix then Some (drop (length prefix) word) else None)
behind_from prefix word None h =
    let lacks : starts_with nat_eq word prefix ≡ false = sym (starts_text false prefix word h) in
    rw lacks refl
behind_from prefix word (Some x) h =
    let stands : starts_with nat_eq word prefix ≡ true =
    sym (starts_text true prefix word (h.0, h.1, subst (λ (k : ℕ). IsCharBoundary word k) (sym h.1.0) h.1.2)) in
    rw stands (ap (λ (l : List ℕ). Some l) (h.2 ∙ ap (λ (k : ℕ). drop k word) h.1.0))

pub joined_more : (text before after : List ℕ) (i d : ℕ) → i < length text → before ≡ joined (take i text) →
    after ≡ before ++ cond (not (is_white (get_or text i d))) (get_or text i d ∷ []) [] → after ≡ joined (take (i + 1) text)
joined_more text before after i d lt e goes =
    goes
    ∙ (ap (λ (t : List ℕ). t ++ cond (not (is_white (get_or text i d))) (get_or text i d ∷ []) []) e
    ∙ sym (filter_more (λ (b : ℕ). not (is_white b)) text i d lt))

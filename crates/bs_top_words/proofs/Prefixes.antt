-- What stands behind a prefix.
use Rattle.std.proofs.Common.{◌≡◌, ℕ, ◌+◌, true, false, nat_eq, List, length, drop, Option, Some, None, Bor, refl, sym, ◌∙◌, ap, subst}
use Rattle.std.specs.Prelude.{MatchOption}
use Rattle.std.specs.Option.{option_copied}
use Rattle.std.specs.List.{starts_with}
use Rattle.std.specs.Str.{IsCharBoundary}
use Rattle.std.specs.Str.Pattern.{FindsTextPrefix}
use Rattle.std.proofs.lemmas.Str.Pattern.{starts_text}
use Rattle.bs_top_words.specs.Options.{rest_of}

pub rest_from : (prefix word : List ℕ) (r : Option (Bor (List ℕ))) →
    MatchOption r (FindsTextPrefix prefix word None)
    (λ x. (k : ℕ) × FindsTextPrefix prefix word (Some k) × (x.now ≡ drop k word) × (length x.now + k ≡ length word)) → option_copied r ≡ rest_of prefix word
rest_from prefix word None h =
    let lacks : starts_with nat_eq word prefix ≡ false = sym (starts_text false prefix word h) in
    rw lacks refl
rest_from prefix word (Some x) h =
    let stands : starts_with nat_eq word prefix ≡ true =
    sym (starts_text true prefix word (h.0, h.1, subst (λ (k : ℕ). IsCharBoundary word k) (sym h.1.0) h.1.2)) in
    rw stands (ap (λ (l : List ℕ). Some l) (h.2 ∙ ap (λ (k : ℕ). drop k word) h.1.0))

-- How many bits are known.
use Rattle.std.proofs.Common.{◌≡◌, ℕ, ◌+◌, ◌<◌, Bool, true, false, List, take, length, get_or, refl, ap, sym, ◌∙◌}
use Rattle.std.proofs.lemmas.List.{length-append}
use Rattle.bs_scan.specs.Seen.{kept, kept_one}
use Rattle.bs_scan.proofs.KeptLemmas.{kept_more, kept_nothing}
use Rattle.bs_call.specs.Endings.{known_one}

pub known_none : (frees bits : List Bool) → 0 ≡ length (kept frees (take 0 bits))
known_none frees bits = ap length (sym (kept_nothing frees))

one : (free bit : Bool) → length (kept_one free bit) ≡ known_one free
one true bit = refl
one false bit = refl

-- one place more
pub known_more : (frees bits : List Bool) (at : ℕ) → at < length bits →
    length (kept frees (take (at + 1) bits)) ≡ length (kept frees (take at bits)) + known_one (get_or frees at false)
known_more frees bits at there =
    ap length (kept_more frees bits at false there)
    ∙ (length-append (kept frees (take at bits)) (kept_one (get_or frees at false) (get_or bits at false))
    ∙ ap (λ (n : ℕ). length (kept frees (take at bits)) + n) (one (get_or frees at false) (get_or bits at false)))

-- Words, one by one.
use Rattle.std.proofs.Common.{◌≡◌, ℕ, ◌<◌, ◌≤◌, ◌+◌, Bool, true, false, ◌||◌, List, [], ◌∷◌, ◌++◌, length, map, take, drop, get_or}
use Rattle.std.proofs.Common.{Option, Some, Result, Ok, Err, refl, ap, sym, ◌∙◌, ◌⊎◌, inl, inr}
use Rattle.std.specs.Borrow.{Bor}
use Rattle.std.specs.List.{list_any}
use Rattle.std.proofs.lemmas.List.{drop_more, drop_all, length-map}
use Rattle.bs_bits.specs.Reading.{◌>>=◌}
use Rattle.bs_net_names.specs.Keys.{KeyParts}
use Rattle.bs_net_names.specs.Splits.{last_split}
use Rattle.bs_inspect_seen.specs.declared.fault.GivenFault.{GivenFault}
use Rattle.bs_inspect_seen.specs.declared.fault.GivenFault.TheVariants.{NoMemory, Unknown, Wide, Twice}
use Rattle.bs_inspect_seen.specs.declared.given.Given.{Given as CodeGiven}
use Rattle.bs_inspect_seen.specs.Given.{Given, given_at, given_in, given_with, givens_from, has_flop, is_twice, is_wide, least}

-- a test of what the code's items are seen as
pub any_map : {X Y : Type 0} (test : Y → Bool) (f : X → Y) (xs : List X) → list_any (λ x. test (f x)) xs ≡ list_any test (map f xs)
any_map test f [] = refl
any_map test f (x ∷ xs) = ap (λ (b : Bool). test (f x) || b) (any_map test f xs)

-- ---- a name with a value

pub with_unknown : (numbers : List ℕ) (flops : List KeyParts) (es : List CodeGiven) (name : List ℕ) (bits : List Bool) → has_flop flops name ≡ false →
    given_with numbers flops (map given_in es) name bits ≡ Err (Unknown (length es + 1))
with_unknown numbers flops es name bits none = rw none (ap (λ n. Err (Unknown (n + 1))) (length-map es given_in))

pub with_wide : (numbers : List ℕ) (flops : List KeyParts) (es : List CodeGiven) (name : List ℕ) (bits : List Bool) → has_flop flops name ≡ true →
    is_wide numbers bits ≡ true → given_with numbers flops (map given_in es) name bits ≡ Err (Wide (length es + 1))
with_wide numbers flops es name bits some wide = rw (some, wide) (ap (λ n. Err (Wide (n + 1))) (length-map es given_in))

pub with_twice : (numbers : List ℕ) (flops : List KeyParts) (es : List CodeGiven) (name : List ℕ) (bits : List Bool) → has_flop flops name ≡ true →
    is_wide numbers bits ≡ false → is_twice flops (map given_in es) name ≡ true →
    given_with numbers flops (map given_in es) name bits ≡ Err (Twice (length es + 1))
with_twice numbers flops es name bits some fits twice = rw (some, fits, twice) (ap (λ n. Err (Twice (n + 1))) (length-map es given_in))

pub with_new : (numbers : List ℕ) (flops : List KeyParts) (gs : List Given) (name : List ℕ) (bits : List Bool) (low : ℕ) → has_flop flops name ≡ true →
    is_wide numbers bits ≡ false → is_twice flops gs name ≡ false → low ≡ least numbers →
    given_with numbers flops gs name bits ≡ Ok record { name = name; bits = bits; low = low }
with_new numbers flops gs name bits low some fits new e =
    rw (some, fits, new) (ap (λ (n : ℕ). Ok record { name = name; bits = bits; low = n }) (sym e))

-- ---- words

abbrev Read : Type 0
Read = Result (List Given) GivenFault

abbrev Texts : Type 0
Texts = List (Bor (List ℕ))

abbrev shown : Texts → List (List ℕ)
shown words = map (λ s. s.now) words

abbrev left : List KeyParts → List KeyParts → List Given → Texts → Read
left nets flops earlier words = givens_from nets flops earlier (map (λ s. s.now) words)

abbrev behind : List KeyParts → List KeyParts → List Given → Texts → Result Given GivenFault → Read
behind nets flops earlier words r = r >>= λ g. givens_from nets flops (earlier ++ g ∷ []) (map (λ s. s.now) words)

pub word_more : (all : Read) (nets flops : List KeyParts) (earlier : List Given) (words : List (Bor (List ℕ))) (i : ℕ) (d : Bor (List ℕ)) (g : Given) →
    i < length words → all ≡ givens_from nets flops earlier (map (λ s. s.now) (drop i words)) →
    given_at nets flops earlier (last_split 61 (get_or words i d).now) ≡ Ok g →
    all ≡ givens_from nets flops (earlier ++ g ∷ []) (map (λ s. s.now) (drop (i + 1) words))
word_more all nets flops earlier words i d g lt is ok =
    is ∙ (ap (left nets flops earlier) (drop_more words i d lt) ∙ ap (behind nets flops earlier (drop (i + 1) words)) ok)

pub word_faulty : (all : Read) (nets flops : List KeyParts) (earlier : List Given) (words : List (Bor (List ℕ))) (i : ℕ) (d : Bor (List ℕ))
    (fault : GivenFault) → i < length words → all ≡ givens_from nets flops earlier (map (λ s. s.now) (drop i words)) →
    (fault ≡ NoMemory) ⊎ (given_at nets flops earlier (last_split 61 (get_or words i d).now) ≡ Err fault) → (fault ≡ NoMemory) ⊎ (all ≡ Err fault)
word_faulty all nets flops earlier words i d fault lt is (inl want) = inl want
word_faulty all nets flops earlier words i d fault lt is (inr err) =
    inr (is ∙ (ap (left nets flops earlier) (drop_more words i d lt) ∙ ap (behind nets flops earlier (drop (i + 1) words)) err))

pub words_end : (all : Read) (nets flops : List KeyParts) (earlier : List Given) (words : List (Bor (List ℕ))) (i : ℕ) → length words ≤ i →
    all ≡ givens_from nets flops earlier (map (λ s. s.now) (drop i words)) → all ≡ Ok earlier
words_end all nets flops earlier words i le is = is ∙ ap (left nets flops earlier) (drop_all i words le)

-- Keys as bytes, and the key of an input.
use Rattle.std.proofs.Common.{◌≡◌, ℕ, zero, suc, ◌<◌, ◌+◌, List, [], ◌∷◌, ◌++◌, length, map, take, get_or, refl, ap, sym, ◌∙◌, arith, ◌≤◌}
use Rattle.std.specs.Borrow.{Bor}
use Rattle.std.proofs.lemmas.List.{append_assoc, append-nil, map-append, take_all, take_more}
use Rattle.bs_inspect_values.specs.Words.{key_at}

abbrev Texts : Type 0
Texts = List (Bor (List ℕ))

abbrev shown : Texts → List (List ℕ)
shown texts = map (λ s. s.now) texts

-- nothing yet
pub bytes_none : (bytes texts : Texts) → map (λ s. s.now) bytes ≡ map (λ s. s.now) bytes ++ map (λ s. s.now) (take 0 texts)
bytes_none bytes texts = sym (append-nil (shown bytes))

-- a text more
pub bytes_more : (before bytes : Texts) (b : Bor (List ℕ)) (texts : Texts) (i : ℕ) (d : Bor (List ℕ)) → i < length texts →
    map (λ s. s.now) bytes ≡ map (λ s. s.now) before ++ map (λ s. s.now) (take i texts) → b.now ≡ (get_or texts i d).now →
    map (λ s. s.now) (bytes ++ b ∷ []) ≡ map (λ s. s.now) before ++ map (λ s. s.now) (take (i + 1) texts)
bytes_more before bytes b texts i d lt e is =
    let f : Bor (List ℕ) → List ℕ = λ (s : Bor (List ℕ)). s.now in
    map-append f bytes (b ∷ [])
    ∙ ((λ j. e j ++ is j ∷ [])
    ∙ (append_assoc (shown before) (shown (take i texts)) ((get_or texts i d).now ∷ [])
    ∙ ap (λ (t : List (List ℕ)). shown before ++ t) (sym (ap (map f) (take_more texts i d lt) ∙ map-append f (take i texts) (get_or texts i d ∷ [])))))

pub bytes_end : (before bytes texts : Texts) (i : ℕ) → length texts ≤ i →
    map (λ s. s.now) bytes ≡ map (λ s. s.now) before ++ map (λ s. s.now) (take i texts) →
    map (λ s. s.now) bytes ≡ map (λ s. s.now) before ++ map (λ s. s.now) texts
bytes_end before bytes texts i le e = e ∙ ap (λ (t : Texts). shown before ++ shown t) (take_all i texts le)

pub one_part : (before keys slice bytes : Texts) (all : List (List ℕ)) → map (λ s. s.now) keys ≡ all → slice ≡ keys →
    map (λ s. s.now) bytes ≡ map (λ s. s.now) before ++ map (λ s. s.now) slice → map (λ s. s.now) bytes ≡ map (λ s. s.now) before ++ all
one_part before keys slice bytes all is same e = e ∙ ap (λ (t : List (List ℕ)). shown before ++ t) (ap shown same ∙ is)

pub from_none : (before bytes : Texts) (all : List (List ℕ)) → before ≡ [] → map (λ s. s.now) bytes ≡ map (λ s. s.now) before ++ all →
    map (λ s. s.now) bytes ≡ all
from_none before bytes all none e = e ∙ ap (λ (t : Texts). shown t ++ all) none

pub two_parts : (before some bytes : Texts) (one other : List (List ℕ)) → before ≡ [] → map (λ s. s.now) some ≡ map (λ s. s.now) before ++ one →
    map (λ s. s.now) bytes ≡ map (λ s. s.now) some ++ other → map (λ s. s.now) bytes ≡ one ++ other
two_parts before some bytes one other none first second =
    second ∙ ap (λ (t : List (List ℕ)). t ++ other) (from_none before some one none first)

pub key_there : (keys : List (Bor (List ℕ))) (i : ℕ) (key : Bor (List ℕ)) → i < length keys → key ≡ get_or keys i key →
    key.now ≡ key_at (map (λ k. k.now) keys) i
key_there [] i key lt e = absurd (omega (arith, lt))
key_there (k ∷ keys) zero key lt e = ap (λ (b : Bor (List ℕ)). b.now) e
key_there (k ∷ keys) (suc i) key lt e = key_there keys i key (omega (arith, lt)) e

pub key_past : (keys : List (Bor (List ℕ))) (i : ℕ) → length keys ≤ i → [] ≡ key_at (map (λ k. k.now) keys) i
key_past [] i le = refl
key_past (k ∷ keys) zero le = absurd (omega (arith, le))
key_past (k ∷ keys) (suc i) le = key_past keys i (omega (arith, le))

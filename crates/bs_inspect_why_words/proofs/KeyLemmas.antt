-- Keys and bits of facts, one after another.
use Rattle.std.proofs.Common.{◌≡◌, ℕ, ◌<◌, ◌≤◌, ◌+◌, Bool, List, [], ◌∷◌, ◌++◌, length, map, take, get_or, ap, sym, subst, ◌∙◌, slice_get, Some}
use Rattle.std.specs.Borrow.{Bor}
use Rattle.std.proofs.lemmas.Option.{get_or_from_slice_get}
use Rattle.std.proofs.lemmas.List.{get_or_past, map-append, take_more}
use Rattle.bs_net.specs.Parts.{Parts, key_at}
use Rattle.bs_net_facts.specs.declared.fact.Fact.{Fact}
use Rattle.bs_inspect_view.specs.Signals.{AreSignals, Signal}
use Rattle.bs_inspect_why_words.specs.Facts.{fact_bits, fact_keys}

pub key_there : (r : Parts) (n : ℕ) (key : List ℕ) → slice_get r.names n ≡ Some key → key ≡ key_at r n
key_there r n key e = sym (get_or_from_slice_get r.names n key [] e)

pub key_past : (r : Parts) (n : ℕ) → length r.names ≤ n → [] ≡ key_at r n
key_past r n le = sym (get_or_past r.names n [] le)

-- a key more
pub keys_more : (r : Parts) (keys : List (Bor (List ℕ))) (key : Bor (List ℕ)) (fs : List Fact) (i : ℕ) (d : Fact) (after : List (Bor (List ℕ))) →
    i < length fs → map (λ s. s.now) keys ≡ fact_keys r (take i fs) → key.now ≡ key_at r (get_or fs i d).net.0 → after ≡ keys ++ key ∷ [] →
    map (λ s. s.now) after ≡ fact_keys r (take (i + 1) fs)
keys_more r keys key fs i d after lt e k goes =
    ap (map (λ (s : Bor (List ℕ)). s.now)) goes
    ∙ (map-append (λ (s : Bor (List ℕ)). s.now) keys (key ∷ [])
    ∙ ((λ j. e j ++ k j ∷ [])
    ∙ (sym (map-append (λ (f : Fact). key_at r f.net.0) (take i fs) (get_or fs i d ∷ [])) ∙ ap (fact_keys r) (sym (take_more fs i d lt)))))

-- a bit more
pub bits_more : (bits : List Bool) (fs : List Fact) (i : ℕ) (d : Fact) → i < length fs → bits ≡ fact_bits (take i fs) →
    bits ++ (get_or fs i d).bit ∷ [] ≡ fact_bits (take (i + 1) fs)
bits_more bits fs i d lt e =
    ap (λ (bs : List Bool). bs ++ (get_or fs i d).bit ∷ []) e
    ∙ (sym (map-append (λ (f : Fact). f.bit) (take i fs) (get_or fs i d ∷ [])) ∙ ap fact_bits (sym (take_more fs i d lt)))

pub signals_are : (keys wanted : List (List ℕ)) (signals : List Signal) → AreSignals [] keys signals → keys ≡ wanted → AreSignals [] wanted signals
signals_are keys wanted signals are e = subst (λ (ks : List (List ℕ)). AreSignals [] ks signals) e are

-- The bits of an account.
use Rattle.std.proofs.Common.{◌≡◌, ℕ, ◌<◌, ◌+◌, List, [], ◌∷◌, ◌++◌, length, map, take, get_or, ap, sym, ◌∙◌, append_assoc}
use Rattle.std.specs.List.{flat_map}
use Rattle.std.proofs.lemmas.Grind.{flat_map-append}
use Rattle.std.proofs.lemmas.List.{append-nil, map-append, take_more}
use Rattle.bs_net_names.specs.Keys.{KeyParts, key_parts, parts_in}
use Rattle.bs_net_names.specs.Naming.{plain}
use Rattle.bs_net_names.specs.Rtl.{rtl_name}
use Rattle.bs_net_names.specs.Ranges.{range_text}
use Rattle.bs_net_names.specs.declared.key.KeyParts.{KeyParts as CodeKeyParts}
use Rattle.bs_net_facts.specs.declared.fact.Fact.{Fact}
use Rattle.bs_net_facts.specs.Blocks.{moved}

-- one bit more
pub bits_more : (f : Fact → List ℕ) (cycle : ℕ) (bits : List Fact) (i : ℕ) (d bit : Fact) (old text after : List ℕ) → i < length bits →
    text ≡ old ++ flat_map f (map (moved cycle) (take i bits)) → bit ≡ moved cycle (get_or bits i d) → after ≡ text ++ f bit →
    after ≡ old ++ flat_map f (map (moved cycle) (take (i + 1) bits))
bits_more f cycle bits i d bit old text after lt e is goes =
    let xs : List Fact = map (moved cycle) (take i bits) in
    let x : Fact = moved cycle (get_or bits i d) in
    goes
    ∙ (ap (λ (y : Fact). text ++ f y) is
    ∙ (ap (λ (t : List ℕ). t ++ f x) e
    ∙ (append_assoc old (flat_map f xs) (f x)
    ∙ ap (λ (t : List ℕ). old ++ t)
    (ap (λ (t : List ℕ). flat_map f xs ++ t) (sym (append-nil (f x)))
    ∙ sym (ap (flat_map f) (ap (map (moved cycle)) (take_more bits i d lt) ∙ map-append (moved cycle) (take i bits) (get_or bits i d ∷ []))
    ∙ flat_map-append f xs (x ∷ []))))))

-- the name by what the key says
pub name_is : (key bytes name : List ℕ) (p : CodeKeyParts) → bytes ≡ key → parts_in p ≡ key_parts bytes →
    name ≡ plain p.base.now ++ range_text p.bit 1 → name ≡ rtl_name key
name_is key bytes name p e is says =
    says
    ∙ ap (λ (k : KeyParts). plain k.base ++ range_text k.bit 1) (is ∙ ap key_parts e)

-- Chains in order.
use Rattle.std.proofs.Common.{◌≡◌, ℕ, ◌<◌, ◌+◌, List, [], ◌∷◌, ◌++◌, length, map, get_or, ap, sym, subst, ◌∙◌}
use Rattle.std.specs.List.{All, range_with_len}
use Rattle.std.specs.List.Sorted.{IsPermutation, IsSorted}
use Rattle.std.specs.declared.cmp.Reverse.{Reverse}
use Rattle.std.proofs.lemmas.List.{get_or_default, map-append}
use Rattle.bs_bits.proofs.RangeLemmas.{range_push}
use Rattle.bs_inspect_causes.specs.declared.account.Account.{Account}
use Rattle.bs_inspect_causes.specs.declared.chain.AccountChain.{AccountChain}
use Rattle.bs_inspect_causes.specs.declared.chain.ChainPlace.{ChainPlace}
use Rattle.bs_inspect_causes.specs.Chains.{ArePlaces, IsWithin, account_at, alone, chain_at, no_account, place_cmp, place_of, places_of}

pub first_there : (count : ℕ) (chains : List AccountChain) (i : ℕ) (c : AccountChain) → All (IsWithin count) chains → i < length chains → c ≡ get_or chains i c →
    c.first < count
first_there count chains i c within lt e = (subst (IsWithin count) (sym e) (within i c lt)).first

abbrev placed_at : Account → ℕ → ChainPlace
placed_at a i = record { at = a.block.at; layer = a.layer; place = i }

pub place_is : (accounts : List Account) (chains : List AccountChain) (i : ℕ) (c : AccountChain) (a : Account) → i < length chains → c ≡ get_or chains i c →
    c.first < length accounts → a ≡ get_or accounts c.first a →
    (record { at = a.block.at; layer = a.layer; place = i }) ≡ place_of accounts chains i
place_is accounts chains i c a lt at there is =
    let chain : c ≡ chain_at chains i = at ∙ get_or_default chains i c (alone 0) lt in
    let account : a ≡ account_at accounts (chain_at chains i).first =
    is ∙ (get_or_default accounts c.first a no_account there ∙ ap (λ (x : AccountChain). account_at accounts x.first) chain) in
    ap (λ (x : Account). placed_at x i) account

pub places_more : (accounts : List Account) (chains : List AccountChain) (i : ℕ) (p : ChainPlace) (places after : List ChainPlace) → p ≡ place_of accounts chains i →
    places ≡ places_of accounts chains i → after ≡ places ++ p ∷ [] → after ≡ places_of accounts chains (i + 1)
places_more accounts chains i p places after is e goes =
    goes
    ∙ (ap (λ (ps : List ChainPlace). ps ++ p ∷ []) e
    ∙ (ap (λ (x : ChainPlace). places_of accounts chains i ++ x ∷ []) is
    ∙ sym (ap (map (place_of accounts chains)) (range_push i) ∙ map-append (place_of accounts chains) (range_with_len 0 i) (i ∷ []))))

-- what places are sorted by
abbrev pub place_key : ChainPlace → Reverse ℕ × ℕ × ℕ
place_key p = (record { 0 = p.at }, p.layer, p.place)

pub places_are : (accounts : List Account) (chains : List AccountChain) (places ordered : List ChainPlace) → places ≡ places_of accounts chains (length chains) →
    IsPermutation places ordered → IsSorted place_cmp ordered → ArePlaces accounts chains ordered
places_are accounts chains places ordered e same sorted =
    record { same = subst (λ (ps : List ChainPlace). IsPermutation ps ordered) e same; in_order = sorted }

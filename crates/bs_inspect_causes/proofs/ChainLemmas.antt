-- Accounts that step a vector on.
use Rattle.std.proofs.Common.{◌≡◌, ℕ, ◌<◌, ◌≤◌, ◌+◌, Bool, true, false, not, cond, List, [], ◌∷◌, ◌++◌, length, filter, take, get_or, set, refl, ap, sym, subst, ◌∙◌, ⊎_elim, arith, zero, suc, Option, Some, None}
use Rattle.std.specs.Prelude.{fold, count_by, ◌&&◌, ◌||◌, ◌==◌, ◌^◌, nat_lt}
use Rattle.std.specs.List.{All, list_all, list_any, position, position_or_len, range_with_len}
use Rattle.std.proofs.lemmas.Bool.{cases_eq, le-ltb, lt-ltb}
use Rattle.std.proofs.lemmas.List.{take_all, get_or-set_same, get_or-set_other, get_or_default, length-set}
use Rattle.std.proofs.lemmas.List.Quantifiers.{position-Some}
use Rattle.std.proofs.lemmas.List.Elements.{All-append, All-nil, filter_more}
use Rattle.std.proofs.lemmas.List.Sums.{fold-append, length-filter, position_or_len_is}
use Rattle.bs_bits.proofs.RangeLemmas.{range_push}
use Rattle.bs_net_facts.specs.declared.fact.Fact.{Fact}
use Rattle.bs_net_facts.specs.Facts.{is_again}
use Rattle.bs_inspect_causes.specs.declared.account.Account.{Account}
use Rattle.bs_inspect_causes.specs.declared.chain.AccountChain.{AccountChain}
use Rattle.bs_inspect_causes.specs.Chains.{IsWithin, account_at, alone, chain_at, chained, chained_at, chains_of, come_again, comes_again, extended, goes_on, is_before, is_other, is_step, may_be_before, may_go, no_account, other_causes, same_nets}

-- ---- facts of one kind

pub kind_more : (test : Fact → Bool) (given : List Fact) (i : ℕ) (d : Fact) (wanted : Bool) (old new : List Fact) → i < length given →
    wanted ≡ test (get_or given i d) → new ≡ old ++ cond wanted (get_or given i d ∷ []) [] → old ≡ filter test (take i given) →
    new ≡ filter test (take (i + 1) given)
kind_more test given i d wanted old new lt is goes before =
    let f : Fact = get_or given i d in
    goes
    ∙ (ap (λ (b : Bool). old ++ cond b (f ∷ []) []) is
    ∙ (ap (λ (fs : List Fact). fs ++ cond (test f) (f ∷ []) []) before ∙ sym (filter_more test given i d lt)))

pub kind_all : (test : Fact → Bool) (given : List Fact) (i : ℕ) (facts : List Fact) → length given ≤ i → facts ≡ filter test (take i given) →
    facts ≡ filter test given
kind_all test given i facts le e = e ∙ ap (λ (fs : List Fact). filter test fs) (take_all i given le)

-- ---- one account before another

five : (a b c d e f : Bool) → (a && (b && (c && (d && e)))) ≡ false → (a && (b && (c && (d && (e && f))))) ≡ false
five false b c d e f h = refl
five true false c d e f h = refl
five true true false d e f h = refl
five true true true false e f h = refl
five true true true true false f h = refl
five true true true true true f h = absurd cc

all_five : (a b c d e f : Bool) → (a && (b && (c && (d && e)))) ≡ true → f ≡ (a && (b && (c && (d && (e && f)))))
all_five true true true true true f h = refl
all_five false b c d e f h = absurd cc
all_five true false c d e f h = absurd cc
all_five true true false d e f h = absurd cc
all_five true true true false e f h = absurd cc
all_five true true true true false f h = absurd cc

pub before_not : (later a : Account) (may : Bool) → may ≡ may_be_before later a → may ≡ false → false ≡ is_before later a
before_not later a may e off =
    sym (five (later.block.since == a.block.at + 1) (a.block.since == a.block.at) (same_nets a.block.bits later.block.bits) (is_step a) (is_step later)
    (come_again (other_causes a) (other_causes later)) (sym e ∙ off))

pub before_by : (later a : Account) (may again : Bool) → may ≡ may_be_before later a → may ≡ true →
    again ≡ come_again (other_causes a) (other_causes later) → again ≡ is_before later a
before_by later a may again e on is =
    is
    ∙ all_five (later.block.since == a.block.at + 1) (a.block.since == a.block.at) (same_nets a.block.bits later.block.bits) (is_step a) (is_step later)
    (come_again (other_causes a) (other_causes later)) (sym e ∙ on)

-- ---- the other causes, by all causes

any_filter : (p q : Fact → Bool) (facts : List Fact) → list_any q (filter p facts) ≡ list_any (λ f. p f && q f) facts
any_filter p q [] = refl
any_filter p q (f ∷ facts) = by (any_filter p q facts) (p f) refl
  where
    by : list_any q (filter p facts) ≡ list_any (λ g. p g && q g) facts → (b : Bool) → p f ≡ b →
        list_any q (filter p (f ∷ facts)) ≡ list_any (λ g. p g && q g) (f ∷ facts)
    by rest true e = rw e (ap (λ (b : Bool). q f || b) rest)
    by rest false e = rw e rest

all_filter : (p q : Fact → Bool) (facts : List Fact) → list_all q (filter p facts) ≡ list_all (λ f. not (p f) || q f) facts
all_filter p q [] = refl
all_filter p q (f ∷ facts) = by (all_filter p q facts) (p f) refl
  where
    by : list_all q (filter p facts) ≡ list_all (λ g. not (p g) || q g) facts → (b : Bool) → p f ≡ b →
        list_all q (filter p (f ∷ facts)) ≡ list_all (λ g. not (p g) || q g) (f ∷ facts)
    by rest true e = rw e (ap (λ (b : Bool). q f && b) rest)
    by rest false e = rw e rest

all_agree : (p q : Fact → Bool) (facts : List Fact) → ((f : Fact) → p f ≡ q f) → list_all p facts ≡ list_all q facts
all_agree p q facts e = ap (λ (t : Fact → Bool). list_all t facts) (λ i f. e f i)

pub again_is : (later a : Account) (count others : ℕ) (all result : Bool) → all ≡ list_all (may_go later a) a.causes →
    count ≡ count_by (is_other a) a.causes → others ≡ count_by (is_other later) later.causes → result ≡ ((count == others) && all) →
    result ≡ come_again (other_causes a) (other_causes later)
again_is later a count others all result each n m is =
    let one : count ≡ length (other_causes a) = n ∙ sym (length-filter (is_other a) a.causes) in
    let two : others ≡ length (other_causes later) = m ∙ sym (length-filter (is_other later) later.causes) in
    let same : all ≡ list_all (comes_again (other_causes later)) (other_causes a) =
    each
    ∙ (all_agree (may_go later a) (λ f. not (is_other a f) || list_any (is_again f) (other_causes later)) a.causes
    (λ f. ap (λ (b : Bool). not (is_other a f) || b) (sym (any_filter (is_other later) (is_again f) later.causes)))
    ∙ sym (all_filter (is_other a) (comes_again (other_causes later)) a.causes)) in
    is
    ∙ (ap (λ (b : Bool). (count == others) && b) same
    ∙ (ap (λ (k : ℕ). (k == others) && list_all (comes_again (other_causes later)) (other_causes a)) one
    ∙ ap (λ (k : ℕ). (length (other_causes a) == k) && list_all (comes_again (other_causes later)) (other_causes a)) two))

-- the account at a place
account_is : (accounts : List Account) (i : ℕ) (a : Account) → i < length accounts → a ≡ get_or accounts i a → a ≡ account_at accounts i
account_is accounts i a lt e = e ∙ get_or_default accounts i a no_account lt

pub on_here : (accounts : List Account) (number : ℕ) (chains : List AccountChain) (place : ℕ) (c : AccountChain) (later a : Account) (on : Bool) →
    place < length chains → c ≡ get_or chains place c → c.last < length accounts → number < length accounts →
    later ≡ get_or accounts c.last later → a ≡ get_or accounts number a → on ≡ is_before later a →
    on ≡ goes_on accounts number (chain_at chains place)
on_here accounts number chains place c later a on there at_place last_lt lt at_last at is =
    is
    ∙ (ap (λ (x : Account). is_before x a) (account_is accounts c.last later last_lt at_last)
    ∙ (ap (is_before (account_at accounts c.last)) (account_is accounts number a lt at)
    ∙ ap (goes_on accounts number) (at_place ∙ get_or_default chains place c (alone 0) there)))

-- ---- the first chain

pub chain_within : (number : ℕ) (chains : List AccountChain) (k : ℕ) (c : AccountChain) → All (IsWithin number) chains → k < length chains → c ≡ get_or chains k c →
    IsWithin number c
chain_within number chains k c within lt e = subst (IsWithin number) (sym e) (within k c lt)

pub last_here : (number count : ℕ) (chains : List AccountChain) (k : ℕ) (c : AccountChain) → All (IsWithin number) chains → k < length chains →
    c ≡ get_or chains k c → number < count → c.last < count
last_here number count chains k c within there e lt = omega (arith, (chain_within number chains k c within there e).last, lt)

pub steps_fit : (number : ℕ) (chains : List AccountChain) (k : ℕ) (c : AccountChain) → All (IsWithin number) chains → k < length chains → c ≡ get_or chains k c →
    number + 1 < 2 ^ 64 → c.steps + 1 < 2 ^ 64
steps_fit number chains k c within there e lt = omega (arith, (chain_within number chains k c within there e).steps, lt)

-- none of the first chains is gone on
pub record NoneOn (accounts : List Account) (number : ℕ) (chains : List AccountChain) (count : ℕ) : Type 0 where
  pub each : (k : ℕ) (d : AccountChain) → k < count → goes_on accounts number (get_or chains k d) ≡ false

pub none_begin : (accounts : List Account) (number : ℕ) (chains : List AccountChain) → NoneOn accounts number chains 0
none_begin accounts number chains = record { each = λ k d lt. absurd (omega (arith, lt)) }

none_more : (accounts : List Account) (number : ℕ) (chains : List AccountChain) (k : ℕ) (c : AccountChain) (on : Bool) → k < length chains → c ≡ get_or chains k c →
    on ≡ goes_on accounts number c → on ≡ false → NoneOn accounts number chains k → NoneOn accounts number chains (k + 1)
none_more accounts number chains k c on lt at is off none = record {
  each = λ j d less.
      ⊎_elim
      (λ (same : j ≡ k).
      ap (λ (n : ℕ). goes_on accounts number (get_or chains n d)) same
      ∙ (ap (goes_on accounts number) (sym (at ∙ get_or_default chains k c d lt)) ∙ (sym is ∙ off)))
      (λ (other : j ≡ k → ⊥). none.each j d (omega (arith, less, other)))
      (cases_eq j k);
}

first_is : (accounts : List Account) (number : ℕ) (chains : List AccountChain) (k : ℕ) (c : AccountChain) (on : Bool) → k < length chains → c ≡ get_or chains k c →
    on ≡ goes_on accounts number c → on ≡ true → NoneOn accounts number chains k → Some k ≡ position (goes_on accounts number) chains
first_is accounts number chains k c on lt at is goes none =
    let here : goes_on accounts number (get_or chains k c) ≡ true = ap (goes_on accounts number) (sym at) ∙ (sym is ∙ goes) in
    let at_k : position_or_len (goes_on accounts number) chains ≡ k =
    position_or_len_is (goes_on accounts number) chains k c (omega (arith, lt)) (λ j less. none.each j c less) (λ less. here) in
    let below : nat_lt k (length chains) ≡ true = lt-ltb k (length chains) lt in
    sym (rw (at_k, below) refl)

-- the chain at a place, as what is read there
chain_read : (chains : List AccountChain) (k : ℕ) → k < length chains → chain_at chains k ≡ get_or chains k (chain_at chains k)
chain_read chains k lt = get_or_default chains k (alone 0) (chain_at chains k) lt

pub more_at : (accounts : List Account) (number : ℕ) (chains : List AccountChain) (k : ℕ) (on : Bool) → k < length chains →
    on ≡ goes_on accounts number (chain_at chains k) → on ≡ false → NoneOn accounts number chains k → NoneOn accounts number chains (k + 1)
more_at accounts number chains k on lt is off none = none_more accounts number chains k (chain_at chains k) on lt (chain_read chains k lt) is off none

pub first_at : (accounts : List Account) (number : ℕ) (chains : List AccountChain) (k : ℕ) (on : Bool) → k < length chains →
    on ≡ goes_on accounts number (chain_at chains k) → on ≡ true → NoneOn accounts number chains k → Some k ≡ position (goes_on accounts number) chains
first_at accounts number chains k on lt is goes none = first_is accounts number chains k (chain_at chains k) on lt (chain_read chains k lt) is goes none

pub none_all : (accounts : List Account) (number : ℕ) (chains : List AccountChain) (k : ℕ) → length chains ≤ k → NoneOn accounts number chains k →
    None ≡ position (goes_on accounts number) chains
none_all accounts number chains k le none =
    let past : position_or_len (goes_on accounts number) chains ≡ length chains =
    position_or_len_is (goes_on accounts number) chains (length chains) (alone 0) (omega arith) (λ j less. none.each j (alone 0) (omega (arith, less, le)))
    (λ less. absurd (omega (arith, less))) in
    let over : nat_lt (length chains) (length chains) ≡ false = le-ltb (length chains) (length chains) (omega arith) in
    sym (rw (past, over) refl)

-- ---- chains of the first accounts

pub found_there : (accounts : List Account) (number : ℕ) (chains slice : List AccountChain) (found : Option ℕ) (k : ℕ) → slice ≡ chains →
    found ≡ position (goes_on accounts number) slice → found ≡ Some k → k < length chains
found_there accounts number chains slice found k same e is =
    let at = position-Some (goes_on accounts number) slice k (alone 0) (sym e ∙ is) in
    let long : length slice ≡ length chains = ap length same in
    omega (arith, at.0, long)

more_within : (number : ℕ) (c : AccountChain) → IsWithin number c → IsWithin (number + 1) c
more_within number c within = record { first = omega (arith, within.first); last = omega (arith, within.last); steps = omega (arith, within.steps) }

pub set_is : (chains after : List AccountChain) (k number : ℕ) (c : AccountChain) → k < length chains → c ≡ get_or chains k c →
    after ≡ set chains k (extended c number) → after ≡ chained_at (Some k) chains number
set_is chains after k number c lt at goes =
    goes ∙ ap (set chains k) (ap (λ (x : AccountChain). extended x number) (at ∙ get_or_default chains k c (alone number) lt))

pub set_within : (chains after : List AccountChain) (k number : ℕ) (c : AccountChain) → k < length chains → c ≡ get_or chains k c →
    after ≡ set chains k (extended c number) → All (IsWithin number) chains → All (IsWithin (number + 1)) after
set_within chains after k number c lt at goes within =
    let new : AccountChain = extended c number in
    subst (All (IsWithin (number + 1))) (sym goes)
    (λ j d less.
    let there : j < length chains = omega (arith, less, length-set chains k new) in
    ⊎_elim
    (λ (same : j ≡ k).
    subst (λ (n : ℕ). IsWithin (number + 1) (get_or (set chains k new) n d)) (sym same)
    (subst (IsWithin (number + 1)) (sym (get_or-set_same chains k new d lt))
    (let w : IsWithin number c = chain_within number chains k c within lt at in
    record { first = omega (arith, w.first); last = omega arith; steps = omega (arith, w.steps) })))
    (λ (other : j ≡ k → ⊥).
    subst (IsWithin (number + 1)) (sym (get_or-set_other chains k j new d other)) (more_within number (get_or chains j d) (within j d there)))
    (cases_eq j k))

pub push_within : (chains after : List AccountChain) (number : ℕ) → after ≡ chains ++ alone number ∷ [] → All (IsWithin number) chains →
    All (IsWithin (number + 1)) after
push_within chains after number goes within =
    subst (All (IsWithin (number + 1))) (sym goes)
    (All-append (IsWithin (number + 1)) chains (alone number ∷ []) (λ j d less. more_within number (get_or chains j d) (within j d less)) one)
  where
    one : (j : ℕ) (d : AccountChain) → j < 1 → IsWithin (number + 1) (get_or (alone number ∷ []) j d)
    one zero d less = record { first = omega arith; last = omega arith; steps = omega arith }
    one (suc j) d less = absurd (omega (arith, less))

pub chained_by : (accounts : List Account) (chains slice after : List AccountChain) (number : ℕ) (found : Option ℕ) → slice ≡ chains →
    found ≡ position (goes_on accounts number) slice → after ≡ chained_at found chains number → after ≡ chained accounts chains number
chained_by accounts chains slice after number found same e goes =
    goes ∙ ap (λ (o : Option ℕ). chained_at o chains number) (e ∙ ap (position (goes_on accounts number)) same)

pub chains_more : (accounts : List Account) (chains after : List AccountChain) (i : ℕ) → chains ≡ chains_of accounts i → after ≡ chained accounts chains i →
    after ≡ chains_of accounts (i + 1)
chains_more accounts chains after i e goes =
    goes
    ∙ (ap (λ (cs : List AccountChain). chained accounts cs i) e
    ∙ sym (ap (fold (chained accounts) []) (range_push i) ∙ fold-append (chained accounts) [] (range_with_len 0 i) (i ∷ [])))

pub none_within : (chains : List AccountChain) (number : ℕ) → chains ≡ [] → All (IsWithin number) chains
none_within chains number e = subst (All (IsWithin number)) (sym e) (All-nil (IsWithin number))

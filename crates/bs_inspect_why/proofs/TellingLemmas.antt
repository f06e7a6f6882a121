-- The text of accounts.
use Rattle.std.proofs.Common.{◌≡◌, ℕ, ◌<◌, ◌≤◌, ◌+◌, ◌-◌, Bool, true, false, not, List, [], ◌++◌, length, map, get_or, refl, ap, sym, subst, ◌∙◌, arith, zero, suc}
use Rattle.std.specs.List.{All}
use Rattle.std.proofs.lemmas.List.{get_or_append_left, get_or_default, get_or-map, length-map, length-append}
use Rattle.std.proofs.lemmas.List.Elements.{All-filter}
use Rattle.std.proofs.lemmas.List.FromFn.{get_or-map-range_with_len, length-map-range_with_len}
use Rattle.std.proofs.lemmas.List.Sorted.{All-permutation}
use Rattle.bs_net.specs.Circuit.{Circuit}
use Rattle.bs_net.specs.Netlist.{Checked}
use Rattle.bs_net.specs.Parts.{Parts}
use Rattle.bs_net_facts.specs.declared.block.Block.{Block}
use Rattle.bs_net_facts.specs.declared.fact.Fact.{Fact}
use Rattle.bs_net_facts.specs.Blocks.{IsBlock, moved, stretch}
use Rattle.bs_net_facts.specs.Facts.{IsReal, IsWayOf}
use Rattle.bs_net_facts.specs.Seen.{Seen}
use Rattle.bs_report.specs.declared.report.Report.{Report}
use Rattle.bs_inspect_causes.specs.Accounts.{IsAccount, is_cause}
use Rattle.bs_inspect_causes.specs.declared.account.Account.{Account}
use Rattle.bs_inspect_why_words.specs.Blocks.{Appends, TellsBlock}
use Rattle.bs_inspect_why_words.specs.Heads.{Episode}
use Rattle.bs_inspect_why_words.specs.Limits.{limits_of}
use Rattle.bs_inspect_why_words.specs.Throughout.{TellsStills}
use Rattle.bs_inspect_why_words.specs.declared.limits.Limits.{Limits}
use Rattle.bs_inspect_why_words.proofs.BlockLemmas.{parts_begin, parts_more}
use Rattle.bs_inspect_causes.proofs.ChainLemmas.{chain_within}
use Rattle.bs_inspect_causes.specs.declared.chain.AccountChain.{AccountChain}
use Rattle.bs_inspect_causes.specs.declared.chain.ChainPlace.{ChainPlace}
use Rattle.bs_inspect_causes.specs.Chains.{ArePlaces, IsWithin, account_at, alone, chain_at, chains_of, no_account, place_of, places_of}
use Rattle.bs_inspect_why.specs.Stills.{AreStillsFor, is_covered, shown, used}
use Rattle.bs_inspect_why.specs.Why.{TellsAccounts, TellsBlocks, TellsBlocksWith, TellsChain, TellsChains, TellsPlaces, episode_of, episode_with, ordered_at}
use Rattle.bs_inspect_why.specs.Table.{accounts_table}

-- ---- an account's facts

pub shown_real : (c : Circuit) (states inputs : List (List Bool)) (stills causes : List Fact) (a : Account) → causes ≡ shown stills a.causes →
    IsAccount c states inputs a → All (IsReal c states inputs) causes
shown_real c states inputs stills causes a e is =
    subst (All (IsReal c states inputs)) (sym e)
    (All-filter (λ (f : Fact). not (is_covered stills f)) (IsReal c states inputs) a.causes
    (subst (All (IsReal c states inputs)) (sym is.causes) (All-filter (is_cause a.block) (IsReal c states inputs) a.block.given is.block.real)))

pub causes_real : (c : Circuit) (states inputs : List (List Bool)) (causes holds : List Fact) (a : Account) (e : Episode) →
    e ≡ episode_with causes holds a → All (IsReal c states inputs) causes → All (IsReal c states inputs) e.causes
causes_real c states inputs causes holds a e same real = subst (All (IsReal c states inputs)) (sym (ap (λ (x : Episode). x.causes) same)) real

-- the bits at the first cycle are among those that last
front_real : (P : Fact → Type 0) (bits : List Fact) (since n : ℕ) (k : ℕ) (d : Fact) → All P (stretch bits since (suc n)) → k < length bits →
    P (moved since (get_or bits k d))
front_real P bits since zero k d h lt =
    let e : moved (since + 0) (get_or bits k d) ≡ moved since (get_or bits k d) =
    ap (λ (t : ℕ). moved t (get_or bits k d)) (let z : since + 0 ≡ since = omega arith in z) in
    subst P e
    (subst P (get_or-map (moved (since + 0)) bits k d d lt) (h k d (omega (arith, lt, length-map bits (moved (since + 0))))))
front_real P bits since (suc n) k d h lt =
    front_real P bits since n k d
    (λ j e less.
    subst P (get_or_append_left (stretch bits since (suc n)) (map (moved (since + suc n)) bits) e j less)
    (h j e (omega (arith, less, length-append (stretch bits since (suc n)) (map (moved (since + suc n)) bits)))))
    lt

bit_real : (c : Circuit) (states inputs : List (List Bool)) (b : Block) → IsBlock c states inputs b → (k : ℕ) (d : Fact) → k < length b.bits →
    IsReal c states inputs (moved b.since (get_or b.bits k d))
bit_real c states inputs b is k d lt = by (b.at + 1 - b.since) refl
  where
    by : (n : ℕ) → b.at + 1 - b.since ≡ n → IsReal c states inputs (moved b.since (get_or b.bits k d))
    by zero e = absurd (omega (arith, e, is.in_order))
    by (suc n) e =
        front_real (IsReal c states inputs) b.bits b.since n k d
        (subst (λ (m : ℕ). All (IsReal c states inputs) (stretch b.bits b.since m)) e is.shown) lt

bits_there : (c : Circuit) (states inputs : List (List Bool)) (a : Account) → IsAccount c states inputs a → All (λ f. f.net.0 < c.nets) a.block.bits
bits_there c states inputs a is = λ k d lt. (bit_real c states inputs a.block is.block k d lt).placed

pub bits_placed : (c : Circuit) (states inputs : List (List Bool)) (causes holds : List Fact) (a : Account) (e : Episode) →
    e ≡ episode_with causes holds a → IsAccount c states inputs a → All (λ f. f.net.0 < c.nets) e.bits
bits_placed c states inputs causes holds a e same is =
    subst (All (λ (f : Fact). f.net.0 < c.nets)) (sym (ap (λ (x : Episode). x.bits) same)) (bits_there c states inputs a is)

pub since_in_time : (c : Circuit) (states inputs : List (List Bool)) (causes holds : List Fact) (a : Account) (e : Episode) →
    e ≡ episode_with causes holds a → IsWayOf c states inputs → IsAccount c states inputs a → e.since ≤ length inputs
since_in_time c states inputs causes holds a e same way is =
    let d : Fact = record { net = record { 0 = 0 }; cycle = 0; bit = false } in
    let since : e.since ≡ a.block.since = ap (λ (x : Episode). x.since) same in
    let there : a.block.since < length states = (bit_real c states inputs a.block is.block 0 d is.block.some).in_time in
    omega (arith, way.one_more, there, since)

-- A block does not tell what set the bits of its first account, and what keeps those of its last.
block_again : (m : Seen) (r : Report) (few : Limits) (steps : ℕ) (front other back more causes holds : List Fact) (first last : Account) (text : List ℕ) →
    TellsBlock m r few steps (episode_with front holds first) (episode_with causes back last) text →
    TellsBlock m r few steps (episode_with other holds first) (episode_with causes more last) text
block_again m r few steps front other back more causes holds first last text told = record {
  head = told.head;
  causes = told.causes;
  kept = told.kept;
  idle = told.idle;
  tells_head = record {
    signals = told.tells_head.signals;
    are = told.tells_head.are;
    tells = record {
      befores = told.tells_head.tells.befores;
      before = told.tells_head.tells.before;
      says = told.tells_head.tells.says;
    };
  };
  tells_causes = told.tells_causes;
  tells_kept = told.tells_kept;
  tells_idle = told.tells_idle;
  says = told.says;
}

pub block_shown : (m : Seen) (r : Report) (few : Limits) (stills : List Fact) (steps : ℕ) (causes holds : List Fact) (first last : Account)
    (e z : Episode) (old new : List ℕ) → e ≡ episode_with causes holds first → z ≡ episode_with causes holds last →
    causes ≡ shown stills last.causes → holds ≡ shown stills first.holds → Appends (TellsBlock m r few steps e z) old new →
    Appends (TellsBlock m r few steps (episode_of stills first) (episode_of stills last)) old new
block_shown m r few stills steps causes holds first last e z old new is_first is_last causes_are holds_are told =
    let own : Appends (TellsBlock m r few steps (episode_with causes (shown stills first.holds) first) (episode_with (shown stills last.causes) holds last)) old new =
    subst (λ (y : Episode). Appends (TellsBlock m r few steps (episode_with causes (shown stills first.holds) first) y) old new)
    (is_last ∙ ap (λ (cs : List Fact). episode_with cs holds last) causes_are)
    (subst (λ (x : Episode). Appends (TellsBlock m r few steps x z) old new)
    (is_first ∙ ap (λ (hs : List Fact). episode_with causes hs first) holds_are) told) in
    record {
      words = own.words;
      says =
          block_again m r few steps causes (shown stills first.causes) holds (shown stills last.holds) (shown stills last.causes)
          (shown stills first.holds) first last own.words own.says;
      appended = own.appended;
    }

-- ---- chains

pub account_there : (c : Circuit) (states inputs : List (List Bool)) (accounts : List Account) (i : ℕ) (a : Account) →
    All (IsAccount c states inputs) accounts → i < length accounts → a ≡ get_or accounts i a → IsAccount c states inputs a
account_there c states inputs accounts i a all lt e = subst (IsAccount c states inputs) (sym e) (all i a lt)

pub first_here : (count : ℕ) (chains : List AccountChain) (i : ℕ) (c : AccountChain) → All (IsWithin count) chains → i < length chains → c ≡ get_or chains i c →
    c.first < count
first_here count chains i c within lt e = (chain_within count chains i c within lt e).first

pub last_here : (count : ℕ) (chains : List AccountChain) (i : ℕ) (c : AccountChain) → All (IsWithin count) chains → i < length chains → c ≡ get_or chains i c →
    c.last < count
last_here count chains i c within lt e = (chain_within count chains i c within lt e).last

pub chain_told : (m : Seen) (r : Report) (few : Limits) (stills : List Fact) (accounts : List Account) (chains : List AccountChain) (i : ℕ) (c : AccountChain)
    (first last : Account) (old new : List ℕ) → All (IsWithin (length accounts)) chains → i < length chains → c ≡ get_or chains i c →
    first ≡ get_or accounts c.first first → last ≡ get_or accounts c.last last →
    Appends (TellsBlock m r few c.steps (episode_of stills first) (episode_of stills last)) old new →
    Appends (TellsChain m r few stills accounts (chain_at chains i)) old new
chain_told m r few stills accounts chains i c first last old new within lt at at_first at_last told =
    subst (λ (x : AccountChain). Appends (TellsChain m r few stills accounts x) old new) (at ∙ get_or_default chains i c (alone 0) lt)
    (subst (λ (z : Account). Appends (TellsBlock m r few c.steps (episode_of stills (account_at accounts c.first)) (episode_of stills z)) old new)
    (at_last ∙ get_or_default accounts c.last last no_account (last_here (length accounts) chains i c within lt at))
    (subst (λ (a : Account). Appends (TellsBlock m r few c.steps (episode_of stills a) (episode_of stills last)) old new)
    (at_first ∙ get_or_default accounts c.first first no_account (first_here (length accounts) chains i c within lt at)) told))

-- ---- their order

abbrev Stands : ℕ → ChainPlace → Type 0
Stands count p = p.place < count

made_there : (accounts : List Account) (chains : List AccountChain) (count : ℕ) → All (Stands count) (places_of accounts chains count)
made_there accounts chains count = λ k d lt.
    let there : k < count = omega (arith, lt, length-map-range_with_len (place_of accounts chains) 0 count) in
    subst (Stands count) (sym (get_or-map-range_with_len (place_of accounts chains) 0 count k k d there (let z : 0 + k ≡ k = omega arith in z))) there

pub place_read : (ordered : List ChainPlace) (i : ℕ) (p : ChainPlace) → i < length ordered → p ≡ get_or ordered i p → p.place ≡ ordered_at ordered i
place_read ordered i p lt e = ap (λ (x : ChainPlace). x.place) (e ∙ get_or_default ordered i p (record { at = 0; layer = 0; place = 0 }) lt)

pub place_there : (accounts : List Account) (chains : List AccountChain) (ordered : List ChainPlace) (i place : ℕ) → ArePlaces accounts chains ordered →
    i < length ordered → place ≡ ordered_at ordered i → place < length chains
place_there accounts chains ordered i place are lt e =
    subst (λ (n : ℕ). n < length chains) (sym e)
    (All-permutation (Stands (length chains)) (places_of accounts chains (length chains)) ordered are.same
    (made_there accounts chains (length chains)) i (record { at = 0; layer = 0; place = 0 }) lt)

pub places_begin : (m : Seen) (r : Report) (few : Limits) (stills : List Fact) (accounts : List Account) (chains : List AccountChain) (ordered : List ChainPlace) (text : List ℕ) →
    Appends (TellsPlaces m r few stills accounts chains ordered 0) text text
places_begin m r few stills accounts chains ordered text = parts_begin (λ i. TellsChain m r few stills accounts (chain_at chains (ordered_at ordered i))) text

pub places_more : (m : Seen) (r : Report) (few : Limits) (stills : List Fact) (accounts : List Account) (chains : List AccountChain) (ordered : List ChainPlace) (i place : ℕ)
    (old mid new : List ℕ) → place ≡ ordered_at ordered i → Appends (TellsPlaces m r few stills accounts chains ordered i) old mid →
    Appends (TellsChain m r few stills accounts (chain_at chains place)) mid new → Appends (TellsPlaces m r few stills accounts chains ordered (i + 1)) old new
places_more m r few stills accounts chains ordered i place old mid new e so_far told =
    parts_more (λ k. TellsChain m r few stills accounts (chain_at chains (ordered_at ordered k))) i old mid new so_far
    (subst (λ (n : ℕ). Appends (TellsChain m r few stills accounts (chain_at chains n)) mid new) e told)

pub places_all : (m : Seen) (r : Report) (few : Limits) (stills : List Fact) (accounts : List Account) (chains : List AccountChain) (ordered : List ChainPlace) (i : ℕ)
    (old new : List ℕ) → i ≡ length ordered → Appends (TellsPlaces m r few stills accounts chains ordered i) old new →
    Appends (TellsPlaces m r few stills accounts chains ordered (length ordered)) old new
places_all m r few stills accounts chains ordered i old new e told =
    subst (λ (k : ℕ). Appends (TellsPlaces m r few stills accounts chains ordered k) old new) e told

pub chains_told : (m : Seen) (r : Report) (few : Limits) (stills : List Fact) (accounts : List Account) (chains : List AccountChain) (ordered : List ChainPlace) (old new : List ℕ) →
    ArePlaces accounts chains ordered → Appends (TellsPlaces m r few stills accounts chains ordered (length ordered)) old new →
    Appends (TellsChains m r few stills accounts chains) old new
chains_told m r few stills accounts chains ordered old new are told =
    record { words = told.words; says = record { ordered = ordered; are = are; tells = told.says }; appended = told.appended }

pub whole_text : (m : Seen) (r : Report) (few : Limits) (stills : List Fact) (accounts : List Account) (chains : List AccountChain) (old text : List ℕ) → old ≡ [] →
    chains ≡ chains_of accounts (length accounts) → Appends (TellsChains m r few stills accounts chains) old text →
    TellsChains m r few stills accounts (chains_of accounts (length accounts)) text
whole_text m r few stills accounts chains old text none e told =
    let same : told.words ≡ text = sym (told.appended ∙ ap (λ (t : List ℕ). t ++ told.words) none) in
    subst (λ (cs : List AccountChain). TellsChains m r few stills accounts cs text) e (subst (TellsChains m r few stills accounts chains) same told.says)

-- ---- blocks, or a table

pub blocks_with : (m : Seen) (r : Report) (few : Limits) (stills : List Fact) (accounts : List Account) (k : Checked) (raw : Parts)
    (kept slice : List Fact) (blocks text : List ℕ) → TellsChains m r few stills accounts (chains_of accounts (length accounts)) blocks →
    kept ≡ used accounts stills → slice ≡ kept → k ≡ m.net → raw ≡ k.raw → Appends (TellsStills raw few.held slice) blocks text →
    TellsBlocksWith m r few stills accounts text
blocks_with m r few stills accounts k raw kept slice blocks text tells are same net_is raw_is more = record {
  blocks = blocks;
  throughout = more.words;
  tells_blocks = tells;
  tells_throughout =
      subst (λ (fs : List Fact). TellsStills m.net.raw few.held fs more.words) (same ∙ are)
      (subst (λ (x : Parts). TellsStills x few.held slice more.words) (raw_is ∙ ap (λ (x : Checked). x.raw) net_is) more.says);
  says = more.appended;
}

pub blocks_are : (m : Seen) (r : Report) (all : Bool) (few : Limits) (stills slice : List Fact) (accounts : List Account) (text : List ℕ) →
    AreStillsFor all m stills → slice ≡ stills → few ≡ limits_of all → TellsBlocksWith m r few slice accounts text → TellsBlocks m r all accounts text
blocks_are m r all few stills slice accounts text are same few_is tells = record {
  stills = stills;
  are = are;
  tells =
      subst (λ (fs : List Fact). TellsBlocksWith m r (limits_of all) fs accounts text) same
      (subst (λ (l : Limits). TellsBlocksWith m r l slice accounts text) few_is tells);
}

pub table_told : (csv : Bool) (m : Seen) (r : Report) (all : Bool) (accounts : List Account) (text : List ℕ) → csv ≡ true →
    text ≡ accounts_table m.net.raw accounts → TellsAccounts csv m r all accounts text
table_told csv m r all accounts text is says = subst (λ (b : Bool). TellsAccounts b m r all accounts text) (sym is) says

pub blocks_told : (csv : Bool) (m : Seen) (r : Report) (all : Bool) (accounts : List Account) (text : List ℕ) → csv ≡ false →
    TellsBlocks m r all accounts text → TellsAccounts csv m r all accounts text
blocks_told csv m r all accounts text is told = subst (λ (b : Bool). TellsAccounts b m r all accounts text) (sym is) told

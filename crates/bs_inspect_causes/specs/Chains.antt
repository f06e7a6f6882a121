-- Accounts that step a vector on for the same reasons, as one (docs/DEFINITIONS.md, "Chain").
use Rattle.std.specs.Prelude.{ℕ, ◌+◌, ◌<◌, ◌≤◌, ◌==◌, ◌&&◌, ◌||◌, not, Bool, false, List, [], ◌∷◌, ◌++◌, length, map, filter, fold, slice_index_or, slice_set, Option, Some, None}
use Rattle.std.specs.List.{list_all, list_any, position, range_with_len}
use Rattle.std.specs.List.Sorted.{IsPermutation, IsSorted}
use Rattle.std.specs.declared.cmp.Ordering.{Ordering}
use Rattle.std.specs.Ordering.{nat_cmp, ordering_then}
use Rattle.bs_net_facts.specs.declared.block.Block.{Block}
use Rattle.bs_net_facts.specs.declared.fact.Fact.{Fact}
use Rattle.bs_net_facts.specs.Facts.{is_again}
use Rattle.bs_inspect_causes.specs.declared.account.Account.{Account}
use Rattle.bs_inspect_causes.specs.declared.chain.AccountChain.{AccountChain}
use Rattle.bs_inspect_causes.specs.declared.chain.ChainPlace.{ChainPlace}

abbrev pub no_block : Block
no_block = record { bits = []; since = 0; at = 0; given = []; begun = false }

abbrev pub no_account : Account
no_account = record { block = no_block; causes = []; holds = []; idle = []; layer = 0 }

abbrev pub account_at : List Account → ℕ → Account
account_at accounts i = slice_index_or accounts i no_account

-- ---- the step before

-- whether one of some facts is of a net
abbrev pub has_fact : List Fact → Fact → Bool
has_fact facts f = list_any (λ g. g.net.0 == f.net.0) facts

-- whether facts are all of nets of others
abbrev pub are_among : List Fact → List Fact → Bool
are_among facts others = list_all (has_fact others) facts

-- whether facts are of the same nets
abbrev pub same_nets : List Fact → List Fact → Bool
same_nets facts others = (length facts == length others) && are_among facts others

-- the causes that are of other nets than the bits
abbrev pub other_causes : Account → List Fact
other_causes a = filter (λ f. not (has_fact a.block.bits f)) a.causes

abbrev pub comes_again : List Fact → Fact → Bool
comes_again later f = list_any (is_again f) later

-- whether all facts are, and there are no more
abbrev pub come_again : List Fact → List Fact → Bool
come_again facts later = (length facts == length later) && list_all (comes_again later) facts

-- whether an account sets each of its bits from the bits before
abbrev pub is_step : Account → Bool
is_step a = are_among a.block.bits a.causes

-- Whether an account tells the step before another one: the same bits one cycle before, both times out of the bits before, and by the
-- same other causes, of the same nets and with the same bits, one cycle earlier.
abbrev pub is_before : Account → Account → Bool
is_before later a =
    (later.block.since == a.block.at + 1) && ((a.block.since == a.block.at) && (same_nets a.block.bits later.block.bits
    && (is_step a && (is_step later && come_again (other_causes a) (other_causes later)))))

-- ---- chains

-- whether an account goes on a chain
abbrev pub goes_on : List Account → ℕ → AccountChain → Bool
goes_on accounts i c = is_before (account_at accounts c.last) (account_at accounts i)

abbrev pub alone : ℕ → AccountChain
alone i = record { first = i; last = i; steps = 1 }

abbrev pub extended : AccountChain → ℕ → AccountChain
extended c i = record { first = c.first; last = i; steps = c.steps + 1 }

abbrev pub chained_at : Option ℕ → List AccountChain → ℕ → List AccountChain
chained_at None chains i = chains ++ alone i ∷ []
chained_at (Some k) chains i = slice_set chains k (extended (slice_index_or chains k (alone i)) i)

-- an account more: on the first chain that it goes on, or by itself
abbrev pub chained : List Account → List AccountChain → ℕ → List AccountChain
chained accounts chains i = chained_at (position (goes_on accounts i) chains) chains i

-- the chains of so many accounts
abbrev pub chains_of : List Account → ℕ → List AccountChain
chains_of accounts count = fold (chained accounts) [] (range_with_len 0 count)

-- a chain is of the first accounts
pub record IsWithin (count : ℕ) (c : AccountChain) : Type 0 where
  pub first : c.first < count
  pub last : c.last < count
  pub steps : c.steps ≤ count

-- ---- the same by the causes themselves, as it is computed

abbrev pub is_other : Account → Fact → Bool
is_other a f = not (has_fact a.block.bits f)

abbrev pub is_other_again : Account → Fact → Fact → Bool
is_other_again later f g = is_other later g && is_again f g

-- whether a cause comes again, unless it is of the bits
abbrev pub may_go : Account → Account → Fact → Bool
may_go later a f = not (is_other a f) || list_any (is_other_again later f) later.causes

-- whether an account may be the step before another one, but for the other causes
abbrev pub may_be_before : Account → Account → Bool
may_be_before later a =
    (later.block.since == a.block.at + 1) && ((a.block.since == a.block.at) && (same_nets a.block.bits later.block.bits && (is_step a && is_step later)))

-- ---- their order

abbrev pub chain_at : List AccountChain → ℕ → AccountChain
chain_at chains i = slice_index_or chains i (alone 0)

-- when a chain ends, its layer, and its place
abbrev pub place_of : List Account → List AccountChain → ℕ → ChainPlace
place_of accounts chains i =
    record {
      at = (account_at accounts (chain_at chains i).first).block.at;
      layer = (account_at accounts (chain_at chains i).first).layer;
      place = i;
    }

abbrev pub places_of : List Account → List AccountChain → ℕ → List ChainPlace
places_of accounts chains count = map (place_of accounts chains) (range_with_len 0 count)

-- the last moment first, then by layers
abbrev pub place_cmp : ChainPlace → ChainPlace → Ordering
place_cmp a b = ordering_then (ordering_then (nat_cmp b.at a.at) (nat_cmp a.layer b.layer)) (nat_cmp a.place b.place)

-- the places of all chains, in this order
pub record ArePlaces (accounts : List Account) (chains : List AccountChain) (ordered : List ChainPlace) : Type 0 where
  pub same : IsPermutation (places_of accounts chains (length chains)) ordered
  pub in_order : IsSorted place_cmp ordered

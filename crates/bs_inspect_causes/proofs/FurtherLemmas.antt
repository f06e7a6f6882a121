-- Facts that are asked further.
use Rattle.std.proofs.Common.{◌≡◌, ℕ, ◌<◌, false, List, [], ◌∷◌, ◌++◌, length, get_or, subst, ap, sym, ◌∙◌, append_assoc, append-nil}
use Rattle.std.specs.Prelude.{Contains}
use Rattle.std.specs.List.{All}
use Rattle.std.proofs.lemmas.List.Elements.{All-append, All-cons, All-contains, All-nil, Contains-get_or}
use Rattle.bs_net.specs.Netlist.{circuit}
use Rattle.bs_net_facts.specs.declared.fact.Fact.{Fact}
use Rattle.bs_net_facts.specs.Seen.{Seen}
use Rattle.bs_inspect_causes.specs.declared.account.Account.{Account}
use Rattle.bs_inspect_causes.specs.declared.drivers.Drivers.{Drivers}
use Rattle.bs_inspect_causes.specs.Accounts.{IsAccount, IsRealIn}
use Rattle.bs_inspect_causes.specs.Layers.{AsksMore, IsNext, marks_net}

pub asks_none : (d : Drivers) (a : Account) (facts : List Fact) → AsksMore d a facts facts
asks_none d a facts = record {
  more = [];
  are = sym (append-nil facts);
  given = All-nil (Contains a.block.given);
  driven = All-nil (λ (f : Fact). marks_net d.by_input f.net ≡ false);
}

pub asks_one : (d : Drivers) (a : Account) (old new : List Fact) (f : Fact) → Contains a.block.given f → marks_net d.by_input f.net ≡ false →
    new ≡ old ++ f ∷ [] → AsksMore d a old new
asks_one d a old new f given driven e = record {
  more = f ∷ [];
  are = e;
  given = All-cons (Contains a.block.given) f [] given (All-nil (Contains a.block.given));
  driven =
      All-cons (λ (g : Fact). marks_net d.by_input g.net ≡ false) f [] driven (All-nil (λ (g : Fact). marks_net d.by_input g.net ≡ false));
}

pub asks_more : (d : Drivers) (a : Account) (old mid new : List Fact) → AsksMore d a old mid → AsksMore d a mid new → AsksMore d a old new
asks_more d a old mid new first second = record {
  more = first.more ++ second.more;
  are = second.are ∙ (ap (λ (l : List Fact). l ++ second.more) first.are ∙ append_assoc old first.more second.more);
  given = All-append (Contains a.block.given) first.more second.more first.given second.given;
  driven =
      All-append (λ (f : Fact). marks_net d.by_input f.net ≡ false) first.more second.more first.driven second.driven;
}

pub given_there : (given slice : List Fact) (i : ℕ) (d : Fact) → slice ≡ given → i < length slice → Contains given (get_or slice i d)
given_there given slice i d e lt = subst (λ (fs : List Fact). Contains fs (get_or slice i d)) e (Contains-get_or slice i d lt)

pub next_none : (m : Seen) (d : Drivers) (accounts : List Account) (layer : ℕ) → All (IsNext m d accounts layer) []
next_none m d accounts layer = All-nil (IsNext m d accounts layer)

pub next_more : (m : Seen) (d : Drivers) (accounts : List Account) (i : ℕ) (a : Account) (layer : ℕ) (old new : List Fact) → i < length accounts →
    a ≡ get_or accounts i a → a.layer ≡ layer → All (IsAccount (circuit m.net) m.states m.inputs) accounts → AsksMore d a old new →
    All (IsNext m d accounts layer) old → All (IsNext m d accounts layer) new
next_more m d accounts i a layer old new lt is at each asks before =
    let account : IsAccount (circuit m.net) m.states m.inputs a =
    subst (IsAccount (circuit m.net) m.states m.inputs) (sym is) (each i a lt) in
    let after : All (IsNext m d accounts layer) asks.more = λ k x less.
    let f : Fact = get_or asks.more k x in
    let own : Contains a.block.given f = asks.given k x less in
    record {
      real = All-contains (IsRealIn m) a.block.given f account.block.real own;
      driven = asks.driven k x less;
      given = record { account = a; among = (i, lt, sym is); of_layer = at; given = own };
    } in
    subst (λ (fs : List Fact). All (IsNext m d accounts layer) fs) (sym asks.are) (All-append (IsNext m d accounts layer) old asks.more before after)

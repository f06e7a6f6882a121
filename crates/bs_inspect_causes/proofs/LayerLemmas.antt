-- Accounts that are put at the end of others.
use Rattle.std.proofs.Common.{◌≡◌, ℕ, ◌<◌, ◌≤◌, ◌+◌, ◌-◌, false, List, [], ◌∷◌, ◌++◌, length, take, drop, slice_range, subst, ap, sym, ◌∙◌, append_assoc, append-nil, arith}
use Rattle.std.specs.Prelude.{Contains}
use Rattle.std.specs.List.{All}
use Rattle.std.proofs.Math.Seq.{take-add}
use Rattle.std.proofs.lemmas.List.{get_or-drop, get_or-take, length-drop, length-take-le, take_all}
use Rattle.std.proofs.lemmas.List.Elements.{All-append, All-contains, All-contains_itself, All-cons, All-drop, All-nil, All-take, All-weaker, Contains-append_left, Contains-append_right, Contains-push}
use Rattle.bs_net.specs.Netlist.{circuit}
use Rattle.bs_net_facts.specs.declared.fact.Fact.{Fact}
use Rattle.bs_net_facts.specs.Seen.{Seen}
use Rattle.bs_inspect_causes.specs.declared.account.Account.{Account}
use Rattle.bs_inspect_causes.specs.declared.drivers.Drivers.{Drivers}
use Rattle.bs_inspect_causes.specs.declared.units.Unit.{Unit as CodeUnit}
use Rattle.bs_inspect_causes.specs.Accounts.{IsAccount, IsTold, last_bits, IsRealIn}
use Rattle.bs_inspect_causes.specs.Layers.{IsLike, IsUnit, IsUnitAccount, IsUnitAt, KeepsFirst, Tells, marks_net}
use Rattle.bs_inspect_causes.proofs.UnitLemmas.{kept_all}

-- ---- nothing, and one account

nothing : (m : Seen) (layer : ℕ) (facts : List Fact) (accounts : List Account) → (layer ≡ 0 → All (IsTold accounts 0) facts) → Tells m layer facts accounts accounts
nothing m layer facts accounts all = record {
  more = [];
  are = sym (append-nil accounts);
  each = All-nil (IsAccount (circuit m.net) m.states m.inputs);
  of_layer = All-nil (λ (a : Account). a.layer ≡ layer);
  only = All-nil (λ (a : Account). All (Contains facts) (last_bits a));
  all = all;
}

pub tells_begin : (m : Seen) (layer : ℕ) (accounts : List Account) → Tells m layer [] accounts accounts
tells_begin m layer accounts = nothing m layer [] accounts (λ z. All-nil (IsTold accounts 0))

pub tells_none : (m : Seen) (layer : ℕ) (facts : List Fact) (accounts : List Account) → (layer ≡ 0 → ⊥) → Tells m layer facts accounts accounts
tells_none m layer facts accounts later = nothing m layer facts accounts (λ z. absurd (later z))

pub tells_account : (m : Seen) (layer : ℕ) (facts : List Fact) (old new : List Account) (a : Account) → IsUnitAccount m facts layer a →
    new ≡ old ++ a ∷ [] → Tells m layer facts old new
tells_account m layer facts old new a unit e =
    let is : IsAccount (circuit m.net) m.states m.inputs a = unit.is in
    let bits : last_bits a ≡ facts = unit.of_bits in
    let at : a.layer ≡ layer = unit.of_layer in
    let itself : All (Contains facts) facts = All-contains_itself facts in
    record {
      more = a ∷ [];
      are = e;
      each =
          All-cons (IsAccount (circuit m.net) m.states m.inputs) a [] is (All-nil (IsAccount (circuit m.net) m.states m.inputs));
      of_layer = All-cons (λ (b : Account). b.layer ≡ layer) a [] at (All-nil (λ (b : Account). b.layer ≡ layer));
      only =
          All-cons (λ (b : Account). All (Contains facts) (last_bits b)) a [] (subst (λ (fs : List Fact). All (Contains facts) fs) (sym bits) itself)
          (All-nil (λ (b : Account). All (Contains facts) (last_bits b)));
      all = λ z.
          All-weaker (Contains facts) (IsTold new 0)
          (λ f there.
          record {
            account = a;
            among = subst (λ (accounts : List Account). Contains accounts a) (sym e) (Contains-push old a);
            of_layer = at ∙ z;
            told = subst (λ (fs : List Fact). Contains fs f) (sym bits) there;
          })
          facts itself;
    }

-- ---- more of them

-- what is told stays told
pub told_on : (old more new : List Account) (layer : ℕ) (f : Fact) → new ≡ old ++ more → IsTold old layer f → IsTold new layer f
told_on old more new layer f e h = record {
  account = h.account;
  among = subst (λ (accounts : List Account). Contains accounts h.account) (sym e) (Contains-append_left old more h.account h.among);
  of_layer = h.of_layer;
  told = h.told;
}

tells_both : (m : Seen) (layer : ℕ) (xs ys : List Fact) (old mid new : List Account) → Tells m layer xs old mid → Tells m layer ys mid new →
    Tells m layer (xs ++ ys) old new
tells_both m layer xs ys old mid new first second = record {
  more = first.more ++ second.more;
  are = second.are ∙ (ap (λ (l : List Account). l ++ second.more) first.are ∙ append_assoc old first.more second.more);
  each = All-append (IsAccount (circuit m.net) m.states m.inputs) first.more second.more first.each second.each;
  of_layer = All-append (λ (a : Account). a.layer ≡ layer) first.more second.more first.of_layer second.of_layer;
  only =
      All-append (λ (a : Account). All (Contains (xs ++ ys)) (last_bits a)) first.more second.more
      (All-weaker (λ (a : Account). All (Contains xs) (last_bits a)) (λ (a : Account). All (Contains (xs ++ ys)) (last_bits a))
      (λ a h. All-weaker (Contains xs) (Contains (xs ++ ys)) (λ f there. Contains-append_left xs ys f there) (last_bits a) h) first.more first.only)
      (All-weaker (λ (a : Account). All (Contains ys) (last_bits a)) (λ (a : Account). All (Contains (xs ++ ys)) (last_bits a))
      (λ a h. All-weaker (Contains ys) (Contains (xs ++ ys)) (λ f there. Contains-append_right xs ys f there) (last_bits a) h) second.more second.only);
  all = λ z.
      All-append (IsTold new 0) xs ys
      (All-weaker (IsTold mid 0) (IsTold new 0) (λ f h. told_on mid second.more new 0 f second.are h) xs (first.all z)) (second.all z);
}

pub tells_more : (m : Seen) (layer : ℕ) (facts : List Fact) (from stop : ℕ) (old mid new : List Account) → from < stop →
    Tells m layer (take from facts) old mid → Tells m layer (slice_range facts from stop) mid new → Tells m layer (take stop facts) old new
tells_more m layer facts from stop old mid new lt first second =
    let whole : from + (stop - from) ≡ stop = omega (arith, lt) in
    let joined : take from facts ++ slice_range facts from stop ≡ take stop facts =
    sym (take-add from (stop - from) facts) ∙ ap (λ (n : ℕ). take n facts) whole in
    subst (λ (fs : List Fact). Tells m layer fs old new) joined
    (tells_both m layer (take from facts) (slice_range facts from stop) old mid new first second)

pub tells_whole : (m : Seen) (layer : ℕ) (facts : List Fact) (from : ℕ) (old new : List Account) → length facts ≤ from →
    Tells m layer (take from facts) old new → Tells m layer facts old new
tells_whole m layer facts from old new le h = subst (λ (fs : List Fact). Tells m layer fs old new) (take_all from facts le) h

-- ---- the unit at a place

pub unit_here : (m : Seen) (d : Drivers) (facts : List Fact) (from : ℕ) (u : CodeUnit) → All (IsRealIn m) facts →
    All (λ (f : Fact). marks_net d.by_input f.net ≡ false) facts → IsUnitAt d facts from u → IsUnit m d u.at u.flop (slice_range facts from u.stop)
unit_here m d facts from u real driven is =
    let n : ℕ = u.stop - from in
    let rest : n ≤ length (drop from facts) = omega (arith, is.more, is.within, length-drop from facts) in
    let size : length (take n (drop from facts)) ≡ n = length-take-le n (drop from facts) rest in
    let positive : 0 < n = omega (arith, is.more) in
    let like : All (IsLike d u.at u.flop) (take n (drop from facts)) = λ k x lt.
    let below : k < n = omega (arith, lt, size) in
    let low : from ≤ from + k = omega arith in
    let high : from + k < u.stop = omega (arith, below) in
    subst (IsLike d u.at u.flop) (sym (get_or-take n (drop from facts) k x below ∙ get_or-drop from facts k x)) (is.alike (from + k) x low high) in
    record {
      some = subst (λ (k : ℕ). 0 < k) (sym size) positive;
      real = All-take (IsRealIn m) n (drop from facts) (All-drop (IsRealIn m) from facts real);
      at_cycle = λ k x lt. (like k x lt).cycle_is;
      driven =
          All-take (λ (f : Fact). marks_net d.by_input f.net ≡ false) n (drop from facts)
          (All-drop (λ (f : Fact). marks_net d.by_input f.net ≡ false) from facts driven);
      alike = λ k x lt. (like k x lt).kind_is;
    }

-- ---- facts that are kept

pub kept_real : (m : Seen) (facts kept slice : List Fact) → All (IsRealIn m) facts → KeepsFirst facts (length facts) kept → slice ≡ kept →
    All (IsRealIn m) slice
kept_real m facts kept slice real h e =
    subst (λ (fs : List Fact). All (IsRealIn m) fs) (sym e)
    (All-weaker (Contains facts) (IsRealIn m) (λ f there. All-contains (IsRealIn m) facts f real there) kept h.only)

pub kept_driven : (d : Drivers) (facts kept slice : List Fact) → All (λ (f : Fact). marks_net d.by_input f.net ≡ false) facts →
    KeepsFirst facts (length facts) kept → slice ≡ kept → All (λ (f : Fact). marks_net d.by_input f.net ≡ false) slice
kept_driven d facts kept slice driven h e =
    let P : Fact → Type 0 = λ f. marks_net d.by_input f.net ≡ false in
    subst (λ (fs : List Fact). All P fs) (sym e) (All-weaker (Contains facts) P (λ f there. All-contains P facts f driven there) kept h.only)

pub tells_kept : (m : Seen) (layer : ℕ) (facts kept slice : List Fact) (old new : List Account) → KeepsFirst facts (length facts) kept → slice ≡ kept →
    Tells m layer slice old new → Tells m layer facts old new
tells_kept m layer facts kept slice old new h e t =
    let there : Tells m layer kept old new = subst (λ (fs : List Fact). Tells m layer fs old new) e t in
    record {
      more = there.more;
      are = there.are;
      each = there.each;
      of_layer = there.of_layer;
      only =
          All-weaker (λ (a : Account). All (Contains kept) (last_bits a)) (λ (a : Account). All (Contains facts) (last_bits a))
          (λ a own. All-weaker (Contains kept) (Contains facts) (λ f in_kept. All-contains (Contains facts) kept f h.only in_kept) (last_bits a) own)
          there.more there.only;
      all = λ z.
          All-weaker (Contains kept) (IsTold new 0) (λ f in_kept. All-contains (IsTold new 0) kept f (there.all z) in_kept) facts (kept_all facts kept h);
    }

-- Layers of accounts explain what is asked.
use Rattle.std.proofs.Common.{◌≡◌, ℕ, ◌<◌, ◌≤◌, ◌+◌, false, List, [], ◌++◌, get_or, subst, sym, ◌∙◌, ⊎_elim, arith}
use Rattle.std.specs.Prelude.{Contains}
use Rattle.std.specs.List.{All}
use Rattle.std.proofs.lemmas.Bool.{cases_eq}
use Rattle.std.proofs.lemmas.List.Elements.{All-append, All-contains, All-contains_itself, All-nil, All-weaker, Contains-append_left}
use Rattle.bs_net.specs.Netlist.{Checked, circuit}
use Rattle.bs_net_facts.specs.declared.fact.Fact.{Fact}
use Rattle.bs_net_facts.specs.Facts.{IsWayOf}
use Rattle.bs_net_facts.specs.Seen.{Seen}
use Rattle.bs_inspect_causes.specs.declared.account.Account.{Account}
use Rattle.bs_inspect_causes.specs.declared.drivers.Drivers.{Drivers}
use Rattle.bs_inspect_causes.specs.Accounts.{Explain, IsAccount, IsDue, IsGiven, IsTold, LeadsOn, has_net, last_bits, IsRealIn}
use Rattle.bs_inspect_causes.specs.Layers.{AreDrivers, AreDue, ExplainSoFar, IsNext, IsReady, Tells, marks_net}
use Rattle.bs_inspect_causes.proofs.LayerLemmas.{told_on}

-- ---- what stays

given_on : (old more new : List Account) (layer : ℕ) (f : Fact) → new ≡ old ++ more → IsGiven old layer f → IsGiven new layer f
given_on old more new layer f e h = record {
  account = h.account;
  among = subst (λ (accounts : List Account). Contains accounts h.account) (sym e) (Contains-append_left old more h.account h.among);
  of_layer = h.of_layer;
  given = h.given;
}

due_on : (asked : List Fact) (old more new : List Account) (layer : ℕ) (f : Fact) → new ≡ old ++ more → IsDue asked old layer f → IsDue asked new layer f
due_on asked old more new layer f e h = record {
  first = h.first;
  later = λ before is. given_on old more new before f e (h.later before is);
}

-- ---- accounts so far

module _ (m : Seen) (asked : List Fact) (layers : ℕ) (accounts : List Account) (so_far : ExplainSoFar m asked layers accounts) where
  -- what holds of all of none and of an explanation
  of_each : (P : Account → Type 0) → (Explain (circuit m.net) m.states m.inputs asked layers accounts → All P accounts) → All P accounts
  of_each P h =
      ⊎_elim
      (λ (nothing : layers ≡ 0). subst (λ (l : List Account). All P l) (sym (so_far.none nothing)) (All-nil P))
      (λ (some_layer : layers ≡ 0 → ⊥). let positive : 0 < layers = omega (arith, some_layer) in h (so_far.explain positive))
      (cases_eq layers 0)

  pub each_account : All (IsAccount (circuit m.net) m.states m.inputs) accounts
  each_account = of_each (IsAccount (circuit m.net) m.states m.inputs) (λ e. e.each)

  pub all_shallow : All (λ (a : Account). a.layer < layers) accounts
  all_shallow = of_each (λ (a : Account). a.layer < layers) (λ e. e.shallow)

  pub all_due : All (λ (a : Account). All (IsDue asked accounts a.layer) (last_bits a)) accounts
  all_due = of_each (λ (a : Account). All (IsDue asked accounts a.layer) (last_bits a)) (λ e. e.due)

-- one layer more
pub explain_more : (m : Seen) (d : Drivers) (asked : List Fact) (layer : ℕ) (facts : List Fact) (old new : List Account) → ExplainSoFar m asked layer old →
    AreDue m d asked layer old facts → Tells m layer facts old new → ExplainSoFar m asked (layer + 1) new
explain_more m d asked layer facts old new so_far due tells = record { none = λ e. absurd (omega (arith, e)); explain = λ _. all }
  where
    more : List Account
    more = tells.more

    Due : Account → Type 0
    Due a = All (IsDue asked new a.layer) (last_bits a)

    joined : (P : Account → Type 0) → All P old → All P more → All P new
    joined P first second = subst (λ (l : List Account). All P l) (sym tells.are) (All-append P old more first second)

    -- what the new accounts tell is due
    new_due : (a : Account) → (a.layer ≡ layer) → All (Contains facts) (last_bits a) → Due a
    new_due a at own =
        All-weaker (Contains facts) (IsDue asked new a.layer)
        (λ f there.
        subst (λ (n : ℕ). IsDue asked new n f) (sym at)
        (due_on asked old more new layer f tells.are (All-contains (IsDue asked old layer) facts f due.due there)))
        (last_bits a) own

    answered : All (IsTold new 0) asked
    answered =
        ⊎_elim
        (λ (first : layer ≡ 0).
        All-weaker (Contains facts) (IsTold new 0) (λ f there. All-contains (IsTold new 0) facts f (tells.all first) there) asked (due.whole first))
        (λ (other : layer ≡ 0 → ⊥).
        let positive : 0 < layer = omega (arith, other) in
        All-weaker (IsTold old 0) (IsTold new 0) (λ f h. told_on old more new 0 f tells.are h) asked (so_far.explain positive).answered)
        (cases_eq layer 0)

    all : Explain (circuit m.net) m.states m.inputs asked (layer + 1) new
    all = record {
      each = joined (IsAccount (circuit m.net) m.states m.inputs) (each_account m asked layer old so_far) tells.each;
      shallow =
          joined (λ (a : Account). a.layer < layer + 1)
          (All-weaker (λ (a : Account). a.layer < layer) (λ (a : Account). a.layer < layer + 1) (λ a lt. omega (arith, lt)) old
          (all_shallow m asked layer old so_far))
          (All-weaker (λ (a : Account). a.layer ≡ layer) (λ (a : Account). a.layer < layer + 1) (λ a at. omega (arith, at)) more tells.of_layer);
      due =
          joined Due
          (All-weaker (λ (a : Account). All (IsDue asked old a.layer) (last_bits a)) Due
          (λ a h. All-weaker (IsDue asked old a.layer) (IsDue asked new a.layer) (λ f one. due_on asked old more new a.layer f tells.are one) (last_bits a) h) old
          (all_due m asked layer old so_far))
          (λ k x lt. new_due (get_or more k x) (tells.of_layer k x lt) (tells.only k x lt));
      answered = answered;
    }

pub each_in : (m : Seen) (asked : List Fact) (layers : ℕ) (accounts slice : List Account) → ExplainSoFar m asked layers accounts → slice ≡ accounts →
    All (IsAccount (circuit m.net) m.states m.inputs) slice
each_in m asked layers accounts slice so_far e =
    subst (λ (l : List Account). All (IsAccount (circuit m.net) m.states m.inputs) l) (sym e) (each_account m asked layers accounts so_far)

-- what is asked further is due in the next layer
due_behind : (m : Seen) (d : Drivers) (asked : List Fact) (layer : ℕ) (accounts : List Account) (facts : List Fact) →
    All (IsNext m d accounts layer) facts → AreDue m d asked (layer + 1) accounts facts
due_behind m d asked layer accounts facts h = record {
  real = λ k x lt. (h k x lt).real;
  driven = λ k x lt. (h k x lt).driven;
  due = λ k x lt.
      record {
        first = λ e. absurd (omega (arith, e));
        later = λ before e.
            let same : layer ≡ before = omega (arith, e) in
            subst (λ (n : ℕ). IsGiven accounts n (get_or facts k x)) same (h k x lt).given;
      };
  whole = λ e. absurd (omega (arith, e));
}

pub next_due : (m : Seen) (d : Drivers) (asked : List Fact) (layer : ℕ) (accounts slice : List Account) (facts : List Fact) → slice ≡ accounts →
    All (IsNext m d slice layer) facts → AreDue m d asked (layer + 1) accounts facts
next_due m d asked layer accounts slice facts e h =
    due_behind m d asked layer accounts facts (subst (λ (l : List Account). All (IsNext m d l layer) facts) e h)

-- ---- the ends

pub explain_from : (m : Seen) (asked : List Fact) (layers depth : ℕ) (accounts : List Account) → 0 < layers → layers ≤ depth →
    ExplainSoFar m asked layers accounts → Explain (circuit m.net) m.states m.inputs asked depth accounts
explain_from m asked layers depth accounts some_layer within so_far =
    let all = so_far.explain some_layer in
    record {
      each = all.each;
      shallow =
          All-weaker (λ (a : Account). a.layer < layers) (λ (a : Account). a.layer < depth) (λ a lt. omega (arith, lt, within)) accounts all.shallow;
      due = all.due;
      answered = all.answered;
    }

pub none_so_far : (m : Seen) (asked : List Fact) (accounts : List Account) → accounts ≡ [] → ExplainSoFar m asked 0 accounts
none_so_far m asked accounts e = record { none = λ _. e; explain = λ lt. absurd (omega (arith, lt)) }

pub asked_due : (m : Seen) (d : Drivers) (asked first : List Fact) (accounts : List Account) → IsReady m d → first ≡ asked → All (IsRealIn m) asked →
    All (λ (f : Fact). has_net (circuit m.net).inputs f.net ≡ false) asked → AreDue m d asked 0 accounts first
asked_due m d asked first accounts ready e real driven =
    subst (λ (fs : List Fact). AreDue m d asked 0 accounts fs) (sym e)
    (record {
      real = real;
      driven =
          All-weaker (λ (f : Fact). has_net (circuit m.net).inputs f.net ≡ false) (λ (f : Fact). marks_net d.by_input f.net ≡ false)
          (λ f no_input. ready.drivers.by_input.each f.net ∙ no_input) asked driven;
      due =
          All-weaker (Contains asked) (IsDue asked accounts 0)
          (λ f there. record { first = λ _. there; later = λ before same. absurd (omega (arith, same)) }) asked (All-contains_itself asked);
      whole = λ _. All-contains_itself asked;
    })

pub ready : (m : Seen) (d : Drivers) (n : Checked) → n ≡ m.net → AreDrivers (circuit n) d → IsWayOf (circuit m.net) m.states m.inputs →
    LeadsOn (circuit m.net) m.states m.inputs → IsReady m d
ready m d n same drivers way leads = record {
  drivers = subst (λ (x : Checked). AreDrivers (circuit x) d) same drivers;
  way = way;
  leads = leads;
}

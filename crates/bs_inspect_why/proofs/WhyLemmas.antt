-- The answer, part by part.
use Rattle.std.proofs.Common.{◌≡◌, ℕ, ◌<◌, ◌≤◌, ◌-◌, Bool, true, false, List, [], ◌∷◌, length, refl, ap, sym, subst, ◌∙◌, arith, Option, Some, None}
use Rattle.std.specs.Prelude.{Result, IfOk, MatchOption, ◌==◌}
use Rattle.std.specs.List.{All}
use Rattle.std.proofs.lemmas.Bool.{eqb-false, eqb-true}
use Rattle.std.proofs.lemmas.Result.{IfOk-weaker}
use Rattle.bs_bits.specs.declared.memory.NoMemory.{NoMemory}
use Rattle.bs_net.specs.Circuit.{Circuit}
use Rattle.bs_net.specs.Netlist.{Checked, circuit}
use Rattle.bs_net.specs.declared.net.NetId.{NetId}
use Rattle.bs_net_facts.specs.declared.fact.Fact.{Fact}
use Rattle.bs_net_facts.specs.Facts.{IsReal, IsWayOf}
use Rattle.bs_net_facts.specs.Seen.{Seen}
use Rattle.bs_report.specs.declared.report.Report.{Report}
use Rattle.bs_inspect_causes.specs.Accounts.{Explain, LeadsOn, has_net}
use Rattle.bs_inspect_causes.specs.declared.account.Account.{Account}
use Rattle.bs_inspect_why.specs.declared.denial.Denial.{Denial}
use Rattle.bs_inspect_why.specs.declared.denial.Denial.TheVariants.{Input, Open}
use Rattle.bs_inspect_why.specs.declared.denial.WhyAnswer.{WhyAnswer}
use Rattle.bs_inspect_why.specs.declared.denial.WhyAnswer.TheVariants.{Text, Denied}
use Rattle.bs_inspect_why.specs.Question.{AreAsked, Question, asked_nets, moment_in}
use Rattle.bs_inspect_why.specs.Why.{Answers, AnswersAt, AnswersOn, TellsAccounts, TellsFacts, TellsNets}

-- ---- facts

pub facts_told : (m : Seen) (r : Report) (q : Question) (asked : List Fact) (accounts : List Account) (text : List ℕ) →
    Explain (circuit m.net) m.states m.inputs asked q.depth accounts → TellsAccounts q.csv m r q.all accounts text →
    TellsFacts m r q asked text
facts_told m r q asked accounts text explain tells = record { accounts = accounts; explain = explain; tells = tells }

facts_real : (m : Seen) (nets : List NetId) (at : ℕ) (facts : List Fact) → AreAsked m nets at (length nets) facts →
    All (IsReal (circuit m.net) m.states m.inputs) facts
facts_real m nets at facts are = λ k d lt. (are.each k (record { 0 = 0 }) d (omega (arith, lt, are.size))).real

facts_driven : (m : Seen) (nets : List NetId) (at : ℕ) (facts : List Fact) → AreAsked m nets at (length nets) facts →
    All (λ n. has_net (circuit m.net).inputs n ≡ false) nets → All (λ f. has_net (circuit m.net).inputs f.net ≡ false) facts
facts_driven m nets at facts are driven = λ k d lt.
    let there : k < length nets = omega (arith, lt, are.size) in
    let n : NetId = record { 0 = 0 } in
    subst (λ (x : NetId). has_net (circuit m.net).inputs x ≡ false) (sym (are.each k n d there).net_is) (driven k n there)

given_asked : (m : Seen) (nets : List NetId) (at : ℕ) (given : Option (List Fact)) (facts : List Fact) → given ≡ Some facts →
    MatchOption given (length m.inputs ≤ at) (AreAsked m nets at (length nets)) → AreAsked m nets at (length nets) facts
given_asked m nets at given facts is h =
    subst (λ (o : Option (List Fact)). MatchOption o (length m.inputs ≤ at) (AreAsked m nets at (length nets))) is h

pub given_real : (m : Seen) (nets : List NetId) (at : ℕ) (given : Option (List Fact)) (facts slice : List Fact) → given ≡ Some facts → slice ≡ facts →
    MatchOption given (length m.inputs ≤ at) (AreAsked m nets at (length nets)) → All (IsReal (circuit m.net) m.states m.inputs) slice
given_real m nets at given facts slice is same h =
    subst (All (IsReal (circuit m.net) m.states m.inputs)) (sym same) (facts_real m nets at facts (given_asked m nets at given facts is h))

pub given_driven : (m : Seen) (nets : List NetId) (at : ℕ) (given : Option (List Fact)) (facts slice : List Fact) → given ≡ Some facts →
    slice ≡ facts → MatchOption given (length m.inputs ≤ at) (AreAsked m nets at (length nets)) →
    All (λ n. has_net (circuit m.net).inputs n ≡ false) nets → All (λ f. has_net (circuit m.net).inputs f.net ≡ false) slice
given_driven m nets at given facts slice is same h driven =
    subst (All (λ (f : Fact). has_net (circuit m.net).inputs f.net ≡ false)) (sym same)
    (facts_driven m nets at facts (given_asked m nets at given facts is h) driven)

pub nets_told : (m : Seen) (r : Report) (q : Question) (nets : List NetId) (at : ℕ) (asked : List Fact) (text : List ℕ) →
    AreAsked m nets at (length nets) asked → 0 < length nets → TellsFacts m r q asked text → TellsNets m r q nets at text
nets_told m r q nets at asked text are some tells = record { asked = asked; are = are; some = some; tells = tells }

-- ---- a netlist and a report in place of the moments

abbrev seen_of : Checked → Report → Seen
seen_of net r = record { net = net; states = r.states; inputs = r.inputs }

same_seen : (m : Seen) (net : Checked) (r : Report) → m.net ≡ net → m.states ≡ r.states → m.inputs ≡ r.inputs → m ≡ seen_of net r
same_seen m net r n s x = λ i. record { net = n i; states = s i; inputs = x i }

pub way_seen : (m : Seen) (net : Checked) (r : Report) → m.net ≡ net → m.states ≡ r.states → m.inputs ≡ r.inputs →
    IsWayOf (circuit net) r.states r.inputs → IsWayOf (circuit m.net) m.states m.inputs
way_seen m net r n s x h = subst (λ (k : Seen). IsWayOf (circuit k.net) k.states k.inputs) (sym (same_seen m net r n s x)) h

pub leads_seen : (m : Seen) (net : Checked) (r : Report) → m.net ≡ net → m.states ≡ r.states → m.inputs ≡ r.inputs →
    LeadsOn (circuit net) r.states r.inputs → LeadsOn (circuit m.net) m.states m.inputs
leads_seen m net r n s x h = subst (λ (k : Seen). LeadsOn (circuit k.net) k.states k.inputs) (sym (same_seen m net r n s x)) h

pub placed_seen : (m : Seen) (net : Checked) (nets : List NetId) → m.net ≡ net → All (λ n. n.0 < (circuit net).nets) nets →
    All (λ n. n.0 < (circuit m.net).nets) nets
placed_seen m net nets n h = subst (λ (k : Checked). All (λ (i : NetId). i.0 < (circuit k).nets) nets) (sym n) h

pub driven_seen : (m : Seen) (net : Checked) (nets : List NetId) → m.net ≡ net → All (λ n. has_net (circuit net).inputs n ≡ false) nets →
    All (λ n. has_net (circuit m.net).inputs n ≡ false) nets
driven_seen m net nets n h = subst (λ (k : Checked). All (λ (i : NetId). has_net (circuit k).inputs i ≡ false) nets) (sym n) h

pub answer_seen : (m : Seen) (net : Checked) (r : Report) (q : Question) (nets : List NetId) (at : ℕ) (why : WhyAnswer) → m.net ≡ net →
    m.states ≡ r.states → m.inputs ≡ r.inputs → AnswersAt m r q nets at why → AnswersOn net r q nets at why
answer_seen m net r q nets at why n s x h = subst (λ (k : Seen). AnswersAt k r q nets at why) (same_seen m net r n s x) h

-- ---- the answer

answers_by : (net : Checked) (r : Report) (q : Question) (nets : List NetId) (at : ℕ) (why : WhyAnswer) → at ≡ moment_in (length r.states) q.at →
    at < length r.states → nets ≡ asked_nets net.raw q.name → AnswersOn net r q nets at why → Answers net.raw r q why
answers_by net r q nets at (Text text) moment there are tells = record {
  seen = seen_of net r;
  raw_is = refl;
  states_are = refl;
  inputs_are = refl;
  there = subst (λ (t : ℕ). t < length r.states) moment there;
  tells =
      subst (λ (t : ℕ). TellsNets (seen_of net r) r q (asked_nets net.raw q.name) t text.items) moment
      (subst (λ (ns : List NetId). TellsNets (seen_of net r) r q ns at text.items) are tells);
}
answers_by net r q nets at (Denied denial) moment there are denied =
    let over : length r.inputs ≤ moment_in (length r.states) q.at = omega (arith, denied.1, moment) in
    subst (λ (d : Denial). Answers net.raw r q (Denied d)) (sym denied.0) over

pub text_answers : (net : Checked) (r : Report) (q : Question) (nets : List NetId) (at : ℕ) (result : Result WhyAnswer NoMemory) →
    at ≡ moment_in (length r.states) q.at → at < length r.states → nets ≡ asked_nets net.raw q.name →
    IfOk result (AnswersOn net r q nets at) → IfOk result (Answers net.raw r q)
text_answers net r q nets at result moment there are h =
    IfOk-weaker result (AnswersOn net r q nets at) (Answers net.raw r q) (λ why told. answers_by net r q nets at why moment there are told) h

-- the bits at a moment are open
pub open_told : (inputs : List (List Bool)) (at : ℕ) → length inputs ≤ at → (Open ≡ Open) × (length inputs ≤ at)
open_told inputs at le = (refl, le)

pub moment_given : (count t at : ℕ) (asked : Option ℕ) → asked ≡ Some at → t ≡ at → at < count → (t ≡ moment_in count asked) × (t < count)
moment_given count t at asked is e lt = (e ∙ ap (moment_in count) (sym is), omega (arith, e, lt))

pub moment_over : (count at : ℕ) (asked : Option ℕ) → asked ≡ Some at → count ≤ at → count ≤ moment_in count asked
moment_over count at asked is le = subst (λ (o : Option ℕ). count ≤ moment_in count o) (sym is) le

pub moment_last : (count t : ℕ) (asked : Option ℕ) → asked ≡ None → t ≡ count - 1 → 0 < count → (t ≡ moment_in count asked) × (t < count)
moment_last count t asked is e some = (e ∙ ap (moment_in count) (sym is), omega (arith, e, some))

pub moment_at : (count t : ℕ) (asked : Option ℕ) → (t ≡ moment_in count asked) × (t < count) → t ≡ moment_in count asked
moment_at count t asked both = both.0

pub moment_there : (count t : ℕ) (asked : Option ℕ) → (t ≡ moment_in count asked) × (t < count) → t < count
moment_there count t asked both = both.1

pub none_asked : (net : Checked) (r : Report) (q : Question) (nets : List NetId) (empty : Bool) → nets ≡ asked_nets net.raw q.name →
    empty ≡ (length nets == 0) → empty ≡ true → Answers net.raw r q (Denied Input)
none_asked net r q nets empty are e is = sym are ∙ no_nets nets (eqb-true (length nets) 0 (sym e ∙ is))
  where
    no_nets : (ns : List NetId) → length ns ≡ 0 → ns ≡ []
    no_nets [] none = refl
    no_nets (n ∷ ns) none = absurd (omega (arith, none))

pub some_asked : (nets : List NetId) (empty : Bool) → empty ≡ (length nets == 0) → empty ≡ false → 0 < length nets
some_asked nets empty e some = omega (arith, eqb-false (length nets) 0 (sym e ∙ some))

pub some_states : (c : Circuit) (states inputs : List (List Bool)) → IsWayOf c states inputs → 0 < length states
some_states c states inputs way = omega (arith, way.one_more)

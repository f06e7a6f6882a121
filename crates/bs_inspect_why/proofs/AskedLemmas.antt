-- The nets with a name, and their facts.
use Rattle.std.proofs.Common.{◌≡◌, ℕ, ◌<◌, ◌≤◌, ◌+◌, Bool, true, false, not, ◌&&◌, ◌||◌, ◌==◌, List, [], ◌∷◌, ◌++◌, length, map, take, get_or, refl, ap, sym, subst, ◌∙◌, ◌⊎◌, inl, inr, arith, zero, suc}
use Rattle.std.specs.Prelude.{if◌then◌else◌}
use Rattle.std.specs.List.{All, flat_map, list_any}
use Rattle.std.proofs.lemmas.Bool.{and_parts, cases_lt, false≢true}
use Rattle.std.proofs.lemmas.Grind.{flat_map-append}
use Rattle.std.proofs.lemmas.List.{append-nil, get_or_append_left, get_or_default, get_or_push, length_push, map-append, take_more}
use Rattle.std.proofs.lemmas.List.Elements.{All-append, All-nil}
use Rattle.bs_net.specs.Circuit.{Circuit}
use Rattle.bs_net.specs.Netlist.{Checked, circuit, circuit_of, parts_of}
use Rattle.bs_net.specs.Parts.{Parts}
use Rattle.bs_net.specs.declared.net.Const.{Const}
use Rattle.bs_net.specs.declared.net.Flop.{Flop}
use Rattle.bs_net.specs.declared.net.Gate.{Gate}
use Rattle.bs_net.specs.declared.net.NetId.{NetId}
use Rattle.bs_net.specs.declared.raw.Raw.{Raw}
use Rattle.bs_net_facts.specs.declared.fact.Fact.{Fact}
use Rattle.bs_net_facts.specs.Facts.{IsReal}
use Rattle.bs_net_facts.specs.Seen.{Seen}
use Rattle.bs_net_names.specs.Keys.{key_parts}
use Rattle.bs_inspect_view.specs.Signals.{Member, is_wanted, member_in, member_of, members_from, members_of, wanted}
use Rattle.bs_inspect_view.specs.declared.signal.Member.{Member as CodeMember}
use Rattle.bs_inspect_causes.specs.Accounts.{has_net}
use Rattle.bs_inspect_why.specs.Question.{AreAsked, IsAsked, asked_net, asked_nets, is_driven, net_id}

-- ---- nets

pub members_are : (keys : List (List ℕ)) (raw : Parts) (name : List ℕ) (members : List Member) → keys ≡ raw.names →
    members ≡ members_of (name ∷ []) keys → members ≡ members_of (name ∷ []) raw.names
members_are keys raw name members e are = are ∙ ap (members_of (name ∷ [])) e

pub nets_more : (c : Circuit) (members : List CodeMember) (i : ℕ) (d : CodeMember) (before after : List NetId) → i < length members →
    before ≡ flat_map (asked_net c) (map member_in (take i members)) → after ≡ before ++ asked_net c (member_in (get_or members i d)) →
    after ≡ flat_map (asked_net c) (map member_in (take (i + 1) members))
nets_more c members i d before after lt e goes =
    let m : Member = member_in (get_or members i d) in
    let more : map member_in (take (i + 1) members) ≡ map member_in (take i members) ++ m ∷ [] =
    ap (map member_in) (take_more members i d lt) ∙ map-append member_in (take i members) (get_or members i d ∷ []) in
    goes
    ∙ (ap (λ (ns : List NetId). ns ++ asked_net c m) e
    ∙ sym (ap (flat_map (asked_net c)) more
    ∙ (flat_map-append (asked_net c) (map member_in (take i members)) (m ∷ [])
    ∙ ap (λ (ns : List NetId). flat_map (asked_net c) (map member_in (take i members)) ++ ns) (append-nil (asked_net c m)))))

pub nets_are : (raw : Parts) (name : List ℕ) (members : List Member) (nets : List NetId) → members ≡ members_of (name ∷ []) raw.names →
    nets ≡ flat_map (asked_net (circuit_of raw)) members → nets ≡ asked_nets raw name
nets_are raw name members nets e are = are ∙ ap (flat_map (asked_net (circuit_of raw))) e

-- ---- they are nets of the netlist, and no data inputs

abbrev Below : ℕ → Member → Type 0
Below count m = m.place < count

one_below : (only : List (List ℕ)) (key : List ℕ) (place count : ℕ) → place < count → All (Below count) (wanted only key place)
one_below only key place count lt = by (is_wanted only (key_parts key))
  where
    alone : (k : ℕ) (d : Member) → k < 1 → Below count (get_or (member_of (key_parts key) place ∷ []) k d)
    alone zero d less = lt
    alone (suc k) d less = absurd (omega (arith, less))

    by : (b : Bool) → All (Below count) (if b then member_of (key_parts key) place ∷ [] else [])
    by true = λ k d less. alone k d less
    by false = All-nil (Below count)

all_below : (only : List (List ℕ)) (place : ℕ) (keys : List (List ℕ)) (count : ℕ) → place + length keys ≤ count →
    All (Below count) (members_from only place keys)
all_below only place [] count le = All-nil (Below count)
all_below only place (key ∷ keys) count le =
    All-append (Below count) (wanted only key place) (members_from only (place + 1) keys) (one_below only key place count (omega (arith, le)))
    (all_below only (place + 1) keys count (omega (arith, le)))

abbrev IsPlaced : ℕ → NetId → Type 0
IsPlaced count n = n.0 < count

abbrev IsDriven : Circuit → NetId → Type 0
IsDriven c n = has_net c.inputs n ≡ false

off : (b : Bool) → not b ≡ true → b ≡ false
off true e = absurd (false≢true e)
off false e = refl

abbrev is_wanted_net : Circuit → NetId → Bool
is_wanted_net c n = not (has_net c.inputs n) && is_driven c n

one_placed : (c : Circuit) (m : Member) (count : ℕ) → m.place < count → All (IsPlaced count) (asked_net c m)
one_placed c m count lt = by (is_wanted_net c (net_id m.place))
  where
    alone : (k : ℕ) (d : NetId) → k < 1 → IsPlaced count (get_or (net_id m.place ∷ []) k d)
    alone zero d less = lt
    alone (suc k) d less = absurd (omega (arith, less))

    by : (b : Bool) → All (IsPlaced count) (if b then net_id m.place ∷ [] else [])
    by true = λ k d less. alone k d less
    by false = All-nil (IsPlaced count)

one_driven : (c : Circuit) (m : Member) → All (IsDriven c) (asked_net c m)
one_driven c m = by (is_wanted_net c (net_id m.place)) refl
  where
    alone : has_net c.inputs (net_id m.place) ≡ false → (k : ℕ) (d : NetId) → k < 1 → IsDriven c (get_or (net_id m.place ∷ []) k d)
    alone e zero d less = e
    alone e (suc k) d less = absurd (omega (arith, less))

    by : (b : Bool) → is_wanted_net c (net_id m.place) ≡ b → All (IsDriven c) (if b then net_id m.place ∷ [] else [])
    by true e =
        let parts = and_parts (not (has_net c.inputs (net_id m.place))) (is_driven c (net_id m.place)) e in
        λ k d less. alone (off (has_net c.inputs (net_id m.place)) parts.0) k d less
    by false e = All-nil (IsDriven c)

-- what drives a net, by the lists of a netlist
pub driven_is : (n : Checked) (r : Raw) (inputs : List NetId) (flops : List Flop) (consts : List Const) (gates : List Gate) (id : NetId)
    (input flop constant gate result : Bool) → parts_of r ≡ n.raw → inputs ≡ (circuit n).inputs → flops ≡ r.flops → consts ≡ r.consts → gates ≡ r.gates →
    input ≡ has_net inputs id → flop ≡ list_any (λ (x : Flop). x.q.0 == id.0) flops → constant ≡ list_any (λ (x : Const). x.net.0 == id.0) consts →
    gate ≡ list_any (λ (x : Gate). x.out.0 == id.0) gates →
    result ≡ (not input && (flop || (constant || gate))) → result ≡ (not (has_net (circuit n).inputs id) && is_driven (circuit n) id)
driven_is n r inputs flops consts gates id input flop constant gate result parts in_is flops_are consts_are gates_are e₁ e₂ e₃ e₄ is =
    let i = e₁ ∙ ap (λ (ns : List NetId). has_net ns id) in_is in
    let f = e₂ ∙ ap (λ (fs : List Flop). list_any (λ (x : Flop). x.q.0 == id.0) fs) (flops_are ∙ ap (λ (p : Parts). p.flops) parts) in
    let k = e₃ ∙ ap (λ (ks : List Const). list_any (λ (x : Const). x.net.0 == id.0) ks) (consts_are ∙ ap (λ (p : Parts). p.consts) parts) in
    let g = e₄ ∙ ap (λ (gs : List Gate). list_any (λ (x : Gate). x.out.0 == id.0) gs) (gates_are ∙ ap (λ (p : Parts). p.gates) parts) in
    is ∙ (λ j. not (i j) && (f j || (k j || g j)))

all_placed : (c : Circuit) (members : List Member) (count : ℕ) → All (Below count) members → All (IsPlaced count) (flat_map (asked_net c) members)
all_placed c [] count h = All-nil (IsPlaced count)
all_placed c (m ∷ members) count h =
    All-append (IsPlaced count) (asked_net c m) (flat_map (asked_net c) members) (one_placed c m count (h 0 m (omega arith)))
    (all_placed c members count (λ k d lt. h (suc k) d (omega (arith, lt))))

all_driven : (c : Circuit) (members : List Member) → All (IsDriven c) (flat_map (asked_net c) members)
all_driven c [] = All-nil (IsDriven c)
all_driven c (m ∷ members) = All-append (IsDriven c) (asked_net c m) (flat_map (asked_net c) members) (one_driven c m) (all_driven c members)

pub nets_placed : (raw : Parts) (name : List ℕ) (members : List Member) (nets : List NetId) → members ≡ members_of (name ∷ []) raw.names →
    nets ≡ flat_map (asked_net (circuit_of raw)) members → All (λ n. n.0 < (circuit_of raw).nets) nets
nets_placed raw name members nets e are =
    let count : ℕ = length raw.names in
    let below : All (Below count) members =
    subst (All (Below count)) (sym e) (all_below (name ∷ []) 0 raw.names count (omega arith)) in
    subst (All (IsPlaced count)) (sym are) (all_placed (circuit_of raw) members count below)

pub nets_driven : (raw : Parts) (members : List Member) (nets : List NetId) → nets ≡ flat_map (asked_net (circuit_of raw)) members →
    All (λ n. has_net (circuit_of raw).inputs n ≡ false) nets
nets_driven raw members nets are = subst (All (IsDriven (circuit_of raw))) (sym are) (all_driven (circuit_of raw) members)

-- ---- facts

pub fact_is : (m : Seen) (net : NetId) (at : ℕ) (bit : Bool) → IsReal (circuit m.net) m.states m.inputs (record { net = net; cycle = at; bit = bit }) →
    IsAsked m net at (record { net = net; cycle = at; bit = bit })
fact_is m net at bit real = record { net_is = refl; cycle_is = refl; real = real }

pub fact_open : (nets cycles net cycle : ℕ) → net < nets → (nets ≤ net) ⊎ (cycles ≤ cycle) → cycles ≤ cycle
fact_open nets cycles net cycle lt (inl le) = absurd (omega (arith, lt, le))
fact_open nets cycles net cycle lt (inr le) = le

pub net_here : (count : ℕ) (nets : List NetId) (i : ℕ) (n : NetId) → All (λ n. n.0 < count) nets → i < length nets → n ≡ get_or nets i n → n.0 < count
net_here count nets i n placed lt e = subst (IsPlaced count) (sym e) (placed i n lt)

pub facts_begin : (m : Seen) (nets : List NetId) (at : ℕ) (facts : List Fact) → facts ≡ [] → AreAsked m nets at 0 facts
facts_begin m nets at facts e = record { size = ap length e; each = λ i n f lt. absurd (omega (arith, lt)) }

pub facts_more : (m : Seen) (nets : List NetId) (at i : ℕ) (n : NetId) (f : Fact) (facts after : List Fact) → i < length nets → n ≡ get_or nets i n →
    AreAsked m nets at i facts → IsAsked m n at f → after ≡ facts ++ f ∷ [] → AreAsked m nets at (i + 1) after
facts_more m nets at i n f facts after lt here are is goes =
    subst (AreAsked m nets at (i + 1)) (sym goes)
    (record {
      size = length_push facts f ∙ (let h : length facts + 1 ≡ i + 1 = omega (arith, are.size) in h);
      each = λ k d e less. by k d e less (cases_lt k i);
    })
  where
    by : (k : ℕ) (d : NetId) (e : Fact) → k < i + 1 → (k < i) ⊎ (i ≤ k) → IsAsked m (get_or nets k d) at (get_or (facts ++ f ∷ []) k e)
    by k d e less (inl before) =
        subst (IsAsked m (get_or nets k d) at) (sym (get_or_append_left facts (f ∷ []) e k (omega (arith, before, are.size)))) (are.each k d e before)
    by k d e less (inr le) =
        let same : i ≡ k = omega (arith, less, le) in
        subst (λ (j : ℕ). IsAsked m (get_or nets j d) at (get_or (facts ++ f ∷ []) j e)) same
        (subst (IsAsked m (get_or nets i d) at) (sym (get_or_push facts f e i are.size))
        (subst (λ (x : NetId). IsAsked m x at f) (here ∙ get_or_default nets i n d lt) is))

pub facts_put : (m : Seen) (nets : List NetId) (at i : ℕ) (d : NetId) (f : Fact) (facts after : List Fact) → i < length nets → AreAsked m nets at i facts →
    IsAsked m (get_or nets i d) at f → after ≡ facts ++ f ∷ [] → AreAsked m nets at (i + 1) after
facts_put m nets at i d f facts after lt are is goes =
    facts_more m nets at i (get_or nets i d) f facts after lt (get_or_default nets i d (get_or nets i d) lt) are is goes

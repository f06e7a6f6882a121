-- What the clauses of the gates, the units, the flip-flops and the items say.
use Rattle.std.proofs.Common.{◌≡◌, ℕ, zero, suc, ◌+◌, ◌-◌, ◌<◌, ◌≤◌, ◌==◌, Bool, true, false, ◌&&◌, ◌||◌, cond, List, [], ◌∷◌, ◌++◌, map, length}
use Rattle.std.proofs.Common.{get_or, refl, sym, ap, ◌∙◌, arith, subst, length-append}
use Rattle.std.specs.Prelude.{sum_by, filter}
use Rattle.std.specs.Bool.{beq}
use Rattle.std.specs.List.{AllByRecursion, range_with_len, flat_map}
use Rattle.std.proofs.lemmas.Bool.{false≢true, eqb-true, eq-eqb}
use Rattle.std.proofs.lemmas.List.{length-map, map-append, drop_more}
use Rattle.std.proofs.lemmas.Option.{get_or_from_slice_get}
use Rattle.std.proofs.Common.{drop, slice_get, Some}
use Rattle.std.proofs.lemmas.List.Sums.{sum_by-cons}
use Rattle.bs_bits.proofs.RangeLemmas.{range_more}
use Rattle.bs_clause.specs.Literal.{Literal, Clause}
use Rattle.bs_clause.proofs.Literals.{beq-true}
use Rattle.bs_net.specs.declared.net.NetId.{NetId}
use Rattle.bs_net.specs.declared.net.Gate.{Gate}
use Rattle.bs_net.specs.declared.net.Flop.{Flop}
use Rattle.bs_net.specs.declared.net.Mode.{Mode}
use Rattle.bs_net.specs.declared.net.Mode.TheVariants.{Plain, Enable, Clear}
use Rattle.bs_net.specs.declared.net.Const.{Const}
use Rattle.bs_net.specs.Circuit.{Circuit, bit_at, shown, mode_loads, loaded, is_zero_net}
use Rattle.bs_net.specs.Gate.{gate_value, is_odd}
use Rattle.bs_net.specs.Parts.{IsModePlaced, IsFlopPlaced}
use Rattle.bs_scan.specs.Signature.{parity_of}
use Rattle.bs_encode.specs.Tables.{lit, gate_clauses, odd_clauses, helpers_of}
use Rattle.bs_encode.specs.Transition.{net_var, gate_helpers, item_helpers, item_vars, state_vars, chosen, gates_clauses, unit_clauses, mode_clauses}
use Rattle.bs_encode.specs.Transition.{load_clauses}
use Rattle.bs_encode.specs.Transition.{next_clauses, items_clauses}
use Rattle.bs_encode.specs.Encoded.{literals}
use Rattle.std.proofs.Common.{◌^◌, ◌≤◌, append_assoc}
use Rattle.bs_encode.proofs.TidyLemmas.{meets, meets_all}
use Rattle.bs_encode.proofs.TableLemmas.{beq-from, and_true, meets_all-append, Has, has_left, has_right, helper_bits, gate_bits, gate-sound}
use Rattle.bs_encode.proofs.TableLemmas.{gate-complete, odd-sound, odd-complete, same_means, either_means, unless_means, length-helper_bits, length-gate_bits}

-- the assignment shows v on the first nets
abbrev pub OnNets : (ℕ → Bool) → List Bool → ℕ → Type 0
OnNets a v nets = (n : ℕ) → n < nets → a (n + 1) ≡ bit_at v n

pub shown_by : (a : ℕ → Bool) (v : List Bool) (nets : ℕ) → OnNets a v nets → (ns : List NetId) → AllByRecursion (λ (n : NetId). n.0 < nets) ns →
    map a (map net_var ns) ≡ shown v ns
shown_by a v nets on [] p = refl
shown_by a v nets on (n ∷ ns) p =
    ap (λ b. b ∷ map a (map net_var ns)) (on n.0 p.0) ∙ ap (λ bs. bit_at v n.0 ∷ bs) (shown_by a v nets on ns p.1)

-- ---- gates

abbrev pub GatePlaced : ℕ → Gate → Type 0
GatePlaced nets g = (g.out.0 < nets) × AllByRecursion (λ (n : NetId). n.0 < nets) g.ins

abbrev pub Settled : List Bool → Gate → Type 0
Settled v g = bit_at v g.out.0 ≡ gate_value g.kind (shown v g.ins)

pub gates-sound : (a : ℕ → Bool) (v : List Bool) (nets h : ℕ) (gs : List Gate) → OnNets a v nets → AllByRecursion (GatePlaced nets) gs →
    meets_all a (gates_clauses h gs) ≡ true → AllByRecursion (Settled v) gs
gates-sound a v nets h [] on p m = tt
gates-sound a v nets h (g ∷ gs) on p m =
    let own = gate_clauses g.kind h (net_var g.out) (map net_var g.ins) in
    let rest = gates_clauses (h + gate_helpers g) gs in
    let parts : (meets_all a own ≡ true) × (meets_all a rest ≡ true) = and_true _ _ (sym (meets_all-append a own rest) ∙ m) in (
      sym (on g.out.0 p.0.0)
          ∙ (gate-sound a g.kind h (net_var g.out) (map net_var g.ins) parts.0
          ∙ ap (gate_value g.kind) (shown_by a v nets on g.ins p.0.1)),
      gates-sound a v nets (h + gate_helpers g) gs on p.1 parts.1,
    )

-- what the helpers of the gates show
abbrev pub gates_bits : List Bool → List Gate → List Bool
gates_bits v [] = []
gates_bits v (g ∷ gs) = gate_bits g.kind (shown v g.ins) ++ gates_bits v gs

length-own_bits : (v : List Bool) (g : Gate) → length (gate_bits g.kind (shown v g.ins)) ≡ gate_helpers g
length-own_bits v g = length-gate_bits g.kind (shown v g.ins) ∙ ap (helpers_of g.kind) (length-map g.ins (λ (n : NetId). bit_at v n.0))

pub length-gates_bits : (v : List Bool) (gs : List Gate) → length (gates_bits v gs) ≡ sum_by gate_helpers gs
length-gates_bits v [] = refl
length-gates_bits v (g ∷ gs) =
    let own = length-own_bits v g in
    let rest = length-gates_bits v gs in
    let all = sum_by-cons gate_helpers g gs in
    omega (arith, length-append (gate_bits g.kind (shown v g.ins)) (gates_bits v gs))

pub gates-complete : (a : ℕ → Bool) (v : List Bool) (nets h : ℕ) (gs : List Gate) → OnNets a v nets → AllByRecursion (GatePlaced nets) gs →
    Has a h (gates_bits v gs) → AllByRecursion (Settled v) gs → meets_all a (gates_clauses h gs) ≡ true
gates-complete a v nets h [] on p k s = refl
gates-complete a v nets h (g ∷ gs) on p k s =
    let own = gate_clauses g.kind h (net_var g.out) (map net_var g.ins) in
    let rest = gates_clauses (h + gate_helpers g) gs in
    let bits = gate_bits g.kind (shown v g.ins) in
    let same : map a (map net_var g.ins) ≡ shown v g.ins = shown_by a v nets on g.ins p.0.1 in
    let P : List Bool → Type 0 = λ bs. Has a h (gate_bits g.kind bs) in
    let Q : ℕ → Type 0 = λ n. Has a (h + n) (gates_bits v gs) in
    let first : meets_all a own ≡ true =
    gate-complete a g.kind h (net_var g.out) (map net_var g.ins) (subst P (sym same) (has_left a h bits (gates_bits v gs) k))
    (on g.out.0 p.0.0 ∙ (s.0 ∙ ap (gate_value g.kind) (sym same))) in
    let later : meets_all a rest ≡ true =
    gates-complete a v nets (h + gate_helpers g) gs on p.1 (subst Q (length-own_bits v g) (has_right a h bits (gates_bits v gs) k)) s.1 in
    meets_all-append a own rest ∙ (ap (λ b. b && meets_all a rest) first ∙ later)

-- ---- flip-flops: where one loads by another rule, `mode-sound` and `mode-complete` change with `mode_clauses`

mode-sound : (a : ℕ → Bool) (v : List Bool) (nets n : ℕ) (mode : Mode) (d q : NetId) → OnNets a v nets → d.0 < nets → q.0 < nets → IsModePlaced nets mode →
    meets_all a (mode_clauses mode n d q) ≡ true → a n ≡ mode_loads v mode (bit_at v d.0) (bit_at v q.0)
mode-sound a v nets n Plain d q on load state other m =
    beq-true _ _ (sym (same_means a true n (net_var d)) ∙ m) ∙ (yes (a (net_var d)) ∙ on d.0 load)
  where
    yes : (b : Bool) → beq true b ≡ b
    yes true = refl
    yes false = refl
mode-sound a v nets n (Enable e) d q on load state other m =
    beq-true _ _ (sym (either_means a n (net_var e) (net_var d) (net_var q)) ∙ m)
    ∙ (λ k. cond (on e.0 (other 0 e (omega arith)) k) (on d.0 load k) (on q.0 state k))
mode-sound a v nets n (Clear r) d q on load state other m =
    beq-true _ _ (sym (unless_means a n (net_var r) (net_var d)) ∙ m)
    ∙ (λ k. cond (on r.0 (other 0 r (omega arith)) k) false (on d.0 load k))

mode-complete : (a : ℕ → Bool) (v : List Bool) (nets n : ℕ) (mode : Mode) (d q : NetId) → OnNets a v nets → d.0 < nets → q.0 < nets → IsModePlaced nets mode →
    a n ≡ mode_loads v mode (bit_at v d.0) (bit_at v q.0) → meets_all a (mode_clauses mode n d q) ≡ true
mode-complete a v nets n Plain d q on load state other e =
    same_means a true n (net_var d) ∙ beq-from _ _ (e ∙ (sym (on d.0 load) ∙ yes (a (net_var d))))
  where
    yes : (b : Bool) → b ≡ beq true b
    yes true = refl
    yes false = refl
mode-complete a v nets n (Enable on_net) d q on load state other e =
    let same : cond (a (net_var on_net)) (a (net_var d)) (a (net_var q)) ≡ cond (bit_at v on_net.0) (bit_at v d.0) (bit_at v q.0) =
    λ k. cond (on on_net.0 (other 0 on_net (omega arith)) k) (on d.0 load k) (on q.0 state k) in
    either_means a n (net_var on_net) (net_var d) (net_var q) ∙ beq-from _ _ (e ∙ sym same)
mode-complete a v nets n (Clear r) d q on load state other e =
    let same : cond (a (net_var r)) false (a (net_var d)) ≡ cond (bit_at v r.0) false (bit_at v d.0) =
    λ k. cond (on r.0 (other 0 r (omega arith)) k) false (on d.0 load k) in
    unless_means a n (net_var r) (net_var d) ∙ beq-from _ _ (e ∙ sym same)

load-sound : (a : ℕ → Bool) (v : List Bool) (nets n : ℕ) (f : Flop) → OnNets a v nets → IsFlopPlaced nets f → meets_all a (load_clauses n f) ≡ true →
    a n ≡ loaded v f
load-sound a v nets n f on p m = mode-sound a v nets n f.mode f.d f.q on p.1 p.0 p.3 m

load-complete : (a : ℕ → Bool) (v : List Bool) (nets n : ℕ) (f : Flop) → OnNets a v nets → IsFlopPlaced nets f → a n ≡ loaded v f →
    meets_all a (load_clauses n f) ≡ true
load-complete a v nets n f on p e = mode-complete a v nets n f.mode f.d f.q on p.1 p.0 p.3 e

pub next-sound : (a : ℕ → Bool) (v : List Bool) (nets n : ℕ) (fs : List Flop) → OnNets a v nets → AllByRecursion (IsFlopPlaced nets) fs →
    meets_all a (next_clauses n fs) ≡ true → map a (range_with_len n (length fs)) ≡ map (loaded v) fs
next-sound a v nets n [] on p m = refl
next-sound a v nets n (f ∷ fs) on p m =
    let parts : (meets_all a (load_clauses n f) ≡ true) × (meets_all a (next_clauses (n + 1) fs) ≡ true) =
    and_true _ _ (sym (meets_all-append a (load_clauses n f) (next_clauses (n + 1) fs)) ∙ m) in
    ap (λ b. b ∷ map a (range_with_len (n + 1) (length fs))) (load-sound a v nets n f on p.0 parts.0)
    ∙ ap (λ bs. loaded v f ∷ bs) (next-sound a v nets (n + 1) fs on p.1 parts.1)

pub next-complete : (a : ℕ → Bool) (v : List Bool) (nets n : ℕ) (fs : List Flop) → OnNets a v nets → AllByRecursion (IsFlopPlaced nets) fs →
    Has a n (map (loaded v) fs) → meets_all a (next_clauses n fs) ≡ true
next-complete a v nets n [] on p k = refl
next-complete a v nets n (f ∷ fs) on p k =
    meets_all-append a (load_clauses n f) (next_clauses (n + 1) fs)
    ∙ (ap (λ b. b && meets_all a (next_clauses (n + 1) fs)) (load-complete a v nets n f on p.0 k.0)
    ∙ next-complete a v nets (n + 1) fs on p.1 k.1)

-- ---- items: each is the parity of state variables

-- the assignment shows the state s on the state variables
abbrev pub OnState : (ℕ → Bool) → Circuit → List Bool → Type 0
OnState a c s = (i : ℕ) → i < length c.flops → a (get_or (state_vars c) i 0) ≡ bit_at s i

item_shown : (a : ℕ → Bool) (c : Circuit) (s : List Bool) (item : List ℕ) → OnState a c s → AllByRecursion (λ i. i < length c.flops) item →
    map a (chosen (state_vars c) item) ≡ map (λ i. bit_at s i) item
item_shown a c s [] on p = refl
item_shown a c s (i ∷ item) on p =
    ap (λ b. b ∷ map a (chosen (state_vars c) item)) (on i p.0) ∙ ap (λ bs. bit_at s i ∷ bs) (item_shown a c s item on p.1)

abbrev pub ItemPlaced : Circuit → List ℕ → Type 0
ItemPlaced c item = AllByRecursion (λ i. i < length c.flops) item

pub items-sound : (a : ℕ → Bool) (c : Circuit) (s : List Bool) (v : ℕ) (items : List (List ℕ)) → OnState a c s → AllByRecursion (ItemPlaced c) items →
    meets_all a (items_clauses (state_vars c) v items) ≡ true → map a (item_vars v items) ≡ map (parity_of s) items
items-sound a c s v [] on p m = refl
items-sound a c s v (item ∷ items) on p m =
    let own = odd_clauses true v (v + item_helpers item) (chosen (state_vars c) item) in
    let rest = items_clauses (state_vars c) (v + item_helpers item + 1) items in
    let parts : (meets_all a own ≡ true) × (meets_all a rest ≡ true) = and_true _ _ (sym (meets_all-append a own rest) ∙ m) in
    let head : a (v + item_helpers item) ≡ is_odd (map (λ i. bit_at s i) item) =
    odd-sound a true v (v + item_helpers item) (chosen (state_vars c) item) parts.0
    ∙ (yes _ ∙ ap is_odd (item_shown a c s item on p.0)) in
    ap (λ b. b ∷ map a (item_vars (v + item_helpers item + 1) items)) head
    ∙ ap (λ bs. is_odd (map (λ i. bit_at s i) item) ∷ bs) (items-sound a c s (v + item_helpers item + 1) items on p.1 parts.1)
  where
    yes : (b : Bool) → beq true b ≡ b
    yes true = refl
    yes false = refl

-- what the helpers and the variables of the items show
abbrev pub items_bits : List Bool → List (List ℕ) → List Bool
items_bits s [] = []
items_bits s (item ∷ items) =
    helper_bits (map (λ i. bit_at s i) item) ++ (is_odd (map (λ i. bit_at s i) item) ∷ items_bits s items)

pub items-complete : (a : ℕ → Bool) (c : Circuit) (s : List Bool) (v : ℕ) (items : List (List ℕ)) → OnState a c s → AllByRecursion (ItemPlaced c) items →
    Has a v (items_bits s items) → (meets_all a (items_clauses (state_vars c) v items) ≡ true) × (map a (item_vars v items) ≡ map (parity_of s) items)
items-complete a c s v [] on p k = (refl, refl)
items-complete a c s v (item ∷ items) on p k =
    let bits = map (λ i. bit_at s i) item in
    let own = odd_clauses true v (v + item_helpers item) (chosen (state_vars c) item) in
    let rest = items_clauses (state_vars c) (v + item_helpers item + 1) items in
    let same : map a (chosen (state_vars c) item) ≡ bits = item_shown a c s item on p.0 in
    let size : length (helper_bits bits) ≡ item_helpers item =
    length-helper_bits bits ∙ ap (λ n. n - 2) (length-map item (λ i. bit_at s i)) in
    let P : ℕ → Type 0 = λ n. Has a (v + n) (is_odd bits ∷ items_bits s items) in
    let Q : List Bool → Type 0 = λ bs. Has a v (helper_bits bs) in
    let after : Has a (v + item_helpers item) (is_odd bits ∷ items_bits s items) =
    subst P size (has_right a v (helper_bits bits) (is_odd bits ∷ items_bits s items) k) in
    let first : meets_all a own ≡ true =
    odd-complete a true v (v + item_helpers item) (chosen (state_vars c) item)
    (subst Q (sym same) (has_left a v (helper_bits bits) (is_odd bits ∷ items_bits s items) k))
    (after.0 ∙ (yes _ ∙ ap (λ bs. beq true (is_odd bs)) (sym same))) in
    let later = items-complete a c s (v + item_helpers item + 1) items on p.1 after.1 in (
      meets_all-append a own rest ∙ (ap (λ b. b && meets_all a rest) first ∙ later.0),
      ap (λ b. b ∷ map a (item_vars (v + item_helpers item + 1) items)) after.0 ∙ ap (λ bs. is_odd bits ∷ bs) later.1,
    )
  where
    yes : (b : Bool) → b ≡ beq true b
    yes true = refl
    yes false = refl

-- ---- units

unit_is : (a : ℕ → Bool) (n : ℕ) (b : Bool) → meets a (lit n b ∷ []) ≡ true → a n ≡ b
unit_is a n b m = beq-true (a n) b (or_no _ m)
  where
    or_no : (x : Bool) → (x || false) ≡ true → x ≡ true
    or_no true m = refl
    or_no false m = m

is_unit : (a : ℕ → Bool) (n : ℕ) (b : Bool) → a n ≡ b → meets a (lit n b ∷ []) ≡ true
is_unit a n b e = ap (λ x. x || false) (beq-from (a n) b e)

constants-sound : (a : ℕ → Bool) (n : ℕ) (ks : List Const) →
    meets_all a (map (λ (k : Const). lit (n + 1) k.value ∷ []) (filter (λ k. k.net.0 == n) ks)) ≡ true →
    AllByRecursion (λ (k : Const). k.net.0 ≡ n → a (n + 1) ≡ k.value) ks
constants-sound a n [] m = tt
constants-sound a n (k ∷ ks) m = by (k.net.0 == n) refl m (constants-sound a n ks)
  where
    unit_of : Const → Clause
    unit_of i = lit (n + 1) i.value ∷ []

    Rest : Type 0
    Rest = AllByRecursion (λ (i : Const). i.net.0 ≡ n → a (n + 1) ≡ i.value) ks

    by : (b : Bool) → (k.net.0 == n) ≡ b →
        meets_all a (map (λ (i : Const). lit (n + 1) i.value ∷ []) (cond b (k ∷ filter (λ i. i.net.0 == n) ks) (filter (λ i. i.net.0 == n) ks))) ≡ true →
        (meets_all a (map (λ (i : Const). lit (n + 1) i.value ∷ []) (filter (λ i. i.net.0 == n) ks)) ≡ true →
        AllByRecursion (λ (i : Const). i.net.0 ≡ n → a (n + 1) ≡ i.value) ks) →
        (k.net.0 ≡ n → a (n + 1) ≡ k.value) × AllByRecursion (λ (i : Const). i.net.0 ≡ n → a (n + 1) ≡ i.value) ks
    by true e h rest =
        let parts : (meets a (lit (n + 1) k.value ∷ []) ≡ true)
        × (meets_all a (map (λ (i : Const). lit (n + 1) i.value ∷ []) (filter (λ i. i.net.0 == n) ks)) ≡ true) = and_true _ _ h in
        ((λ _. unit_is a (n + 1) k.value parts.0), rest parts.1)
    by false e h rest = ((λ same. absurd (false≢true (sym e ∙ eq-eqb k.net.0 n same))), rest h)

constants-complete : (a : ℕ → Bool) (n : ℕ) (ks : List Const) → AllByRecursion (λ (k : Const). k.net.0 ≡ n → a (n + 1) ≡ k.value) ks →
    meets_all a (map (λ (k : Const). lit (n + 1) k.value ∷ []) (filter (λ k. k.net.0 == n) ks)) ≡ true
constants-complete a n [] h = refl
constants-complete a n (k ∷ ks) h = by (k.net.0 == n) refl (constants-complete a n ks h.1)
  where
    by : (b : Bool) → (k.net.0 == n) ≡ b → meets_all a (map (λ (i : Const). lit (n + 1) i.value ∷ []) (filter (λ i. i.net.0 == n) ks)) ≡ true →
        meets_all a (map (λ (i : Const). lit (n + 1) i.value ∷ []) (cond b (k ∷ filter (λ i. i.net.0 == n) ks) (filter (λ i. i.net.0 == n) ks))) ≡ true
    by true e rest =
        ap (λ b. b && meets_all a (map (λ (i : Const). lit (n + 1) i.value ∷ []) (filter (λ i. i.net.0 == n) ks)))
        (is_unit a (n + 1) k.value (h.0 (eqb-true k.net.0 n e)))
        ∙ rest
    by false e rest = rest

-- what the units of a net say
abbrev pub UnitsSay : Circuit → (ℕ → Bool) → ℕ → Type 0
UnitsSay c a n =
    AllByRecursion (λ (k : Const). k.net.0 ≡ n → a (n + 1) ≡ k.value) c.constants × (is_zero_net c n ≡ true → a (n + 1) ≡ false)

pub unit-sound : (c : Circuit) (a : ℕ → Bool) (n : ℕ) → meets_all a (unit_clauses c n) ≡ true → UnitsSay c a n
unit-sound c a n m =
    let units = map (λ (k : Const). lit (n + 1) k.value ∷ []) (filter (λ k. k.net.0 == n) c.constants) in
    let parts : (meets_all a units ≡ true) × (meets_all a (cond (is_zero_net c n) ((lit (n + 1) false ∷ []) ∷ []) []) ≡ true) =
    and_true _ _ (sym (meets_all-append a units (cond (is_zero_net c n) ((lit (n + 1) false ∷ []) ∷ []) [])) ∙ m) in
    (constants-sound a n c.constants parts.0, zero_is (is_zero_net c n) parts.1)
  where
    zero_is : (b : Bool) → meets_all a (cond b ((lit (n + 1) false ∷ []) ∷ []) []) ≡ true → b ≡ true → a (n + 1) ≡ false
    zero_is true h e = unit_is a (n + 1) false (and_true (meets a (lit (n + 1) false ∷ [])) true h).0
    zero_is false h e = absurd (false≢true e)

pub unit-complete : (c : Circuit) (a : ℕ → Bool) (n : ℕ) → UnitsSay c a n → meets_all a (unit_clauses c n) ≡ true
unit-complete c a n h =
    let units = map (λ (k : Const). lit (n + 1) k.value ∷ []) (filter (λ k. k.net.0 == n) c.constants) in
    meets_all-append a units (cond (is_zero_net c n) ((lit (n + 1) false ∷ []) ∷ []) [])
    ∙ (ap (λ b. b && meets_all a (cond (is_zero_net c n) ((lit (n + 1) false ∷ []) ∷ []) [])) (constants-complete a n c.constants h.0)
    ∙ zero_is (is_zero_net c n) h.1)
  where
    zero_is : (b : Bool) → (b ≡ true → a (n + 1) ≡ false) → meets_all a (cond b ((lit (n + 1) false ∷ []) ∷ []) []) ≡ true
    zero_is true h = ap (λ b. b && true) (is_unit a (n + 1) false (h refl))
    zero_is false h = refl

pub flat-sound : (a : ℕ → Bool) (f : ℕ → List Clause) (ns : List ℕ) → meets_all a (flat_map f ns) ≡ true → AllByRecursion (λ n. meets_all a (f n) ≡ true) ns
flat-sound a f [] m = tt
flat-sound a f (n ∷ ns) m =
    let parts : (meets_all a (f n) ≡ true) × (meets_all a (flat_map f ns) ≡ true) = and_true _ _ (sym (meets_all-append a (f n) (flat_map f ns)) ∙ m) in
    (parts.0, flat-sound a f ns parts.1)

pub flat-complete : (a : ℕ → Bool) (f : ℕ → List Clause) (ns : List ℕ) → AllByRecursion (λ n. meets_all a (f n) ≡ true) ns → meets_all a (flat_map f ns) ≡ true
flat-complete a f [] h = refl
flat-complete a f (n ∷ ns) h =
    meets_all-append a (f n) (flat_map f ns) ∙ (ap (λ b. b && meets_all a (flat_map f ns)) h.0 ∙ flat-complete a f ns h.1)

-- ---- the items one after another

pub next_item : (items : List (List ℕ)) (i : ℕ) (item : List ℕ) → i < length items → slice_get items i ≡ Some item → drop i items ≡ item ∷ drop (i + 1) items
next_item items i item lt e = drop_more items i item lt ∙ ap (λ x. x ∷ drop (i + 1) items) (get_or_from_slice_get items i item item e)

pub room_for_item : (items : List (List ℕ)) (item : List ℕ) (rest left : List (List ℕ)) (next v : ℕ) → left ≡ item ∷ rest → 1 ≤ next →
    next + sum_by (λ i. item_helpers i + 1) left ≡ v + sum_by (λ i. item_helpers i + 1) items → v + sum_by (λ i. item_helpers i + 1) items ≤ 2 ^ 30 →
    (1 ≤ next) × (next + item_helpers item + 1 ≤ 2 ^ 30)
room_for_item items item rest left next v e some count fits =
    let sum = sum_by-cons (λ (i : List ℕ). item_helpers i + 1) item rest in
    (some, omega (arith, ap (sum_by (λ (i : List ℕ). item_helpers i + 1)) e, sum, count, fits))

pub clauses_more : (states : List ℕ) (next n : ℕ) (item : List ℕ) (rest left : List (List ℕ)) (into after whole : List Clause) → left ≡ item ∷ rest →
    n ≡ next + item_helpers item + 1 →
    after ≡ into ++ odd_clauses true next (next + item_helpers item) (chosen states item) → into ++ items_clauses states next left ≡ whole →
    after ++ items_clauses states n rest ≡ whole
clauses_more states next n item rest left into after whole e step grown so_far =
    let own : List Clause = odd_clauses true next (next + item_helpers item) (chosen states item) in
    ap (λ l. l ++ items_clauses states n rest) grown ∙ (ap (λ m. (into ++ own) ++ items_clauses states m rest) step
    ∙ (append_assoc into own (items_clauses states (next + item_helpers item + 1) rest) ∙ (ap (λ l. into ++ items_clauses states next l) (sym e) ∙ so_far)))

pub own_more : (next n : ℕ) (item : List ℕ) (rest left : List (List ℕ)) (own after whole : List Literal) → left ≡ item ∷ rest →
    n ≡ next + item_helpers item + 1 →
    after ≡ own ++ lit (next + item_helpers item) true ∷ [] → own ++ map (λ u. lit u true) (item_vars next left) ≡ whole →
    after ++ map (λ u. lit u true) (item_vars n rest) ≡ whole
own_more next n item rest left own after whole e step grown so_far =
    let one : List Literal = lit (next + item_helpers item) true ∷ [] in
    ap (λ l. l ++ map (λ u. lit u true) (item_vars n rest)) grown ∙ (ap (λ m. (own ++ one) ++ map (λ u. lit u true) (item_vars m rest)) step
    ∙ (append_assoc own one (map (λ u. lit u true) (item_vars (next + item_helpers item + 1) rest))
    ∙ (ap (λ l. own ++ map (λ u. lit u true) (item_vars next l)) (sym e) ∙ so_far)))

pub count_more : (next n whole : ℕ) (item : List ℕ) (rest left : List (List ℕ)) → left ≡ item ∷ rest → n ≡ next + item_helpers item + 1 →
    next + sum_by (λ i. item_helpers i + 1) left ≡ whole → n + sum_by (λ i. item_helpers i + 1) rest ≡ whole
count_more next n whole item rest left e step so_far =
    omega (arith, ap (sum_by (λ (i : List ℕ). item_helpers i + 1)) e, sum_by-cons (λ (i : List ℕ). item_helpers i + 1) item rest, step, so_far)

-- ---- literals of variables in a row

pub literals_more : (first i : ℕ) → literals (range_with_len first (i + 1)) ≡ literals (range_with_len first i) ++ lit (first + i) true ∷ []
literals_more first i =
    let on : i + 1 ≡ suc i = omega arith in
    ap (λ n. literals (range_with_len first n)) on
    ∙ (ap literals (range_more first i) ∙ map-append (λ v. lit v true) (range_with_len first i) ((first + i) ∷ []))

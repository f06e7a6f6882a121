-- A trace has one wave, which shows that trace.
use Rattle.std.proofs.Common.{◌≡◌, ℕ, zero, suc, ◌<◌, ◌≤◌, ◌+◌, ◌-◌, Bool, true, false, cond, ◌||◌, List, [], ◌∷◌, ◌++◌, map, length}
use Rattle.std.proofs.Common.{take, get_or, refl, arith, ap}
use Rattle.std.proofs.Common.{sym, subst, ◌∙◌, Some, None, nat_eq}
use Rattle.std.specs.Prelude.{nat_lt, ◌==◌}
use Rattle.std.specs.List.{All, AllByRecursion as Each, list_any}
use Rattle.std.proofs.lemmas.Bool.{eqb-true, ltb-true, ltb-false, ne_eqb}
use Rattle.std.proofs.lemmas.List.{ext_get_or}
use Rattle.std.proofs.lemmas.Slice.Eq.{bytes_eq-Decides, slice_eq-Decides}
use Rattle.bs_net.specs.declared.net.NetId.{NetId}
use Rattle.bs_net.specs.declared.net.Const.{Const}
use Rattle.bs_net.specs.Circuit.{Circuit, bit_at, shown, number, state_nets, is_zero_net}
use Rattle.bs_net.specs.Netlist.{circuit_of}
use Rattle.bs_net.specs.Order.{IsChecked}
use Rattle.bs_net.proofs.LawLemmas.{exactly_one_fits}
use Rattle.bs_wave.specs.declared.value.Value.{Value}
use Rattle.bs_wave.specs.declared.value.Value.TheVariants.{Unknown}
use Rattle.bs_wave.specs.Wave.{value_of, value_at, values_on, is_decided, IsSettledMoment, IsLastMoment, AreMoments, IsWayOf}
use Rattle.bs_wave.specs.WayIn.{bit_in, before, bits_on, bits_over, same_keys, both}
use Rattle.bs_wave.specs.Law.{TracesHaveOneWave, WavesShowTraces}
use Rattle.bs_wave.proofs.ListLemmas.{any_append}
use Rattle.bs_wave.proofs.LastLemmas.{sources_below, values_shown, at_mapped}

-- ---- one wave

settled_same : (c : Circuit) (s x : List Bool) (v w : List Value) → IsChecked c → length s ≡ length c.flops → length x ≡ length c.inputs →
    IsSettledMoment c s x v → IsSettledMoment c s x w → v ≡ w
settled_same c s x v w checked ls lx a b =
    let one = exactly_one_fits c s x checked ls lx in
    a.shows ∙ (ap (map value_of) (one.2 a.valuation a.fits ∙ sym (one.2 b.valuation b.fits)) ∙ sym b.shows)

-- a member of a list has a place
record PlaceOf {X : Type 0} (f : X → ℕ) (xs : List X) (n : ℕ) : Type 0 where
  place : ℕ
  below : place < length xs
  is : (d : X) → f (get_or xs place d) ≡ n

place_of : {X : Type 0} (f : X → ℕ) (xs : List X) (n : ℕ) → list_any (λ m. nat_eq n m) (map f xs) ≡ true → PlaceOf f xs n
place_of f [] n e = absurd cc
place_of f (x ∷ xs) n e = by (nat_eq n (f x)) refl e (λ h. place_of f xs n h)
  where
    by : (z : Bool) → nat_eq n (f x) ≡ z → z || list_any (λ m. nat_eq n m) (map f xs) ≡ true →
        (list_any (λ m. nat_eq n m) (map f xs) ≡ true → PlaceOf f xs n) → PlaceOf f (x ∷ xs) n
    by true is e rest = record { place = 0; below = omega arith; is = λ d. sym (eqb-true n (f x) is) }
    by false is e rest = let p = rest e in record { place = suc p.place; below = omega (arith, p.below); is = p.is }

-- equal values on nets are equal at each of them
same_on : (ns : List NetId) (v w : List Value) (j : ℕ) (d : NetId) → j < length ns → values_on v ns ≡ values_on w ns →
    value_at v (get_or ns j d).0 ≡ value_at w (get_or ns j d).0
same_on [] v w j d lt e = absurd (omega arith)
same_on (n ∷ ns) v w zero d lt e = cc
same_on (n ∷ ns) v w (suc j) d lt e =
    let tail : values_on v ns ≡ values_on w ns = cc in
    same_on ns v w j d (omega arith) tail

last_same : (c : Circuit) (s : List Bool) (v w : List Value) → IsLastMoment c s v → IsLastMoment c s w → v ≡ w
last_same c s v w a b =
    ext_get_or Unknown v w (a.every_net ∙ sym b.every_net)
    (λ n lt. at n (omega (arith, lt, a.every_net)))
  where
    some_net : NetId
    some_net = record { 0 = 0 }

    some_constant : Const
    some_constant = record { net = some_net; value = false }

    decided : (n : ℕ) → n < c.nets → (z : Bool) → is_zero_net c n ≡ z → (q : Bool) → list_any (λ m. nat_eq n m) (map number (state_nets c)) ≡ q →
        (k : Bool) → list_any (λ m. nat_eq n m) (map (λ (k : Const). k.net.0) c.constants) ≡ k → value_at v n ≡ value_at w n
    decided n lt true ez q eq k ek = a.zeros n lt ez ∙ sym (b.zeros n lt ez)
    decided n lt false ez true eq k ek =
        let p = place_of number (state_nets c) n eq in
        let P : ℕ → Type 0 = λ m. value_at v m ≡ value_at w m in
        subst P (p.is some_net) (same_on (state_nets c) v w p.place some_net p.below (a.state ∙ sym b.state))
    decided n lt false ez false eq true ek =
        let f : Const → ℕ = λ k. k.net.0 in
        let p = place_of f c.constants n ek in
        let P : ℕ → Type 0 = λ m. value_at v m ≡ value_at w m in
        subst P (p.is some_constant) (a.constants p.place some_constant p.below ∙ sym (b.constants p.place some_constant p.below))
    decided n lt false ez false eq false ek =
        let none : is_decided c n ≡ false =
        ap (λ z. z || list_any (λ m. nat_eq n m) (map number (state_nets c) ++ map (λ (k : Const). k.net.0) c.constants)) ez
        ∙ (any_append (λ m. nat_eq n m) (map number (state_nets c)) (map (λ (k : Const). k.net.0) c.constants)
        ∙ (ap (λ z. z || list_any (λ m. nat_eq n m) (map (λ (k : Const). k.net.0) c.constants)) eq ∙ ek)) in
        a.others n lt none ∙ sym (b.others n lt none)

    at : (n : ℕ) → n < c.nets → value_at v n ≡ value_at w n
    at n lt =
        decided n lt (is_zero_net c n) refl (list_any (λ m. nat_eq n m) (map number (state_nets c))) refl
        (list_any (λ m. nat_eq n m) (map (λ (k : Const). k.net.0) c.constants)) refl

moments_same : (c : Circuit) (states inputs : List (List Bool)) (v w : List (List Value)) → IsChecked c → IsWayOf c states inputs →
    AreMoments c states inputs v → AreMoments c states inputs w → v ≡ w
moments_same c states inputs v w checked way a b =
    ext_get_or [] v w (a.count ∙ sym b.count)
    (λ i lt. by i (omega (arith, lt, a.count)) (nat_lt i (length inputs)) refl)
  where
    by : (i : ℕ) → i < length inputs + 1 → (z : Bool) → nat_lt i (length inputs) ≡ z → get_or v i [] ≡ get_or w i []
    by i lt true e =
        let below : i < length inputs = ltb-true i (length inputs) e in
        let state : i < length states = omega (arith, below, way.one_more) in
        settled_same c (get_or states i []) (get_or inputs i []) (get_or v i []) (get_or w i []) checked (way.state_widths i [] state)
        (way.input_widths i [] below) (a.settled i below) (b.settled i below)
    by i lt false e =
        let past : length inputs ≤ i = ltb-false i (length inputs) e in
        let here : length inputs ≡ i = omega (arith, lt, past) in
        subst (λ k. get_or v k [] ≡ get_or w k []) here
        (last_same c (get_or states (length inputs) []) (get_or v (length inputs) []) (get_or w (length inputs) []) a.last b.last)

pub traces_have_one_wave : TracesHaveOneWave
traces_have_one_wave raw states inputs v w checked way a b =
    let keys : v.keys ≡ w.keys = a.keys ∙ sym b.keys in
    let moments : v.moments ≡ w.moments = moments_same (circuit_of raw) states inputs v.moments w.moments checked way a.moments b.moments in
    λ i. record { keys = keys i; moments = moments i }

-- ---- the trace of a wave

bit_again : (b : Bool) → bit_in (value_of b) ≡ Some b
bit_again false = refl
bit_again true = refl

bits_again : (ns : List NetId) (values : List Value) (bs : List Bool) → values_on values ns ≡ map value_of bs → bits_on ns values ≡ Some bs
bits_again [] values [] e = refl
bits_again [] values (b ∷ bs) e = absurd cc
bits_again (n ∷ ns) values [] e = absurd cc
bits_again (n ∷ ns) values (b ∷ bs) e =
    let head : value_at values n.0 ≡ value_of b = cc in
    let tail : values_on values ns ≡ map value_of bs = cc in
    ap (λ o. before o (bits_on ns values)) (ap bit_in head ∙ bit_again b) ∙ ap (before (Some b)) (bits_again ns values bs tail)

-- the same at each moment
over_again : (ns : List NetId) (ms : List (List Value)) (bs : List (List Bool)) → length ms ≡ length bs →
    ((i : ℕ) → i < length ms → bits_on ns (get_or ms i []) ≡ Some (get_or bs i [])) → bits_over ns ms ≡ Some bs
over_again ns [] [] e h = refl
over_again ns [] (b ∷ bs) e h = absurd (omega (arith, e))
over_again ns (m ∷ ms) [] e h = absurd (omega (arith, e))
over_again ns (m ∷ ms) (b ∷ bs) e h =
    ap (λ o. before o (bits_over ns ms)) (h 0 (omega arith))
    ∙ ap (before (Some b)) (over_again ns ms bs (omega (arith, e)) (λ i lt. h (suc i) (omega (arith, lt))))

get_mapped : (v : List Bool) (n : ℕ) → n < length v → value_at (map value_of v) n ≡ value_of (bit_at v n)
get_mapped [] n lt = absurd (omega arith)
get_mapped (b ∷ bs) zero lt = refl
get_mapped (b ∷ bs) (suc n) lt = get_mapped bs n (omega arith)

-- what nets show at a moment with an input
shown_on : (c : Circuit) (s x : List Bool) (values : List Value) (ns : List NetId) → Each (λ n. n < c.nets) (map number ns) →
    (m : IsSettledMoment c s x values) → values_on values ns ≡ map value_of (shown m.valuation ns)
shown_on c s x values ns below m =
    ap (λ vs. values_on vs ns) m.shows
    ∙ values_shown ns (map value_of m.valuation) m.valuation
    (λ j d lt.
    get_mapped m.valuation (get_or ns j d).0
    (let net : (get_or ns j d).0 < c.nets = at_mapped (λ n. n < c.nets) number ns below j d lt in omega (arith, net, m.fits.every_net)))

get_taken : {X : Type 0} (xs : List X) (k i : ℕ) (d : X) → i < k → get_or (take k xs) i d ≡ get_or xs i d
get_taken [] zero i d lt = absurd (omega arith)
get_taken [] (suc k) i d lt = refl
get_taken (x ∷ xs) zero i d lt = absurd (omega arith)
get_taken (x ∷ xs) (suc k) zero d lt = refl
get_taken (x ∷ xs) (suc k) (suc i) d lt = get_taken xs k i d (omega arith)

length_taken : {X : Type 0} (xs : List X) (k : ℕ) → k ≤ length xs → length (take k xs) ≡ k
length_taken xs zero le = refl
length_taken [] (suc k) le = absurd (omega arith)
length_taken (x ∷ xs) (suc k) le = ap suc (length_taken xs k (omega arith))

pub waves_show_traces : WavesShowTraces
waves_show_traces raw states inputs w checked way is =
    ap (λ b. cond b (cond (length w.moments == 0) None (both (bits_over (state_nets c) w.moments) (bits_over c.inputs front))) None) keys
    ∙ (ap (λ b. cond b None (both (bits_over (state_nets c) w.moments) (bits_over c.inputs front))) some
    ∙ (ap (λ o. both o (bits_over c.inputs front)) the_states ∙ ap (both (Some states)) the_inputs))
  where
    c : Circuit
    c = circuit_of raw

    front : List (List Value)
    front = take (length w.moments - 1) w.moments

    below : Each (λ n. n < c.nets) (map number c.inputs) × Each (λ n. n < c.nets) (map number (state_nets c)) ×
        Each (λ n. n < c.nets) (map (λ (k : Const). k.net.0) c.constants)
    below = sources_below c checked

    keys : same_keys w.keys raw.names ≡ true
    keys = (slice_eq-Decides bytes_eq-Decides w.keys raw.names (same_keys w.keys raw.names) refl).1 is.keys

    some : (length w.moments == 0) ≡ false
    some = ne_eqb (length w.moments) 0 (λ (none : length w.moments ≡ 0). omega (arith, none, is.moments.count))

    state_at_moment : (i : ℕ) → i < length inputs + 1 → (z : Bool) → nat_lt i (length inputs) ≡ z →
        bits_on (state_nets c) (get_or w.moments i []) ≡ Some (get_or states i [])
    state_at_moment i lt true e =
        let m = is.moments.settled i (ltb-true i (length inputs) e) in
        bits_again (state_nets c) (get_or w.moments i []) (get_or states i [])
        (shown_on c (get_or states i []) (get_or inputs i []) (get_or w.moments i []) (state_nets c) below.1 m ∙ ap (map value_of) m.fits.state)
    state_at_moment i lt false e =
        let past : length inputs ≤ i = ltb-false i (length inputs) e in
        let here : length inputs ≡ i = omega (arith, lt, past) in
        subst (λ k. bits_on (state_nets c) (get_or w.moments k []) ≡ Some (get_or states k [])) here
        (bits_again (state_nets c) (get_or w.moments (length inputs) []) (get_or states (length inputs) []) is.moments.last.state)

    the_states : bits_over (state_nets c) w.moments ≡ Some states
    the_states =
        over_again (state_nets c) w.moments states (is.moments.count ∙ sym way.one_more)
        (λ i lt. state_at_moment i (omega (arith, lt, is.moments.count)) (nat_lt i (length inputs)) refl)

    before_last : length w.moments - 1 ≡ length inputs
    before_last = omega (arith, is.moments.count)

    wide : length front ≡ length inputs
    wide = length_taken w.moments (length w.moments - 1) (omega arith) ∙ before_last

    the_inputs : bits_over c.inputs front ≡ Some inputs
    the_inputs =
        over_again c.inputs front inputs wide
        (λ i lt.
        let early : i < length inputs = omega (arith, lt, wide) in
        let m = is.moments.settled i early in
        ap (bits_on c.inputs) (get_taken w.moments (length w.moments - 1) i [] (omega (arith, early, before_last)))
        ∙ bits_again c.inputs (get_or w.moments i []) (get_or inputs i [])
        (shown_on c (get_or states i []) (get_or inputs i []) (get_or w.moments i []) c.inputs below.0 m ∙ ap (map value_of) m.fits.input))

-- ---- nets are within the moments

pub states_placed : (c : Circuit) (ns : List NetId) (ms : List (List Value)) → IsChecked c → ns ≡ state_nets c → All (λ values. length values ≡ c.nets) ms →
    All (λ values. All (λ (n : NetId). n.0 < length values) ns) ms
states_placed c ns ms checked e widths =
    subst (λ (l : List NetId). All (λ values. All (λ (n : NetId). n.0 < length values) l) ms) (sym e)
    (λ k d lt j f below.
    let net : (get_or (state_nets c) j f).0 < c.nets = at_mapped (λ n. n < c.nets) number (state_nets c) (sources_below c checked).1 j f below in
    omega (arith, widths k d lt, net))

pub inputs_placed : (c : Circuit) (ns : List NetId) (ms : List (List Value)) → IsChecked c → ns ≡ c.inputs → All (λ values. length values ≡ c.nets) ms →
    All (λ values. All (λ (n : NetId). n.0 < length values) ns) ms
inputs_placed c ns ms checked e widths =
    subst (λ (l : List NetId). All (λ values. All (λ (n : NetId). n.0 < length values) l) ms) (sym e)
    (λ k d lt j f below.
    let net : (get_or c.inputs j f).0 < c.nets = at_mapped (λ n. n < c.nets) number c.inputs (sources_below c checked).0 j f below in
    omega (arith, widths k d lt, net))

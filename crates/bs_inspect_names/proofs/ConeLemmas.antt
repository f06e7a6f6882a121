-- The nets that are marked behind those of a name are the least set of nets with these and with what their gates read.
use Rattle.std.proofs.Common.{◌≡◌, ◌≢◌, ℕ, zero, suc, ◌<◌, ◌≤◌, ◌+◌, ◌-◌, Bool, true, false, List, [], ◌∷◌, ◌++◌, map, length, get_or, set, drop, refl, ap, sym, subst, ◌∙◌, ⊎_elim, arith, zero-add}
use Rattle.std.proofs.Common.{length-set, get_or-set_same, get_or-set_other}
use Rattle.std.specs.Prelude.{if◌then◌else◌}
use Rattle.std.specs.List.{All, AllByRecursion, range_with_len}
use Rattle.std.proofs.lemmas.Bool.{false≢true, cases_lt}
use Rattle.std.proofs.lemmas.List.{drop_more, drop_all, get_or_default, get_or_past}
use Rattle.std.proofs.lemmas.List.Elements.{All-from_recursion, recursion_from_All}
use Rattle.std.proofs.lemmas.List.Sorted.{All-permutation, IsPermutation-sym}
use Rattle.std.proofs.lemmas.List.FromFn.{map-range_with_len_more, get_or-map-range_with_len, length-map-range_with_len}
use Rattle.bs_net.specs.declared.net.NetId.{NetId}
use Rattle.bs_net.specs.declared.net.Gate.{Gate}
use Rattle.bs_net.specs.declared.net.Flop.{Flop}
use Rattle.bs_net.specs.Netlist.{circuit_of}
use Rattle.bs_net.specs.Parts.{Parts, PartsArePlaced, key_at}
use Rattle.bs_net.specs.Order.{IsOrder, IsLevelled, gates_in, no_gate}
use Rattle.bs_net.proofs.LawLemmas.{gates_move}
use Rattle.bs_net_names.specs.Keys.{key_parts}
use Rattle.bs_net_names.specs.Naming.{is_named}
use Rattle.bs_inspect_names.specs.Cone.{HasInputs, IsCone, behind, behind_gate, cone_line, from_line, is_marked, marks, named_nets}

-- one net more
pub named_more : (r : Parts) (name : List ℕ) (n : ℕ) →
    named_nets r name (n + 1) ≡ named_nets r name n ++ is_named (key_parts (key_at r n)) name ∷ []
named_more r name n = map-range_with_len_more (λ m. is_named (key_parts (key_at r m)) name) 0 n n (zero-add n)

pub named_wide : (r : Parts) (name : List ℕ) (count : ℕ) → length (named_nets r name count) ≡ count
named_wide r name count = length-map-range_with_len (λ m. is_named (key_parts (key_at r m)) name) 0 count

named_is : (r : Parts) (name : List ℕ) (count n : ℕ) → n < count → is_marked (named_nets r name count) n ≡ is_named (key_parts (key_at r n)) name
named_is r name count n lt = get_or-map-range_with_len (λ m. is_named (key_parts (key_at r m)) name) 0 count n n false lt (zero-add n)

-- the nets that gates read are places of a table
pub gates_ins : (r : Parts) (gs : List Gate) (t : List Bool) → PartsArePlaced r → gs ≡ r.gates → length t ≡ length r.names →
    All (λ g. All (λ n. n.0 < length t) g.ins) gs
gates_ins r gs t placed same wide =
    let P : List Gate → Type 0 = λ (xs : List Gate). All (λ (g : Gate). All (λ (n : NetId). n.0 < length t) g.ins) xs in
    subst P (sym same) (λ k d lt j e lt'. omega (arith, wide, (placed.gates.1 k d lt).1.1 j e lt'))

-- ---- marks

-- a mark stays
mark_stays : (t : List Bool) (i m : ℕ) → is_marked t m ≡ true → is_marked (set t i true) m ≡ true
mark_stays [] i m h = h
mark_stays (b ∷ t) zero zero h = refl
mark_stays (b ∷ t) zero (suc m) h = h
mark_stays (b ∷ t) (suc i) zero h = h
mark_stays (b ∷ t) (suc i) (suc m) h = mark_stays t i m h

marks_stay : (t : List Bool) (ns : List NetId) (m : ℕ) → is_marked t m ≡ true → is_marked (marks t ns) m ≡ true
marks_stay t [] m h = h
marks_stay t (n ∷ ns) m h = marks_stay (set t n.0 true) ns m (mark_stays t n.0 m h)

pub marks_wide : (t : List Bool) (ns : List NetId) → length (marks t ns) ≡ length t
marks_wide t [] = refl
marks_wide t (n ∷ ns) = marks_wide (set t n.0 true) ns ∙ length-set t n.0 true

-- each of these nets is marked
marks_all : (t : List Bool) (ns : List NetId) → AllByRecursion (λ (n : NetId). n.0 < length t) ns →
    AllByRecursion (λ (n : NetId). is_marked (marks t ns) n.0 ≡ true) ns
marks_all t [] h = tt
marks_all t (n ∷ ns) h =
    let next : List Bool = set t n.0 true in
    let P : ℕ → Type 0 = λ (k : ℕ). AllByRecursion (λ (m : NetId). m.0 < k) ns in
    (marks_stay next ns n.0 (get_or-set_same t n.0 true false h.0), marks_all next ns (subst P (sym (length-set t n.0 true)) h.1))

-- no other net is
marks_others : (t : List Bool) (ns : List NetId) (m : ℕ) → AllByRecursion (λ (n : NetId). m ≢ n.0) ns → is_marked (marks t ns) m ≡ is_marked t m
marks_others t [] m h = refl
marks_others t (n ∷ ns) m h = marks_others (set t n.0 true) ns m h.1 ∙ get_or-set_other t n.0 m true false h.0

-- what is marked is in a set, where it was and where the new ones are
abbrev Within : List Bool → (ℕ → Bool) → Type 0
Within t has = (m : ℕ) → is_marked t m ≡ true → has m ≡ true

mark_within : (t : List Bool) (i : ℕ) (has : ℕ → Bool) → has i ≡ true → Within t has → Within (set t i true) has
mark_within [] i has h w m e = w m e
mark_within (b ∷ t) zero has h w zero e = h
mark_within (b ∷ t) zero has h w (suc m) e = w (suc m) e
mark_within (b ∷ t) (suc i) has h w zero e = w zero e
mark_within (b ∷ t) (suc i) has h w (suc m) e = mark_within t i (λ k. has (suc k)) h (λ k. w (suc k)) m e

marks_within : (t : List Bool) (ns : List NetId) (has : ℕ → Bool) → AllByRecursion (λ (n : NetId). has n.0 ≡ true) ns → Within t has →
    Within (marks t ns) has
marks_within t [] has h w = w
marks_within t (n ∷ ns) has h w = marks_within (set t n.0 true) ns has h.1 (mark_within t n.0 has h.0 w)

-- ---- one gate

abbrev by_mark : Bool → List Bool → List NetId → List Bool
by_mark b t ns = if b then marks t ns else t

behind_by : (g : Gate) (t : List Bool) (b : Bool) → is_marked t g.out.0 ≡ b → behind_gate g t ≡ by_mark b t g.ins
behind_by g t b e = ap (λ (c : Bool). by_mark c t g.ins) e

pub gate_marked : (g : Gate) (t given new : List Bool) (b : Bool) → b ≡ is_marked given g.out.0 → given ≡ t → b ≡ true → new ≡ marks t g.ins →
    new ≡ behind_gate g t
gate_marked g t given new b is same e put = put ∙ sym (behind_by g t true (sym (is ∙ ap (λ (u : List Bool). is_marked u g.out.0) same) ∙ e))

pub gate_unmarked : (g : Gate) (t given new : List Bool) (b : Bool) → b ≡ is_marked given g.out.0 → given ≡ t → b ≡ false → new ≡ t →
    new ≡ behind_gate g t
gate_unmarked g t given new b is same e put = put ∙ sym (behind_by g t false (sym (is ∙ ap (λ (u : List Bool). is_marked u g.out.0) same) ∙ e))

gate_stays : (g : Gate) (t : List Bool) (m : ℕ) → is_marked t m ≡ true → is_marked (behind_gate g t) m ≡ true
gate_stays g t m h = by (is_marked t g.out.0)
  where
    by : (b : Bool) → is_marked (by_mark b t g.ins) m ≡ true
    by true = marks_stay t g.ins m h
    by false = h

pub gate_wide : (g : Gate) (t : List Bool) → length (behind_gate g t) ≡ length t
gate_wide g t = by (is_marked t g.out.0)
  where
    by : (b : Bool) → length (by_mark b t g.ins) ≡ length t
    by true = marks_wide t g.ins
    by false = refl

gate_others : (g : Gate) (t : List Bool) (m : ℕ) → AllByRecursion (λ (n : NetId). m ≢ n.0) g.ins → is_marked (behind_gate g t) m ≡ is_marked t m
gate_others g t m h = by (is_marked t g.out.0)
  where
    by : (b : Bool) → is_marked (by_mark b t g.ins) m ≡ is_marked t m
    by true = marks_others t g.ins m h
    by false = refl

gate_within : (g : Gate) (t : List Bool) (has : ℕ → Bool) → (has g.out.0 ≡ true → AllByRecursion (λ (n : NetId). has n.0 ≡ true) g.ins) → Within t has →
    Within (behind_gate g t) has
gate_within g t has h w = by (is_marked t g.out.0) refl
  where
    by : (b : Bool) → is_marked t g.out.0 ≡ b → Within (by_mark b t g.ins) has
    by true e = marks_within t g.ins has (h (w g.out.0 e)) w
    by false e = w

-- a gate's own inputs are marked with its output, which it does not read
gate_own : (g : Gate) (t : List Bool) → AllByRecursion (λ (n : NetId). n.0 < length t) g.ins → is_marked t g.out.0 ≡ true →
    AllByRecursion (λ (n : NetId). is_marked (behind_gate g t) n.0 ≡ true) g.ins
gate_own g t placed e =
    let P : List Bool → Type 0 = λ (u : List Bool). AllByRecursion (λ (n : NetId). is_marked u n.0 ≡ true) g.ins in
    subst P (sym (behind_by g t true e)) (marks_all t g.ins placed)

-- ---- all gates

pub behind_wide : (gs : List Gate) (t : List Bool) → length (behind gs t) ≡ length t
behind_wide [] t = refl
behind_wide (g ∷ gs) t = gate_wide g (behind gs t) ∙ behind_wide gs t

behind_stays : (gs : List Gate) (t : List Bool) (m : ℕ) → is_marked t m ≡ true → is_marked (behind gs t) m ≡ true
behind_stays [] t m h = h
behind_stays (g ∷ gs) t m h = gate_stays g (behind gs t) m (behind_stays gs t m h)

-- with a gate's output its inputs are marked
abbrev Closed : List Bool → Gate → Type 0
Closed t g = is_marked t g.out.0 ≡ true → All (λ (n : NetId). is_marked t n.0 ≡ true) g.ins

-- no net that a gate reads is driven by one of these
reads_none : (g : Gate) (ns : List NetId) (gs : List Gate) (h : Gate) → AllByRecursion (λ (n : NetId). All (λ (k : Gate). k.out.0 ≢ n.0) (h ∷ gs)) ns →
    AllByRecursion (λ (n : NetId). h.out.0 ≢ n.0) ns
reads_none g [] gs h all = tt
reads_none g (n ∷ ns) gs h all = ((recursion_from_All (λ (k : Gate). k.out.0 ≢ n.0) (h ∷ gs) all.0).0, reads_none g ns gs h all.1)

reads_rest : (ns : List NetId) (h : Gate) (gs : List Gate) → AllByRecursion (λ (n : NetId). All (λ (k : Gate). k.out.0 ≢ n.0) (h ∷ gs)) ns →
    AllByRecursion (λ (n : NetId). All (λ (k : Gate). k.out.0 ≢ n.0) gs) ns
reads_rest [] h gs all = tt
reads_rest (n ∷ ns) h gs all =
    (All-from_recursion (λ (k : Gate). k.out.0 ≢ n.0) gs (recursion_from_All (λ (k : Gate). k.out.0 ≢ n.0) (h ∷ gs) all.0).1, reads_rest ns h gs all.1)

-- those that were closed before a gate was looked at, none of which it reads, are still
still_closed : (g : Gate) (t : List Bool) (hs : List Gate) → AllByRecursion (λ (n : NetId). All (λ (k : Gate). k.out.0 ≢ n.0) hs) g.ins →
    AllByRecursion (Closed t) hs → AllByRecursion (Closed (behind_gate g t)) hs
still_closed g t [] reads c = tt
still_closed g t (h ∷ hs) reads c = (
  (λ e j d lt. gate_stays g t (get_or h.ins j d).0 (c.0 (sym (gate_others g t h.out.0 (reads_none g g.ins hs h reads)) ∙ e) j d lt)),
  still_closed g t hs (reads_rest g.ins h hs reads) c.1,
)

abbrev InsPlaced : ℕ → List Gate → Type 0
InsPlaced count gs = AllByRecursion (λ (g : Gate). All (λ (n : NetId). n.0 < count) g.ins) gs

all_closed : (gs : List Gate) (t : List Bool) → IsLevelled gs → InsPlaced (length t) gs → AllByRecursion (Closed (behind gs t)) gs
all_closed [] t l p = tt
all_closed (g ∷ gs) t l p =
    let u : List Bool = behind gs t in
    let reads : AllByRecursion (λ (n : NetId). All (λ (k : Gate). k.out.0 ≢ n.0) (g ∷ gs)) g.ins =
    recursion_from_All (λ (n : NetId). All (λ (k : Gate). k.out.0 ≢ n.0) (g ∷ gs)) g.ins l.0 in
    let P : ℕ → Type 0 = λ (k : ℕ). AllByRecursion (λ (n : NetId). n.0 < k) g.ins in
    let placed : AllByRecursion (λ (n : NetId). n.0 < length u) g.ins =
    subst P (sym (behind_wide gs t)) (recursion_from_All (λ (n : NetId). n.0 < length t) g.ins p.0) in
    let own : is_marked (behind_gate g u) g.out.0 ≡ is_marked u g.out.0 = gate_others g u g.out.0 (reads_none g g.ins gs g reads) in (
      (λ e. All-from_recursion (λ (n : NetId). is_marked (behind_gate g u) n.0 ≡ true) g.ins (gate_own g u placed (sym own ∙ e))),
      still_closed g u gs (reads_rest g.ins g gs reads) (all_closed gs t l.1 p.1),
    )

all_within : (gs : List Gate) (t : List Bool) (has : ℕ → Bool) →
    AllByRecursion (λ (g : Gate). has g.out.0 ≡ true → All (λ (n : NetId). has n.0 ≡ true) g.ins) gs → Within t has → Within (behind gs t) has
all_within [] t has h w = w
all_within (g ∷ gs) t has h w =
    gate_within g (behind gs t) has (λ e. recursion_from_All (λ (n : NetId). has n.0 ≡ true) g.ins (h.0 e)) (all_within gs t has h.1 w)

-- ---- the whole

named_within : (r : Parts) (name : List ℕ) (has : ℕ → Bool) → HasInputs r name has → Within (named_nets r name (length r.names)) has
named_within r name has h m e = ⊎_elim inside outside (cases_lt m (length r.names))
  where
    inside : m < length r.names → has m ≡ true
    inside lt = h.named m lt (sym (named_is r name (length r.names) m lt) ∙ e)

    outside : length r.names ≤ m → has m ≡ true
    outside ge =
        let past : length (named_nets r name (length r.names)) ≤ m = omega (arith, ge, named_wide r name (length r.names)) in
        absurd (false≢true (sym (get_or_past (named_nets r name (length r.names)) m false past) ∙ e))

pub cone_is : (r : Parts) (name order : List ℕ) (table : List Bool) → PartsArePlaced r → IsOrder r.gates order →
    table ≡ behind (gates_in order r.gates) (named_nets r name (length r.names)) → IsCone r name table
cone_is r name order table placed o e =
    let gs : List Gate = gates_in order r.gates in
    let start : List Bool = named_nets r name (length r.names) in
    let wide : length start ≡ length r.names = named_wide r name (length r.names) in
    let moved = gates_move r.gates order o in
    let Ins : Gate → Type 0 = λ (g : Gate). All (λ (n : NetId). n.0 < length start) g.ins in
    let ins : All Ins r.gates = gates_ins r r.gates start placed refl wide in
    let inside : InsPlaced (length start) gs = recursion_from_All Ins gs (All-permutation Ins r.gates gs moved ins) in
    let closed : All (Closed (behind gs start)) r.gates =
    All-permutation (Closed (behind gs start)) gs r.gates (IsPermutation-sym _ _ moved)
    (All-from_recursion (Closed (behind gs start)) gs (all_closed gs start o.earlier inside)) in
    let is : IsCone r name (behind gs start) = record {
      closed = record {
        named = λ n lt h. behind_stays gs start n (named_is r name (length r.names) n lt ∙ h);
        inputs = closed;
      };
      least = λ has h.
          all_within gs start has
          (recursion_from_All (λ (g : Gate). has g.out.0 ≡ true → All (λ (n : NetId). has n.0 ≡ true) g.ins) gs
          (All-permutation (λ (g : Gate). has g.out.0 ≡ true → All (λ (n : NetId). has n.0 ≡ true) g.ins) r.gates gs moved h.inputs))
          (named_within r name has h);
    } in
    subst (IsCone r name) (sym e) is

-- ---- the gates of an order, the last one first

pub behind_start : (order : List ℕ) (gates : List Gate) (t : List Bool) → t ≡ behind (gates_in (drop (length order - 0) order) gates) t
behind_start order gates t =
    let e : drop (length order - 0) order ≡ [] = drop_all (length order - 0) order (omega arith) in
    sym (ap (λ (is : List ℕ). behind (gates_in is gates) t) e)

pub behind_more : (order : List ℕ) (gates : List Gate) (k d : ℕ) (e : Gate) (start before after : List Bool) → k < length order →
    All (λ i. i < length gates) order → before ≡ behind (gates_in (drop (length order - k) order) gates) start →
    after ≡ behind_gate (get_or gates (get_or order (length order - 1 - k) d) e) before →
    after ≡ behind (gates_in (drop (length order - (k + 1)) order) gates) start
behind_more order gates k d e start before after lt numbered was is =
    let at : ℕ = length order - 1 - k in
    let inside : at < length order = omega (arith, lt) in
    let g : Gate = get_or gates (get_or order at d) no_gate in
    let same : get_or gates (get_or order at d) e ≡ g = get_or_default gates (get_or order at d) e no_gate (numbered at d inside) in
    let next : at + 1 ≡ length order - k = omega (arith, lt) in
    let here : length order - (k + 1) ≡ at = omega (arith, lt) in
    is ∙ (ap (λ (h : Gate). behind_gate h before) same
    ∙ (ap (behind_gate g) (was ∙ ap (λ (i : ℕ). behind (gates_in (drop i order) gates) start) (sym next))
    ∙ (sym (ap (λ (is : List ℕ). behind (gates_in is gates) start) (drop_more order at d inside))
    ∙ ap (λ (i : ℕ). behind (gates_in (drop i order) gates) start) (sym here))))

pub behind_end : (order : List ℕ) (gates : List Gate) (k : ℕ) (start after : List Bool) → length order ≤ k →
    after ≡ behind (gates_in (drop (length order - k) order) gates) start → after ≡ behind (gates_in order gates) start
behind_end order gates k start after le e =
    let none : length order - k ≡ 0 = omega (arith, le) in
    e ∙ ap (λ (i : ℕ). behind (gates_in (drop i order) gates) start) none

-- ---- the line

-- of the flip-flops and data inputs of a netlist
pub line_put : (r s : Parts) (table : List Bool) (flops : List Flop) (inputs : List NetId) (old new : List ℕ) → s ≡ r → flops ≡ s.flops →
    inputs ≡ (circuit_of r).inputs → new ≡ old ++ from_line s table flops inputs → new ≡ old ++ cone_line r table
line_put r s table flops inputs old new same is ins put =
    put ∙ (λ i. old ++ from_line (same i) table ((is ∙ ap (λ (p : Parts). p.flops) same) i) (ins i))

-- The numbers of gates' outputs, put in one after another in an order of the gates, are right.
use Rattle.std.proofs.Common.{◌≡◌, ◌≢◌, ℕ, ◌<◌, ◌≤◌, ◌+◌, List, [], ◌∷◌, ◌++◌, map, length, get_or, set, drop, max, refl, ap, sym, subst, ◌∙◌}
use Rattle.std.proofs.Common.{arith, ◌^◌, zero-add, length-set, get_or-set_same, get_or-set_other}
use Rattle.std.specs.List.{All, AllByRecursion, range_with_len, fold}
use Rattle.std.proofs.lemmas.List.{drop_more}
use Rattle.std.proofs.lemmas.List.Elements.{All-from_recursion, recursion_from_All, All-set, All-weaker}
use Rattle.std.proofs.lemmas.List.Sorted.{All-permutation, IsPermutation-sym, length_permutation}
use Rattle.std.proofs.lemmas.List.FromFn.{map-range_with_len_more, get_or-map-range_with_len, length-map-range_with_len, length-range_with_len}
use Rattle.bs_net.specs.declared.net.NetId.{NetId}
use Rattle.bs_net.specs.declared.net.Gate.{Gate}
use Rattle.bs_net.specs.declared.gate.Kind.{Kind}
use Rattle.bs_net.specs.declared.gate.Kind.TheVariants as K
use Rattle.bs_net.specs.Parts.{Parts, PartsArePlaced}
use Rattle.bs_net.specs.Netlist.{circuit_of}
use Rattle.bs_net.specs.Order.{IsOrder, IsLevelled, IsChecked, gates_in, no_gate}
use Rattle.bs_net.specs.Steps.{gate_write}
use Rattle.bs_net.proofs.StepLemmas.{Misses, Apart, Placed}
use Rattle.bs_net.proofs.LawLemmas.{gates_move, gates_apart, gates_placed}
use Rattle.bs_net.proofs.NetlistLemmas.{without_placed}
use Rattle.bs_inspect_netlist.specs.declared.mark.Measure.{Measure}
use Rattle.bs_inspect_netlist.specs.declared.mark.Measure.TheVariants.{Source, Level}
use Rattle.bs_inspect_netlist.specs.Marks.{mark_at, start_mark, source_mark, gate_mark, AreMarks, starts, marked}

-- one net more at the start
pub start_more : (measure : Measure) (n : ℕ) → starts measure (n + 1) ≡ starts measure n ++ start_mark measure n ∷ []
start_more measure n = map-range_with_len_more (start_mark measure) 0 n n (zero-add n)

start_low : (measure : Measure) (k : ℕ) → start_mark measure k ≤ k
start_low Source k = omega arith
start_low Level k = omega arith

-- no number at the start is beyond the nets
pub starts_small : (measure : Measure) (count : ℕ) → All (λ m. m ≤ count) (starts measure count)
starts_small measure count = λ k d lt.
    let below : k < count = omega (arith, lt, length-map-range_with_len (start_mark measure) 0 count) in
    let is : get_or (starts measure count) k d ≡ start_mark measure k = get_or-map-range_with_len (start_mark measure) 0 count k k d below (zero-add k) in
    omega (arith, is, start_low measure k, below)

pub starts_wide : (measure : Measure) (count : ℕ) → length (starts measure count) ≡ count
starts_wide measure count = length-map-range_with_len (start_mark measure) 0 count

-- the nets of gates are places of a table
pub outs_placed : (r : Parts) (gs : List Gate) (t : List ℕ) → PartsArePlaced r → gs ≡ r.gates → length t ≡ length r.names →
    All (λ g. g.out.0 < length t) gs
outs_placed r gs t placed same wide =
    let P : List Gate → Type 0 = λ (xs : List Gate). All (λ (g : Gate). g.out.0 < length t) xs in
    subst P (sym same) (λ k d lt. omega (arith, wide, (placed.gates.1 k d lt).0))

pub ins_placed : (r : Parts) (gs : List Gate) (t : List ℕ) → PartsArePlaced r → gs ≡ r.gates → length t ≡ length r.names →
    All (λ g. All (λ n. n.0 < length t) g.ins) gs
ins_placed r gs t placed same wide =
    let P : List Gate → Type 0 = λ (xs : List Gate). All (λ (g : Gate). All (λ (n : NetId). n.0 < length t) g.ins) xs in
    subst P (sym same) (λ k d lt j e lt'. omega (arith, wide, (placed.gates.1 k d lt).1.1 j e lt'))

-- a data input has a name
pub input_placed : (r : Parts) (inputs : List NetId) (i : ℕ) (n : NetId) → PartsArePlaced r → inputs ≡ (circuit_of r).inputs → i < length inputs →
    n ≡ get_or inputs i n → n.0 < length r.names
input_placed r inputs i n placed same lt is =
    let P : List NetId → Type 0 = λ (ns : List NetId). All (λ (m : NetId). m.0 < length r.names) ns in
    let all : All (λ m. m.0 < length r.names) inputs = subst P (sym same) (without_placed (circuit_of r).clock r.inputs (length r.names) placed.inputs.1) in
    let Q : NetId → Type 0 = λ (m : NetId). m.0 < length r.names in
    subst Q (sym is) (all i n lt)

-- an order has as many gates as there are
pub order_few : (r : Parts) (order : List ℕ) → PartsArePlaced r → IsOrder r.gates order → length order < 2 ^ 32
order_few r order placed o =
    let same : length order ≡ length (range_with_len 0 (length r.gates)) = length_permutation (range_with_len 0 (length r.gates)) order o.each_once in
    let count : length (range_with_len 0 (length r.gates)) ≡ length r.gates = length-range_with_len 0 (length r.gates) in
    omega (arith, same, count, placed.gates.0)

-- one gate more of an order
pub gate_more : (measure : Measure) (order : List ℕ) (gates : List Gate) (k d : ℕ) (table : List ℕ) → k < length order →
    marked measure (gates_in (drop k order) gates) table
    ≡ marked measure (gates_in (drop (k + 1) order) gates)
    (set table (get_or gates (get_or order k d) no_gate).out.0 (gate_mark measure table (get_or gates (get_or order k d) no_gate)))
gate_more measure order gates k d table lt = ap (λ (is : List ℕ). marked measure (gates_in is gates) table) (drop_more order k d lt)

-- numbers with one that is a little greater
pub marks_small : (table : List ℕ) (i x b : ℕ) → x ≤ b + 1 → All (λ m. m ≤ b) table → All (λ m. m ≤ b + 1) (set table i x)
marks_small table i x b le all =
    All-set (λ m. m ≤ b + 1) table i x le (All-weaker (λ m. m ≤ b) (λ m. m ≤ b + 1) (λ m h. omega (arith, h)) table all)

-- ---- what a number rests on

-- two tables tell the same of these nets
abbrev Agree : List ℕ → List ℕ → List NetId → Type 0
Agree t u ns = AllByRecursion (λ (n : NetId). mark_at t n.0 ≡ mark_at u n.0) ns

greatest_from : (t u : List ℕ) (ns : List NetId) (a : ℕ) → Agree t u ns → fold (λ m n. max m (mark_at t n.0)) a ns ≡ fold (λ m n. max m (mark_at u n.0)) a ns
greatest_from t u [] a h = refl
greatest_from t u (n ∷ ns) a h =
    ap (λ (k : ℕ). fold (λ m (i : NetId). max m (mark_at t i.0)) (max a k) ns) h.0 ∙ greatest_from t u ns (max a (mark_at u n.0)) h.1

source_same : (t u : List ℕ) (own : ℕ) (ns : List NetId) (kind : Kind) → Agree t u ns → source_mark t own ns kind ≡ source_mark u own ns kind
source_same t u own [] K.Buf h = refl
source_same t u own (n ∷ ns) K.Buf h = h.0
source_same t u own ns K.And h = refl
source_same t u own ns K.Nand h = refl
source_same t u own ns K.Or h = refl
source_same t u own ns K.Nor h = refl
source_same t u own ns K.Xor h = refl
source_same t u own ns K.Xnor h = refl
source_same t u own ns K.Not h = refl

mark_same : (measure : Measure) (t u : List ℕ) (g : Gate) → Agree t u g.ins → gate_mark measure t g ≡ gate_mark measure u g
mark_same Source t u g h = source_same t u g.out.0 g.ins g.kind h
mark_same Level t u g h = ap (λ (m : ℕ). m + 1) (greatest_from t u g.ins 0 h)

-- ---- what the gates leave alone

abbrev Spares : List Gate → ℕ → Type 0
Spares gs n = AllByRecursion (λ (g : Gate). g.out.0 ≢ n) gs

length-marked : (measure : Measure) (gs : List Gate) (t : List ℕ) → length (marked measure gs t) ≡ length t
length-marked measure [] t = refl
length-marked measure (g ∷ gs) t = length-marked measure gs (set t g.out.0 (gate_mark measure t g)) ∙ length-set t g.out.0 (gate_mark measure t g)

kept : (measure : Measure) (gs : List Gate) (t : List ℕ) (n : ℕ) → Spares gs n → mark_at (marked measure gs t) n ≡ mark_at t n
kept measure [] t n h = refl
kept measure (g ∷ gs) t n h =
    kept measure gs (set t g.out.0 (gate_mark measure t g)) n h.1
    ∙ get_or-set_other t g.out.0 n (gate_mark measure t g) 0 (λ e. h.0 (sym e))

-- ---- each number is right

agree_after : (measure : Measure) (gs : List Gate) (t : List ℕ) (ns : List NetId) → AllByRecursion (λ (n : NetId). All (λ (h : Gate). h.out.0 ≢ n.0) gs) ns →
    Agree (marked measure gs t) t ns
agree_after measure gs t [] h = tt
agree_after measure gs t (n ∷ ns) h =
    (kept measure gs t n.0 (recursion_from_All (λ (g : Gate). g.out.0 ≢ n.0) gs h.0), agree_after measure gs t ns h.1)

spares_from : (gs : List Gate) (n : ℕ) → Misses (map gate_write gs) n → Spares gs n
spares_from [] n h = tt
spares_from (g ∷ gs) n h = (h.0, spares_from gs n h.1)

each_right : (measure : Measure) (gs : List Gate) (t : List ℕ) → IsLevelled gs → Apart (map gate_write gs) → Placed (length t) (map gate_write gs) →
    AllByRecursion (λ (g : Gate). mark_at (marked measure gs t) g.out.0 ≡ gate_mark measure (marked measure gs t) g) gs
each_right measure [] t l a p = tt
each_right measure (g ∷ gs) t l a p =
    let x : ℕ = gate_mark measure t g in
    let next : List ℕ = set t g.out.0 x in
    let here : mark_at (marked measure gs next) g.out.0 ≡ x =
    kept measure gs next g.out.0 (spares_from gs g.out.0 a.0) ∙ get_or-set_same t g.out.0 x 0 p.0 in
    let same : gate_mark measure (marked measure gs next) g ≡ x =
    mark_same measure (marked measure gs next) t g
    (agree_after measure (g ∷ gs) t g.ins (recursion_from_All (λ (n : NetId). All (λ (h : Gate). h.out.0 ≢ n.0) (g ∷ gs)) g.ins l.0)) in
    let P : ℕ → Type 0 = λ k. Placed k (map gate_write gs) in
    (here ∙ sym same, each_right measure gs next l.1 a.1 (subst P (sym (length-set t g.out.0 x)) p.1))

pub marks_are : (measure : Measure) (r : Parts) (order : List ℕ) (table : List ℕ) → IsOrder r.gates order → IsChecked (circuit_of r) →
    table ≡ marked measure (gates_in order r.gates) (starts measure (length r.names)) → AreMarks measure r table
marks_are measure r order table o checked e =
    let gs : List Gate = gates_in order r.gates in
    let start : List ℕ = starts measure (length r.names) in
    let wide : length start ≡ length r.names = length-map-range_with_len (start_mark measure) 0 (length r.names) in
    let placed : Placed (length start) (map gate_write gs) =
    (let P : ℕ → Type 0 = λ k. Placed k (map gate_write gs) in subst P (sym wide) (gates_placed (circuit_of r) order o checked.in_range)) in
    let right : All (λ (g : Gate). mark_at (marked measure gs start) g.out.0 ≡ gate_mark measure (marked measure gs start) g) gs =
    All-from_recursion (λ (g : Gate). mark_at (marked measure gs start) g.out.0 ≡ gate_mark measure (marked measure gs start) g) gs
    (each_right measure gs start o.earlier (gates_apart (circuit_of r) order o checked.single_driver) placed) in
    let moved = gates_move r.gates order o in
    let are : AreMarks measure r (marked measure gs start) =
    record {
      every_net = length-marked measure gs start ∙ wide;
      driven = All-permutation (λ (g : Gate). mark_at (marked measure gs start) g.out.0 ≡ gate_mark measure (marked measure gs start) g) gs r.gates
          (IsPermutation-sym _ _ moved) right;
      others = λ n lt h.
          kept measure gs start n (recursion_from_All (λ (g : Gate). g.out.0 ≢ n) gs (All-permutation (λ (g : Gate). g.out.0 ≢ n) r.gates gs moved h))
          ∙ get_or-map-range_with_len (start_mark measure) 0 (length r.names) n n 0 lt (zero-add n);
    } in
    subst (AreMarks measure r) (sym e) are

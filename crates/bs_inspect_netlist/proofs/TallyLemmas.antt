-- A table of counts tells how often each net stands in a list.
use Rattle.std.proofs.Common.{◌≡◌, ◌≤◌, ℕ, ◌<◌, ◌+◌, ◌==◌, ◌*◌, cond, List, [], ◌∷◌, ◌++◌, length, get_or, set, map, replicate, refl, arith}
use Rattle.std.proofs.Common.{subst, ap, sym, ◌∙◌, ⊎_elim, eq-eqb, ne_eqb, length-set, get_or-set_same, get_or-set_other, zero-add, take}
use Rattle.std.specs.List.{All, flat_map, range_with_len, count_by}
use Rattle.std.proofs.lemmas.Bool.{cases_eq}
use Rattle.std.proofs.lemmas.List.{length-replicate, get_or-replicate, take_more, append-nil}
use Rattle.std.proofs.lemmas.Grind.{flat_map-append}
use Rattle.std.proofs.lemmas.List.Elements.{All-set, All-weaker}
use Rattle.std.proofs.lemmas.List.Sums.{sum_by-cons}
use Rattle.std.proofs.lemmas.List.FromFn.{fill_by_all}
use Rattle.bs_net.specs.declared.net.NetId.{NetId}
use Rattle.bs_net.specs.declared.net.Gate.{Gate}
use Rattle.bs_net.specs.declared.net.Flop.{Flop}
use Rattle.bs_net.specs.Parts.{Parts, load_nets}
use Rattle.bs_net.specs.declared.limits.TheConstants.{MAX_TERMINALS}
use Rattle.bs_inspect_netlist.specs.Sizes.{readers, fan_outs}
use Rattle.bs_inspect_netlist.specs.Tallies.{counted}

pub length-counted : (table : List ℕ) (ns : List NetId) → length (counted table ns) ≡ length table
length-counted table [] = refl
length-counted table (n ∷ ns) = length-counted (set table n.0 (get_or table n.0 0 + 1)) ns ∙ length-set table n.0 (get_or table n.0 0 + 1)

pub counted-append : (table : List ℕ) (ns ms : List NetId) → counted table (ns ++ ms) ≡ counted (counted table ns) ms
counted-append table [] ms = refl
counted-append table (n ∷ ns) ms = counted-append (set table n.0 (get_or table n.0 0 + 1)) ns ms

times_more : (n : ℕ) (m : NetId) (ns : List NetId) → count_by (λ k. k.0 == n) (m ∷ ns) ≡ cond (m.0 == n) 1 0 + count_by (λ k. k.0 == n) ns
times_more n m ns = sum_by-cons (λ (k : NetId). cond (k.0 == n) 1 0) m ns

counted_from : (table : List ℕ) (ns : List NetId) (n : ℕ) → n < length table →
    get_or (counted table ns) n 0 ≡ get_or table n 0 + count_by (λ m. m.0 == n) ns
counted_from table [] n lt = omega arith
counted_from table (m ∷ ns) n lt =
    let next : List ℕ = set table m.0 (get_or table m.0 0 + 1) in
    let wide : n < length next = omega (arith, lt, length-set table m.0 (get_or table m.0 0 + 1)) in
    ⊎_elim
    (λ (same : m.0 ≡ n).
    let P : ℕ → Type 0 = λ k. k < length table in
    let now : get_or next n 0 ≡ get_or table n 0 + 1 =
    ap (λ k. get_or next k 0) (sym same)
    ∙ (get_or-set_same table m.0 (get_or table m.0 0 + 1) 0 (subst P (sym same) lt) ∙ ap (λ k. get_or table k 0 + 1) same) in
    let more : count_by (λ k. k.0 == n) (m ∷ ns) ≡ 1 + count_by (λ k. k.0 == n) ns =
    times_more n m ns ∙ ap (λ b. cond b 1 0 + count_by (λ (k : NetId). k.0 == n) ns) (eq-eqb m.0 n same) in
    omega (arith, counted_from next ns n wide, now, more))
    (λ (other : m.0 ≡ n → ⊥).
    let now : get_or next n 0 ≡ get_or table n 0 = get_or-set_other table m.0 n (get_or table m.0 0 + 1) 0 (λ e. other (sym e)) in
    let more : count_by (λ k. k.0 == n) (m ∷ ns) ≡ count_by (λ k. k.0 == n) ns =
    times_more n m ns ∙ ap (λ b. cond b 1 0 + count_by (λ (k : NetId). k.0 == n) ns) (ne_eqb m.0 n other) ∙ zero-add _ in
    omega (arith, counted_from next ns n wide, now, more))
    (cases_eq m.0 n)

abbrev zeros : ℕ → List ℕ
zeros count = replicate count 0

zeros_wide : (count : ℕ) → length (zeros count) ≡ count
zeros_wide count = length-replicate {A = ℕ} count 0

count_at : (count : ℕ) (ns : List NetId) (k : ℕ) → k < count → get_or (counted (zeros count) ns) k 0 ≡ count_by (λ m. m.0 == k) ns
count_at count ns k lt =
    let here : get_or (counted (zeros count) ns) k 0 ≡ get_or (zeros count) k 0 + count_by (λ m. m.0 == k) ns =
    counted_from (zeros count) ns k (omega (arith, lt, zeros_wide count)) in
    let none : get_or (zeros count) k 0 ≡ 0 = get_or-replicate {A = ℕ} count k 0 0 lt in
    omega (arith, here, none)

-- the counts of all nets
pub counts_are : (count : ℕ) (ns : List NetId) → counted (zeros count) ns ≡ map (λ n. count_by (λ m. m.0 == n) ns) (range_with_len 0 count)
counts_are count ns =
    fill_by_all (λ n. count_by (λ (m : NetId). m.0 == n) ns) (counted (zeros count) ns) count 0
    (length-counted (zeros count) ns ∙ zeros_wide count) (λ k lt. count_at count ns k lt)

-- the nets so far, and one more
pub nets_more : (old before after : List ℕ) (ns : List NetId) (i : ℕ) (d : NetId) → i < length ns → before ≡ counted old (take i ns) →
    after ≡ counted before (get_or ns i d ∷ []) → after ≡ counted old (take (i + 1) ns)
nets_more old before after ns i d lt e f =
    f ∙ (ap (λ (t : List ℕ). counted t (get_or ns i d ∷ [])) e
    ∙ (sym (counted-append old (take i ns) (get_or ns i d ∷ [])) ∙ ap (counted old) (sym (take_more ns i d lt))))

pub bound_next : (b i : ℕ) (table : List ℕ) → All (λ m. m ≤ b + i + 1) table → All (λ m. m ≤ b + (i + 1)) table
bound_next b i table h = λ k d lt. omega (arith, h k d lt)

pub bound_gate : (i n : ℕ) (table : List ℕ) → n ≤ MAX_TERMINALS → All (λ m. m ≤ MAX_TERMINALS * i + n) table → All (λ m. m ≤ MAX_TERMINALS * (i + 1)) table
bound_gate i n table few h = λ k d lt. omega (arith, few, h k d lt)

-- one more count is one more at most
pub raise_small : (table : List ℕ) (i x b : ℕ) → x ≤ b + 1 → All (λ m. m ≤ b) table → All (λ m. m ≤ b + 1) (set table i x)
raise_small table i x b le all =
    All-set (λ m. m ≤ b + 1) table i x le (All-weaker (λ m. m ≤ b) (λ m. m ≤ b + 1) (λ m h. omega (arith, h)) table all)

-- the inputs of one more gate
pub ins_more : (old before after : List ℕ) (gs : List Gate) (i : ℕ) (d : Gate) → i < length gs → before ≡ counted old (flat_map (λ g. g.ins) (take i gs)) →
    after ≡ counted before (get_or gs i d).ins → after ≡ counted old (flat_map (λ g. g.ins) (take (i + 1) gs))
ins_more old before after gs i d lt e f =
    let put : flat_map (λ (g : Gate). g.ins) (take (i + 1) gs) ≡ flat_map (λ (g : Gate). g.ins) (take i gs) ++ (get_or gs i d).ins =
    ap (flat_map (λ (g : Gate). g.ins)) (take_more gs i d lt)
    ∙ (flat_map-append (λ (g : Gate). g.ins) (take i gs) (get_or gs i d ∷ [])
    ∙ ap (λ (ns : List NetId). flat_map (λ (g : Gate). g.ins) (take i gs) ++ ns) (append-nil (get_or gs i d).ins)) in
    f ∙ (ap (λ (t : List ℕ). counted t (get_or gs i d).ins) e
    ∙ (sym (counted-append old (flat_map (λ (g : Gate). g.ins) (take i gs)) (get_or gs i d).ins) ∙ ap (counted old) (sym put)))

pub bound_flop : (b i : ℕ) (table : List ℕ) → All (λ m. m ≤ b + 2 * i + 2) table → All (λ m. m ≤ b + 2 * (i + 1)) table
bound_flop b i table h = λ k d lt. omega (arith, h k d lt)

-- the nets by which one more flip-flop loads
pub loads_more : (old before after : List ℕ) (fs : List Flop) (i : ℕ) (d : Flop) → i < length fs → before ≡ counted old (flat_map load_nets (take i fs)) →
    after ≡ counted before (load_nets (get_or fs i d)) → after ≡ counted old (flat_map load_nets (take (i + 1) fs))
loads_more old before after fs i d lt e f =
    let put : flat_map load_nets (take (i + 1) fs) ≡ flat_map load_nets (take i fs) ++ load_nets (get_or fs i d) =
    ap (flat_map load_nets) (take_more fs i d lt)
    ∙ (flat_map-append load_nets (take i fs) (get_or fs i d ∷ [])
    ∙ ap (λ (ns : List NetId). flat_map load_nets (take i fs) ++ ns) (append-nil (load_nets (get_or fs i d)))) in
    f ∙ (ap (λ (t : List ℕ). counted t (load_nets (get_or fs i d))) e
    ∙ (sym (counted-append old (flat_map load_nets (take i fs)) (load_nets (get_or fs i d))) ∙ ap (counted old) (sym put)))

-- the counts of gates and flip-flops are those of all readers
pub readers_counted : (r : Parts) (none between all : List ℕ) → none ≡ zeros (length r.names) → between ≡ counted none (flat_map (λ g. g.ins) r.gates) →
    all ≡ counted between (flat_map load_nets r.flops) → all ≡ fan_outs r
readers_counted r none between all e f g =
    g ∙ (ap (λ (t : List ℕ). counted t (flat_map load_nets r.flops)) (f ∙ ap (λ (t : List ℕ). counted t (flat_map (λ (x : Gate). x.ins) r.gates)) e)
    ∙ (sym (counted-append (zeros (length r.names)) (flat_map (λ (x : Gate). x.ins) r.gates) (flat_map load_nets r.flops))
    ∙ counts_are (length r.names) (readers r)))

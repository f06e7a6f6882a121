-- A table of tallies tells how often each net stands in a list.
use Rattle.std.proofs.Common.{◌≡◌, ℕ, suc, zero, ◌<◌, ◌+◌, ◌^◌, Bool, true, false, not, cond, ◌&&◌, List, [], ◌∷◌, ◌++◌, length, get_or, set}
use Rattle.std.proofs.Common.{replicate, refl, arith, subst, ap, sym, ◌∙◌, ⊎_elim, nat_eq, nat_lt, eq-eqb, ne_eqb, length-set, get_or-set_same}
use Rattle.std.proofs.Common.{get_or-set_other, zero-add, drop}
use Rattle.std.specs.List.{flat_map}
use Rattle.std.proofs.lemmas.Bool.{cases_eq}
use Rattle.std.proofs.lemmas.Bool.Decides.{nat_tests}
use Rattle.std.proofs.lemmas.List.{length-replicate, get_or-replicate, drop_more}
use Rattle.std.proofs.lemmas.List.Sums.{sum_by-cons}
use Rattle.bs_net.specs.declared.net.NetId.{NetId}
use Rattle.bs_net.specs.declared.net.Gate.{Gate}
use Rattle.bs_net.specs.declared.net.Flop.{Flop}
use Rattle.bs_net.specs.declared.tallies.UseCount.{UseCount}
use Rattle.bs_net.specs.declared.tallies.UseCount.TheVariants.{Never}
use Rattle.bs_net.specs.Parts.{Parts, PartsArePlaced, mode_nets, load_nets}
use Rattle.bs_net.specs.Check.{times_in, driver_nets, reader_nets, is_shared, is_undriven}
use Rattle.bs_net.specs.Lowest.{IsLowest, NonePasses}
use Rattle.bs_net.specs.Tallies.{tally_of, raised, is_often, is_never, tally_at, tallied, tallies_of, often_at, undriven_at}

-- ---- the table

pub length-tallied : (table : List UseCount) (ns : List NetId) → length (tallied table ns) ≡ length table
length-tallied table [] = refl
length-tallied table (n ∷ ns) = length-tallied _ ns ∙ length-set table n.0 _

pub tallied-append : (table : List UseCount) (ns ms : List NetId) → tallied table (ns ++ ms) ≡ tallied (tallied table ns) ms
tallied-append table [] ms = refl
tallied-append table (n ∷ ns) ms = tallied-append _ ns ms

-- the inputs of one more gate
pub inputs_more : (table : List UseCount) (gs : List Gate) (i : ℕ) (d : Gate) → i < length gs →
    tallied (tallied table (get_or gs i d).ins) (flat_map (λ g. g.ins) (drop (i + 1) gs)) ≡ tallied table (flat_map (λ g. g.ins) (drop i gs))
inputs_more table gs i d lt =
    sym
    (ap (λ u. tallied table (flat_map (λ (g : Gate). g.ins) u)) (drop_more gs i d lt)
    ∙ tallied-append table (get_or gs i d).ins (flat_map (λ g. g.ins) (drop (i + 1) gs)))

-- the nets by which one more flip-flop loads
pub loads_more : (table between after : List UseCount) (fs : List Flop) (i : ℕ) (d : Flop) → i < length fs →
    between ≡ set table (get_or fs i d).d.0 (raised (tally_at table (get_or fs i d).d.0)) → after ≡ tallied between (mode_nets (get_or fs i d).mode) →
    tallied after (flat_map load_nets (drop (i + 1) fs)) ≡ tallied table (flat_map load_nets (drop i fs))
loads_more table between after fs i d lt first then =
    let f = get_or fs i d in
    let rest = flat_map load_nets (drop (i + 1) fs) in
    ap (λ t. tallied t (flat_map load_nets (drop (i + 1) fs))) (then ∙ ap (λ t. tallied t (mode_nets (get_or fs i d).mode)) first)
    ∙ sym
    (ap (λ u. tallied table (flat_map load_nets u)) (drop_more fs i d lt)
    ∙ tallied-append table (load_nets (get_or fs i d)) (flat_map load_nets (drop (i + 1) fs)))

-- the four parts, one after another
pub four_tallied : (t t₁ t₂ t₃ t₄ : List UseCount) (a b c d : List NetId) → t₁ ≡ tallied t a → t₂ ≡ tallied t₁ b → t₃ ≡ tallied t₂ c → t₄ ≡ tallied t₃ d →
    t₄ ≡ tallied t (a ++ (b ++ (c ++ d)))
four_tallied t t₁ t₂ t₃ t₄ a b c d e₁ e₂ e₃ e₄ =
    e₄
    ∙ (ap (λ u. tallied u d) (e₃ ∙ ap (λ u. tallied u c) (e₂ ∙ ap (λ u. tallied u b) e₁))
    ∙ sym
    (tallied-append t a (b ++ (c ++ d))
    ∙ (tallied-append (tallied t a) b (c ++ d) ∙ tallied-append (tallied (tallied t a) b) c d)))

pub times_more : (n : ℕ) (m : NetId) (ns : List NetId) → times_in (m ∷ ns) n ≡ cond (nat_eq n m.0) 1 0 + times_in ns n
times_more n m ns = sum_by-cons (λ (k : NetId). cond (nat_eq n k.0) 1 0) m ns

raised_more : (a : ℕ) → raised (tally_of a) ≡ tally_of (suc a)
raised_more zero = refl
raised_more (suc zero) = refl
raised_more (suc (suc a)) = refl

tallied_from : (table : List UseCount) (ns : List NetId) (n a : ℕ) → n < length table → tally_at table n ≡ tally_of a →
    tally_at (tallied table ns) n ≡ tally_of (times_in ns n + a)
tallied_from table [] n a lt e = e ∙ ap tally_of (sym (zero-add a))
tallied_from table (m ∷ ns) n a lt e =
    let next : List UseCount = set table m.0 (raised (tally_at table m.0)) in
    let wide : n < length next = omega (arith, lt, length-set table m.0 (raised (tally_at table m.0))) in
    ⊎_elim
    (λ (same : n ≡ m.0).
    let P : ℕ → Type 0 = λ k. k < length table in
    let now : tally_at next n ≡ tally_of (suc a) =
    ap (λ k. tally_at next k) same
    ∙ (get_or-set_same table m.0 (raised (tally_at table m.0)) Never (subst P same lt)
    ∙ (ap raised (ap (tally_at table) (sym same) ∙ e) ∙ raised_more a)) in
    let more : times_in (m ∷ ns) n ≡ 1 + times_in ns n = times_more n m ns ∙ ap (λ b. cond b 1 0 + times_in ns n) (eq-eqb n m.0 same) in
    let sum : times_in ns n + suc a ≡ times_in (m ∷ ns) n + a = omega (arith, more) in
    tallied_from next ns n (suc a) wide now ∙ ap tally_of sum)
    (λ (other : n ≡ m.0 → ⊥).
    let now : tally_at next n ≡ tally_of a = get_or-set_other table m.0 n (raised (tally_at table m.0)) Never other ∙ e in
    let more : times_in (m ∷ ns) n ≡ times_in ns n = times_more n m ns ∙ ap (λ b. cond b 1 0 + times_in ns n) (ne_eqb n m.0 other) ∙ zero-add _ in
    tallied_from next ns n a wide now ∙ ap (λ k. tally_of (k + a)) (sym more))
    (cases_eq n m.0)

tallied_at : (k : ℕ) (ns : List NetId) (n : ℕ) → n < k → tally_at (tallied (replicate k Never) ns) n ≡ tally_of (times_in ns n)
tallied_at k ns n lt =
    let none : times_in ns n + 0 ≡ times_in ns n = omega arith in
    tallied_from (replicate k Never) ns n 0 (omega (arith, lt, length-replicate k Never)) (get_or-replicate k n Never Never lt)
    ∙ ap tally_of none

pub length-tallied_new : (k : ℕ) (ns : List NetId) → length (tallied (replicate k Never) ns) ≡ k
length-tallied_new k ns = length-tallied (replicate k Never) ns ∙ length-replicate k Never

-- ---- the tests on tallies

lt_true : (a b : ℕ) → a < b → nat_lt a b ≡ true
lt_true a b lt = grind (arith, nat_tests)

often_is : (a : ℕ) → is_often (tally_of a) ≡ nat_lt 1 a
often_is zero = refl
often_is (suc zero) = refl
often_is (suc (suc a)) = sym (lt_true 1 (suc (suc a)) (omega arith))

never_is : (a : ℕ) → is_never (tally_of a) ≡ not (nat_lt 0 a)
never_is zero = refl
never_is (suc zero) = refl
never_is (suc (suc a)) = sym (ap not (lt_true 0 (suc (suc a)) (omega arith)))

not_not : (b : Bool) → not (not b) ≡ b
not_not true = refl
not_not false = refl

-- the table of a netlist's drivers, and that of its readers
abbrev pub Drives : Parts → List UseCount → Type 0
Drives r table = table ≡ tallies_of (length r.names) (driver_nets r)

abbrev pub Reads : Parts → List UseCount → Type 0
Reads r table = table ≡ tallies_of (length r.names) (reader_nets r)

shared_is : (r : Parts) (drivers : List UseCount) → Drives r drivers → (n : ℕ) → n < length r.names → is_often (tally_at drivers n) ≡ is_shared r n
shared_is r drivers d n lt =
    ap (λ t. is_often (tally_at t n)) d
    ∙ (ap is_often (tallied_at (length r.names) (driver_nets r) n lt) ∙ often_is (times_in (driver_nets r) n))

undriven_is : (r : Parts) (readers drivers : List UseCount) → Reads r readers → Drives r drivers → (n : ℕ) → n < length r.names →
    (not (is_never (tally_at readers n)) && is_never (tally_at drivers n)) ≡ is_undriven r n
undriven_is r readers drivers e d n lt =
    let read : not (is_never (tally_at readers n)) ≡ nat_lt 0 (times_in (reader_nets r) n) =
    ap (λ t. not (is_never (tally_at t n))) e
    ∙ (ap (λ t. not (is_never t)) (tallied_at (length r.names) (reader_nets r) n lt)
    ∙ (ap not (never_is (times_in (reader_nets r) n)) ∙ not_not _)) in
    let driven : is_never (tally_at drivers n) ≡ not (nat_lt 0 (times_in (driver_nets r) n)) =
    ap (λ t. is_never (tally_at t n)) d
    ∙ (ap is_never (tallied_at (length r.names) (driver_nets r) n lt) ∙ never_is (times_in (driver_nets r) n)) in
    ap (λ b. b && is_never (tally_at drivers n)) read ∙ ap (λ b. nat_lt 0 (times_in (reader_nets r) n) && b) driven

-- ---- the lowest net, by the table and by the parts

lowest_same : (p q : ℕ → Bool) (j k n : ℕ) → j ≡ k → ((i : ℕ) → i < k → p i ≡ q i) → IsLowest p j n → IsLowest q k n
lowest_same p q j k n e same l =
    let below : n < k = omega (arith, e, l.below) in
    record {
      below = below;
      passes = sym (same n below) ∙ l.passes;
      lowest = λ i lt. sym (same i (omega (arith, lt, below))) ∙ l.lowest i lt;
    }

none_same : (p q : ℕ → Bool) (j k : ℕ) → j ≡ k → ((i : ℕ) → i < k → p i ≡ q i) → NonePasses p j → NonePasses q k
none_same p q j k e same l = record { each = λ i lt. sym (same i lt) ∙ l.each i (omega (arith, e, lt)) }

wide : (r : Parts) (drivers : List UseCount) → Drives r drivers → length drivers ≡ length r.names
wide r drivers d = ap (λ t. length t) d ∙ length-tallied_new (length r.names) (driver_nets r)

pub lowest_shared : (r : Parts) (drivers : List UseCount) (n : ℕ) → Drives r drivers → IsLowest (often_at drivers) (length drivers) n →
    IsLowest (is_shared r) (length r.names) n
lowest_shared r drivers n d l =
    lowest_same (often_at drivers) (is_shared r) _ _ n (wide r drivers d) (shared_is r drivers d) l

pub none_shared : (r : Parts) (drivers : List UseCount) → Drives r drivers → NonePasses (often_at drivers) (length drivers) →
    NonePasses (is_shared r) (length r.names)
none_shared r drivers d l =
    none_same (often_at drivers) (is_shared r) _ _ (wide r drivers d) (shared_is r drivers d) l

pub lowest_undriven : (r : Parts) (readers drivers : List UseCount) (n : ℕ) → Reads r readers → Drives r drivers →
    IsLowest (undriven_at readers drivers) (length drivers) n → IsLowest (is_undriven r) (length r.names) n
lowest_undriven r readers drivers n e d l =
    lowest_same (undriven_at readers drivers) (is_undriven r) _ _ n (wide r drivers d) (undriven_is r readers drivers e d) l

pub none_undriven : (r : Parts) (readers drivers : List UseCount) → Reads r readers → Drives r drivers →
    NonePasses (undriven_at readers drivers) (length drivers) → NonePasses (is_undriven r) (length r.names)
none_undriven r readers drivers e d l =
    none_same (undriven_at readers drivers) (is_undriven r) _ _ (wide r drivers d) (undriven_is r readers drivers e d) l

-- a table for each name is short
pub table_short : (r : Parts) → PartsArePlaced r → (drivers : List UseCount) → Drives r drivers → length drivers < 2 ^ 32
table_short r p drivers d = omega (arith, wide r drivers d, p.few_names)

pub tables_match : (r : Parts) (readers drivers : List UseCount) → Reads r readers → Drives r drivers → length readers ≡ length drivers
tables_match r readers drivers e d = ap (λ t. length t) e ∙ (length-tallied_new (length r.names) (reader_nets r) ∙ sym (wide r drivers d))

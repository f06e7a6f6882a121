-- Runs in the order of their nets: only one of them can join a net.
use Rattle.std.proofs.Common.{◌≡◌, ℕ, zero, suc, ◌<◌, ◌≤◌, ◌+◌, Bool, true, false, not, ◌&&◌, ◌||◌, List, [], ◌∷◌, ◌++◌, map, length, get_or, take}
use Rattle.std.proofs.Common.{refl, arith, subst, ap, sym, ◌∙◌, ⊎_elim, nat_le, nat_eq, Option, Some, None, is_some}
use Rattle.std.specs.Prelude.{IsPermutation}
use Rattle.std.specs.List.{flat_map, list_any}
use Rattle.std.proofs.lemmas.Bool.{cases_Bool, false≢true, and_parts, leb-true, eqb-true, eqb-false}
use Rattle.std.proofs.lemmas.List.{get_or-map, length-map, take_more}
use Rattle.std.proofs.lemmas.List.Sorted.{list_any-IsPermutation}
use Rattle.bs_flat_meaning.specs.Design.{Instance, Module, no_instance, instance_in}
use Rattle.bs_flat_meaning.specs.Meaning.{joined_with}
use Rattle.bs_flat_nets.specs.Blocks.{joins_of_run, module_of, instance_of}
use Rattle.bs_flat_nets.specs.Constants.{covers}
use Rattle.bs_flat_nets.specs.Order.{module_in}
use Rattle.bs_flat_nets.specs.declared.blocks.FlatModule.{FlatModule}
use Rattle.bs_flat_nets.specs.declared.blocks.JoinedNets.{JoinedNets}
use Rattle.bs_flat_nets.proofs.RunLemmas.{runs_join, runs_here, runs_past}
use Rattle.bs_flat_nets.specs.Rows.{are_apart, outer_net, joins_other, IsRow, Beside, IsChildRow, AreBlockRows, AreRows}
use Rattle.bs_flat_nets.specs.Climbing.{no_run, CountsTo, IsOuter}
use Rattle.bs_flat_nets.proofs.GapLemmas.{below_run, past_run}
use Rattle.bs_flat_nets.proofs.LeftLemmas.{some_of}

-- ---- what runs in any order say

nat_same : (m : ℕ) → nat_eq m m ≡ true
nat_same m =
    ⊎_elim
    (λ (t : nat_eq m m ≡ true). t)
    (λ (f : nat_eq m m ≡ false). let other = eqb-false m m f in absurd (omega (arith, other)))
    (cases_Bool (nat_eq m m))

or_none : (p q : Bool) → (p || q) ≡ false → q ≡ false
or_none true q e = absurd (false≢true (sym e))
or_none false q e = e

-- a net that some run joins, and none with another than this
joined_one : (rs : List JoinedNets) (n m : ℕ) → list_any (λ r. covers r n) rs ≡ true → list_any (joins_other n m) rs ≡ false →
    joined_with (flat_map joins_of_run rs) n ≡ Some m
joined_one [] n m e f = absurd (false≢true e)
joined_one (r ∷ rs) n m e f = by (covers r n) refl (nat_eq (outer_net r n) m) refl (joined_one rs n m)
  where
    by : (b : Bool) → covers r n ≡ b → (c : Bool) → nat_eq (outer_net r n) m ≡ c →
        (list_any (λ q. covers q n) rs ≡ true → list_any (joins_other n m) rs ≡ false → joined_with (flat_map joins_of_run rs) n ≡ Some m) →
        joined_with (flat_map joins_of_run (r ∷ rs)) n ≡ Some m
    by true t true u more = runs_here (r ∷ rs) 0 n no_run (omega arith) t ∙ ap Some (eqb-true (outer_net r n) m u)
    by true t false u more =
        absurd
        (false≢true
        (sym f ∙ (ap (λ (b : Bool). (b && not (nat_eq (outer_net r n) m)) || list_any (joins_other n m) rs) t
        ∙ ap (λ (c : Bool). not c || list_any (joins_other n m) rs) u)))
    by false t c u more =
        runs_past (r ∷ rs) 0 n no_run (omega arith) t
        ∙ more (sym (ap (λ (b : Bool). b || list_any (λ q. covers q n) rs) t) ∙ e) (or_none (joins_other n m r) (list_any (joins_other n m) rs) f)

pub row_is : (rs row : List JoinedNets) → IsPermutation rs row → are_apart 0 row ≡ true → IsRow (flat_map joins_of_run rs) row
row_is rs row same apart =
    record {
      apart = apart;
      none =
          λ n e. none (joined_with (flat_map joins_of_run rs) n)
          (runs_join rs n ∙ (list_any-IsPermutation (λ (r : JoinedNets). covers r n) rs row same ∙ e));
      some =
          λ n m e f.
          joined_one rs n m (list_any-IsPermutation (λ (r : JoinedNets). covers r n) rs row same ∙ e) (list_any-IsPermutation (joins_other n m) rs row same ∙ f);
    }
  where
    none : (o : Option ℕ) → is_some o ≡ false → o ≡ None
    none None e = refl
    none (Some k) e = absurd (false≢true (sym e))

-- ---- one run at most

-- a test that only a run passes that joins the net
pub record TestsJoined (n : ℕ) (p : JoinedNets → Bool) : Type 0 where
  pub only : (r : JoinedNets) → covers r n ≡ false → p r ≡ false

none_below : (next n : ℕ) (p : JoinedNets → Bool) (rs : List JoinedNets) → TestsJoined n p → are_apart next rs ≡ true → n < next → list_any p rs ≡ false
none_below next n p [] t a lt = refl
none_below next n p (r ∷ rs) t a lt =
    let both = and_parts (nat_le next r.inner) (are_apart (r.inner + r.width) rs) a in
    let low = leb-true next r.inner both.0 in
    ap (λ (b : Bool). b || list_any p rs) (t.only r (below_run r n (omega (arith, low, lt))))
    ∙ none_below (r.inner + r.width) n p rs t both.1 (omega (arith, low, lt))

-- each run begins no lower than the number
no_lower : (next : ℕ) (rs : List JoinedNets) (i : ℕ) → are_apart next rs ≡ true → i < length rs → next ≤ (get_or rs i no_run).inner
no_lower next [] i a lt = absurd (omega (arith, lt))
no_lower next (r ∷ rs) zero a lt = leb-true next r.inner (and_parts (nat_le next r.inner) (are_apart (r.inner + r.width) rs) a).0
no_lower next (r ∷ rs) (suc i) a lt =
    let both = and_parts (nat_le next r.inner) (are_apart (r.inner + r.width) rs) a in
    let low = leb-true next r.inner both.0 in
    let rest = no_lower (r.inner + r.width) rs i both.1 (omega (arith, lt)) in
    omega (arith, low, rest)

or_left : (p q : Bool) → q ≡ false → (p || q) ≡ p
or_left true q e = refl
or_left false q e = e

only_at : (next n : ℕ) (p : JoinedNets → Bool) (rs : List JoinedNets) (i : ℕ) → TestsJoined n p → are_apart next rs ≡ true → i < length rs →
    (get_or rs i no_run).inner ≤ n → ((j : ℕ) → j ≡ i + 1 → j < length rs → n < (get_or rs j no_run).inner) → list_any p rs ≡ p (get_or rs i no_run)
only_at next n p [] i t a lt low high = absurd (omega (arith, lt))
only_at next n p (r ∷ rs) zero t a lt low high =
    or_left (p r) (list_any p rs) (rest rs (and_parts (nat_le next r.inner) (are_apart (r.inner + r.width) rs) a).1 high)
  where
    rest : (qs : List JoinedNets) → are_apart (r.inner + r.width) qs ≡ true → ((j : ℕ) → j ≡ zero + 1 → j < length (r ∷ qs) → n < (get_or (r ∷ qs) j no_run).inner) → list_any p qs ≡ false
    rest [] b h = refl
    rest (q ∷ qs) b h =
        let up : n < q.inner = h (suc zero) (omega arith) (omega arith) in
        let both = and_parts (nat_le (r.inner + r.width) q.inner) (are_apart (q.inner + q.width) qs) b in
        ap (λ (c : Bool). c || list_any p qs) (t.only q (below_run q n up))
        ∙ none_below (q.inner + q.width) n p qs t both.1 (omega (arith, up))
only_at next n p (r ∷ rs) (suc i) t a lt low high =
    let both = and_parts (nat_le next r.inner) (are_apart (r.inner + r.width) rs) a in
    let below : i < length rs = omega (arith, lt) in
    let past = no_lower (r.inner + r.width) rs i both.1 below in
    ap (λ (b : Bool). b || list_any p rs) (t.only r (past_run r n (omega (arith, past, low))))
    ∙ only_at (r.inner + r.width) n p rs i t both.1 below low (λ j e l. high (suc j) (omega (arith, e)) (omega (arith, l)))

-- ---- the run that is found

joined_tests : (n : ℕ) → TestsJoined n (λ r. covers r n)
joined_tests n = record { only = λ r e. e }

other_tests : (n m : ℕ) → TestsJoined n (joins_other n m)
other_tests n m = record { only = λ r e. ap (λ (b : Bool). b && not (nat_eq (outer_net r n) m)) e }

pub outer_none : (row : List JoinedNets) (n : ℕ) → CountsTo row n 0 → IsOuter row n None
outer_none row n c = record { is = λ js r. sym (r.none n (by row r.apart c.high)) }
  where
    by : (rs : List JoinedNets) → are_apart 0 rs ≡ true → (0 < length rs → n < (get_or rs 0 no_run).inner) → list_any (λ r. covers r n) rs ≡ false
    by [] a h = refl
    by (r ∷ rs) a h =
        let up : n < r.inner = h (omega arith) in
        let both = and_parts (nat_le 0 r.inner) (are_apart (r.inner + r.width) rs) a in
        ap (λ (b : Bool). b || list_any (λ q. covers q n) rs) (below_run r n up)
        ∙ none_below (r.inner + r.width) n (λ q. covers q n) rs (joined_tests n) both.1 (omega (arith, up))

next_high : (row : List JoinedNets) (n i : ℕ) → CountsTo row n (i + 1) → (j : ℕ) → j ≡ i + 1 → j < length row → n < (get_or row j no_run).inner
next_high row n i c j e = subst (λ k. k < length row → n < (get_or row k no_run).inner) (sym e) c.high

pub outer_past : (row : List JoinedNets) (n i : ℕ) → CountsTo row n (i + 1) → covers (get_or row i no_run) n ≡ false → IsOuter row n None
outer_past row n i c e =
    let within = c.within in
    record {
      is =
          λ js r.
          sym (r.none n (only_at 0 n (λ q. covers q n) row i (joined_tests n) r.apart (omega (arith, within)) (c.low i refl) (next_high row n i c) ∙ e));
    }

pub outer_here : (row : List JoinedNets) (n i : ℕ) → CountsTo row n (i + 1) → covers (get_or row i no_run) n ≡ true →
    IsOuter row n (Some (outer_net (get_or row i no_run) n))
outer_here row n i c e =
    let run = get_or row i no_run in
    let m = outer_net run n in
    let within = c.within in
    let lt : i < length row = omega (arith, within) in
    record {
      is =
          λ js r.
          sym
          (r.some n m
          (only_at 0 n (λ q. covers q n) row i (joined_tests n) r.apart lt (c.low i refl) (next_high row n i c) ∙ e)
          (only_at 0 n (joins_other n m) row i (other_tests n m) r.apart lt (c.low i refl) (next_high row n i c)
          ∙ (ap (λ (b : Bool). b && not (nat_eq m m)) e ∙ ap not (nat_same m))));
    }

-- ---- rows beside blocks

beside_push : {X Y : Type 0} (R : X → Y → Type 0) (xs : List X) (ys : List Y) (x : X) (y : Y) → Beside R xs ys → R x y →
    Beside R (xs ++ x ∷ []) (ys ++ y ∷ [])
beside_push R [] [] x y b r = (r, tt)
beside_push R [] (z ∷ ys) x y b r = absurd b
beside_push R (z ∷ xs) [] x y b r = absurd b
beside_push R (w ∷ xs) (z ∷ ys) x y b r = (b.0, beside_push R xs ys x y b.1 r)

pub beside_more : {X Y : Type 0} (R : X → Y → Type 0) (xs : List X) (ys : List Y) (i : ℕ) (x : X) (y : Y) → Beside R (take i xs) ys → i < length xs →
    x ≡ get_or xs i x → R x y → Beside R (take (i + 1) xs) (ys ++ y ∷ [])
beside_more {X} R xs ys i x y b lt e r =
    subst (λ (us : List X). Beside R us (ys ++ y ∷ [])) (sym (take_more xs i x lt))
    (beside_push R (take i xs) ys (get_or xs i x) y b (subst (λ (u : X). R u y) e r))

pub beside_length : {X Y : Type 0} (R : X → Y → Type 0) (xs : List X) (ys : List Y) → Beside R xs ys → length xs ≡ length ys
beside_length R [] [] b = refl
beside_length R [] (y ∷ ys) b = absurd b
beside_length R (x ∷ xs) [] b = absurd b
beside_length R (x ∷ xs) (y ∷ ys) b = let rest = beside_length R xs ys b.1 in omega (arith, rest)

pub beside_at : {X Y : Type 0} (R : X → Y → Type 0) (xs : List X) (ys : List Y) (i : ℕ) (x : X) (y : Y) → Beside R xs ys → i < length xs →
    R (get_or xs i x) (get_or ys i y)
beside_at R [] ys i x y b lt = absurd (omega (arith, lt))
beside_at R (z ∷ xs) [] i x y b lt = absurd b
beside_at R (z ∷ xs) (w ∷ ys) zero x y b lt = b.0
beside_at R (z ∷ xs) (w ∷ ys) (suc i) x y b lt = beside_at R xs ys i x y b.1 (omega (arith, lt))

-- the rows of the block with a number
pub record AreRowsIn (blocks : List FlatModule) (m : ℕ) (rows : List (List JoinedNets)) : Type 0 where
  pub block : FlatModule
  pub same : module_in (map module_of blocks) m ≡ module_of block
  pub are : AreBlockRows block rows

pub rows_in : (blocks : List FlatModule) (m : ℕ) (all : List (List (List JoinedNets))) (rows : List (List JoinedNets)) → AreRows blocks all → m < length blocks →
    rows ≡ get_or all m rows → AreRowsIn blocks m rows
rows_in blocks m all rows a lt e =
    let b = some_of blocks m lt in
    record {
      block = get_or blocks m b;
      same = get_or-map module_of blocks m b _ lt;
      are = subst (λ (u : List (List JoinedNets)). AreBlockRows (get_or blocks m b) u) (sym e) (beside_at AreBlockRows blocks all m b rows a lt);
    }

pub rows_wide : (blocks : List FlatModule) (m : ℕ) (rows : List (List JoinedNets)) → AreRowsIn blocks m rows →
    length rows ≡ length (module_in (map module_of blocks) m).instances
rows_wide blocks m rows r =
    sym (beside_length IsChildRow r.block.children rows r.are)
    ∙ (sym (length-map r.block.children instance_of) ∙ ap (λ (u : Module). length u.instances) (sym r.same))

pub row_in : (blocks : List FlatModule) (m i : ℕ) (rows : List (List JoinedNets)) (row : List JoinedNets) → AreRowsIn blocks m rows →
    i < length (module_in (map module_of blocks) m).instances → row ≡ get_or rows i row →
    IsRow (instance_in (module_in (map module_of blocks) m) i).joins row
row_in blocks m i rows row r lt e =
    let b = r.block in
    let wide : length b.children ≡ length (module_in (map module_of blocks) m).instances =
    sym (length-map b.children instance_of) ∙ ap (λ (u : Module). length u.instances) (sym r.same) in
    let inside : i < length b.children = omega (arith, lt, wide) in
    let c = some_of b.children i inside in
    let instance : instance_in (module_in (map module_of blocks) m) i ≡ instance_of (get_or b.children i c) =
    ap (λ (u : Module). instance_in u i) r.same ∙ get_or-map instance_of b.children i c no_instance inside in
    subst (λ (u : Instance). IsRow u.joins row) (sym instance)
    (subst (λ (u : List JoinedNets). IsChildRow (get_or b.children i c) u) (sym e) (beside_at IsChildRow b.children rows i c row r.are inside))

-- What each table of clauses says.
use Rattle.std.proofs.Common.{◌≡◌, ℕ, suc, ◌+◌, ◌-◌, ◌%◌, Bool, true, false, not, ◌&&◌, ◌||◌, cond, List, [], ◌∷◌, ◌++◌, map, length, refl, sym, ap}
use Rattle.std.proofs.Common.{◌∙◌, arith, nat_eq, subst}
use Rattle.std.specs.Bool.{beq}
use Rattle.std.specs.List.{list_any, list_all}
use Rattle.std.specs.Prelude.{count_by}
use Rattle.std.proofs.lemmas.Bool.{false≢true}
use Rattle.std.proofs.lemmas.List.Sums.{sum_by-cons}
use Rattle.bs_clause.specs.Literal.{Literal, Clause, literal_value}
use Rattle.bs_clause.proofs.Literals.{beq-true}
use Rattle.bs_net.specs.declared.gate.Kind.{Kind}
use Rattle.bs_net.specs.declared.gate.Kind.TheVariants.{And, Nand, Or, Nor, Xor, Xnor, Buf, Not}
use Rattle.bs_net.specs.Gate.{gate_value, is_one, is_odd}
use Rattle.bs_encode.specs.Tables.{lit, all_clauses, any_clauses, same_clauses, differ_clauses, either_clauses, unless_clauses, odd_from, odd_clauses}
use Rattle.bs_encode.specs.Tables.{gate_clauses, helpers_of}
use Rattle.bs_encode.proofs.TidyLemmas.{meets, meets_all}

pub beq-refl : (x : Bool) → beq x x ≡ true
beq-refl true = refl
beq-refl false = refl

pub beq-from : (x y : Bool) → x ≡ y → beq x y ≡ true
beq-from x y e = ap (λ z. beq z y) e ∙ beq-refl y

pub and_true : (a b : Bool) → (a && b) ≡ true → (a ≡ true) × (b ≡ true)
and_true true b h = (refl, h)
and_true false b h = absurd (false≢true h)

pub meets_all-append : (a : ℕ → Bool) (xs ys : List Clause) → meets_all a (xs ++ ys) ≡ (meets_all a xs && meets_all a ys)
meets_all-append a [] ys = refl
meets_all-append a (x ∷ xs) ys = ap (λ b. meets a x && b) (meets_all-append a xs ys) ∙ assoc (meets a x) (meets_all a xs) (meets_all a ys)
  where
    assoc : (x y z : Bool) → (x && (y && z)) ≡ ((x && y) && z)
    assoc true y z = refl
    assoc false y z = refl

-- ---- all, any

-- a clause (p, i) for each input
each_all : (a : ℕ → Bool) (l : Literal) (ins : List ℕ) → meets_all a (map (λ i. l ∷ lit i true ∷ []) ins) ≡ (literal_value a l || list_all is_one (map a ins))
each_all a l [] = or_true (literal_value a l)
  where
    or_true : (x : Bool) → true ≡ (x || true)
    or_true true = refl
    or_true false = refl
each_all a l (i ∷ ins) = ap (λ b. (literal_value a l || (beq (a i) true || false)) && b) (each_all a l ins) ∙ join (literal_value a l) (a i) _
  where
    join : (x y z : Bool) → ((x || (beq y true || false)) && (x || z)) ≡ (x || (y && z))
    join true y z = refl
    join false true z = refl
    join false false z = refl

each_none : (a : ℕ → Bool) (l : Literal) (ins : List ℕ) →
    meets_all a (map (λ i. l ∷ lit i false ∷ []) ins) ≡ (literal_value a l || not (list_any is_one (map a ins)))
each_none a l [] = or_true (literal_value a l)
  where
    or_true : (x : Bool) → true ≡ (x || true)
    or_true true = refl
    or_true false = refl
each_none a l (i ∷ ins) = ap (λ b. (literal_value a l || (beq (a i) false || false)) && b) (each_none a l ins) ∙ join (literal_value a l) (a i) _
  where
    join : (x y z : Bool) → ((x || (beq y false || false)) && (x || not z)) ≡ (x || not (y || z))
    join true y z = refl
    join false true z = refl
    join false false z = refl

some_false : (a : ℕ → Bool) (ins : List ℕ) → meets a (map (λ i. lit i false) ins) ≡ not (list_all is_one (map a ins))
some_false a [] = refl
some_false a (i ∷ ins) = ap (λ b. beq (a i) false || b) (some_false a ins) ∙ join (a i) _
  where
    join : (x z : Bool) → (beq x false || not z) ≡ not (x && z)
    join true z = refl
    join false z = refl

some_true : (a : ℕ → Bool) (ins : List ℕ) → meets a (map (λ i. lit i true) ins) ≡ list_any is_one (map a ins)
some_true a [] = refl
some_true a (i ∷ ins) = ap (λ b. beq (a i) true || b) (some_true a ins) ∙ join (a i) _
  where
    join : (x z : Bool) → (beq x true || z) ≡ (x || z)
    join true z = refl
    join false z = refl

pub all_means : (a : ℕ → Bool) (p : Bool) (z : ℕ) (ins : List ℕ) → meets_all a (all_clauses p z ins) ≡ beq (a z) (beq p (list_all is_one (map a ins)))
all_means a p z ins =
    meets_all-append a (map (λ i. lit z (not p) ∷ lit i true ∷ []) ins) ((lit z p ∷ map (λ i. lit i false) ins) ∷ [])
    ∙ (ap (λ b. b && ((beq (a z) p || meets a (map (λ i. lit i false) ins)) && true)) (each_all a (lit z (not p)) ins)
    ∙ (ap (λ b. (beq (a z) (not p) || list_all is_one (map a ins)) && ((beq (a z) p || b) && true)) (some_false a ins)
    ∙ table (a z) p (list_all is_one (map a ins))))
  where
    table : (z p x : Bool) → ((beq z (not p) || x) && ((beq z p || not x) && true)) ≡ beq z (beq p x)
    table true true true = refl
    table true true false = refl
    table true false true = refl
    table true false false = refl
    table false true true = refl
    table false true false = refl
    table false false true = refl
    table false false false = refl

pub any_means : (a : ℕ → Bool) (p : Bool) (z : ℕ) (ins : List ℕ) → meets_all a (any_clauses p z ins) ≡ beq (a z) (beq p (list_any is_one (map a ins)))
any_means a p z ins =
    meets_all-append a (map (λ i. lit z p ∷ lit i false ∷ []) ins) ((lit z (not p) ∷ map (λ i. lit i true) ins) ∷ [])
    ∙ (ap (λ b. b && ((beq (a z) (not p) || meets a (map (λ i. lit i true) ins)) && true)) (each_none a (lit z p) ins)
    ∙ (ap (λ b. (beq (a z) p || not (list_any is_one (map a ins))) && ((beq (a z) (not p) || b) && true)) (some_true a ins)
    ∙ table (a z) p (list_any is_one (map a ins))))
  where
    table : (z p x : Bool) → ((beq z p || not x) && ((beq z (not p) || x) && true)) ≡ beq z (beq p x)
    table true true true = refl
    table true true false = refl
    table true false true = refl
    table true false false = refl
    table false true true = refl
    table false true false = refl
    table false false true = refl
    table false false false = refl

-- ---- same, differ

pub same_means : (a : ℕ → Bool) (p : Bool) (z i : ℕ) → meets_all a (same_clauses p z i) ≡ beq (a z) (beq p (a i))
same_means a p z i = table (a z) p (a i)
  where
    table : (z p x : Bool) → ((beq z false || (beq x p || false)) && ((beq z true || (beq x (not p) || false)) && true)) ≡ beq z (beq p x)
    table true true true = refl
    table true true false = refl
    table true false true = refl
    table true false false = refl
    table false true true = refl
    table false true false = refl
    table false false true = refl
    table false false false = refl

pub differ_means : (a : ℕ → Bool) (p : Bool) (z i j : ℕ) → meets_all a (differ_clauses p z i j) ≡ beq (a z) (beq p (not (beq (a i) (a j))))
differ_means a p z i j = table (a z) p (a i) (a j)
  where
    table : (z p x y : Bool) →
        ((beq z (not p) || (beq x true || (beq y true || false)))
        && ((beq z (not p) || (beq x false || (beq y false || false)))
        && ((beq z p || (beq x false || (beq y true || false)))
        && ((beq z p || (beq x true || (beq y false || false))) && true)))) ≡ beq z (beq p (not (beq x y)))
    table true true true true = refl
    table true true true false = refl
    table true true false true = refl
    table true true false false = refl
    table true false true true = refl
    table true false true false = refl
    table true false false true = refl
    table true false false false = refl
    table false true true true = refl
    table false true true false = refl
    table false true false true = refl
    table false true false false = refl
    table false false true true = refl
    table false false true false = refl
    table false false false true = refl
    table false false false false = refl

-- ---- either, unless

pub either_means : (a : ℕ → Bool) (z on i j : ℕ) → meets_all a (either_clauses z on i j) ≡ beq (a z) (cond (a on) (a i) (a j))
either_means a z on i j = table (a z) (a on) (a i) (a j)
  where
    table : (z c x y : Bool) →
        ((beq z false || (beq c false || (beq x true || false)))
        && ((beq z true || (beq c false || (beq x false || false)))
        && ((beq z false || (beq c true || (beq y true || false)))
        && ((beq z true || (beq c true || (beq y false || false))) && true)))) ≡ beq z (cond c x y)
    table true true true true = refl
    table true true true false = refl
    table true true false true = refl
    table true true false false = refl
    table true false true true = refl
    table true false true false = refl
    table true false false true = refl
    table true false false false = refl
    table false true true true = refl
    table false true true false = refl
    table false true false true = refl
    table false true false false = refl
    table false false true true = refl
    table false false true false = refl
    table false false false true = refl
    table false false false false = refl

pub unless_means : (a : ℕ → Bool) (z off i : ℕ) → meets_all a (unless_clauses z off i) ≡ beq (a z) (cond (a off) false (a i))
unless_means a z off i = table (a z) (a off) (a i)
  where
    table : (z c x : Bool) →
        ((beq z false || (beq x true || false))
        && ((beq z false || (beq c false || false)) && ((beq z true || (beq x false || (beq c true || false))) && true))) ≡ beq z (cond c false x)
    table true true true = refl
    table true true false = refl
    table true false true = refl
    table true false false = refl
    table false true true = refl
    table false true false = refl
    table false false true = refl
    table false false false = refl

-- ---- an odd number

-- whether an odd number of the bits are 1
abbrev pub parity : List Bool → Bool
parity [] = false
parity (b ∷ bs) = not (beq b (parity bs))

pub is_odd-parity : (bits : List Bool) → is_odd bits ≡ parity bits
is_odd-parity [] = refl
is_odd-parity (true ∷ bits) = ap (λ n. nat_eq (n % 2) 1) (sum_by-cons (λ (b : Bool). cond (is_one b) 1 0) true bits) ∙ one_more (count_by is_one bits)
    ∙ ap not (is_odd-parity bits) ∙ flip (parity bits)
  where
    one_more : (n : ℕ) → nat_eq ((1 + n) % 2) 1 ≡ not (nat_eq (n % 2) 1)
    one_more n = grind arith

    flip : (b : Bool) → not b ≡ not (beq true b)
    flip true = refl
    flip false = refl
is_odd-parity (false ∷ bits) =
    ap (λ n. nat_eq (n % 2) 1) (sum_by-cons (λ (b : Bool). cond (is_one b) 1 0) false bits) ∙ no_more (count_by is_one bits) ∙ is_odd-parity bits
    ∙ flip (parity bits)
  where
    no_more : (n : ℕ) → nat_eq ((0 + n) % 2) 1 ≡ nat_eq (n % 2) 1
    no_more n = grind arith

    flip : (b : Bool) → b ≡ not (beq false b)
    flip true = refl
    flip false = refl

-- two bits count as their difference
parity-two : (x y : Bool) (bits : List Bool) → parity (x ∷ y ∷ bits) ≡ parity (not (beq x y) ∷ bits)
parity-two x y bits = table x y (parity bits)
  where
    table : (x y q : Bool) → not (beq x (not (beq y q))) ≡ not (beq (not (beq x y)) q)
    table true true true = refl
    table true true false = refl
    table true false true = refl
    table true false false = refl
    table false true true = refl
    table false true false = refl
    table false false true = refl
    table false false false = refl

parity-one : (x : Bool) → x ≡ parity (x ∷ [])
parity-one true = refl
parity-one false = refl

-- a row of variables, from h on, has these values
abbrev pub Has : (ℕ → Bool) → ℕ → List Bool → Type 0
Has a h [] = Unit {0}
Has a h (b ∷ bs) = (a h ≡ b) × Has a (h + 1) bs

pub has_left : (a : ℕ → Bool) (h : ℕ) (xs ys : List Bool) → Has a h (xs ++ ys) → Has a h xs
has_left a h [] ys k = tt
has_left a h (x ∷ xs) ys k = (k.0, has_left a (h + 1) xs ys k.1)

pub has_right : (a : ℕ → Bool) (h : ℕ) (xs ys : List Bool) → Has a h (xs ++ ys) → Has a (h + length xs) ys
has_right a h [] ys k = let e : h ≡ h + 0 = omega arith in let P : ℕ → Type 0 = λ n. Has a n ys in subst P e k
has_right a h (x ∷ xs) ys k =
    let e : (h + 1) + length xs ≡ h + suc (length xs) = omega arith in
    let P : ℕ → Type 0 = λ n. Has a n ys in subst P e (has_right a (h + 1) xs ys k.1)

-- what the helpers show
abbrev pub partials : Bool → List Bool → List Bool
partials x [] = []
partials x (b ∷ []) = []
partials x (b ∷ e ∷ rest) = not (beq x b) ∷ partials (not (beq x b)) (e ∷ rest)

abbrev pub helper_bits : List Bool → List Bool
helper_bits [] = []
helper_bits (b ∷ bs) = partials b bs

pub length-partials : (x : Bool) (bs : List Bool) → length (partials x bs) ≡ length bs - 1
length-partials x [] = refl
length-partials x (b ∷ []) = refl
length-partials x (b ∷ e ∷ rest) = ap suc (length-partials (not (beq x b)) (e ∷ rest)) ∙ omega arith

pub odd_from-sound : (a : ℕ → Bool) (p : Bool) (h z i : ℕ) (rest : List ℕ) → meets_all a (odd_from p h z i rest) ≡ true →
    a z ≡ beq p (parity (a i ∷ map a rest))
odd_from-sound a p h z i [] m = beq-true _ _ (sym (same_means a p z i) ∙ m) ∙ ap (beq p) (parity-one (a i))
odd_from-sound a p h z i (j ∷ []) m =
    beq-true _ _ (sym (differ_means a p z i j) ∙ m) ∙ ap (beq p) (parity-one (not (beq (a i) (a j))) ∙ sym (parity-two (a i) (a j) []))
odd_from-sound a p h z i (j ∷ e ∷ rest) m =
    let parts : (meets_all a (differ_clauses true h i j) ≡ true) × (meets_all a (odd_from p (h + 1) z h (e ∷ rest)) ≡ true) =
    and_true _ _ (sym (meets_all-append a (differ_clauses true h i j) (odd_from p (h + 1) z h (e ∷ rest))) ∙ m) in
    let helper : a h ≡ beq true (not (beq (a i) (a j))) = beq-true _ _ (sym (differ_means a true h i j) ∙ parts.0) in
    odd_from-sound a p (h + 1) z h (e ∷ rest) parts.1
    ∙ ap (beq p) (ap (λ b. parity (b ∷ map a (e ∷ rest))) (helper ∙ true_is _) ∙ sym (parity-two (a i) (a j) (map a (e ∷ rest))))
  where
    true_is : (b : Bool) → beq true b ≡ b
    true_is true = refl
    true_is false = refl

pub odd_from-complete : (a : ℕ → Bool) (p : Bool) (h z i : ℕ) (rest : List ℕ) → Has a h (partials (a i) (map a rest)) →
    a z ≡ beq p (parity (a i ∷ map a rest)) → meets_all a (odd_from p h z i rest) ≡ true
odd_from-complete a p h z i [] k e = same_means a p z i ∙ beq-from _ _ (e ∙ ap (beq p) (sym (parity-one (a i))))
odd_from-complete a p h z i (j ∷ []) k e =
    differ_means a p z i j ∙ beq-from _ _ (e ∙ ap (beq p) (parity-two (a i) (a j) [] ∙ sym (parity-one (not (beq (a i) (a j))))))
odd_from-complete a p h z i (j ∷ e ∷ rest) k v =
    let first : meets_all a (differ_clauses true h i j) ≡ true = differ_means a true h i j ∙ beq-from _ _ (k.0 ∙ true_is _) in
    let P : Bool → Type 0 = λ b. Has a (h + 1) (partials b (map a (e ∷ rest))) in
    let later : meets_all a (odd_from p (h + 1) z h (e ∷ rest)) ≡ true =
    odd_from-complete a p (h + 1) z h (e ∷ rest) (subst P (sym k.0) k.1)
    (v ∙ ap (beq p) (parity-two (a i) (a j) (map a (e ∷ rest)) ∙ ap (λ b. parity (b ∷ map a (e ∷ rest))) (sym k.0))) in
    meets_all-append a (differ_clauses true h i j) (odd_from p (h + 1) z h (e ∷ rest))
    ∙ (ap (λ b. b && meets_all a (odd_from p (h + 1) z h (e ∷ rest))) first ∙ later)
  where
    true_is : (b : Bool) → b ≡ beq true b
    true_is true = refl
    true_is false = refl

pub odd-sound : (a : ℕ → Bool) (p : Bool) (h z : ℕ) (ins : List ℕ) → meets_all a (odd_clauses p h z ins) ≡ true → a z ≡ beq p (is_odd (map a ins))
odd-sound a p h z [] m = unit (a z) p m ∙ ap (beq p) (sym (is_odd-parity []))
  where
    unit : (z p : Bool) → ((beq z (not p) || false) && true) ≡ true → z ≡ beq p false
    unit true true m = sym m
    unit true false m = refl
    unit false true m = refl
    unit false false m = m
odd-sound a p h z (i ∷ rest) m = odd_from-sound a p h z i rest m ∙ ap (beq p) (sym (is_odd-parity (map a (i ∷ rest))))

pub odd-complete : (a : ℕ → Bool) (p : Bool) (h z : ℕ) (ins : List ℕ) → Has a h (helper_bits (map a ins)) → a z ≡ beq p (is_odd (map a ins)) →
    meets_all a (odd_clauses p h z ins) ≡ true
odd-complete a p h z [] k e = unit (a z) p (e ∙ ap (beq p) (is_odd-parity []))
  where
    unit : (z p : Bool) → z ≡ beq p false → ((beq z (not p) || false) && true) ≡ true
    unit true true e = sym e
    unit true false e = refl
    unit false true e = refl
    unit false false e = e
odd-complete a p h z (i ∷ rest) k e = odd_from-complete a p h z i rest k (e ∙ ap (beq p) (is_odd-parity (map a (i ∷ rest))))

-- ---- gates

-- the value of the first
first_bit : Bool → List Bool → Bool
first_bit p [] = beq p false
first_bit p (b ∷ bs) = beq p b

pub gate-sound : (a : ℕ → Bool) (k : Kind) (h z : ℕ) (ins : List ℕ) → meets_all a (gate_clauses k h z ins) ≡ true → a z ≡ gate_value k (map a ins)
gate-sound a And h z ins m = beq-true _ _ (sym (all_means a true z ins) ∙ m) ∙ yes _
  where
    yes : (b : Bool) → beq true b ≡ b
    yes true = refl
    yes false = refl
gate-sound a Nand h z ins m = beq-true _ _ (sym (all_means a false z ins) ∙ m) ∙ inverse _
  where
    inverse : (b : Bool) → beq false b ≡ not b
    inverse true = refl
    inverse false = refl
gate-sound a Or h z ins m = beq-true _ _ (sym (any_means a true z ins) ∙ m) ∙ yes _
  where
    yes : (b : Bool) → beq true b ≡ b
    yes true = refl
    yes false = refl
gate-sound a Nor h z ins m = beq-true _ _ (sym (any_means a false z ins) ∙ m) ∙ inverse _
  where
    inverse : (b : Bool) → beq false b ≡ not b
    inverse true = refl
    inverse false = refl
gate-sound a Xor h z ins m = odd-sound a true h z ins m ∙ yes _
  where
    yes : (b : Bool) → beq true b ≡ b
    yes true = refl
    yes false = refl
gate-sound a Xnor h z ins m = odd-sound a false h z ins m ∙ inverse _
  where
    inverse : (b : Bool) → beq false b ≡ not b
    inverse true = refl
    inverse false = refl
gate-sound a Buf h z [] m = unit (a z) m
  where
    unit : (z : Bool) → ((beq z false || false) && true) ≡ true → z ≡ false
    unit true m = sym m
    unit false m = refl
gate-sound a Buf h z (i ∷ ins) m = beq-true _ _ (sym (same_means a true z i) ∙ m) ∙ yes _
  where
    yes : (b : Bool) → beq true b ≡ b
    yes true = refl
    yes false = refl
gate-sound a Not h z [] m = unit (a z) m
  where
    unit : (z : Bool) → ((beq z true || false) && true) ≡ true → z ≡ true
    unit true m = refl
    unit false m = m
gate-sound a Not h z (i ∷ ins) m = beq-true _ _ (sym (same_means a false z i) ∙ m) ∙ inverse _
  where
    inverse : (b : Bool) → beq false b ≡ not b
    inverse true = refl
    inverse false = refl

-- what a gate's helpers show
abbrev pub gate_bits : Kind → List Bool → List Bool
gate_bits Xor bits = helper_bits bits
gate_bits Xnor bits = helper_bits bits
gate_bits _ bits = []

yes : (b : Bool) → b ≡ beq true b
yes true = refl
yes false = refl

inverse : (b : Bool) → not b ≡ beq false b
inverse true = refl
inverse false = refl

pub gate-complete : (a : ℕ → Bool) (k : Kind) (h z : ℕ) (ins : List ℕ) → Has a h (gate_bits k (map a ins)) → a z ≡ gate_value k (map a ins) →
    meets_all a (gate_clauses k h z ins) ≡ true
gate-complete a And h z ins k e = all_means a true z ins ∙ beq-from _ _ (e ∙ yes _)
gate-complete a Nand h z ins k e = all_means a false z ins ∙ beq-from _ _ (e ∙ inverse _)
gate-complete a Or h z ins k e = any_means a true z ins ∙ beq-from _ _ (e ∙ yes _)
gate-complete a Nor h z ins k e = any_means a false z ins ∙ beq-from _ _ (e ∙ inverse _)
gate-complete a Xor h z ins k e = odd-complete a true h z ins k (e ∙ yes _)
gate-complete a Xnor h z ins k e = odd-complete a false h z ins k (e ∙ inverse _)
gate-complete a Buf h z [] k e = ap (λ b. (beq b false || false) && true) e
gate-complete a Buf h z (i ∷ ins) k e = same_means a true z i ∙ beq-from _ _ (e ∙ yes _)
gate-complete a Not h z [] k e = ap (λ b. (beq b true || false) && true) e
gate-complete a Not h z (i ∷ ins) k e = same_means a false z i ∙ beq-from _ _ (e ∙ inverse _)

pub length-helper_bits : (bits : List Bool) → length (helper_bits bits) ≡ length bits - 2
length-helper_bits [] = refl
length-helper_bits (b ∷ bs) = length-partials b bs ∙ omega arith

pub length-gate_bits : (k : Kind) (bits : List Bool) → length (gate_bits k bits) ≡ helpers_of k (length bits)
length-gate_bits And bits = refl
length-gate_bits Nand bits = refl
length-gate_bits Or bits = refl
length-gate_bits Nor bits = refl
length-gate_bits Xor bits = length-helper_bits bits
length-gate_bits Xnor bits = length-helper_bits bits
length-gate_bits Buf bits = refl
length-gate_bits Not bits = refl

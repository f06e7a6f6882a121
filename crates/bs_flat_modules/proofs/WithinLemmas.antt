-- Own texts one after another, as a loop reads them, while there is room for their nets.
use Rattle.std.proofs.Common.{◌≡◌, ℕ, suc, ◌+◌, ◌-◌, ◌<◌, ◌≤◌, Bool, true, false, List, [], ◌∷◌, ◌++◌, length, map, drop, get_or, Result}
use Rattle.std.proofs.Common.{Ok, Err, refl, sym, ap, subst, ◌∙◌, append_assoc, inl, inr, ◌⊎◌, arith}
use Rattle.std.specs.Prelude.{nat_lt}
use Rattle.std.specs.List.{All}
use Rattle.std.proofs.lemmas.Bool.{false≢true, le-ltb, lt-ltb}
use Rattle.std.proofs.lemmas.List.{drop_more, drop_all, append-nil, map-append}
use Rattle.bs_net.specs.Parts.{Parts}
use Rattle.bs_verilog_syntax.specs.declared.tree.Module.{Module}
use Rattle.bs_flat_meaning.specs.declared.fault.FlatFault.{FlatFault}
use Rattle.bs_flat_meaning.specs.declared.fault.FlatFault.TheVariants.{NoMemory, OwnNets}
use Rattle.bs_flat_meaning.specs.declared.limits.TheConstants.{MAX_OWN_NETS}
use Rattle.bs_flat_meaning.specs.Reading.{◌then◌, fitting, owns_within}
use Rattle.bs_flat_modules.specs.declared.owns.Own.{Own}
use Rattle.bs_flat_modules.specs.Owns.{module_and_parts}

abbrev Said : Type 0
Said = Module × Parts

abbrev AllSaid : Type 0
AllSaid = Result (List Said) FlatFault

abbrev nets_of : Said → ℕ
nets_of own = length own.1.names

-- what was read before, and what is still read
abbrev pub behind : List Said → AllSaid → AllSaid
behind front r = r then (λ ys. Ok (front ++ ys))

-- what is read so far, and of those from a place on with the room that is left, is all
pub record IsWithin {A : Type 0} (place : A → ℕ) (f : A → Result Said FlatFault) (front : List Said) (room at : ℕ) (xs : List A) : Type 0 where
  pub so_far : behind front (owns_within place f room (drop at xs)) ≡ owns_within place f MAX_OWN_NETS xs

nothing_before : (r : AllSaid) → behind [] r ≡ r
nothing_before (Ok ys) = refl
nothing_before (Err e) = refl

pub within_start : {A : Type 0} (place : A → ℕ) (f : A → Result Said FlatFault) (xs : List A) → IsWithin place f [] MAX_OWN_NETS 0 xs
within_start place f xs = record { so_far = nothing_before (owns_within place f MAX_OWN_NETS xs) }

-- what is read behind one
abbrev later : {A : Type 0} → (A → ℕ) → (A → Result Said FlatFault) → ℕ → List A → Said → AllSaid
later place f room xs y = owns_within place f (room - nets_of y) xs then (λ ys. Ok (y ∷ ys))

abbrev one_more : {A : Type 0} → (A → ℕ) → (A → Result Said FlatFault) → ℕ → A → List A → Said → AllSaid
one_more place f room x xs y = fitting (nat_lt room (nets_of y)) (place x) (later place f room xs y)

within_is : {A : Type 0} (place : A → ℕ) (f : A → Result Said FlatFault) (room : ℕ) (x : A) (xs : List A)
    → owns_within place f room (x ∷ xs) ≡ (f x then one_more place f room x xs)
unfolding owns_within
within_is place f room x xs = refl

regroup : (front : List Said) (y : Said) (r : AllSaid) → behind front (r then (λ ys. Ok (y ∷ ys))) ≡ behind (front ++ y ∷ []) r
regroup front y (Ok ys) = ap (λ (zs : List Said). Ok zs) (sym (append_assoc front (y ∷ []) ys))
regroup front y (Err e) = refl

-- the next is read
step : {A : Type 0} (place : A → ℕ) (f : A → Result Said FlatFault) (room at : ℕ) (xs : List A) (d : A) (y : Said) → at < length xs
    → f (get_or xs at d) ≡ Ok y → owns_within place f room (drop at xs) ≡ one_more place f room (get_or xs at d) (drop (at + 1) xs) y
step place f room at xs d y h reads =
    ap (owns_within place f room) (drop_more xs at d h) ∙ within_is place f room (get_or xs at d) (drop (at + 1) xs)
    ∙ ap (λ (r : Result Said FlatFault). r then one_more place f room (get_or xs at d) (drop (at + 1) xs)) reads

pub within_on : {A : Type 0} (place : A → ℕ) (f : A → Result Said FlatFault) (front : List Said) (room at : ℕ) (xs : List A) (d : A) (y : Said)
    → at < length xs → f (get_or xs at d) ≡ Ok y → nets_of y ≤ room → IsWithin place f front room at xs
    → IsWithin place f (front ++ y ∷ []) (room - nets_of y) (at + 1) xs
within_on place f front room at xs d y h reads few so =
    let x = get_or xs at d in
    let next : owns_within place f room (drop at xs) ≡ later place f room (drop (at + 1) xs) y =
    step place f room at xs d y h reads
    ∙ ap (λ (b : Bool). fitting b (place x) (later place f room (drop (at + 1) xs) y)) (le-ltb room (nets_of y) few) in
    record { so_far = sym (regroup front y (owns_within place f (room - nets_of y) (drop (at + 1) xs))) ∙ ap (behind front) (sym next) ∙ so.so_far }

pub within_fault : {A : Type 0} (place : A → ℕ) (f : A → Result Said FlatFault) (front : List Said) (room at : ℕ) (xs : List A) (d : A) (fault : FlatFault)
    → at < length xs → (fault ≡ NoMemory) ⊎ (f (get_or xs at d) ≡ Err fault) → IsWithin place f front room at xs
    → (fault ≡ NoMemory) ⊎ (owns_within place f MAX_OWN_NETS xs ≡ Err fault)
within_fault place f front room at xs d fault h (inl memory) so = inl memory
within_fault place f front room at xs d fault h (inr reads) so =
    let x = get_or xs at d in
    inr (sym so.so_far ∙ ap (behind front)
    (ap (owns_within place f room) (drop_more xs at d h) ∙ within_is place f room x (drop (at + 1) xs)
    ∙ ap (λ (r : Result Said FlatFault). r then one_more place f room x (drop (at + 1) xs)) reads))

pub within_past : {A : Type 0} (place : A → ℕ) (f : A → Result Said FlatFault) (front : List Said) (room at : ℕ) (xs : List A) (d : A) (y : Said)
    (fault : FlatFault) → at < length xs → f (get_or xs at d) ≡ Ok y → room < nets_of y → fault ≡ OwnNets (place (get_or xs at d))
    → IsWithin place f front room at xs → (fault ≡ NoMemory) ⊎ (owns_within place f MAX_OWN_NETS xs ≡ Err fault)
within_past place f front room at xs d y fault h reads many is so =
    let x = get_or xs at d in
    let past : owns_within place f room (drop at xs) ≡ Err (OwnNets (place x)) =
    step place f room at xs d y h reads
    ∙ ap (λ (b : Bool). fitting b (place x) (later place f room (drop (at + 1) xs) y)) (lt-ltb room (nets_of y) many) in
    inr (sym so.so_far ∙ ap (behind front) past ∙ ap (λ (e : FlatFault). Err e) (sym is))

pub within_end : {A : Type 0} (place : A → ℕ) (f : A → Result Said FlatFault) (front : List Said) (room at : ℕ) (xs : List A) → length xs ≤ at
    → IsWithin place f front room at xs → owns_within place f MAX_OWN_NETS xs ≡ Ok front
unfolding owns_within
within_end {A} place f front room at xs h so =
    sym so.so_far ∙ ap (λ (ys : List A). behind front (owns_within place f room ys)) (drop_all at xs h) ∙ ap (λ (zs : List Said). Ok zs) (append-nil front)

-- the same with modules as they are kept
pub within_own : {A : Type 0} (place : A → ℕ) (f : A → Result Said FlatFault) (owns after : List Own) (room count at : ℕ) (xs : List A) (d : A) (read own : Own)
    → at < length xs → f (get_or xs at d) ≡ Ok (module_and_parts read) → own ≡ read → length read.parts.names ≤ room → after ≡ owns ++ own ∷ []
    → count ≡ length own.parts.names → IsWithin place f (map module_and_parts owns) room at xs
    → IsWithin place f (map module_and_parts after) (room - count) (at + 1) xs
within_own place f owns after room count at xs d read own h reads same few made counted so =
    let nets : nets_of (module_and_parts read) ≡ count = ap (λ (o : Own). length o.parts.names) (sym same) ∙ sym counted in
    let front : map module_and_parts owns ++ module_and_parts read ∷ [] ≡ map module_and_parts after =
    ap (λ (o : Own). map module_and_parts owns ++ module_and_parts o ∷ []) (sym same)
    ∙ sym (ap (map module_and_parts) made ∙ map-append module_and_parts owns (own ∷ [])) in
    subst (λ (n : ℕ). IsWithin place f (map module_and_parts after) (room - n) (at + 1) xs) nets
    (subst (λ (ys : List Said). IsWithin place f ys (room - nets_of (module_and_parts read)) (at + 1) xs) front
    (within_on place f (map module_and_parts owns) room at xs d (module_and_parts read) h reads few so))

-- the same of what stands at each place
pub within_each : {A B : Type 0} (place : B → ℕ) (g : B → Result Said FlatFault) (view : A → B) (f : A → Result Said FlatFault) (room : ℕ) (xs : List A)
    → All (λ x. g (view x) ≡ f x) xs → owns_within place g room (map view xs) ≡ owns_within (λ x. place (view x)) f room xs
unfolding owns_within
within_each place g view f room [] same = refl
within_each place g view f room (x ∷ xs) same =
    ap (λ (r : Result Said FlatFault). r then one_more place g room (view x) (map view xs)) (same 0 x (omega arith))
    ∙ ap (λ (on : Said → AllSaid). f x then on)
    (λ j y. fitting (nat_lt room (nets_of y)) (place (view x))
    (within_each place g view f (room - nets_of y) xs (λ k d lt. same (suc k) d (omega arith)) j then (λ ys. Ok (y ∷ ys))))

-- as many are read as there are
abbrev is_ok : AllSaid → Bool
is_ok (Ok ys) = true
is_ok (Err e) = false

abbrev count_or : AllSaid → ℕ
count_or (Ok ys) = length ys
count_or (Err e) = 0

more_count : (b : Bool) (place n : ℕ) (y : Said) (r : AllSaid) (zs : List Said) → fitting b place (r then (λ ys. Ok (y ∷ ys))) ≡ Ok zs
    → ((ys : List Said) → r ≡ Ok ys → length ys ≡ n) → length zs ≡ n + 1
more_count true place n y r zs e rest = absurd (false≢true (ap is_ok e))
more_count false place n y (Err fault) zs e rest = absurd (false≢true (ap is_ok e))
more_count false place n y (Ok ys) zs e rest =
    let same : length (y ∷ ys) ≡ length zs = ap count_or e in
    let less = rest ys refl in
    omega (arith, same, less)

step_count : {A : Type 0} (place : A → ℕ) (f : A → Result Said FlatFault) (room : ℕ) (x : A) (xs : List A) (r : Result Said FlatFault) (n : ℕ) (zs : List Said)
    → (r then one_more place f room x xs) ≡ Ok zs
    → ((y : Said) (ys : List Said) → owns_within place f (room - nets_of y) xs ≡ Ok ys → length ys ≡ n) → length zs ≡ n + 1
step_count place f room x xs (Err fault) n zs e rest = absurd (false≢true (ap is_ok e))
step_count place f room x xs (Ok y) n zs e rest =
    more_count (nat_lt room (nets_of y)) (place x) n y (owns_within place f (room - nets_of y) xs) zs e (rest y)

pub within_count : {A : Type 0} (place : A → ℕ) (f : A → Result Said FlatFault) (room : ℕ) (xs : List A) (ys : List Said)
    → owns_within place f room xs ≡ Ok ys → length ys ≡ length xs
unfolding owns_within
within_count place f room [] ys e = sym (ap count_or e)
within_count place f room (x ∷ xs) ys e =
    let all = step_count place f room x xs (f x) (length xs) ys e (λ y zs q. within_count place f (room - nets_of y) xs zs q) in
    omega (arith, all)

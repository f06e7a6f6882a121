-- One after another, as a loop reads.
use Rattle.std.proofs.Common.{◌≡◌, ℕ, ◌+◌, ◌<◌, ◌≤◌, List, [], ◌∷◌, ◌++◌, length, map, drop, get_or, Result}
use Rattle.std.proofs.Common.{Ok, Err, refl, sym, ap, ◌∙◌, append_assoc, inl, inr, ◌⊎◌}
use Rattle.std.proofs.lemmas.List.{drop_more, drop_all, append-nil, map-append}
use Rattle.bs_bits.specs.Reading.{◌>>=◌}
use Rattle.bs_verilog_syntax.specs.declared.fault.VerilogFault.{VerilogFault}
use Rattle.bs_verilog_syntax.specs.declared.fault.VerilogFault.TheVariants.{NoMemory}
use Rattle.bs_flat_modules.specs.Owns.{each_of}

-- what was read before, and what is still read
abbrev pub behind : {B : Type 0} → List B → Result (List B) VerilogFault → Result (List B) VerilogFault
behind front r = r >>= λ ys. Ok (front ++ ys)

-- what is read so far, and of those from a place on, is all
pub record IsEach {A B : Type 0} (f : A → Result B VerilogFault) (front : List B) (at : ℕ) (xs : List A) : Type 0 where
  pub so_far : behind front (each_of f (drop at xs)) ≡ each_of f xs

nothing_before : {B : Type 0} (r : Result (List B) VerilogFault) → behind [] r ≡ r
nothing_before (Ok ys) = refl
nothing_before (Err e) = refl

pub each_start : {A B : Type 0} (f : A → Result B VerilogFault) (xs : List A) → IsEach f [] 0 xs
each_start f xs = record { so_far = nothing_before (each_of f xs) }

each_is : {A B : Type 0} (f : A → Result B VerilogFault) (x : A) (xs : List A)
    → each_of f (x ∷ xs) ≡ (f x >>= λ y. each_of f xs >>= λ ys. Ok (y ∷ ys))
unfolding each_of
each_is f x xs = refl

regroup : {B : Type 0} (front : List B) (y : B) (r : Result (List B) VerilogFault)
    → behind front (r >>= λ ys. Ok (y ∷ ys)) ≡ behind (front ++ y ∷ []) r
regroup {B = B} front y (Ok ys) = ap (λ (zs : List B). Ok zs) (sym (append_assoc front (y ∷ []) ys))
regroup front y (Err e) = refl

pub each_on : {A B : Type 0} (f : A → Result B VerilogFault) (front : List B) (at : ℕ) (xs : List A) (d : A) (y : B) → at < length xs
    → f (get_or xs at d) ≡ Ok y → IsEach f front at xs → IsEach f (front ++ y ∷ []) (at + 1) xs
each_on {B = B} f front at xs d y h reads so =
    let x = get_or xs at d in
    let later = each_of f (drop (at + 1) xs) in
    let next : each_of f (drop at xs) ≡ (later >>= λ ys. Ok (y ∷ ys)) =
    ap (each_of f) (drop_more xs at d h) ∙ each_is f x (drop (at + 1) xs)
    ∙ ap (λ (r : Result B VerilogFault). r >>= λ z. later >>= λ ys. Ok (z ∷ ys)) reads in
    record { so_far = sym (regroup front y later) ∙ ap (behind front) (sym next) ∙ so.so_far }

pub each_fault : {A B : Type 0} (f : A → Result B VerilogFault) (front : List B) (at : ℕ) (xs : List A) (d : A) (fault : VerilogFault) → at < length xs
    → (fault ≡ NoMemory) ⊎ (f (get_or xs at d) ≡ Err fault) → IsEach f front at xs → (fault ≡ NoMemory) ⊎ (each_of f xs ≡ Err fault)
each_fault f front at xs d fault h (inl memory) so = inl memory
each_fault {B = B} f front at xs d fault h (inr reads) so =
    let x = get_or xs at d in
    let later = each_of f (drop (at + 1) xs) in
    inr (sym so.so_far ∙ ap (behind front)
    (ap (each_of f) (drop_more xs at d h) ∙ each_is f x (drop (at + 1) xs)
    ∙ ap (λ (r : Result B VerilogFault). r >>= λ z. later >>= λ ys. Ok (z ∷ ys)) reads))

pub each_end : {A B : Type 0} (f : A → Result B VerilogFault) (front : List B) (at : ℕ) (xs : List A) → length xs ≤ at → IsEach f front at xs
    → each_of f xs ≡ Ok front
unfolding each_of
each_end {B = B} f front at xs h so =
    sym so.so_far ∙ ap (λ ys. behind front (each_of f ys)) (drop_all at xs h) ∙ ap (λ (zs : List B). Ok zs) (append-nil front)

-- the same with what is read module_and_parts by a view
pub each_seen : {A B C : Type 0} (f : A → Result C VerilogFault) (view : B → C) (front : List B) (at : ℕ) (xs : List A) (d : A) (y : B) → at < length xs
    → f (get_or xs at d) ≡ Ok (view y) → IsEach f (map view front) at xs → IsEach f (map view (front ++ y ∷ [])) (at + 1) xs
each_seen f view front at xs d y h reads so = rw map-append (each_on f (map view front) at xs d (view y) h reads so)

-- the same of what stands at each place
pub each_on_at : {A R B : Type 0} (f : R → Result B VerilogFault) (place : A → R) (front : List B) (at : ℕ) (xs : List A) (d : A) (here : R) (y : B)
    → at < length xs → here ≡ place (get_or xs at d) → f here ≡ Ok y → IsEach (λ x. f (place x)) front at xs
    → IsEach (λ x. f (place x)) (front ++ y ∷ []) (at + 1) xs
each_on_at f place front at xs d here y h same reads so = each_on (λ x. f (place x)) front at xs d y h (sym (ap f same) ∙ reads) so

pub each_fault_at : {A R B : Type 0} (f : R → Result B VerilogFault) (place : A → R) (front : List B) (at : ℕ) (xs : List A) (d : A) (here : R)
    (fault : VerilogFault) → at < length xs → here ≡ place (get_or xs at d) → (fault ≡ NoMemory) ⊎ (f here ≡ Err fault)
    → IsEach (λ x. f (place x)) front at xs → (fault ≡ NoMemory) ⊎ (each_of (λ x. f (place x)) xs ≡ Err fault)
each_fault_at f place front at xs d here fault h same (inl memory) so = inl memory
each_fault_at f place front at xs d here fault h same (inr reads) so =
    each_fault (λ x. f (place x)) front at xs d fault h (inr (sym (ap f same) ∙ reads)) so

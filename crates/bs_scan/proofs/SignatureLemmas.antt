-- The moment one cycle earlier is a predecessor that agrees with the stored signatures.
use Rattle.std.proofs.Common.{◌≡◌, ℕ, suc, zero, ◌<◌, ◌≤◌, ◌-◌, Bool, true, false, cond, List, [], ◌∷◌, length, take, get_or, refl, arith, ap, subst, sym}
use Rattle.std.proofs.Common.{◌∙◌, ◌⊎◌, inl, inr}
use Rattle.std.specs.Prelude.{filter, ◌&&◌, ◌||◌}
use Rattle.std.specs.List.{list_any}
use Rattle.std.proofs.lemmas.Bool.{true≢false}
use Rattle.std.proofs.lemmas.List.{length-map}
use Rattle.bs_bits.specs.Bits.{bits_eq}
use Rattle.bs_scan.specs.declared.seen.Seen.{Seen}
use Rattle.bs_scan.specs.Seen.{whole, Shows, is_shown}
use Rattle.bs_scan.proofs.SeenLemmas.{shows_where, shown_where}
use Rattle.bs_net.specs.declared.net.Flop.{Flop}
use Rattle.bs_net.specs.Circuit.{Circuit, reset_state, next, all_bits}
use Rattle.bs_net.proofs.CallerLemmas.{length_next}
use Rattle.bs_net.proofs.NextLemmas.{Member, all_bits_member, bits_eq_Decides}
use Rattle.bs_scan.specs.Choice.{Chosen, depth_of, IsDepth}
use Rattle.bs_scan.specs.Moments.{Run, state_at, is_listed}
use Rattle.bs_scan.specs.Signature.{signature, signatures_before, stored_at, may_hold, agrees, some_input_shows, some_input_leads, predecessors}

pub bits_same : (s : List Bool) → bits_eq s s ≡ true
bits_same s = (bits_eq_Decides s s).1 refl

pub bits_same_is : (s t : List Bool) → bits_eq s t ≡ true → s ≡ t
bits_same_is s t e = (bits_eq_Decides s t).0 e

-- one member passes
pub any_member : {X : Type 0} (p : X → Bool) (x : X) (xs : List X) → Member x xs → p x ≡ true → list_any p xs ≡ true
any_member p x [] h t = absurd h
any_member {X} p x (y ∷ ys) h t = by (p y) refl h (λ k. any_member p x ys k t)
  where
    by : (b : Bool) → p y ≡ b → (x ≡ y) ⊎ Member x ys → (Member x ys → list_any p ys ≡ true) → (b || list_any p ys) ≡ true
    by true e h rest = refl
    by false e (inl same) rest = absurd (true≢false (sym t ∙ (ap p same ∙ e)))
    by false e (inr k) rest = rest k

-- a member that passes is a member of what passes
pub member_filter : {X : Type 0} (q : X → Bool) (x : X) (xs : List X) → Member x xs → q x ≡ true → Member x (filter q xs)
member_filter q x [] h t = absurd h
member_filter {X} q x (y ∷ ys) h t = by (q y) refl h (λ k. member_filter q x ys k t)
  where
    by : (b : Bool) → q y ≡ b → (x ≡ y) ⊎ Member x ys → (Member x ys → Member x (filter q ys)) → Member x (cond b (y ∷ filter q ys) (filter q ys))
    by true e (inl same) rest = inl same
    by true e (inr k) rest = inr (rest k)
    by false e (inl same) rest = absurd (true≢false (sym t ∙ (ap q same ∙ e)))
    by false e (inr k) rest = rest k

pub length_state : (c : Circuit) (run : Run) (k : ℕ) → length (state_at c run k) ≡ length c.flops
unfolding state_at
length_state c run zero = length-map c.flops (λ (f : Flop). f.reset)
length_state c run (suc k) = length_next c (state_at c run k) (get_or run k [])

-- an input that leads to a state which shows p
pub shown_input : (c : Circuit) (s x : List Bool) (p : Seen) → length x ≡ length c.inputs → Shows p (next c s x) → some_input_shows c s p ≡ true
shown_input c s x p e h =
    let P : ℕ → Type 0 = λ n. Member x (all_bits n) in
    any_member (λ y. is_shown p (next c s y)) x (all_bits (length c.inputs)) (subst P e (all_bits_member x)) (shown_where p (next c s x) h)

pub some_input : (c : Circuit) (s x : List Bool) → length x ≡ length c.inputs → some_input_leads c s (next c s x) ≡ true
some_input c s x e = shown_input c s x (whole (next c s x)) e refl

both : (a b : Bool) → a ≡ true → b ≡ true → (a && b) ≡ true
both a b e f = rw (e, f) refl

-- what a register that keeps so many holds at a cycle may be held there
may_be_held : (c : Circuit) (choice : Chosen) (run : Run) (n k : ℕ) → ((j : ℕ) → j < k → length (get_or run j []) ≡ length c.inputs) →
    may_hold c choice n (signatures_before c choice run n k) (state_at c run k) ≡ true
unfolding state_at
may_be_held c choice run zero k w = refl
may_be_held c choice run (suc n) zero w = bits_same (reset_state c)
may_be_held c choice run (suc n) (suc k) w =
    let s : List Bool = state_at c run k in
    let P : ℕ → Type 0 = λ n. Member s (all_bits n) in
    any_member
    (λ u.
    (bits_eq (signature choice u) (signature choice s) && may_hold c choice n (signatures_before c choice run n k) u)
    && some_input_leads c u (state_at c run (suc k))) s (all_bits (length c.flops))
    (subst P (length_state c run k) (all_bits_member s))
    (both _ _
    (both _ _ (bits_same (signature choice s)) (may_be_held c choice run n k (λ j (lt : j < k). w j (omega (arith, lt)))))
    (some_input c s (get_or run k []) (w k (omega arith))))

pub some_kept : (depth : ℕ) → IsDepth depth → 1 ≤ depth
some_kept depth (inl one) = omega (arith, one)
some_kept depth (inr two) = omega (arith, two)

-- the state one cycle earlier agrees with what the register holds
pub agrees_before : (c : Circuit) (choice : Chosen) (run : Run) (k : ℕ) → IsDepth (depth_of choice) →
    ((j : ℕ) → j < k → length (get_or run j []) ≡ length c.inputs) →
    agrees c choice (stored_at c choice run (suc k)) (state_at c run k) ≡ true
agrees_before c choice run k kept w = by (depth_of choice) refl (some_kept (depth_of choice) kept)
  where
    s : List Bool
    s = state_at c run k

    by : (d : ℕ) → depth_of choice ≡ d → 1 ≤ d → agrees c choice (signatures_before c choice run d (suc k)) s ≡ true
    by zero e h = absurd (omega (arith, h))
    by (suc n) e h =
        let one_less : n ≡ depth_of choice - 1 = omega (arith, e) in
        let P : ℕ → Type 0 = λ m. may_hold c choice m (signatures_before c choice run n k) s ≡ true in
        both _ _ (bits_same (signature choice s)) (subst P one_less (may_be_held c choice run n k w))

-- the moment one cycle earlier meets the conditions, however many signatures are kept
pub came_from : (c : Circuit) (choice : Chosen) (run : Run) (k : ℕ) → IsDepth (depth_of choice) →
    ((j : ℕ) → j ≤ k → length (get_or run j []) ≡ length c.inputs) →
    is_listed (predecessors c choice (whole (state_at c run (suc k))) (stored_at c choice run (suc k))) (state_at c run k) ≡ true
unfolding predecessors state_at
came_from c choice run k kept w =
    let s : List Bool = state_at c run k in
    let P : ℕ → Type 0 = λ n. Member s (all_bits n) in
    any_member (bits_eq s) s (predecessors c choice (whole (state_at c run (suc k))) (stored_at c choice run (suc k)))
    (member_filter (λ s. agrees c choice (stored_at c choice run (suc k)) s && some_input_leads c s (state_at c run (suc k))) s (all_bits (length c.flops))
    (subst P (length_state c run k) (all_bits_member s))
    (both _ _ (agrees_before c choice run k kept (λ j (lt : j < k). w j (omega (arith, lt)))) (some_input c s (get_or run k []) (w k (omega arith)))))
    (bits_same s)

-- a state with the signatures that an input leads to one which shows p is a predecessor
pub is_predecessor : (c : Circuit) (choice : Chosen) (p : Seen) (stored : List (List Bool)) (s x : List Bool) → length s ≡ length c.flops →
    length x ≡ length c.inputs →
    agrees c choice stored s ≡ true → Shows p (next c s x) → is_listed (predecessors c choice p stored) s ≡ true
unfolding predecessors
is_predecessor c choice p stored s x ls lx ag e =
    let P : ℕ → Type 0 = λ n. Member s (all_bits n) in
    let leads : some_input_shows c s p ≡ true = shown_input c s x p lx e in
    any_member (bits_eq s) s (predecessors c choice p stored)
    (member_filter (λ s. agrees c choice stored s && some_input_shows c s p) s (all_bits (length c.flops)) (subst P ls (all_bits_member s)) (both _ _ ag leads))
    (bits_same s)

-- a register that keeps one less holds the same but for the oldest
one_less : (c : Circuit) (choice : Chosen) (run : Run) (n k : ℕ) →
    signatures_before c choice run n k ≡ take n (signatures_before c choice run (suc n) k)
one_less c choice run zero zero = refl
one_less c choice run zero (suc k) = refl
one_less c choice run (suc n) zero = refl
one_less c choice run (suc n) (suc k) = ap (λ (l : List (List Bool)). signature choice (state_at c run k) ∷ l) (one_less c choice run n k)

-- one clock edge later the register holds the signature of the state before it, and then what it held, as far as its depth goes
pub stored_after : (c : Circuit) (choice : Chosen) (run : Run) (k : ℕ) →
    stored_at c choice run (suc k) ≡ take (depth_of choice) (signature choice (state_at c run k) ∷ stored_at c choice run k)
stored_after c choice run k = by (depth_of choice)
  where
    by : (d : ℕ) → signatures_before c choice run d (suc k) ≡ take d (signature choice (state_at c run k) ∷ signatures_before c choice run d k)
    by zero = refl
    by (suc n) = ap (λ (l : List (List Bool)). signature choice (state_at c run k) ∷ l) (one_less c choice run n k)

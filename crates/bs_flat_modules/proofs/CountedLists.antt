-- How many there are of what is added once each, from a list of candidates.
use Rattle.std.proofs.Common.{◌≡◌, ℕ, suc, ◌+◌, ◌≤◌, Bool, true, false, cond, List, [], ◌∷◌, ◌++◌, length}
use Rattle.std.proofs.Common.{refl, sym, ap, ◌∙◌, arith, inl, inr, ◌⊎◌, ⊎_elim}
use Rattle.std.specs.List.{list_any}
use Rattle.std.specs.Str.{bytes_eq}
use Rattle.std.specs.Cmp.Lexicographic.{bytes_decides}
use Rattle.std.proofs.lemmas.Bool.{false≢true, or_parts}
use Rattle.std.proofs.lemmas.List.{length-append}
use Rattle.bs_net.specs.Names.{with_key}
use Rattle.bs_flat_meaning.proofs.MemberLemmas.{Member, member_left, member_right}

-- a list without one place of a member
pub record Without {X : Type 0} (x : X) (xs : List X) : Type 0 where
  pub left : List X
  pub fewer : length xs ≡ suc (length left)
  pub others : (y : X) → Member y xs → (y ≡ x) ⊎ Member y left

pub without : {X : Type 0} (x : X) (xs : List X) → Member x xs → Without x xs
without x [] m = absurd m
without {X} x (z ∷ zs) m =
    ⊎_elim
    (λ (e : x ≡ z).
    record { left = zs; fewer = refl; others = λ y l. ⊎_elim (λ (q : y ≡ z). inl (q ∙ sym e)) (λ (k : Member y zs). inr k) l })
    (λ (k : Member x zs).
    let w = without x zs k in
    record {
      left = z ∷ w.left;
      fewer = ap suc w.fewer;
      others = λ y l.
          ⊎_elim (λ (q : y ≡ z). inr (inl q))
          (λ (r : Member y zs). ⊎_elim (λ (q : y ≡ x). inl q) (λ (o : Member y w.left). inr (inr o)) (w.others y r)) l;
    })
    m

pub all_fail : {X : Type 0} (p : X → Bool) (xs : List X) (x : X) → list_any p xs ≡ false → Member x xs → p x ≡ false
all_fail p [] x e m = absurd m
all_fail {X} p (z ∷ zs) x e m =
    let parts = or_parts (p z) (list_any p zs) e in
    ⊎_elim (λ (q : x ≡ z). ap p q ∙ parts.0) (λ (k : Member x zs). all_fail p zs x parts.1 k) m

-- the later names stand for the earlier ones and some of the candidates, of which the others are left
pub record Grows (names these later : List (List ℕ)) : Type 0 where
  pub left : List (List ℕ)
  pub sizes : length later + length left ≤ length names + length these
  pub others : (k : List ℕ) → Member k names ⊎ Member k these → Member k later ⊎ Member k left

pub grows_none : (names these : List (List ℕ)) → Grows names these names
grows_none names these = record { left = these; sizes = omega arith; others = λ k m. m }

pub grows_key : (names these : List (List ℕ)) (key : List ℕ) → Member key names ⊎ Member key these → Grows names these (with_key names key)
grows_key names these key m = by (list_any (bytes_eq key) names) refl
  where
    by : (b : Bool) → list_any (bytes_eq key) names ≡ b → Grows names these (cond b names (names ++ key ∷ []))
    by true e = grows_none names these
    by false e =
        let new : Member key these =
        ⊎_elim (λ (l : Member key names). absurd (false≢true (sym (all_fail (bytes_eq key) names key e l) ∙ (bytes_decides key key).1 refl)))
        (λ (l : Member key these). l) m in
        let w = without key these new in
        record {
          left = w.left;
          sizes = omega (arith, length-append names (key ∷ []), w.fewer);
          others = λ k l.
              ⊎_elim (λ (r : Member k names). inl (member_left k names (key ∷ []) r))
              (λ (r : Member k these).
              ⊎_elim (λ (q : k ≡ key). inl (member_right k names (key ∷ []) (inl q))) (λ (o : Member k w.left). inr o) (w.others k r))
              l;
        }

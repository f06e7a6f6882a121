-- The bits that changes leave, change by change.
use Rattle.std.proofs.Common.{◌≡◌, ℕ, ◌<◌, ◌+◌, Bool, true, false, cond, nat_eq, List, [], ◌∷◌, ◌++◌, length, map, take, get_or, reverse, find, Option, Some, None, refl, ap, sym, ◌∙◌}
use Rattle.std.specs.Prelude.{◌==◌}
use Rattle.std.specs.Borrow.{Bor}
use Rattle.std.specs.Option.{option_map, option_or}
use Rattle.std.specs.HashMap.{get, HashMap}
use Rattle.std.proofs.lemmas.List.{map_more, reverse-append}
use Rattle.std.proofs.lemmas.List.Folds.{find-append}
use Rattle.bs_vcd.specs.declared.changes.ValueChange.{ValueChange as CodeValueChange}
use Rattle.bs_vcd.specs.History.{ValueChange, change_in}
use Rattle.bs_vcd.specs.Levels.{Known, is_of, bits_of, latest, known_by, known_in}
use Rattle.bs_vcd.specs.Watching.{known_after}

-- a change more
pub latest_snoc : (id : ℕ) (cs : List ValueChange) (c : ValueChange) →
    latest id (cs ++ c ∷ []) ≡ bits_of (cond (c.id == id) (Some c) (find (is_of id) (reverse cs)))
latest_snoc id cs c = ap (λ xs. bits_of (find (is_of id) xs)) (reverse-append cs (c ∷ []))

by_same : (b : Bool) (c : ValueChange) (rest : Option ValueChange) → b ≡ true → bits_of (cond b (Some c) rest) ≡ Some c.bits
by_same true c rest e = refl
by_same false c rest e = ap (λ t. bits_of (cond t (Some c) rest)) e

by_other : (b : Bool) (c : ValueChange) (rest : Option ValueChange) → b ≡ false → bits_of (cond b (Some c) rest) ≡ bits_of rest
by_other b c rest e = ap (λ t. bits_of (cond t (Some c) rest)) e

latest_at : (id : ℕ) (cs : List CodeValueChange) (i : ℕ) (d : CodeValueChange) → i < length cs → latest id (map change_in (take (i + 1) cs))
    ≡ bits_of (cond ((get_or cs i d).id == id) (Some (change_in (get_or cs i d))) (find (is_of id) (reverse (map change_in (take i cs)))))
latest_at id cs i d lt = ap (latest id) (map_more change_in cs i d lt) ∙ latest_snoc id (map change_in (take i cs)) (change_in (get_or cs i d))

pub latest_same : (id : ℕ) (cs : List CodeValueChange) (i : ℕ) (d : CodeValueChange) → i < length cs → (get_or cs i d).id == id ≡ true →
    Some (get_or cs i d).bits.now ≡ latest id (map change_in (take (i + 1) cs))
latest_same id cs i d lt e = sym (latest_at id cs i d lt ∙ by_same ((get_or cs i d).id == id) _ _ e)

pub latest_other : (id : ℕ) (cs : List CodeValueChange) (i : ℕ) (d : CodeValueChange) (found : Option (List ℕ)) → i < length cs →
    found ≡ latest id (map change_in (take i cs)) → (get_or cs i d).id == id ≡ false →
    found ≡ latest id (map change_in (take (i + 1) cs))
latest_other id cs i d found lt same e = same ∙ sym (latest_at id cs i d lt ∙ by_other ((get_or cs i d).id == id) _ _ e)

-- ---- what is known after changes

pub after_snoc : (known : Known) (cs : List ValueChange) (c : ValueChange) (id : ℕ) →
    known_after known (cs ++ c ∷ []) id ≡ cond (c.id == id) (Some c.bits) (known_after known cs id)
after_snoc known cs c id = ap (λ o. option_or o (known id)) (latest_snoc id cs c) ∙ by (c.id == id) (find (is_of id) (reverse cs))
  where
    by : (b : Bool) (rest : Option ValueChange) →
        option_or (bits_of (cond b (Some c) rest)) (known id) ≡ cond b (Some c.bits) (option_or (bits_of rest) (known id))
    by true rest = refl
    by false rest = refl

option_or_some : {A : Type 0} (o : Option A) → option_or o None ≡ o
option_or_some None = refl
option_or_some (Some x) = refl

-- what is known after changes, where nothing was known but by earlier ones
pub known_append : (earlier changes : List ValueChange) → known_after (known_by earlier) changes ≡ known_by (earlier ++ changes)
known_append earlier changes = λ i id. each id i
  where
    by : (one other : Option ValueChange) → option_or (bits_of one) (bits_of other) ≡ bits_of (option_or one other)
    by None other = refl
    by (Some c) other = refl

    each : (id : ℕ) → known_after (known_by earlier) changes id ≡ known_by (earlier ++ changes) id
    each id =
        by (find (is_of id) (reverse changes)) (find (is_of id) (reverse earlier))
        ∙ (ap bits_of (sym (find-append (is_of id) (reverse changes) (reverse earlier)))
        ∙ ap (λ xs. bits_of (find (is_of id) xs)) (sym (reverse-append earlier changes)))

put_by : (b : Bool) (bits : Bor (List ℕ)) (o : Option (Bor (List ℕ))) →
    option_map (λ (s : Bor (List ℕ)). s.now) (cond b (Some bits) o) ≡ cond b (Some bits.now) (option_map (λ (s : Bor (List ℕ)). s.now) o)
put_by true bits o = refl
put_by false bits o = refl

module _ {S : Type 0} where
  -- a change more in the code's table
  pub after_more : (known : Known) (old new : HashMap ℕ (Bor (List ℕ)) S) (cs : List CodeValueChange) (i : ℕ) (d : CodeValueChange) → i < length cs →
      known_in old ≡ known_after known (map change_in (take i cs)) →
      ((q : ℕ) → get nat_eq new q ≡ cond (nat_eq (get_or cs i d).id q) (Some (get_or cs i d).bits) (get nat_eq old q)) →
      known_in new ≡ known_after known (map change_in (take (i + 1) cs))
  after_more known old new cs i d lt same puts = λ j id. each id j
    where
      each : (id : ℕ) → known_in new id ≡ known_after known (map change_in (take (i + 1) cs)) id
      each id =
          ap (option_map (λ (s : Bor (List ℕ)). s.now)) (puts id)
          ∙ (put_by (nat_eq (get_or cs i d).id id) (get_or cs i d).bits (get nat_eq old id)
          ∙ (ap (λ (k : Known). cond (nat_eq (get_or cs i d).id id) (Some (get_or cs i d).bits.now) (k id)) same
          ∙ (sym (after_snoc known (map change_in (take i cs)) (change_in (get_or cs i d)) id)
          ∙ ap (λ xs. known_after known xs id) (sym (map_more change_in cs i d lt)))))

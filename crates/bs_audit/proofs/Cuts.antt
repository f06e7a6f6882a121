-- Lists of bits that are compared from the back.
use Rattle.std.proofs.Common.{◌≡◌, ℕ, ◌<◌, ◌+◌, Bool, true, false, List, [], ◌∷◌, ◌++◌, length, get_or, drop, refl, ap, sym, ◌∙◌, Option, Some, None}
use Rattle.std.specs.Prelude.{◌&&◌, reverse, filter_map}
use Rattle.std.specs.Option.{option_to_list}
use Rattle.std.specs.List.{cons_option}
use Rattle.std.proofs.lemmas.List.{reverse-append, append-nil, drop_more}
use Rattle.bs_bits.specs.Bits.{bits_eq}
use Rattle.bs_report.specs.declared.report.Step.{Step}
use Rattle.bs_report.specs.Valid.{all_bits_eq}
use Rattle.bs_audit.specs.Cut.{IsCut, IsUncut}

and_true : (a : Bool) → (a && true) ≡ a
and_true true = refl
and_true false = refl

and_false : (a : Bool) → (a && false) ≡ false
and_false true = refl
and_false false = refl

some_left : (ys : List (List Bool)) (y : List Bool) → all_bits_eq [] (ys ++ y ∷ []) ≡ false
some_left [] y = refl
some_left (z ∷ ys) y = refl

no_more : (x : List Bool) (xs ys : List (List Bool)) (y : List Bool) → all_bits_eq (xs ++ x ∷ []) [] ≡ false
no_more x [] ys y = refl
no_more x (z ∷ xs) ys y = refl

at_last : (xs ys : List (List Bool)) (x y : List Bool) → all_bits_eq (xs ++ x ∷ []) (ys ++ y ∷ []) ≡ (all_bits_eq xs ys && bits_eq x y)
at_last [] [] x y = and_true (bits_eq x y)
at_last [] (z ∷ ys) x y = ap (λ (b : Bool). bits_eq x z && b) (some_left ys y) ∙ and_false (bits_eq x z)
at_last (z ∷ xs) [] x y = ap (λ (b : Bool). bits_eq z y && b) (no_more x xs [] y) ∙ and_false (bits_eq z y)
at_last (z ∷ xs) (w ∷ ys) x y = ap (λ (b : Bool). bits_eq z w && b) (at_last xs ys x y) ∙ by (bits_eq z w)
  where
    by : (b : Bool) → (b && (all_bits_eq xs ys && bits_eq x y)) ≡ ((b && all_bits_eq xs ys) && bits_eq x y)
    by true = refl
    by false = refl

pub uncut_empty : (lists : List (List Bool)) (last : List Bool) → lists ≡ [] → IsUncut lists (Some last)
uncut_empty lists last e = record { differ = λ others. ap (λ (l : List (List Bool)). all_bits_eq l (others ++ last ∷ [])) e ∙ some_left others last }

pub uncut_other : (lists front : List (List Bool)) (found last : List Bool) → lists ≡ front ++ found ∷ [] → bits_eq found last ≡ false →
    IsUncut lists (Some last)
uncut_other lists front found last e f =
    record {
      differ = λ others.
          ap (λ (l : List (List Bool)). all_bits_eq l (others ++ last ∷ [])) e
          ∙ (at_last front others found last ∙ (ap (λ (b : Bool). all_bits_eq front others && b) f ∙ and_false (all_bits_eq front others)));
    }

pub cut_last : (lists front : List (List Bool)) (found last : List Bool) → lists ≡ front ++ found ∷ [] → bits_eq found last ≡ true →
    IsCut lists (Some last) front
cut_last lists front found last e f =
    record {
      same = λ others.
          ap (λ (l : List (List Bool)). all_bits_eq l (others ++ last ∷ [])) e
          ∙ (at_last front others found last ∙ (ap (λ (b : Bool). all_bits_eq front others && b) f ∙ and_true (all_bits_eq front others)));
    }

pub cut_nothing : (lists : List (List Bool)) → IsCut lists None lists
cut_nothing lists = record { same = λ others. ap (all_bits_eq lists) (append-nil others) }

-- ---- what steps give, from the last one to the first

reversed : (o : Option (List Bool)) (xs : List (List Bool)) → reverse (cons_option o xs) ≡ reverse xs ++ option_to_list o
reversed None xs = sym (append-nil (reverse xs))
reversed (Some x) xs = reverse-append (x ∷ []) xs

one_less : (f : Step → Option (List Bool)) (steps : List Step) (i : ℕ) (step : Step) → i < length steps → step ≡ get_or steps i step →
    reverse (filter_map f (drop i steps)) ≡ reverse (filter_map f (drop (i + 1) steps)) ++ option_to_list (f step)
one_less f steps i step lt e =
    ap (λ (l : List Step). reverse (filter_map f l)) (drop_more steps i step lt ∙ ap (λ (s : Step). s ∷ drop (i + 1) steps) (sym e))
    ∙ reversed (f step) (filter_map f (drop (i + 1) steps))

pub cut_once : (f : Step → Option (List Bool)) (steps : List Step) (i : ℕ) (step : Step) (left front : List (List Bool)) (o : Option (List Bool)) →
    i < length steps → step ≡ get_or steps i step →
    o ≡ f step → IsCut left o front → all_bits_eq left (reverse (filter_map f (drop i steps))) ≡ all_bits_eq front (reverse (filter_map f (drop (i + 1) steps)))
cut_once f steps i step left front o lt e same cut =
    ap (all_bits_eq left)
    (one_less f steps i step lt e ∙ ap (λ (o : Option (List Bool)). reverse (filter_map f (drop (i + 1) steps)) ++ option_to_list o) (sym same))
    ∙ cut.same (reverse (filter_map f (drop (i + 1) steps)))

pub uncut_once : (f : Step → Option (List Bool)) (steps : List Step) (i : ℕ) (step : Step) (left : List (List Bool)) (o : Option (List Bool)) →
    i < length steps → step ≡ get_or steps i step →
    o ≡ f step → IsUncut left o → all_bits_eq left (reverse (filter_map f (drop i steps))) ≡ false
uncut_once f steps i step left o lt e same uncut =
    ap (all_bits_eq left)
    (one_less f steps i step lt e ∙ ap (λ (o : Option (List Bool)). reverse (filter_map f (drop (i + 1) steps)) ++ option_to_list o) (sym same))
    ∙ uncut.differ (reverse (filter_map f (drop (i + 1) steps)))

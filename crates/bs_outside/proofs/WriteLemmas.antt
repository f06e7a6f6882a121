-- Bytes that go out in pieces.
use Rattle.std.proofs.Common.{◌≡◌, ℕ, ◌+◌, ◌-◌, ◌^◌, ◌≤◌, min, List, [], ◌++◌, length, take, drop, Option, Some, None, sym, ◌∙◌, ap, subst, arith, append_assoc}
use Rattle.std.proofs.lemmas.List.{append-nil, take_all, length-drop}
use Rattle.std.proofs.Math.Seq.{take-add}
use Rattle.std.specs.Io.KnownBytes.{Appends}
use Rattle.bs_outside.specs.Putting.{PutsAll, PutsSome}

pub appends_none : (w : Option (List ℕ)) → Appends w w []
appends_none None = tt
appends_none (Some xs) = sym (append-nil xs)

pub appends_then : (u v w : Option (List ℕ)) (xs ys : List ℕ) → Appends u v xs → Appends v w ys → Appends u w (xs ++ ys)
appends_then None v w xs ys h k = tt
appends_then (Some a) None w xs ys h k = absurd h
appends_then (Some a) (Some b) None xs ys h k = absurd k
appends_then (Some a) (Some b) (Some d) xs ys h k = k ∙ ap (λ (l : List ℕ). l ++ ys) h ∙ append_assoc a xs ys

-- so far the front of the bytes went out
pub record IsWriting (bytes : List ℕ) (before now : Option (List ℕ)) (at : ℕ) : Type 0 where
  pub within : at ≤ length bytes
  pub appended : Appends before now (take at bytes)

pub writing_starts : (bytes : List ℕ) (w : Option (List ℕ)) → IsWriting bytes w w 0
writing_starts bytes w = record { within = omega arith; appended = appends_none w }

-- a slice to the end is all that is left
rest_is : (bytes : List ℕ) (at : ℕ) → take (length bytes - at) (drop at bytes) ≡ drop at bytes
rest_is bytes at = take_all (length bytes - at) (drop at bytes) (omega (arith, length-drop at bytes))

pub writing_more : {bytes : List ℕ} {u v w : Option (List ℕ)} {at : ℕ} (count : ℕ) → IsWriting bytes u v at → at ≤ length bytes →
    count ≤ length (take (length bytes - at) (drop at bytes)) → Appends v w (take count (take (length bytes - at) (drop at bytes))) →
    IsWriting bytes u w (at + count)
writing_more {bytes} {u} {v} {w} {at} count so_far inside few more = record {
  within = omega (arith, few, ap length (rest_is bytes at), length-drop at bytes, inside);
  appended =
      subst (λ (l : List ℕ). Appends u w l) (sym (take-add at count bytes))
      (appends_then u v w (take at bytes) (take count (drop at bytes)) so_far.appended
      (subst (λ (l : List ℕ). Appends v w (take count l)) (rest_is bytes at) more));
}

pub writing_stops : {bytes : List ℕ} {u v w : Option (List ℕ)} {at faults faults_now : ℕ} (count : ℕ) → IsWriting bytes u v at →
    Appends v w (take count (drop at bytes)) → count ≡ 0 → faults_now ≡ min (faults + 1) (2 ^ 64 - 1) → faults ≤ 2 ^ 64 - 1 →
    PutsSome u w faults faults_now bytes at
writing_stops {bytes} {u} {v} {w} {at} {faults} {faults_now} count so_far more none counted range = record {
  within = so_far.within;
  appended =
      subst (λ (l : List ℕ). Appends u w l) (append-nil (take at bytes))
      (appends_then u v w (take at bytes) [] so_far.appended (subst (λ (n : ℕ). Appends v w (take n (drop at bytes))) none more));
  later = omega (arith, counted, range);
  cause = omega (arith, counted);
}

pub writing_ends : {bytes : List ℕ} {u v : Option (List ℕ)} {at faults faults_now : ℕ} → IsWriting bytes u v at → length bytes ≤ at →
    faults_now ≡ faults → PutsAll u v faults faults_now bytes
writing_ends {bytes} {u} {v} {at} so_far over same =
    record { appended = subst (λ (l : List ℕ). Appends u v l) (take_all at bytes over) so_far.appended; steady = same }

-- A file that is read in pieces.
use Rattle.std.proofs.Common.{◌≡◌, ◌≢◌, ℕ, ◌+◌, ◌-◌, ◌<◌, ◌≤◌, List, [], ◌++◌, length, Option, Some, None, refl, sym, ◌∙◌, ap, subst, arith}
use Rattle.std.proofs.Common.{append_assoc, length-append, drop}
use Rattle.std.proofs.lemmas.List.{take_at, drop_at, append-nil}
use Rattle.std.specs.Prelude.{IfSome}
use Rattle.std.specs.Io.{StartsWith, appended_bytes}
use Rattle.std.specs.Io.KnownBytes.{Consumes, IsAtEnd}
use Rattle.bs_outside.specs.declared.shelf.Fetch.{Fetch}
use Rattle.bs_outside.specs.declared.shelf.Fetch.TheVariants.{Done, Failed, TooLong, NoMemory}
use Rattle.bs_outside.specs.Fetching.{Fetches}
use Rattle.bs_outside.specs.Opening.{ReadsPiece, ReadsNone}

consumes_none : (u : Option (List ℕ)) → Consumes u u []
consumes_none None = tt
consumes_none (Some a) = refl

consumes_then : (u v w : Option (List ℕ)) (xs ys : List ℕ) → Consumes u v xs → Consumes v w ys → Consumes u w (xs ++ ys)
consumes_then None v w xs ys h k = tt
consumes_then (Some a) None w xs ys h k = absurd h
consumes_then (Some a) (Some b) None xs ys h k = absurd k
consumes_then (Some a) (Some b) (Some d) xs ys h k = h ∙ ap (λ (l : List ℕ). xs ++ l) k ∙ sym (append_assoc xs ys d)

-- what was taken up to the end is all there was
told_all : (u v : Option (List ℕ)) (xs : List ℕ) → Consumes u v xs → IsAtEnd v → IfSome u (λ all. all ≡ xs)
told_all None v xs h k = tt
told_all (Some a) None xs h k = absurd h
told_all (Some a) (Some b) xs h k = h ∙ ap (λ (l : List ℕ). xs ++ l) k ∙ append-nil xs

-- and before that its front
told_front : (u v : Option (List ℕ)) (xs : List ℕ) → Consumes u v xs → IfSome u (λ all. StartsWith all xs)
told_front None v xs h = tt
told_front (Some a) None xs h = absurd h
told_front (Some a) (Some b) xs h = rw h (take_at xs b (length xs) refl)

-- so far the bytes that were taken stand behind the old ones, and so many more may come
pub record IsReading (limit left : ℕ) (left_before left_now : Option (List ℕ)) (old now : List ℕ) : Type 0 where
  pub bytes : List ℕ
  pub appended : now ≡ old ++ bytes
  pub counted : length bytes + left ≡ limit
  pub taken : Consumes left_before left_now bytes

pub reading_starts : (limit : ℕ) (told : Option (List ℕ)) (old : List ℕ) → IsReading limit limit told told old old
reading_starts limit told old = record { bytes = []; appended = sym (append-nil old); counted = omega arith; taken = consumes_none told }

pub reading_more : {limit left most count : ℕ} {u v w : Option (List ℕ)} {old now new : List ℕ} → IsReading limit left u v old now →
    ReadsPiece v w now new most count → count ≤ left → IsReading limit (left - count) u w old new
reading_more {limit} {left} {most} {count} {u} {v} {w} {old} {now} {new} so_far piece within = record {
  bytes = so_far.bytes ++ piece.bytes;
  appended = piece.appended ∙ ap (λ (l : List ℕ). l ++ piece.bytes) so_far.appended ∙ append_assoc old so_far.bytes piece.bytes;
  counted = omega (arith, so_far.counted, piece.counted, length-append so_far.bytes piece.bytes);
  taken = consumes_then u v w so_far.bytes piece.bytes so_far.taken piece.taken;
}

-- what is answered, and what was read for it
pub record HasRead (limit : ℕ) (left_before left_now : Option (List ℕ)) (old new : List ℕ) (answer : Fetch) : Type 0 where
  pub bytes : Fetches left_before limit old new answer
  pub taken : answer ≢ NoMemory → Consumes left_before left_now (appended_bytes old new)
  pub within : length new ≤ length old + (limit + 1)

behind : (old new bytes : List ℕ) (u v : Option (List ℕ)) → new ≡ old ++ bytes → Consumes u v bytes → Consumes u v (appended_bytes old new)
behind old new bytes u v appended taken =
    subst (λ (l : List ℕ). Consumes u v l) (sym (ap (λ (l : List ℕ). drop (length old) l) appended ∙ drop_at old bytes (length old) refl)) taken

pub reading_ends : {limit left most : ℕ} {u v w : Option (List ℕ)} {old now new : List ℕ} → IsReading limit left u v old now →
    ReadsPiece v w now new most 0 → HasRead limit u w old new Done
reading_ends {limit} {left} {most} {u} {v} {w} {old} {now} {new} so_far piece =
    let all : List ℕ = so_far.bytes ++ piece.bytes in
    let appended : new ≡ old ++ all = piece.appended ∙ ap (λ (l : List ℕ). l ++ piece.bytes) so_far.appended ∙ append_assoc old so_far.bytes piece.bytes in
    let taken : Consumes u w all = consumes_then u v w so_far.bytes piece.bytes so_far.taken piece.taken in
    record {
      bytes =
          record {
            bytes = all;
            appended = appended;
            within =
                omega (arith, so_far.counted, piece.counted, length-append so_far.bytes piece.bytes);
            told = told_all u w all taken (piece.end refl);
          };
      taken = λ _. behind old new all u w appended taken;
      within = omega (arith, ap length appended, length-append old all, length-append so_far.bytes piece.bytes, so_far.counted, piece.counted);
    }

pub reading_over : {limit left most count : ℕ} {u v w : Option (List ℕ)} {old now new : List ℕ} → IsReading limit left u v old now →
    ReadsPiece v w now new most count → left < count → most ≤ left + 1 → HasRead limit u w old new TooLong
reading_over {limit} {left} {most} {count} {u} {v} {w} {old} {now} {new} so_far piece over few =
    let all : List ℕ = so_far.bytes ++ piece.bytes in
    let appended : new ≡ old ++ all = piece.appended ∙ ap (λ (l : List ℕ). l ++ piece.bytes) so_far.appended ∙ append_assoc old so_far.bytes piece.bytes in
    let taken : Consumes u w all = consumes_then u v w so_far.bytes piece.bytes so_far.taken piece.taken in
    record {
      bytes =
          record {
            bytes = all;
            appended = appended;
            beyond =
                omega (arith, so_far.counted, piece.counted, over, length-append so_far.bytes piece.bytes);
            told = told_front u w all taken;
          };
      taken = λ _. behind old new all u w appended taken;
      within =
          omega (arith, ap length appended, length-append old all, length-append so_far.bytes piece.bytes, so_far.counted, piece.counted, piece.within, few);
    }

-- an answer without a piece
pub reading_stops : {limit left : ℕ} {u v w : Option (List ℕ)} {old now new : List ℕ} (answer : Fetch) → IsReading limit left u v old now →
    ReadsNone v w now new answer → HasRead limit u w old new answer
reading_stops {limit} {left} {u} {v} {w} {old} {now} {new} answer so_far none = by answer none.cause
  where
    appended : new ≡ old ++ so_far.bytes
    appended = none.kept ∙ so_far.appended

    starts : StartsWith new old
    starts = rw appended (take_at old so_far.bytes (length old) refl)

    within : length new ≤ length old + (limit + 1)
    within = omega (arith, ap length appended, length-append old so_far.bytes, so_far.counted)

    by : (a : Fetch) → (a ≢ NoMemory → (a ≡ Failed) × Consumes v w []) → HasRead limit u w old new a
    by Failed cause = record {
      bytes = starts;
      taken =
          λ _. behind old new so_far.bytes u w appended
          (subst (λ (l : List ℕ). Consumes u w l) (append-nil so_far.bytes) (consumes_then u v w so_far.bytes [] so_far.taken (cause (λ e. cc)).1));
      within = within;
    }
    by NoMemory cause = record { bytes = starts; taken = λ other. absurd (other refl); within = within }
    by Done cause = absurd (wrong (cause (λ e. cc)).0)
      where
        wrong : Done ≡ Failed → ⊥
        wrong e = cc
    by TooLong cause = absurd (wrong (cause (λ e. cc)).0)
      where
        wrong : TooLong ≡ Failed → ⊥
        wrong e = cc

-- where nothing is told, less is said
pub untold : (told : Option (List ℕ)) (limit : ℕ) (old new : List ℕ) (answer : Fetch) → Fetches told limit old new answer → Fetches None limit old new answer
untold told limit old new Done h = record { bytes = h.bytes; appended = h.appended; within = h.within; told = tt }
untold told limit old new TooLong h = record { bytes = h.bytes; appended = h.appended; beyond = h.beyond; told = tt }
untold told limit old new Failed h = h
untold told limit old new NoMemory h = h

-- The calls of a shelf and of a sink, one after another.
use Rattle.std.specs.Prelude.{◌≡◌, ℕ, List, [], ◌∷◌}
use Rattle.std.specs.Io.{appended_bytes}
use Rattle.bs_outside.specs.declared.shelf.Fetch.{Fetch}
use Rattle.bs_outside.specs.declared.sink.Put.{Put}

-- one fetch: what was asked for, the answer, and the bytes that were appended
pub record FetchCall : Type 0 where
  pub name : List ℕ
  pub limit : ℕ
  pub answer : Fetch
  pub bytes : List ℕ

abbrev pub fetch_call : List ℕ → ℕ → Fetch → (old new : List ℕ) → FetchCall
fetch_call name limit answer old new = record { name = name; limit = limit; answer = answer; bytes = appended_bytes old new }

-- one put: what was to go out, and the answer
pub record PutCall : Type 0 where
  pub bytes : List ℕ
  pub answer : Put

abbrev pub put_call : List ℕ → Put → PutCall
put_call bytes answer = record { bytes = bytes; answer = answer }

-- These calls were made one after the other, and no other: each leads on from where the one before it led.
abbrev pub InTurn : {S C : Type 0} → (S → C → S → Type 0) → S → List C → S → Type 0
InTurn leads before [] now = now ≡ before
InTurn {S = S} leads before (call ∷ calls) now = (mid : S) × leads before call mid × InTurn leads mid calls now

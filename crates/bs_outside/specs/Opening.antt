-- A file that is opened and read, and an output that is written: the answers of the calls, and how their faults are counted.
use Rattle.std.specs.Prelude.{◌≡◌, ◌≢◌, ◌≤◌, ◌+◌, ◌-◌, ◌^◌, ℕ, List, [], ◌++◌, length, min, Option}
use Rattle.std.specs.Io.KnownBytes.{Consumes, IsAtEnd}
use Rattle.std.specs.IoError.{error_kind}
use Rattle.std.specs.declared.io.Error.{Error}
use Rattle.std.specs.declared.io.ErrorKind.TheVariants.{OutOfMemory}
use Rattle.bs_outside.specs.declared.shelf.Fetch.{Fetch}
use Rattle.bs_outside.specs.declared.shelf.Fetch.TheVariants as F
use Rattle.bs_outside.specs.declared.sink.Put.{Put}
use Rattle.bs_outside.specs.declared.sink.Put.TheVariants as P

-- a file that does not open is answered as out of memory exactly where its error says so, and else by a fault
pub record AnswersOpening (error : Error) (answer : Fetch) : Type 0 where
  pub memory : error_kind error ≡ OutOfMemory → answer ≡ F.NoMemory
  pub fault : error_kind error ≢ OutOfMemory → answer ≡ F.Failed

-- a piece of so many bytes was read and appended: at most so many as were asked for, and none only at the end
pub record ReadsPiece (left_before left_now : Option (List ℕ)) (old new : List ℕ) (most count : ℕ) : Type 0 where
  pub bytes : List ℕ
  pub appended : new ≡ old ++ bytes
  pub counted : length bytes ≡ count
  pub within : count ≤ most
  pub taken : Consumes left_before left_now bytes
  pub end : count ≡ 0 → IsAtEnd left_now

-- no piece was appended: the read failed, and took nothing, or memory ran out
pub record ReadsNone (left_before left_now : Option (List ℕ)) (old new : List ℕ) (answer : Fetch) : Type 0 where
  pub kept : new ≡ old
  pub cause : answer ≢ F.NoMemory → (answer ≡ F.Failed) × Consumes left_before left_now []

-- a count of faults after an answer
abbrev pub one_more : ℕ → ℕ
one_more count = min (count + 1) (2 ^ 64 - 1)

abbrev pub fetch_faults : ℕ → Fetch → ℕ
fetch_faults count F.Failed = one_more count
fetch_faults count _ = count

abbrev pub put_faults : ℕ → Put → ℕ
put_faults count P.Done = count
put_faults count (P.Failed n) = one_more count

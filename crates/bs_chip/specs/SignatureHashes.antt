-- The hashes of the signatures of the states of all runs, cycle by cycle.
use Rattle.std.specs.Prelude.{◌≡◌, ◌≢◌, ℕ, ◌<◌, ◌≤◌, ◌+◌, ◌-◌, ◌==◌, Bool, true, List, [], length, slice_index_or}
use Rattle.bs_scan.specs.Choice.{Chosen}
use Rattle.bs_scan.specs.Crash.{Recording, IsRecording}
use Rattle.bs_scan.specs.Moments.{Run, Moment, moment, IsMoment, run_of, state_at}
use Rattle.bs_scan.specs.Signature.{signature}
use Rattle.bs_chip.specs.Lockstep.{Passing}
use Rattle.bs_chip.specs.Hashes.{hash_of}

-- the signature of the state of a run at a cycle
abbrev pub signature_at : Recording → ℕ → ℕ → List Bool
signature_at r run cycle = signature r.choice (state_at r.circuit (run_of r.runs run) cycle)

-- a machine and its runs, with what their signature is taken of
abbrev pub recorded_by : Passing → Chosen → Recording
recorded_by p choice = record { circuit = p.circuit; choice = choice; runs = p.runs }

-- the signature hash of a run that lasts to a cycle is the hash of the signature there
pub record HasSignatureHash (r : Recording) (run cycle signature_hash : ℕ) : Type 0 where
  pub is : cycle ≤ length (run_of r.runs run) → signature_hash ≡ hash_of (signature_at r run cycle)

-- so many runs have their signature hashes at a cycle
pub record HaveSignatureHashes (r : Recording) (signature_hashes : List ℕ) (cycle count : ℕ) : Type 0 where
  pub size : length signature_hashes ≡ count
  pub each : (n : ℕ) → 1 ≤ n → n ≤ count → HasSignatureHash r n cycle (slice_index_or signature_hashes (n - 1) 0)

-- at each of the first cycles all runs have their signature hashes
pub record SignatureHashesShow (r : Recording) (signature_hashes : List (List ℕ)) : Type 0 where
  pub each : (k : ℕ) → k < length signature_hashes → HaveSignatureHashes r (slice_index_or signature_hashes k []) k (length r.runs)

-- the signature hashes of the first cycles, the last of which is that of the pass or the one before
pub record AreSignatureHashes (r : Recording) (p : Passing) (signature_hashes : List (List ℕ)) : Type 0 where
  pub recording : IsRecording r
  pub circuit : p.circuit ≡ r.circuit
  pub runs : p.runs ≡ r.runs
  pub noted : p.cycle ≤ length signature_hashes
  pub near : length signature_hashes ≤ p.cycle + 1
  pub show : SignatureHashesShow r signature_hashes

-- no run behind a number, up to another, that lasts to a cycle has a signature hash there
pub record NoneWithHash (runs : List Run) (signature_hashes : List ℕ) (cycle hash from below : ℕ) : Type 0 where
  pub each : (n : ℕ) → from < n → n ≤ below → n ≤ length runs → cycle ≤ length (run_of runs n) → slice_index_or signature_hashes (n - 1) 0 ≢ hash

-- the first run behind a number that has it
pub record IsNextWithHash (runs : List Run) (signature_hashes : List ℕ) (cycle hash from n : ℕ) : Type 0 where
  pub behind : from < n
  pub is_moment : IsMoment runs (moment n cycle)
  pub same : slice_index_or signature_hashes (n - 1) 0 ≡ hash
  pub before : NoneWithHash runs signature_hashes cycle hash from (n - 1)

-- no run behind a number, up to another, that lasts to a cycle is in a state with this signature there
pub record NoneAlike (r : Recording) (stored : List Bool) (cycle from below : ℕ) : Type 0 where
  pub each : (n : ℕ) → from < n → n ≤ below → n ≤ length r.runs → cycle ≤ length (run_of r.runs n) → signature_at r n cycle ≢ stored

-- whether the signature of a moment's state has the hash of a stored one
abbrev pub is_alike : Recording → List Bool → Moment → Bool
is_alike r stored m = hash_of (signature_at r m.run m.cycle) == hash_of stored

-- a run behind a number that lasts to a cycle and is there in a state whose signature has the hash of a stored one; before it none is in a
-- state with that signature
pub record IsNextAlike (r : Recording) (stored : List Bool) (cycle from n : ℕ) : Type 0 where
  pub behind : from < n
  pub is_moment : IsMoment r.runs (moment n cycle)
  pub alike : is_alike r stored (moment n cycle) ≡ true
  pub before : NoneAlike r stored cycle from (n - 1)

-- A text that is put whole, in one call.
use Rattle.std.specs.Prelude.{ℕ, List, Option}
use Rattle.bs_outside.specs.declared.sink.Put.{Put}
use Rattle.bs_outside.specs.Calls.{PutCall, put_call}
use Rattle.bs_outside.specs.Putting.{Puts}

-- what a sink tells of itself: the bytes that went out, its count of faults, and where a call leads
pub record Output (K : Type 0) : Type 1 where
  pub written : K → Option (List ℕ)
  pub faults : K → ℕ
  pub leads : K → PutCall → K → Type 0

abbrev pub output : {K : Type 0} → (K → Option (List ℕ)) → (K → ℕ) → (K → PutCall → K → Type 0) → Output K
output written faults leads = record { written = written; faults = faults; leads = leads }

-- a text was put, whole, in one call, and the sink gained what the call's answer says
pub record PutsText {K : Type 0} (out : Output K) (before now : K) (text : List ℕ) : Type 0 where
  pub answer : Put
  pub put : out.leads before (put_call text answer) now
  pub gained : Puts (out.written before) (out.written now) (out.faults before) (out.faults now) text answer

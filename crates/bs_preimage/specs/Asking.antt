-- What may know a predecessor, and a list that asks it.
use Rattle.std.specs.Prelude.{◌≡◌, ◌≢◌, ◌⊎◌, ℕ, ◌+◌, ◌≤◌, Option, None, IfSome}
use Rattle.bs_report.specs.declared.report.Cand.{Cand}
use Rattle.bs_report.specs.declared.report.ListEnd.{ListEnd}
use Rattle.bs_report.specs.declared.report.ListEnd.TheVariants.{Candidates}

-- what the source may know, as it is, is right
pub record KnowsRight {S : Type 0} (knows : S → Option Cand → S → Type 0) (source : S) (Right : Cand → Type 0) : Type 0 where
  pub right : (known : Option Cand) (after : S) → knows source known after → IfSome known Right

-- the list ended before its last place was left, and was made with nothing known
pub record IsUnasked {S : Type 0} (source after : S) (Made : Option Cand → Type 0) (end : ListEnd) : Type 0 where
  pub same : after ≡ source
  pub sooner : end ≢ Candidates
  pub made : Made None

-- the source was asked once, and something was made with what it knew
pub record IsTold {S : Type 0} (knows : S → Option Cand → S → Type 0) (source after : S) (Made : Option Cand → Type 0) : Type 0 where
  pub known : Option Cand
  pub answer : knows source known after
  pub made : Made known

-- the source was asked once, where no more than one of k places was left, and the list of so many was made with what it knew
pub record IsAsked {S : Type 0} (knows : S → Option Cand → S → Type 0) (source after : S) (Made : Option Cand → Type 0) (k count : ℕ) : Type 0 where
  pub known : Option Cand
  pub answer : knows source known after
  pub late : k ≤ count + 1
  pub made : Made known

-- A list of so many candidates, at most k, was made, where Made says how with what is known: the source was not asked, or once.
abbrev pub HasAsked : {S : Type 0} → (S → Option Cand → S → Type 0) → S → S → (Option Cand → Type 0) → ℕ → ℕ → ListEnd → Type 0
HasAsked knows source after Made k count end = IsUnasked source after Made end ⊎ IsAsked knows source after Made k count

-- the source is as it was, or what stays in a call has stayed
abbrev pub KeepsSource : {S : Type 0} → (S → S → Type 0) → S → S → Type 0
KeepsSource stays source after = (after ≡ source) ⊎ stays source after

-- One count of faults for every name.
use Rattle.std.proofs.Common.{◌≡◌, ◌≢◌, ℕ, ◌≤◌, List, refl, arith}
use Rattle.bs_outside.specs.declared.shelf.Fetch.{Fetch}
use Rattle.bs_outside.specs.declared.shelf.Fetch.TheVariants.{Done, Failed, TooLong, NoMemory}
use Rattle.bs_outside.specs.Faults.{Rose}
use Rattle.bs_outside.specs.Fetching.{CountsFaults}
use Rattle.bs_outside.specs.Opening.{fetch_faults}

pub counts_all : (before now : ℕ) (name : List ℕ) (answer : Fetch) → now ≡ fetch_faults before answer → before ≤ now →
    CountsFaults (λ _. before) (λ _. now) name answer
counts_all before now name answer counts later =
    record { later = λ _. later; steady = λ calm _. steady answer counts calm; failed = λ is. failed answer counts is }
  where
    steady : (a : Fetch) → now ≡ fetch_faults before a → a ≢ Failed → now ≡ before
    steady Done e calm = e
    steady TooLong e calm = e
    steady NoMemory e calm = e
    steady Failed e calm = absurd (calm refl)

    failed : (a : Fetch) → now ≡ fetch_faults before a → a ≡ Failed → Rose before now
    failed Failed e is = omega (arith, e)
    failed Done e is = cc
    failed TooLong e is = cc
    failed NoMemory e is = cc

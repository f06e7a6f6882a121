-- What a list that asks a source says of what is known.
use Rattle.std.proofs.Common.{◌≡◌, ◌≢◌, ℕ, ◌+◌, ◌≤◌, List, Bool, inl, inr, Option, None, subst}
use Rattle.std.specs.Prelude.{IfSome}
use Rattle.bs_scan.specs.declared.seen.Seen.{Seen}
use Rattle.bs_report.specs.declared.report.Cand.{Cand}
use Rattle.bs_report.specs.declared.report.ListEnd.{ListEnd}
use Rattle.bs_report.specs.declared.report.ListEnd.TheVariants.{Candidates}
use Rattle.bs_preimage.specs.declared.listing.Listing.{Listing}
use Rattle.bs_preimage.specs.Asking.{KnowsRight, HasAsked}
use Rattle.bs_preimage.specs.Preimage.{PreimageState}
use Rattle.bs_preimage.specs.Listed.{HasListed, HasListedAsking}

-- what is made with something right that is known gives something else
pub asked_then : {S : Type 0} (knows : S → Option Cand → S → Type 0) (source after : S) (Right : Cand → Type 0) (M N : Option Cand → Type 0)
    (k n m : ℕ) (end : ListEnd) → n ≡ m → KnowsRight knows source Right → ((known : Option Cand) → IfSome known Right → M known → N known) →
    HasAsked knows source after M k n end → HasAsked knows source after N k m end
asked_then knows source after Right M N k n m end as_many may f (inl h) = inl (record { same = h.same; sooner = h.sooner; made = f None tt h.made })
asked_then knows source after Right M N k n m end as_many may f (inr h) =
    inr (record {
      known = h.known;
      answer = h.answer;
      late = subst (λ (x : ℕ). k ≤ x + 1) as_many h.late;
      made = f h.known (may.right h.known after h.answer) h.made;
    })

pub asked_so : {S : Type 0} (knows : S → Option Cand → S → Type 0) (source after : S) (M N : Option Cand → Type 0) (k n : ℕ) (end : ListEnd) →
    ((known : Option Cand) → M known → N known) → HasAsked knows source after M k n end → HasAsked knows source after N k n end
asked_so knows source after M N k n end f (inl h) = inl (record { same = h.same; sooner = h.sooner; made = f None h.made })
asked_so knows source after M N k n end f (inr h) = inr (record { known = h.known; answer = h.answer; late = h.late; made = f h.known h.made })

-- what a source may know is right also in a weaker sense
pub knows_weaker : {S : Type 0} (knows : S → Option Cand → S → Type 0) (source : S) (Right Weak : Cand → Type 0) →
    ((known : Option Cand) → IfSome known Right → IfSome known Weak) → KnowsRight knows source Right → KnowsRight knows source Weak
knows_weaker knows source Right Weak f may = record { right = λ known after is. f known (may.right known after is) }

-- a list that ended sooner, where something is known
sooner_known : (old new : PreimageState) (present : Seen) (stored : List Bool) (older : Option (List Bool)) (known : Option Cand) (k b : ℕ) (listing : Listing) →
    listing.end ≢ Candidates → HasListed old new present stored older None k b listing → HasListed old new present stored older known k b listing
sooner_known old new present stored older known k b listing sooner h =
    record {
      was_well = h.was_well;
      well = h.well;
      goes_on = h.goes_on;
      steps = h.steps;
      lines = h.lines;
      step_lines = h.step_lines;
      ascend = h.ascend;
      candidates = h.candidates;
      befores = h.befores;
      ends = h.ends;
      blocks = h.blocks;
      finish = h.finish;
      with_known = λ cand is ended. absurd (sooner ended);
      few = h.few;
      bound = h.bound;
    }

-- a source that knows one thing alone
pub listed_knowing : {S : Type 0} (knows : S → Option Cand → S → Type 0) (source after : S) (old new : PreimageState) (present : Seen) (stored : List Bool)
    (older : Option (List Bool)) (known : Option Cand) (k b : ℕ) (listing : Listing) →
    ((answer : Option Cand) → knows source answer after → answer ≡ known) →
    HasListedAsking knows source after old new present stored older k b listing → HasListed old new present stored older known k b listing
listed_knowing knows source after old new present stored older known k b listing alone (inl h) =
    sooner_known old new present stored older known k b listing h.sooner h.made
listed_knowing knows source after old new present stored older known k b listing alone (inr h) =
    subst (λ (o : Option Cand). HasListed old new present stored older o k b listing) (alone h.known h.answer) h.made

-- What a list asks where it is about to be cut.
use Rattle.std.specs.Prelude.{◌≡◌, ◌≤◌, ◌∷◌, Option, IfSome}
use Rattle.std.specs.Option.{option_to_list}
use Rattle.bs_scan.specs.Crash.{DumpFits}
use Rattle.bs_scan.specs.Dump.{signatures_of}
use Rattle.bs_report.specs.declared.report.Cand.{Cand}
use Rattle.bs_loop.specs.KnownCand.{IsAsked}
use Rattle.bs_loop.specs.Recorded.{StandsIn}
use Rattle.bs_loop.specs.declared.recorded_source.Lookout.{Lookout}

-- its parts are of one chip, and the present has signatures
pub record IsLooking (l : Lookout) : Type 0 where
  pub recording : l.finder.now.recording ≡ l.chip.now.recording
  pub dump : DumpFits l.chip.now.recording.circuit l.chip.now.recording.choice l.now.now
  pub at : IfSome l.at (StandsIn l.chip.now.recording l.now.now)
  pub stored : signatures_of l.now.now ≡ l.stored.now ∷ option_to_list l.now.now.older
  pub conflicts : 1 ≤ l.b

-- it holds the same chip, of the same recording
pub record IsSameLookout (old new : Lookout) : Type 0 where
  pub chip_held : new.chip.ghost_name ≡ old.chip.ghost_name
  pub finder_held : new.finder.ghost_name ≡ old.finder.ghost_name
  pub chip : new.chip.now.recording ≡ old.chip.now.recording
  pub finder : new.finder.now.recording ≡ old.finder.now.recording

-- it has answered with a candidate, or with none
pub record Knows (old : Lookout) (known : Option Cand) (new : Lookout) : Type 0 where
  pub answered : IsAsked old.chip.now.recording old.now.now old.stored.now old.b old.at known new.answer

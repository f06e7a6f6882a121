-- What is said of a trace of which no state is told.
use Rattle.std.proofs.Common.{◌≡◌, ◌∙◌, ℕ, Bool, true, false, refl, sym, subst, None, Some}
use Rattle.std.specs.Prelude.{if◌then◌else◌}
use Rattle.bs_call.specs.declared.note.Note.{Note}
use Rattle.bs_call.specs.declared.note.Note.TheVariants.{Silent}
use Rattle.bs_call.specs.Note.{Due, DueText}
use Rattle.bs_inspect_report.specs.declared.window.Window.{Window}
use Rattle.bs_inspect_plans.specs.Windows.{empty_text, shows_any, window_text}

pub some_shown : (w : Window) (count : ℕ) (b : Bool) → b ≡ shows_any w count → b ≡ true → DueText (window_text w count) Silent
some_shown w count b e is = subst (λ (c : Bool). DueText (if c then None else Some (empty_text count)) Silent) (sym is ∙ e) refl

pub none_shown : (w : Window) (count : ℕ) (b : Bool) (note : Note) → b ≡ shows_any w count → b ≡ false → Due (λ said. said ≡ empty_text count) note →
    DueText (window_text w count) note
none_shown w count b note e is h = subst (λ (c : Bool). DueText (if c then None else Some (empty_text count)) note) (sym is ∙ e) h

-- What is said of flip-flops that are not there.
use Rattle.std.proofs.Common.{◌≡◌, ◌≢◌, ℕ, Bool, true, false, refl, sym, subst, None, Some}
use Rattle.std.specs.Prelude.{◌==◌, if◌then◌else◌}
use Rattle.std.proofs.lemmas.Bool.{ne_eqb}
use Rattle.bs_call.specs.declared.note.Note.{Note}
use Rattle.bs_call.specs.declared.note.Note.TheVariants.{Silent}
use Rattle.bs_call.specs.Note.{Due, DueText}
use Rattle.bs_inspect_plans.specs.Lacking.{lack_text, lacking_text}

pub none_lack : (count : ℕ) → count ≡ 0 → DueText (lacking_text count) Silent
none_lack count e = subst (λ (n : ℕ). DueText (if n == 0 then None else Some (lack_text n)) Silent) (sym e) refl

pub some_lack : (count : ℕ) (note : Note) → count ≢ 0 → Due (λ said. said ≡ lack_text count) note → DueText (lacking_text count) note
some_lack count note some h =
    subst (λ (b : Bool). DueText (if b then None else Some (lack_text count)) note) (sym (ne_eqb count 0 some)) h

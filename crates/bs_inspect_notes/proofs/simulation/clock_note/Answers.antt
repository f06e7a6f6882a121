use Rattle.std.proofs.Common.{◌∙◌, ◌++◌, ap, codes, map}
use Rattle.bs_note_files.specs.Notes.{file_text}
use Rattle.bs_inspect_notes.specs.Listings.{some_listing}
use Rattle.bs_inspect_notes.proofs.simulation.clock_note.Goals as goal

pub returns : goal.returns
returns c =
    c.in_ok-push_some_listing-2.ensures
    ∙ ap (λ t. t ++ some_listing (codes "the variables there:") (map (λ n. n.now) c.args.names.now))
    (c.in_ok-push_some_listing.ensures
    ∙ ap (λ t. t ++ some_listing (codes "the scopes:") (map (λ p. p.now) c.args.paths.now))
    (c.in_ok-note.ensures ∙ ap (file_text c.args.file.now) (c.deref.ensures.value ∙ c.in_ok-said.ensures)))

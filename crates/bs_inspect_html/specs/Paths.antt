-- The names of files on the page.
use Rattle.std.specs.Prelude.{ℕ, List}
use Rattle.bs_inspect_html.specs.Escapes.{html_escaped}

-- the name of a file, as HTML shows it
unfoldable pub shown_path : List ℕ → List ℕ
shown_path path = html_escaped path

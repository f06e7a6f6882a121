use Rattle.std.proofs.Common.{◌≡◌, Some}
use Rattle.bs_outside.proofs.Held.{fetches_found}
use Rattle.bs_outside.specs.Files.{place_of}
use Rattle.bs_outside.proofs.never_failing.SureShelfShelf.fetch.Goals as goal

pub returns-in-Some-clause-bytes : goal.returns-in-Some-clause-bytes
returns-in-Some-clause-bytes c =
    let found : place_of c.args.self.now.files.items c.args.name.now ≡ Some c.in-Some.at = cc (c.find_file.ensures, c.in-Some.is, c.deref.ensures.value) in
    fetches_found _ _ _ _ _ _ _ _ _ found c.index.ensures c.deref-in-Some.ensures.value c.hand_over.ensures.bytes

use Rattle.std.proofs.Common.{◌≡◌, Some}
use Rattle.bs_outside.proofs.Held.{fetches_found}
use Rattle.bs_outside.specs.Files.{place_of}
use Rattle.bs_outside.proofs.memory.MemShelfShelf.fetch.Goals as goal

pub returns-in-Some-2-clause-bytes : goal.returns-in-Some-2-clause-bytes
returns-in-Some-2-clause-bytes c =
    let found : place_of c.args.self.now.files.items c.args.name.now ≡ Some c.in-Some.at =
    cc (c.find_file.ensures, c.in-Some-2.is, c.in-Some-2.at-is, c.deref-2.ensures.value) in
    fetches_found _ _ _ _ _ _ _ _ _ found c.index-in-Some-2.ensures c.deref-in-Some-2.ensures.value c.hand_over.ensures.bytes

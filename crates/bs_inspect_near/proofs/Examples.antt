-- Three flip-flops, of which the second is not known: what is like it, and in how many bits states differ from it.
use Rattle.std.proofs.Common.{◌≡◌, ℕ, true, false, [], ◌∷◌, map, refl}
use Rattle.bs_scan.specs.declared.seen.Seen.{Seen}
use Rattle.bs_scan.specs.Seen.{whole}
use Rattle.bs_scan.specs.SeenText.{seen_text}
use Rattle.std.specs.Prelude.{codes}
use Rattle.bs_inspect_near.specs.Distance.{differing, distance}
use Rattle.bs_inspect_near.specs.Hints.{inverse, shifts, with_known}

abbrev partly : Seen
partly = record { bits = true ∷ false ∷ false ∷ []; free = false ∷ true ∷ false ∷ [] }

worked_inverse : seen_text (inverse partly) ≡ codes "0-1"
unfolding with_known
worked_inverse = refl

-- the known bits 1 and 0 move past the one that is not known
worked_shifts : map seen_text (shifts partly) ≡ codes "0-0" ∷ codes "0-1" ∷ codes "0-1" ∷ codes "1-1" ∷ []
unfolding with_known
worked_shifts = refl

worked_whole : map seen_text (shifts (whole (true ∷ false ∷ false ∷ []))) ≡ codes "000" ∷ codes "001" ∷ codes "010" ∷ codes "110" ∷ []
unfolding with_known
worked_whole = refl

-- an unknown bit never differs
worked_distance : distance (false ∷ true ∷ false ∷ []) partly ≡ 1
worked_distance = refl

worked_places : differing (false ∷ true ∷ true ∷ []) partly ≡ 0 ∷ 2 ∷ []
worked_places = refl

-- Lists of bits that are compared from the back.
use Rattle.std.specs.Prelude.{◌≡◌, Bool, false, List, ◌++◌, Option}
use Rattle.std.specs.Option.{option_to_list}
use Rattle.bs_report.specs.Valid.{all_bits_eq}

-- the lists without the last one, where that is as wanted; nothing is cut off where nothing is wanted
pub record IsCut (lists : List (List Bool)) (last : Option (List Bool)) (front : List (List Bool)) : Type 0 where
  pub same : (others : List (List Bool)) → all_bits_eq lists (others ++ option_to_list last) ≡ all_bits_eq front others

-- the lists do not end as wanted
pub record IsUncut (lists : List (List Bool)) (last : Option (List Bool)) : Type 0 where
  pub differ : (others : List (List Bool)) → all_bits_eq lists (others ++ option_to_list last) ≡ false

use Rattle.bs_flat_modules.proofs.CountedPieces.{alone_texts_are_of_the_text, own_texts_are_of_the_text}
use Rattle.bs_flat_modules.proofs.law.own_texts_are_of_the_text.Goals as goal

pub returns : goal.returns
returns c = record {
  own = own_texts_are_of_the_text;
  alone = alone_texts_are_of_the_text;
}

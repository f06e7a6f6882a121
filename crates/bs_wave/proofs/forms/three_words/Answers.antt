use Rattle.bs_wave.proofs.FormLemmas.{four_words}
use Rattle.bs_wave.proofs.forms.three_words.Goals as goal

pub returns-in-Some-behind-2 : goal.returns-in-Some-behind-2
returns-in-Some-behind-2 c =
    let one = rw c.in-Some.is at c.next_word.ensures in
    let two = rw c.in-Some-behind.is at c.next_word-2.ensures in
    let three = rw c.in-Some-behind-2.is at c.next_word-3.ensures in
    four_words c.args.text.now c.in-Some.behind.now c.in-Some-behind.behind.now c.in-Some-behind-2.field-0.now
    c.next_word.result.0.now c.next_word-2.result.0.now c.next_word-3.result.0.now one two three

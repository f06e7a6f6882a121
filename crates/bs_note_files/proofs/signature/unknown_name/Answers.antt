use Rattle.std.proofs.Common.{sym, ◌∙◌}
use Rattle.bs_note_files.proofs.SignatureLemmas.{known_more}
use Rattle.bs_note_files.proofs.signature.unknown_name.Goals as goal

pub words-preserved : goal.words-preserved
words-preserved c = record {
  within = c.word_end-end-in-words.ensures.within;
  ends = c.word_end-end-in-words.ensures.ends;
  keys =
      known_more c.args.flops.now c.args.line.now c.words.end c.word_end-end-in-words.result c.words.invariant.keys
      c.word_end-end-in-words.ensures.after c.word_end-end-in-words.ensures.within c.word_end-end-in-words.ensures.ends
      c.word_end-end-in-words.ensures.inside (sym c.is_unknown.ensures ∙ c.if-is_unknown.false);
}

use Rattle.std.proofs.lemmas.Str.{IsUtf8-from_ascii}
use Rattle.bs_lex.proofs.NamingLemmas.{is_readable}
use Rattle.bs_lex.proofs.naming.ascii_text.Goals as goal

pub unwrap-requires : goal.unwrap-requires
unwrap-requires c = is_readable c.from_utf8.result _ _ _ (IsUtf8-from_ascii c.args.bytes.now c.requires) c.from_utf8.ensures.cases

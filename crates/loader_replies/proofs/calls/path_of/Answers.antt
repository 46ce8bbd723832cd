use Rattle.std.proofs.Common.{subst, sym}
use Rattle.std.specs.Str.{IsUtf8}
use Rattle.loader_replies.proofs.ScriptWords.{word_is_text}
use Rattle.loader_replies.proofs.calls.path_of.Goals as goal

pub unreachable-requires : goal.unreachable-requires
unreachable-requires c = c.in-Err.ensures.cases.0 (subst IsUtf8 (sym c.bytes.ensures.value) (word_is_text c.args.word.now c.requires))

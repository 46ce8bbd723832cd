use Rattle.std.proofs.Common.{◌≡◌, length}
use Rattle.std.specs.List.{list_all}
use Rattle.loader_machine.specs.Script.{words_of, is_word}
use Rattle.script_text.proofs.words.are_words.Given as goal

-- all are words where those that are left are
abbrev pub invariant-words : goal.invariant-words
invariant-words l = list_all is_word (words_of l.line) ≡ list_all is_word l.words

abbrev pub decreases-words : goal.decreases-words
decreases-words l = length l.words

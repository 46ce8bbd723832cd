use Rattle.std.proofs.Common.{◌≡◌, ◌++◌, take}
use Rattle.omf_making.specs.Words.{words_of}
use Rattle.omf_map.proofs.form.with_output.Given as goal

-- the words before, and those so far
abbrev pub invariant-following : goal.invariant-following
invariant-following l = words_of l.all.items ≡ words_of l.initial.all.items ++ words_of (take l.word-index l.following)

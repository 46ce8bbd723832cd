use Rattle.omf_compact.proofs.JudgeLaws.{Judged}
use Rattle.omf_compact.proofs.judge.patches_or_broken_part.Given as goal

-- the segments so far have their lists
abbrev pub invariant-segments : goal.invariant-segments
invariant-segments l = Judged l.load l.place l.lists.items

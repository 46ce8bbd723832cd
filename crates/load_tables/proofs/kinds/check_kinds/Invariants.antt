use Rattle.load_meaning.specs.Runtime.{kind_fault}
use Rattle.load_content.proofs.LoadViews.{Passed}
use Rattle.load_tables.proofs.kinds.check_kinds.Given as goal

-- the views so far have no fault, so the first one is that of those that are left
abbrev pub invariant-views : goal.invariant-views
invariant-views l = Passed kind_fault l.views.items l.view-index l.number

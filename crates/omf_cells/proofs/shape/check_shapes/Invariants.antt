use Rattle.load_meaning.specs.Loadable.{shape_fault}
use Rattle.load_content.proofs.LoadViews.{Passed}
use Rattle.omf_cells.proofs.shape.check_shapes.Given as goal

-- the views so far have no fault, so the first one is that of those that are left
abbrev pub invariant-views : goal.invariant-views
invariant-views l = Passed shape_fault l.views.items l.view-index l.number

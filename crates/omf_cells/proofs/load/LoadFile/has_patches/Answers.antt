use Rattle.omf_cells.proofs.LoadShows.{patches_shown, nothing_patched}
use Rattle.omf_cells.proofs.load.LoadFile.has_patches.Goals as goal

pub returns-in-Some : goal.returns-in-Some
returns-in-Some c =
    patches_shown c.args.self.now c.args.segment c.in-Some.view.now c.records.result c.gives_patches.result c.in-Some.ensures c.records.ensures c.gives_patches.ensures

pub returns-in-None : goal.returns-in-None
returns-in-None c = (λ yes. absurd cc, λ has. absurd (nothing_patched c.args.self.now c.args.segment c.in-None.ensures has))

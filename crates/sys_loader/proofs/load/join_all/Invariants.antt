use Rattle.std.specs.Prelude.{◌≡◌, ◌≤◌, List, length, map, take, Some}
use Rattle.omf_format.specs.File as omf
use Rattle.omf_io.specs.Counts.{saturating_sum}
use Rattle.load_meaning.specs.Pathnames.{paths_of}
use Rattle.loader_agrees.specs.Agrees.{LoadedUser}
use Rattle.loader_agrees.specs.Acts.{joined_kepts}
use Rattle.loader_users.specs.View.{kept}
use Rattle.sys_loader.proofs.Joined.{AreGood}
use Rattle.sys_loader.proofs.load.join_all.Given as goal

-- the files of the first rows were read, and their users are made
abbrev pub invariant-rows : goal.invariant-rows
invariant-rows g l = ((g.F.Files.seen l.files).held ≡ (g.F.Files.seen l.fn.files).held)
    × ((g.F.Files.seen l.files).faults ≡ (g.F.Files.seen l.fn.files).faults)
    × ((g.F.Files.seen l.files).asked ≡ saturating_sum l.place (g.F.Files.seen l.fn.files).asked)
    × (l.place ≤ length (paths_of l.load))
    × ((all : List (List omf.Segment)) × AreGood (g.F.Files.seen l.fn.files).held (take l.place (paths_of l.load)) all
    × (map (λ (k : LoadedUser). Some k) (map kept l.users.items) ≡ joined_kepts (take l.place (paths_of l.load)) all))

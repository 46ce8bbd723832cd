use Rattle.std.proofs.Common.{length, ap, arith, map}
use Rattle.std.specs.Prelude.{option_map}
use Rattle.std.proofs.lemmas.List.{length-map}
use Rattle.load_meaning.specs.Pathnames.{paths_of}
use Rattle.loader_agrees.specs.Agrees.{Loaded}
use Rattle.loader_users.specs.View.{kept}
use Rattle.sys_loader.proofs.Beginning.{rows_length}
use Rattle.sys_loader.proofs.Loading.{ids_same}
use Rattle.sys_loader.proofs.loader.Loader.plan_and_start.Goals as goal

pub start-requires-clause-attached : goal.start-requires-clause-attached
start-requires-clause-attached c =
    ids_same _ _ _ _ c.in-Ok.attached.items c.in-Ok.ensures (omega (arith, c.len.ensures, ap (λ (l : Loaded). length l.users) c.self.view_is, length-map c.self.inside.users.items (option_map kept)))
    (omega (arith, c.len-2.ensures, length-map c.args.joined.items kept, rows_length (paths_of c.args.load.now) c.requires.users.0 (map kept c.args.joined.items) c.requires.users.1))

use Rattle.std.proofs.Common.{sym, ap, ◌∙◌}
use Rattle.std.specs.Prelude.{option_map}
use Rattle.sys_loader.proofs.Paths.{path_text}
use Rattle.sys_loader.proofs.load.path_of.Goals as goal

pub unreachable-requires-in-Err : goal.unreachable-requires-in-Err
unreachable-requires-in-Err c = c.in-Err.ensures.cases.0 (path_text c.requires.loadable.0 c.args.load.now c.requires.loadable.1 c.args.place c.in-Some.path.now (sym c.path.ensures ∙ ap (option_map (λ p. p.now)) c.in-Some.is))

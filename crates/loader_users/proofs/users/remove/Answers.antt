use Rattle.std.proofs.Common.{ℕ, None, ap, ◌∙◌, map}
use Rattle.std.specs.Prelude.{option_map, slice_set}
use Rattle.loader_agrees.specs.laws.Lists.{set_map}
use Rattle.loader_users.specs.View.{kept}
use Rattle.loader_users.proofs.users.remove.Goals as goal

pub returns-clause-gone : goal.returns-clause-gone
returns-clause-gone c =
    set_map (option_map kept) c.args.users.now.items c.from.result None ∙ ap (λ (n : ℕ). slice_set (map (option_map kept) c.args.users.now.items) n None) c.from.ensures

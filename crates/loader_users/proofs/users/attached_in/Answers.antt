use Rattle.std.proofs.Common.{length, refl, sym, ap, ◌∙◌, arith}
use Rattle.std.specs.Prelude.{slice_get}
use Rattle.std.proofs.lemmas.Option.{same_Some, slice_get_read}
use Rattle.loader_agrees.specs.Agrees.{LoadedUser}
use Rattle.loader_users.specs.View.{kept}
use Rattle.loader_users.proofs.users.attached_in.Goals as goal

pub index-requires : goal.index-requires
index-requires c = omega (arith, c.requires.inside (kept c.user_in.result.now) c.user_in.ensures)

pub returns : goal.returns
returns c k made =
    let user = c.user_in.result.now in
    let same = same_Some (kept user) k (sym c.user_in.ensures ∙ made) in
    ap (λ (x : LoadedUser). slice_get x.attached c.args.place) (sym same)
    ∙ slice_get_read user.attached.items (length user.attached.items) c.args.place c.index.result.now refl (c.requires.inside (kept user) c.user_in.ensures) c.index.ensures

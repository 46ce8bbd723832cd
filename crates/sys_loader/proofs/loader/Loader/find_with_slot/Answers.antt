use Rattle.std.proofs.Common.{ℕ, refl, subst}
use Rattle.loader_agrees.specs.Agrees.{Loaded}
use Rattle.loader_agrees.specs.Acts.{LiesIn}
use Rattle.loader_users.proofs.Lies.{none_held, none_owned, lies_owned, short_users}
use Rattle.sys_loader.proofs.loader.Loader.find_with_slot.Goals as goal

pub returns-in-None : goal.returns-in-None
returns-in-None c = subst (λ (l : Loaded). (id number offset : ℕ) → ¬ LiesIn l c.args.address id number offset) c.self.view_is
    (none_held c.self.inside.banks c.self.inside.users.items c.self.invariant.0 c.args.address c.in-None.ensures)

pub search_owner-requires : goal.search_owner-requires
search_owner-requires c = record { short = short_users c.self.inside.banks c.self.inside.users.items c.self.invariant.0 }

pub returns-in-Some-search_owner : goal.returns-in-Some-search_owner
returns-in-Some-search_owner c = (
  subst (λ (l : Loaded). LiesIn l c.args.address c.owner_of-user.result c.in-Some-search_owner.segment c.in-Some-search_owner.offset) c.self.view_is
      (lies_owned c.self.inside.banks c.self.inside.users.items c.self.invariant.0 c.args.address c.in-Some.h c.owner_of-user.result c.in-Some-search_owner.segment c.in-Some-search_owner.offset c.in-Some-search_owner.ensures),
  refl,
)

pub returns-in-None-search_owner : goal.returns-in-None-search_owner
returns-in-None-search_owner c = subst (λ (l : Loaded). (id number offset : ℕ) → ¬ LiesIn l c.args.address id number offset) c.self.view_is
    (none_owned c.self.inside.banks c.self.inside.users.items c.self.invariant.0 c.args.address c.in-Some.h c.in-Some.ensures c.owner_of-user.result c.owner_of-user.ensures c.in-None-search_owner.ensures)

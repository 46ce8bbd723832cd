use Rattle.std.proofs.Common.{◌≡◌, ℕ, List, [], ◌∷◌, ◌++◌, ap, ◌∙◌}
use Rattle.link_meaning.specs.declared.search.SearchKind.{SearchKind}
use Rattle.link_meaning.specs.Uses.{Use}
use Rattle.link_tables.specs.declared.uses.UseSite.{UseSite}
use Rattle.link_tables.specs.Uses.{use_of, uses_of_sites}
use Rattle.link_tables.proofs.UseTables.{sites_more}
use Rattle.link_tables.proofs.uses.Uses.push.Goals as goal

pub returns : goal.returns
returns c =
    let old = c.self.inside in
    let u = c.args.used in
    let site : UseSite = record { name = u.name; at = u.at; place = u.place } in
    let wants : c.push.new.self.items ≡ old.wants.items ++ u.want ∷ [] = c.in_ok-push.ensures.items in
    let sites : c.push-2.new.self.items ≡ old.sites.items ++ site ∷ [] = c.in_default.ensures.items in
    ap (λ (l : List SearchKind). uses_of_sites l c.push-2.new.self.items) wants
    ∙ ap (λ (l : List UseSite). uses_of_sites (old.wants.items ++ u.want ∷ []) l) sites
    ∙ sites_more old.wants.items old.sites.items u.want site c.self.invariant
    ∙ ap (λ (l : List (ℕ × Use)). l ++ use_of u ∷ []) c.self.view_is

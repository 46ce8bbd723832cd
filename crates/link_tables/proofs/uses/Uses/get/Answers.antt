use Rattle.std.proofs.Common.{ℕ, ◌<◌, List, length, refl, sym, ap, ◌∙◌, arith}
use Rattle.std.specs.Prelude.{slice_get}
use Rattle.std.proofs.lemmas.Option.{slice_get_read}
use Rattle.link_meaning.specs.Uses.{Use}
use Rattle.link_tables.proofs.UseTables.{sites_count, site_at}
use Rattle.link_tables.proofs.uses.Uses.get.Goals as goal

pub index-site-requires : goal.index-site-requires
index-site-requires c = omega (arith, c.requires, sites_count c.self.inside.wants.items c.self.inside.sites.items c.self.invariant, ap length c.self.view_is, c.self.inside.sites.ok.0)

pub index-requires : goal.index-requires
index-requires c = omega (arith, c.requires, sites_count c.self.inside.wants.items c.self.inside.sites.items c.self.invariant, ap length c.self.view_is, c.self.inside.wants.ok.0, c.self.invariant)

pub returns : goal.returns
returns c =
    let wants = c.self.inside.wants.items in
    let sites = c.self.inside.sites.items in
    let few : c.args.number < length sites = omega (arith, c.requires, sites_count wants sites c.self.invariant, ap length c.self.view_is) in
    let less : c.args.number < length wants = omega (arith, few, c.self.invariant) in
    let want = slice_get_read wants (length wants) c.args.number c.index.result.now refl less c.index.ensures in
    let site = slice_get_read sites (length sites) c.args.number c.index-site.result.now refl few c.index-site.ensures in
    sym (ap (λ (l : List (ℕ × Use)). slice_get l c.args.number) c.self.view_is) ∙ site_at wants sites c.args.number c.index.result.now c.index-site.result.now want site

use Rattle.std.proofs.Common.{◌≡◌, ◌++◌, length}
use Rattle.std.specs.List.{flat_map, AllByRecursion}
use Rattle.omf_format.specs.Super.{page_text}
use Rattle.load_meaning.specs.WrittenPages.{by_page, pages_from, pages_text}
use Rattle.load_meaning.specs.laws.PageLaws.{Climb, IsGroup}
use Rattle.load_writer.proofs.pages.pages.Given as goal

-- what was written and the pages that are left are the whole
abbrev pub invariant-pages : goal.invariant-pages
invariant-pages l = record {
  whole : l.out.items ++ flat_map page_text (pages_from l.page (by_page l.left)) ≡ pages_text l.locations;
  climb : Climb l.page (by_page l.left);
  sized : AllByRecursion IsGroup (by_page l.left);
}

abbrev pub decreases-pages : goal.decreases-pages
decreases-pages l = length l.left

use Rattle.std.proofs.Common.{◌≡◌, ◌++◌}
use Rattle.std.specs.List.{flat_map}
use Rattle.omf_format.specs.Super.{page_text}
use Rattle.load_meaning.specs.WrittenPages.{passing}
use Rattle.load_writer.proofs.pages.put_skips.Given as goal

-- what was written and what is left pass all pages over
abbrev pub invariant-skips : goal.invariant-skips
invariant-skips l = l.out.items ++ flat_map page_text (passing l.left) ≡ l.initial.out.items ++ flat_map page_text (passing l.pages)

abbrev pub decreases-skips : goal.decreases-skips
decreases-skips l = l.left

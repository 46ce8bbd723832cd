use Rattle.std.proofs.Common.{◌≡◌, ◌++◌, ℕ, map, drop, length}
use Rattle.load_writer.specs.WrittenParts.{seen, IsFront, locations_by_form}
use Rattle.load_meaning.specs.WrittenBody.{AreWritten}
use Rattle.load_writer.proofs.FormLists.{with_left, lone_text}
use Rattle.load_writer.proofs.written.put_lone.Given as goal

-- the records and the locations so far, and those of the patches that are left
abbrev pub invariant-patches : goal.invariant-patches
invariant-patches l = record {
  records : l.out.items ++ lone_text l.own (map seen (drop l.patch-index l.patches)) ≡ l.initial.out.items ++ lone_text l.own (map seen l.patches);
  lists : with_left l.own (map seen (drop l.patch-index l.patches)) 0 (map (λ of. of.items) l.lists.items) ≡ locations_by_form l.own (map seen l.patches);
  size : length l.lists.items ≡ 38;
  left : (low : ℕ) × AreWritten 0xFFFFFF low (map seen (drop l.patch-index l.patches));
  front : IsFront l.initial.out.items l.out.items;
}

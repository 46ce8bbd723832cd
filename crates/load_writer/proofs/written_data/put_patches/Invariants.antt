use Rattle.std.proofs.Common.{◌≡◌, ℕ, length, map, drop}
use Rattle.load_writer.specs.WrittenParts.{seen, end_after}
use Rattle.load_meaning.specs.WrittenBody.{AreWritten, with_stored}
use Rattle.load_writer.proofs.written_data.put_patches.Given as goal

-- with the patches that are left the data are the whole
abbrev pub invariant-patches : goal.invariant-patches
invariant-patches l = record {
  whole : with_stored l.own l.content (map seen (drop l.patch-index l.patches)) ≡ with_stored l.own l.initial.content (map seen l.patches);
  size : length l.content ≡ length l.initial.content;
  end' : end_after l.end (map seen (drop l.patch-index l.patches)) ≡ end_after 0 (map seen l.patches);
  left : (low : ℕ) × AreWritten (length l.initial.content) low (map seen (drop l.patch-index l.patches));
}

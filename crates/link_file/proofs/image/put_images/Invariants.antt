use Rattle.std.proofs.Common.{◌≡◌, ◌++◌, ◌≤◌, ◌-◌, List, length, drop}
use Rattle.omf_format.specs.Record.{Record}
use Rattle.load_meaning.specs.WrittenFile.{file_text}
use Rattle.link_file.specs.Images.{spelled_records, images_in, left_from, AreReady}
use Rattle.link_file.proofs.image.put_images.Given as goal

-- the load segments so far and those that are left
abbrev pub invariant-loads : goal.invariant-loads
invariant-loads l = record {
  own : (records : List Record) → l.initial.own ≡ spelled_records records → l.own ≡ spelled_records (left_from l.place records);
  whole : (records : List Record) → l.initial.own ≡ spelled_records records
      → l.out.items ++ file_text (images_in (left_from l.place records) (drop l.place l.headers) (drop l.place l.contents)) ≡ l.initial.out.items ++ file_text (images_in records l.headers l.contents);
  short : length l.initial.out.items ≤ 0x1000000 → length l.out.items ≤ 0x1000000;
  left : AreReady (drop l.place l.headers) (drop l.place l.contents);
}

abbrev pub decreases-loads : goal.decreases-loads
decreases-loads l = length l.headers - l.place

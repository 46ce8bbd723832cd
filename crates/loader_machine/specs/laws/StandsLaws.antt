-- What the bytes of a segment depend on: the user, the segment's own place, those of the static segments, and in a table its
-- targets. And there are LENGTH of them.
use Rattle.std.proofs.Common.{◌≡◌, inl, inr, ℕ, zero, suc, Bool, true, false, cond, ◌+◌, ◌*◌, ◌≤◌, List, [], ◌∷◌, ◌++◌, length, map, take, drop, All, refl, ap, ◌∙◌, arith, replicate, Some}
use Rattle.std.specs.List.{AllByRecursion, flat_map}
use Rattle.std.proofs.lemmas.List.Elements.{All-append, All-take, All-drop, All-cons, All-nil, All-head, All-tail}
use Rattle.std.proofs.lemmas.List.Concat.{flat_map-cons}
use Rattle.std.proofs.lemmas.List.{length-map, length-append}
use Rattle.omf_format.specs.Header.{is_dynamic, is_skipped}
use Rattle.omf_format.specs.File.{Segment, segment_at}
use Rattle.load_meaning.specs.declared.table.Target.{Target}
use Rattle.load_meaning.specs.Cells.{Cell, Byte, Part, Patch, cells, segment_bytes, parts_from, patched_cells, byte_of}
use Rattle.load_meaning.specs.laws.Steps.{with_patch}
use Rattle.load_meaning.specs.declared.table.Entry.{Entry}
use Rattle.load_meaning.specs.Table.{entry_bytes, table_bytes, file_entry}
use Rattle.load_meaning.specs.laws.TableLaws.{length-entry_bytes}
use Rattle.load_meaning.specs.LoadTable.{is_table, targets_of}
use Rattle.load_meaning.specs.Loadable.{patch_list, IsPatch, IsTarget, IsSoundSegment}
use Rattle.load_meaning.specs.laws.CellLaws.{length-cells, length-segment_bytes}
use Rattle.loader_machine.specs.Heads.{head_of, is_static}
use Rattle.loader_machine.specs.State.{Pokes}
use Rattle.loader_machine.specs.Stands.{AddressSetting, stands}
use Rattle.loader_machine.specs.laws.Words.{entry_for, entries_bytes, with_pokes, read_bytes}
use Rattle.loader_machine.specs.laws.PokeLaws.{length_over}

-- ---- cells

-- a cell gives the same byte by these places as by the others
abbrev Same : (ℕ → ℕ) → (ℕ → ℕ) → Cell → Type 0
Same p q c = byte_of p c ≡ byte_of q c

module _ (p q : ℕ → ℕ) where
  byte_same : (b : ℕ) → Same p q (Byte b)
  byte_same b = refl

  part_same : (patch : Patch) (index : ℕ) → p patch.segment ≡ q patch.segment → Same p q (Part patch.file patch.segment patch.offset patch.shift index)
  part_same patch index e = ap (λ (place : ℕ). byte_of (λ (n : ℕ). place) (Part patch.file patch.segment patch.offset patch.shift index)) e

  bytes_same : (bytes : List ℕ) → All (Same p q) (map Byte bytes)
  bytes_same [] = All-nil (Same p q)
  bytes_same (b ∷ bytes) = All-cons (Same p q) (Byte b) (map Byte bytes) (byte_same b) (bytes_same bytes)

  parts_same : (patch : Patch) (index n : ℕ) → p patch.segment ≡ q patch.segment → All (Same p q) (parts_from patch index n)
  parts_same patch index zero e = All-nil (Same p q)
  parts_same patch index (suc n) e = All-cons (Same p q) (Part patch.file patch.segment patch.offset patch.shift index) (parts_from patch (index + 1) n) (part_same patch index e) (parts_same patch (index + 1) n e)

  patched_same : (patches : List Patch) (cs : List Cell) → All (Same p q) cs → AllByRecursion (λ (patch : Patch). p patch.segment ≡ q patch.segment) patches → All (Same p q) (patched_cells cs patches)
  patched_same [] cs all es = all
  patched_same (patch ∷ patches) cs all es = patched_same patches (with_patch cs patch)
      (All-append (Same p q) (take patch.location cs ++ parts_from patch 0 patch.count) (drop (patch.location + patch.count) cs)
      (All-append (Same p q) (take patch.location cs) (parts_from patch 0 patch.count) (All-take (Same p q) patch.location cs all) (parts_same patch 0 patch.count es.0))
      (All-drop (Same p q) (patch.location + patch.count) cs all)) es.1

  map_same : (cs : List Cell) → All (Same p q) cs → map (byte_of p) cs ≡ map (byte_of q) cs
  map_same [] all = refl
  map_same (c ∷ cs) all = cc (All-head (Same p q) c cs all, map_same cs (All-tail (Same p q) c cs all))

  -- where the places of the patches' targets are the same, so are the bytes of the cells
  pub cells_same : (s : Segment) → AllByRecursion (λ (patch : Patch). p patch.segment ≡ q patch.segment) (patch_list s) → map (byte_of p) (cells s) ≡ map (byte_of q) (cells s)
  unfolding cells
  cells_same s es = map_same (patched_cells (map Byte (segment_bytes s)) (patch_list s)) (patched_same (patch_list s) (map Byte (segment_bytes s)) (bytes_same (segment_bytes s)) es)

-- ---- tables

module _ (a b : AddressSetting) (id : a.id ≡ b.id) where
  entry_same : (t : Target) → a.target t.file t.segment ≡ b.target t.file t.segment → entry_for a t ≡ entry_for b t
  entry_same t target = cc

  entries_same : (targets : List Target) → AllByRecursion (λ (t : Target). a.target t.file t.segment ≡ b.target t.file t.segment) targets
      → map (entry_for a) targets ≡ map (entry_for b) targets
  entries_same [] es = refl
  entries_same (t ∷ targets) es = cc (entry_same t es.0, entries_same targets es.1)

  table_same : (targets : List Target) → AllByRecursion (λ (t : Target). a.target t.file t.segment ≡ b.target t.file t.segment) targets → entries_bytes a targets ≡ entries_bytes b targets
  table_same targets es = ap table_bytes (entries_same targets es)

-- ---- segments

-- two settings are alike for a segment: its user is the same; it isn't a table, and the segment itself and the static ones
-- are at the same places; or it is a table, and its targets are
pub record AreAlike (segments : List Segment) (number : ℕ) (s : Segment) (a b : AddressSetting) : Type 0 where
  pub id : a.id ≡ b.id
  pub own : a.place number ≡ b.place number
  pub static : (n : ℕ) (t : Segment) → segment_at segments n ≡ Some t → is_static (head_of t) ≡ true → a.place n ≡ b.place n
  pub target : is_table s ≡ true → (n : ℕ) (t : Segment) → segment_at segments n ≡ Some t → is_dynamic t.fields.kind ≡ true
      → is_skipped t.fields.kind ≡ false → a.target 1 n ≡ b.target 1 n
  pub far : is_table s ≡ true → (file n : ℕ) → 2 ≤ file → a.target file n ≡ b.target file n

all_weaker : {X : Type 0} (P Q : X → Type 0) → ((x : X) → P x → Q x) → (xs : List X) → AllByRecursion P xs → AllByRecursion Q xs
all_weaker P Q f [] all = tt
all_weaker P Q f (x ∷ xs) all = (f x all.0, all_weaker P Q f xs all.1)

module _ (segments : List Segment) (number : ℕ) (s : Segment) (sound : IsSoundSegment segments number s) (a b : AddressSetting) (alike : AreAlike segments number s a b) where
  patch_place : (patch : Patch) → IsPatch segments s patch → a.place patch.segment ≡ b.place patch.segment
  patch_place patch is = elim is.near [
    | inl own ↦ rw (own, sound.number') alike.own
    | inr static ↦ alike.static patch.segment is.target is.is (rw (static, is.kept) refl)
  ]

  entry_target : is_table s ≡ true → (t : Target) → IsTarget segments t → a.target t.file t.segment ≡ b.target t.file t.segment
  entry_target table t (inl is) = rw is.file' (alike.target table t.segment is.segment' is.is is.dynamic is.kept)
  entry_target table t (inr is) = alike.far table t.file t.segment is.beyond

  read_same : read_bytes a s ≡ read_bytes b s
  read_same = go (is_table s) refl
    where
      go : (t : Bool) → is_table s ≡ t → cond t (entries_bytes a (targets_of s)) (map (byte_of a.place) (cells s)) ≡ cond t (entries_bytes b (targets_of s)) (map (byte_of b.place) (cells s))
      go true is = table_same a b alike.id (targets_of s) (all_weaker (IsTarget segments) (λ (t : Target). a.target t.file t.segment ≡ b.target t.file t.segment) (entry_target is) (targets_of s) (sound.table is).targets)
      go false is = cells_same a.place b.place s (all_weaker (IsPatch segments s) (λ (patch : Patch). a.place patch.segment ≡ b.place patch.segment) patch_place (patch_list s) sound.patches)

  -- the content of a segment of a load file depends on the user, on the segment's place and those of the static segments, and in a table on
  -- its targets
  pub stands_alike : (pokes : Pokes) → stands a pokes s ≡ stands b pokes s
  unfolding stands
  stands_alike pokes = ap (with_pokes pokes) read_same

-- ---- lengths

flat_length : (entries : List Entry) → length (flat_map entry_bytes entries) ≡ 14 * length entries
flat_length [] = refl
flat_length (e ∷ entries) = ap length (flat_map-cons entry_bytes e entries)
    ∙ omega (arith, length-append (entry_bytes e) (flat_map entry_bytes entries), length-entry_bytes e, flat_length entries)

pub length-table_bytes : (entries : List Entry) → length (table_bytes entries) ≡ 12 + 14 * length entries
unfolding table_bytes
length-table_bytes entries = omega (
  arith,
  length-append (replicate 8 0 ++ flat_map entry_bytes entries) (replicate 4 0),
  length-append (replicate 8 0) (flat_map entry_bytes entries),
  flat_length entries,
)

table_length : (segments : List Segment) (number : ℕ) (s : Segment) (at : AddressSetting) → IsSoundSegment segments number s → is_table s ≡ true → length (entries_bytes at (targets_of s)) ≡ s.fields.length
table_length segments number s at sound is =
    let laid = (sound.table is).laid_out.size in
    length-table_bytes (map (entry_for at) (targets_of s))
    ∙ omega (arith, laid, length-map (targets_of s) (entry_for at), length-map (targets_of s) file_entry, length-segment_bytes s sound.fits)

read_long : (segments : List Segment) (number : ℕ) (s : Segment) (at : AddressSetting) → IsSoundSegment segments number s → length (read_bytes at s) ≡ s.fields.length
read_long segments number s at sound = go (is_table s) refl
  where
    go : (t : Bool) → is_table s ≡ t → length (cond t (entries_bytes at (targets_of s)) (map (byte_of at.place) (cells s))) ≡ s.fields.length
    go true is = table_length segments number s at sound is
    go false is = length-map (cells s) (byte_of at.place) ∙ length-cells segments number s sound

-- LENGTH bytes are in each segment of a load file
pub stands_long : (segments : List Segment) (number : ℕ) (s : Segment) (at : AddressSetting) (pokes : Pokes) → IsSoundSegment segments number s → length (stands at pokes s) ≡ s.fields.length
unfolding stands
stands_long segments number s at pokes sound = length_over pokes (read_bytes at s) ∙ read_long segments number s at sound

-- What the cells of a load file's segments are, and what its segments have.
use Rattle.std.proofs.Common.{take, ◌≡◌, ℕ, zero, suc, ◌+◌, ◌-◌, ◌≤◌, Bool, true, false, eqb, ltb, List, [], ◌∷◌, ◌++◌, length, map, Option, Some, None, refl, sym, ap, subst, ◌∙◌, arith, inl, inr}
use Rattle.std.specs.Prelude.{◌⊎◌, ◌&&◌, ◌||◌, cond, not, option_map, slice_get, replicate}
use Rattle.std.specs.List.{flat_map, AllByRecursion, list_any}
use Rattle.std.specs.Option.{option_or, option_map_or}
use Rattle.std.proofs.lemmas.Bool.{and_parts, not-true, not-false, eqb-true, ltb-false}
use Rattle.std.proofs.lemmas.List.{length-append, length-replicate, length-map, map-append}
use Rattle.std.proofs.lemmas.List.Concat.{flat_map-cons}
use Rattle.load_meaning.specs.declared.load.LoadCause.{LoadCause}
use Rattle.load_meaning.specs.declared.load.LoadCause.TheVariants.{Sequence, DataTooLong, PatchOutside, NoSuchTarget, DynamicTarget, BadTable}
use Rattle.load_meaning.specs.declared.load.LoadFault.{LoadFault}
use Rattle.omf_format.specs.Header.{is_dynamic, is_skipped, first_of}
use Rattle.omf_format.specs.Record.{Record}
use Rattle.omf_format.specs.File.{Segment, IsSegment, AreSegments, segment_at}
use Rattle.omf_format.specs.Body.{body_bytes}
use Rattle.load_meaning.specs.Cells.{Cell, Byte, Patch, parts_from, segment_bytes, patched_cells, patches_in, patches_of, cells}
use Rattle.load_meaning.specs.laws.Steps.{with_patch, is_kept, is_dynamic_at, in_segment, target_refusal}
use Rattle.load_meaning.specs.laws.LayingLaws.{laid, Fit, length-laid}
use Rattle.load_meaning.specs.Loadable.{Fault, IsLoadSegment, first_in, shape_fault, patch_refusal, first_refusal, entry_refusal, first_target_fault, target_fault, pathnames_flaw, IsPathnames, pathnames_fault, table_fault, later_fault, IsLoadable, patch_list, IsPatch, IsSoundSegment}
use Rattle.load_meaning.specs.Pathnames.{ArePaths, has_pathnames, most_paths, paths_in, paths_of, rows_flaw, is_one_long}
use Rattle.load_meaning.specs.laws.PathLaws.{paths_there}
use Rattle.load_meaning.specs.laws.LoadTableLaws.{first_of-none, table_is, table_first}

-- ---- segments of constants

-- the patches of a record, with its displacement
abbrev placed_patches : Segment → ℕ × Record → List (ℕ × Patch)
placed_patches s found = map (λ p. (found.0, p)) (patches_in s found.1)

-- the cells of a segment without patches are its bytes
pub cells-bytes : (s : Segment) → patches_of s ≡ [] → cells s ≡ map Byte (segment_bytes s)
unfolding cells
cells-bytes s none = ap (λ (l : List (ℕ × Patch)). patched_cells (map Byte (segment_bytes s)) (map (λ (p : ℕ × Patch). p.1) l)) none

-- where LENGTH has room for the bytes of the records, the bytes are LENGTH in all
pub length-segment_bytes : (s : Segment) → length (body_bytes s) ≤ s.fields.length → length (segment_bytes s) ≡ s.fields.length
unfolding segment_bytes
length-segment_bytes s fits =
    omega (arith, length-append (body_bytes s) (replicate (s.fields.length - length (body_bytes s)) 0), length-replicate {A = ℕ} (s.fields.length - length (body_bytes s)) 0)

-- ---- what phase 2 gives

-- a segment without a fault of phase 2
pub record IsShaped (number : ℕ) (s : Segment) : Type 0 where
  pub number' : s.fields.seg_num ≡ number
  pub fits : length (body_bytes s) ≤ s.fields.length

pub shaped : (number : ℕ) (s : Segment) → shape_fault number s ≡ None → IsShaped number s
unfolding shape_fault
shaped number s e =
    let number_is = first_of-none {F = Fault} (not (eqb s.fields.seg_num number)) (Sequence, s.start) ((ltb s.fields.length (length (body_bytes s)), (DataTooLong, s.start)) ∷ []) e in
    let size_is = first_of-none {F = Fault} (ltb s.fields.length (length (body_bytes s))) (DataTooLong, s.start) [] number_is.1 in
    record {
      number' = eqb-true s.fields.seg_num number (not-false _ number_is.0);
      fits = ltb-false s.fields.length (length (body_bytes s)) size_is.0;
    }

-- ---- what phase 3 gives

-- a test of a segment that is to be there
there : (o : Option Segment) (test : Segment → Bool) → option_map_or test o false ≡ true → (s : Segment) × (o ≡ Some s) × (test s ≡ true)
there None test e = absurd cc
there (Some s) test e = (s, refl, e)

-- a test that a segment which is there doesn't pass
not_there : (o : Option Segment) (test : Segment → Bool) (s : Segment) → o ≡ Some s → option_map_or test o false ≡ false → test s ≡ false
not_there o test s is e = sym (ap (λ (p : Option Segment). option_map_or test p false) is) ∙ e

-- where both of two tests don't hold together
apart : (x y : Bool) → (not x && y) ≡ false → (x ≡ true) ⊎ (y ≡ false)
apart true y e = inl refl
apart false y e = inr e

-- a patch that isn't refused
pub sound_patch : (segments : List Segment) (s : Segment) (p : Patch) → patch_refusal segments s p ≡ None → IsPatch segments s p
unfolding patch_refusal
sound_patch segments s p e =
    let inside = first_of-none {F = LoadCause} (ltb s.fields.length (p.location + p.count)) PatchOutside ((not (eqb p.file 1 && is_kept segments p.segment), NoSuchTarget) ∷ (not (eqb p.segment s.fields.seg_num) && is_dynamic_at segments p.segment, DynamicTarget) ∷ []) e in
    let target = first_of-none {F = LoadCause} (not (eqb p.file 1 && is_kept segments p.segment)) NoSuchTarget ((not (eqb p.segment s.fields.seg_num) && is_dynamic_at segments p.segment, DynamicTarget) ∷ []) inside.1 in
    let near = first_of-none {F = LoadCause} (not (eqb p.segment s.fields.seg_num) && is_dynamic_at segments p.segment) DynamicTarget [] target.1 in
    let both = and_parts (eqb p.file 1) (is_kept segments p.segment) (not-false _ target.0) in
    let found = there (segment_at segments p.segment) (λ t. not (is_skipped t.fields.kind)) both.1 in
    record {
      inside = ltb-false s.fields.length (p.location + p.count) inside.0;
      file' = eqb-true p.file 1 both.0;
      target = found.0;
      is = found.1;
      kept = not-true _ found.2;
      near = elim (apart (eqb p.segment s.fields.seg_num) (is_dynamic_at segments p.segment) near.0) [
        | inl own ↦ inl (eqb-true p.segment s.fields.seg_num own)
        | inr static ↦ inr (not_there (segment_at segments p.segment) (λ t. is_dynamic t.fields.kind) found.0 found.1 static)
      ];
    }

cause_none : (o p : Option LoadCause) → option_or o p ≡ None → (o ≡ None) × (p ≡ None)
cause_none None p e = (refl, e)
cause_none (Some cause) p e = absurd cc

fault_none : (o : Option LoadCause) (at : ℕ) (p : Option Fault) → option_or (option_map (λ (cause : LoadCause). (cause, at)) o) p ≡ None → (o ≡ None) × (p ≡ None)
fault_none None at p e = (refl, e)
fault_none (Some cause) at p e = absurd cc

sound_all : (segments : List Segment) (s : Segment) (patches : List Patch) → first_refusal segments s patches ≡ None → AllByRecursion (IsPatch segments s) patches
sound_all segments s [] e = tt
sound_all segments s (p ∷ patches) e =
    let both = cause_none (patch_refusal segments s p) (first_refusal segments s patches) e in
    (sound_patch segments s p both.0, sound_all segments s patches both.1)

-- the patches of a record alone
alone : (at : ℕ) (patches : List Patch) → map (λ (found : ℕ × Patch). found.1) (map (λ (p : Patch). (at, p)) patches) ≡ patches
alone at [] = refl
alone at (p ∷ patches) = ap (λ (l : List Patch). p ∷ l) (alone at patches)

-- those of a record, and then those of the others
pub patches-cons : (s : Segment) (found : ℕ × Record) (founds : List (ℕ × Record))
    → map (λ (f : ℕ × Patch). f.1) (flat_map (placed_patches s) (found ∷ founds)) ≡ patches_in s found.1 ++ map (λ (f : ℕ × Patch). f.1) (flat_map (placed_patches s) founds)
patches-cons s found founds =
    ap (map (λ (f : ℕ × Patch). f.1)) (flat_map-cons (placed_patches s) found founds)
    ∙ map-append (λ (f : ℕ × Patch). f.1) (placed_patches s found) (flat_map (placed_patches s) founds)
    ∙ ap (λ (l : List Patch). l ++ map (λ (f : ℕ × Patch). f.1) (flat_map (placed_patches s) founds)) (alone found.0 (patches_in s found.1))

all-both : (P : Patch → Type 0) (xs ys : List Patch) → AllByRecursion P xs → AllByRecursion P ys → AllByRecursion P (xs ++ ys)
all-both P [] ys x y = y
all-both P (p ∷ xs) ys x y = (x.0, all-both P xs ys x.1 y)

sound_records : (segments : List Segment) (s : Segment) (founds : List (ℕ × Record)) → first_target_fault segments s founds ≡ None
    → AllByRecursion (IsPatch segments s) (map (λ (f : ℕ × Patch). f.1) (flat_map (placed_patches s) founds))
sound_records segments s [] e = tt
sound_records segments s (found ∷ founds) e =
    let here = fault_none (target_refusal segments s found.1) found.0 (first_target_fault segments s founds) e in
    let patches = cause_none (entry_refusal segments found.1) (first_refusal segments s (patches_in s found.1)) here.0 in
    subst (AllByRecursion (IsPatch segments s)) (sym (patches-cons s found founds))
    (all-both (IsPatch segments s) (patches_in s found.1) _ (sound_all segments s (patches_in s found.1) patches.1) (sound_records segments s founds here.1))

-- where phase 3 finds nothing in a segment, each of its patches is allowed there
pub sound_patches : (segments : List Segment) (number : ℕ) (s : Segment) → target_fault segments number s ≡ None → AllByRecursion (IsPatch segments s) (patch_list s)
unfolding patches_of
sound_patches segments number s e = sound_records segments s s.records e

-- ---- each segment of a load file

first_none : (o : Option Fault) (rest : Option LoadFault) (number : ℕ) → option_or (option_map (in_segment number) o) rest ≡ None → (o ≡ None) × (rest ≡ None)
first_none None rest number e = (refl, e)
first_none (Some fault) rest number e = absurd cc

abbrev some_segment : Segment → Option Segment
some_segment s = Some s

segment_is : (a b : Segment) → some_segment a ≡ Some b → a ≡ b
segment_is a b e = cc

-- where a phase finds nothing, it finds nothing in each segment
none_at : (phase : ℕ → Segment → Option Fault) (number : ℕ) (segments : List Segment) → first_in phase number segments ≡ None → (k : ℕ) (s : Segment) → slice_get segments k ≡ Some s → phase (number + k) s ≡ None
none_at phase number [] e k s is = absurd cc
none_at phase number (t ∷ segments) e zero s is =
    let both = first_none (phase number t) (first_in phase (number + 1) segments) number e in
    let place : number ≡ number + 0 = omega arith in
    subst (λ (n : ℕ). phase n s ≡ None) place (subst (λ (u : Segment). phase number u ≡ None) (segment_is t s is) both.0)
none_at phase number (t ∷ segments) e (suc k) s is =
    let both = first_none (phase number t) (first_in phase (number + 1) segments) number e in
    let place : number + 1 + k ≡ number + suc k = omega arith in
    subst (λ (n : ℕ). phase n s ≡ None) place (none_at phase (number + 1) segments both.1 k s is)

pass_at : (segments : List Segment) → AllByRecursion IsLoadSegment segments → (k : ℕ) (s : Segment) → slice_get segments k ≡ Some s → IsLoadSegment s
pass_at [] all k s is = absurd cc
pass_at (t ∷ segments) all zero s is = subst IsLoadSegment (segment_is t s is) all.0
pass_at (t ∷ segments) all (suc k) s is = pass_at segments all.1 k s is

stands_in : (segments : List Segment) (at : ℕ) (file : List ℕ) (next : ℕ) → AreSegments segments at file next → (k : ℕ) (s : Segment) → slice_get segments k ≡ Some s → IsSegment s file
stands_in [] at file next are k s is = absurd cc
stands_in (t ∷ segments) at file next are zero s is = subst (λ (u : Segment). IsSegment u file) (segment_is t s is) are.2
stands_in (t ∷ segments) at file next are (suc k) s is = stands_in segments (at + t.fields.byte_count) file next are.3 k s is

-- a segment of a load file, with its number
pub record IsSegmentOf (file : List ℕ) (number : ℕ) (s : Segment) : Type 0 where
  pub segment : IsSegment s file
  pub pass : IsLoadSegment s
  pub shape : IsShaped number s

both_none : (a b : Option LoadFault) → option_or a b ≡ None → (a ≡ None) × (b ≡ None)
both_none None b e = (refl, e)
both_none (Some fault) b e = absurd cc

-- where no later phase finds anything, neither does each
pub later_none : (segments : List Segment) → later_fault segments ≡ None
    → (first_in shape_fault 1 segments ≡ None) × (first_in (target_fault segments) 1 segments ≡ None) × (first_in (pathnames_fault segments) 1 segments ≡ None)
    × (first_in (table_fault segments) 1 segments ≡ None)
unfolding later_fault
later_none segments e =
    let one = both_none (first_in shape_fault 1 segments) _ e in
    let two = both_none (first_in (target_fault segments) 1 segments) _ one.1 in
    let three = both_none (first_in (pathnames_fault segments) 1 segments) (first_in (table_fault segments) 1 segments) two.1 in
    (one.0, two.0, three.0, three.1)

pub loadable_at : (file : List ℕ) (segments : List Segment) → IsLoadable file segments → (number : ℕ) (s : Segment) → segment_at segments number ≡ Some s → IsSegmentOf file number s
loadable_at file segments is zero s e = absurd cc
loadable_at file segments is (suc k) s e =
    let place : 1 + k ≡ suc k = omega arith in
    record {
      segment = stands_in segments 0 file (length file) is.is_file k s e;
      pass = pass_at segments is.pass k s e;
      shape = subst (λ (n : ℕ). IsShaped n s) place (shaped (1 + k) s (none_at shape_fault 1 segments (later_none segments is.sound).0 k s e));
    }

-- ---- pathnames

-- the paths of a file are those of its first pathname segment
paths_first : (segments : List Segment) (k more : ℕ) (s : Segment) → more ≡ most_paths → slice_get segments k ≡ Some s → has_pathnames s ≡ true → list_any has_pathnames (take k segments) ≡ false
    → paths_of segments ≡ paths_in more (segment_bytes s)
unfolding paths_of
paths_first [] k more s most e is none = absurd cc
paths_first (t ∷ segments) zero more s most e is none =
    let same = segment_is t s e in
    let here : has_pathnames t ≡ true = ap has_pathnames same ∙ is in
    subst (λ (n : ℕ). cond (has_pathnames t) (paths_in n (segment_bytes t)) (paths_of segments) ≡ paths_in more (segment_bytes s)) most
    (ap (λ (b : Bool). cond b (paths_in more (segment_bytes t)) (paths_of segments)) here ∙ ap (λ (u : Segment). paths_in more (segment_bytes u)) same)
paths_first (t ∷ segments) (suc k) more s most e is none =
    let both = neither (has_pathnames t) (list_any has_pathnames (take k segments)) none in
    ap (λ (b : Bool). cond b (paths_in most_paths (segment_bytes t)) (paths_of segments)) both.0 ∙ paths_first segments k more s most e is both.1
  where
    neither : (a b : Bool) → (a || b) ≡ false → (a ≡ false) × (b ≡ false)
    neither true b e = absurd cc
    neither false b e = (refl, e)

no_path_flaw : (b : Bool) (o : Option ℕ) → b ≡ true → cond b (elim o as (λ x. Option Fault) [ None ↦ None | Some at ↦ Some (BadTable, at) ]) None ≡ None → o ≡ None
no_path_flaw true None is e = refl
no_path_flaw true (Some at) is e = absurd cc
no_path_flaw false o is e = absurd cc

pathnames_are : (segments : List Segment) (k more : ℕ) (s : Segment) → more ≡ most_paths → slice_get segments k ≡ Some s → has_pathnames s ≡ true → pathnames_fault segments (suc k) s ≡ None → IsPathnames segments s
unfolding pathnames_flaw
pathnames_are segments k more s most e is fault =
    let kind_check : Bool × ℕ = (is_dynamic s.fields.kind || is_skipped s.fields.kind, 0) in
    let body_check : Bool × ℕ = (not (is_one_long s.fields.length s.records), 0) in
    let flaw = both_places (first_of ((list_any has_pathnames (take (suc k - 1) segments), 0) ∷ kind_check ∷ body_check ∷ [])) (rows_flaw most_paths 0 0 (segment_bytes s)) (no_path_flaw (has_pathnames s) _ is fault) in
    let second = first_of-none (list_any has_pathnames (take (suc k - 1) segments)) 0 (kind_check ∷ body_check ∷ []) flaw.0 in
    let kind = first_of-none kind_check.0 0 (body_check ∷ []) second.1 in
    let both = neither (is_dynamic s.fields.kind) (is_skipped s.fields.kind) kind.0 in
    let place : suc k - 1 ≡ k = omega arith in
    let before : list_any has_pathnames (take k segments) ≡ false = ap (λ (n : ℕ). list_any has_pathnames (take n segments)) (sym place) ∙ second.0 in
    let rows : rows_flaw more 0 0 (segment_bytes s) ≡ None = subst (λ (n : ℕ). rows_flaw n 0 0 (segment_bytes s) ≡ None) (sym most) flaw.1 in
    record {
      static = both.0;
      kept = both.1;
      laid_out = subst (λ (paths : List (List ℕ)). ArePaths paths (segment_bytes s)) (sym (paths_first segments k more s most e is before)) (paths_there more (segment_bytes s) most rows);
    }
  where
    neither : (a b : Bool) → (a || b) ≡ false → (a ≡ false) × (b ≡ false)
    neither true b e = absurd cc
    neither false b e = (refl, e)

    both_places : (a b : Option ℕ) → option_or a b ≡ None → (a ≡ None) × (b ≡ None)
    both_places None b e = (refl, e)
    both_places (Some at) b e = absurd cc

-- what a load file's segment has
pub loadable_has : (file : List ℕ) (segments : List Segment) → IsLoadable file segments → (number : ℕ) (s : Segment) → segment_at segments number ≡ Some s → IsSoundSegment segments number s
loadable_has file segments is zero s e = absurd cc
loadable_has file segments is (suc k) s e =
    let phases = later_none segments is.sound in
    let shape = (loadable_at file segments is (suc k) s e).shape in
    let place : 1 + k ≡ suc k = omega arith in
    let sized = length-segment_bytes s shape.fits in
    let table : table_fault segments (suc k) s ≡ None =
    subst (λ (n : ℕ). table_fault segments n s ≡ None) place (none_at (table_fault segments) 1 segments phases.3 k s e) in
    record {
      number' = shape.number';
      fits = shape.fits;
      patches = sound_patches segments (1 + k) s (none_at (target_fault segments) 1 segments phases.1 k s e);
      table = λ is_one. table_is segments (suc k) s sized is_one table;
      only = λ is_one. table_first segments k s e is_one table;
      paths = λ is_one. pathnames_are segments k most_paths s refl e is_one (subst (λ (n : ℕ). pathnames_fault segments n s ≡ None) place (none_at (pathnames_fault segments) 1 segments phases.2 k s e));
    }

-- ---- cells

length-parts_from : (p : Patch) (index n : ℕ) → length (parts_from p index n) ≡ n
length-parts_from p index zero = refl
length-parts_from p index (suc n) = ap suc (length-parts_from p (index + 1) n)

-- patches over cells are the pieces of their parts
pub patched-laid : (patches : List Patch) (xs : List Cell) → patched_cells xs patches ≡ laid (λ p. parts_from p 0 p.count) xs patches
patched-laid [] xs = refl
patched-laid (p ∷ patches) xs = patched-laid patches (with_patch xs p)

-- patches inside LENGTH fit
pub fit_in : (segments : List Segment) (s : Segment) (size : ℕ) (patches : List Patch) → size ≡ s.fields.length → AllByRecursion (IsPatch segments s) patches → Fit (λ p. parts_from p 0 p.count) size patches
fit_in segments s size [] is all p has = absurd has
fit_in segments s size (q ∷ patches) is all p has = elim has [
  | inl same ↦ (length-parts_from p 0 p.count, omega (arith, (subst (IsPatch segments s) (sym same) all.0).inside, is))
  | inr more ↦ fit_in segments s size patches is all.1 p more
]

-- a segment of a load file has LENGTH cells
pub length-cells : (segments : List Segment) (number : ℕ) (s : Segment) → IsSoundSegment segments number s → length (cells s) ≡ s.fields.length
unfolding cells
length-cells segments number s sound =
    let bytes : length (map Byte (segment_bytes s)) ≡ s.fields.length = length-map (segment_bytes s) Byte ∙ length-segment_bytes s sound.fits in
    ap length (patched-laid (patch_list s) (map Byte (segment_bytes s)))
    ∙ length-laid (λ p. parts_from p 0 p.count) (patch_list s) (map Byte (segment_bytes s)) (fit_in segments s (length (map Byte (segment_bytes s))) (patch_list s) bytes sound.patches)
    ∙ bytes

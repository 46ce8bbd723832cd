-- The pathname segment of a load file: one LCONST of all its bytes, and nothing else.
use Rattle.std.proofs.Common.{◌≡◌, ℕ, suc, ◌+◌, ◌-◌, Bool, true, false, eqb, cond, List, [], ◌∷◌, length, map, take, Option, Some, None, Result, Ok, Err, refl, sym, ap, subst, ◌∙◌}
use Rattle.std.specs.Prelude.{◌||◌, not, slice_get, option_map}
use Rattle.std.specs.List.{filter, list_any}
use Rattle.std.specs.Option.{option_or, option_map_or}
use Rattle.std.proofs.lemmas.Bool.{eqb-true, not-false}
use Rattle.std.proofs.lemmas.List.Concat.{flat_map-cons}
use Rattle.omf_format.specs.declared.fault.Flaw.{Flaw}
use Rattle.omf_format.specs.declared.fault.RecordFault.{RecordFault}
use Rattle.omf_format.specs.Header.{first_of, is_dynamic, is_skipped}
use Rattle.omf_format.specs.Record.{Record, End, Const, LongConst, Align, Org, Space, Reloc, InterSeg, ShortReloc, ShortInterSeg, Super, Using, Strong, Label, Equate, Formula, Entry}
use Rattle.omf_format.specs.Reading.{Reader, first_record, is_end, next_answer, after_next, HandsOut}
use Rattle.omf_format.specs.laws.Steps.{answer_of_reader}
use Rattle.omf_format.specs.File.{Segment, IsSegment, body_reader}
use Rattle.load_meaning.specs.declared.load.LoadCause.TheVariants.{BadTable}
use Rattle.load_meaning.specs.Cells.{Byte, Patch, segment_bytes, patches_in, patches_of, cells}
use Rattle.load_meaning.specs.Pathnames.{has_pathnames, most_paths, rows_flaw, paths_in, long_bytes, is_one_long, paths_of}
use Rattle.load_meaning.specs.Loadable.{Fault, pathnames_flaw, pathnames_fault, IsLoadable}
use Rattle.load_meaning.specs.laws.LoadTableLaws.{first_of-none}
use Rattle.load_meaning.specs.laws.CellLaws.{cells-bytes, loadable_at, later_none}
use Rattle.omf_compact.specs.Stretches.{bytes_in}
use Rattle.omf_compact.specs.Canonical.{is_entry, Plain, plain_of, plain, is_pathname}
use Rattle.omf_compact.specs.laws.Words.{entries_in}
use Rattle.omf_compact.specs.laws.CellsBack.{given, patches_given}
use Rattle.omf_compact.specs.laws.SegmentLists.{none_at}

pub path-is : (s : Segment) → is_pathname (plain_of s) ≡ has_pathnames s
unfolding plain_of
path-is s = refl

-- ---- the records of a segment that is one LCONST

pub record IsLone (s : Segment) : Type 0 where
  pub bytes : List ℕ
  pub at : ℕ
  pub end : ℕ
  pub records' : s.records ≡ (at, LongConst bytes) ∷ (end, End) ∷ []
  pub size : length bytes ≡ s.fields.length

abbrev nothing : Result (Option (ℕ × Record)) RecordFault
nothing = Ok None

-- a reader ends with END
ended_by : (r : Reader) (found : ℕ × Record) → next_answer r ≡ Ok (Some found) → (after_next r).ended ≡ is_end found.1
unfolding next_answer after_next
ended_by r found e = by_end r.ended refl e
  where
    by_answer : (answer : Result (Record × List ℕ) Flaw) → first_record r.layout r.left ≡ answer → r.ended ≡ false → answer_of_reader r answer ≡ Ok (Some found) → (after_next r).ended ≡ is_end found.1
    by_answer (Ok f) is open' e' =
        let same : f.0 ≡ found.1 = cc in
        rw (open', is) (ap is_end same)
    by_answer (Err flaw) is open' e' = absurd cc

    by_end : (b : Bool) → r.ended ≡ b → cond b nothing (answer_of_reader r (first_record r.layout r.left)) ≡ Ok (Some found) → (after_next r).ended ≡ is_end found.1
    by_end true is e' = absurd cc
    by_end false is e' = by_answer (first_record r.layout r.left) refl is e'

end_is : (r : Record) → is_end r ≡ true → r ≡ End
end_is End e = refl
end_is (Const bytes) e = absurd cc
end_is (LongConst bytes) e = absurd cc
end_is (Align n) e = absurd cc
end_is (Org n) e = absurd cc
end_is (Space n) e = absurd cc
end_is (Reloc count shift location offset) e = absurd cc
end_is (InterSeg count shift location file segment offset) e = absurd cc
end_is (ShortReloc count shift location offset) e = absurd cc
end_is (ShortInterSeg count shift location segment offset) e = absurd cc
end_is (Super form bytes) e = absurd cc
end_is (Using name) e = absurd cc
end_is (Strong name) e = absurd cc
end_is (Label global name size form private) e = absurd cc
end_is (Equate global name size form private expr) e = absurd cc
end_is (Formula code count n expr) e = absurd cc
end_is (Entry segment offset name) e = absurd cc

long_is : (r : Record) (size : ℕ) → option_map_or (λ bytes. eqb (length bytes) size) (long_bytes r) false ≡ true → (bytes : List ℕ) × (r ≡ LongConst bytes) × (length bytes ≡ size)
long_is (LongConst bytes) size e = (bytes, refl, eqb-true (length bytes) size e)
long_is End size e = absurd cc
long_is (Const bytes) size e = absurd cc
long_is (Align n) size e = absurd cc
long_is (Org n) size e = absurd cc
long_is (Space n) size e = absurd cc
long_is (Reloc count shift location offset) size e = absurd cc
long_is (InterSeg count shift location file segment offset) size e = absurd cc
long_is (ShortReloc count shift location offset) size e = absurd cc
long_is (ShortInterSeg count shift location segment offset) size e = absurd cc
long_is (Super form bytes) size e = absurd cc
long_is (Using name) size e = absurd cc
long_is (Strong name) size e = absurd cc
long_is (Label global name size' form private) size e = absurd cc
long_is (Equate global name size' form private expr) size e = absurd cc
long_is (Formula code count n expr) size e = absurd cc
long_is (Entry segment offset name) size e = absurd cc

pub lone_there : (s : Segment) (file : List ℕ) → IsSegment s file → is_one_long s.fields.length s.records ≡ true → IsLone s
lone_there s file is one = by_records s.records refl is.records one
  where
    by_records : (records : List (ℕ × Record)) → s.records ≡ records → HandsOut (body_reader s.start s.fields file) records is.last → is_one_long s.fields.length records ≡ true → IsLone s
    by_records [] same run e = absurd cc
    by_records (a ∷ []) same run e = absurd cc
    by_records (a ∷ b ∷ c ∷ rest) same run e = absurd cc
    by_records (a ∷ b ∷ []) same run e =
        let r = body_reader s.start s.fields file in
        let long = long_is a.1 s.fields.length e in
        let last : b.1 ≡ End = end_is b.1 (sym (ended_by (after_next r) b run.1.0) ∙ ap (λ (x : Reader). x.ended) run.1.1 ∙ is.ended) in
        record {
          bytes = long.0;
          at = a.0;
          end = b.0;
          records' = same ∙ ap (λ (x : Record). (a.0, x) ∷ b ∷ []) long.1 ∙ ap (λ (x : Record). (a.0, LongConst long.0) ∷ (b.0, x) ∷ []) last;
          size = long.2;
        }

-- ---- what it holds

pub lone_entries : (s : Segment) → IsLone s → entries_in s ≡ []
lone_entries s is = ap (λ (l : List (ℕ × Record)). filter is_entry (map (λ (found : ℕ × Record). found.1) l)) is.records'

map-nil : {A B : Type 0} (f : A → B) (xs : List A) → map f xs ≡ [] → xs ≡ []
map-nil f [] e = refl
map-nil f (x ∷ xs) e = absurd cc

pub lone_patches : (s : Segment) → IsLone s → patches_of s ≡ []
lone_patches s is = map-nil (λ (found : ℕ × Patch). found.1) (patches_of s) (
    patches_given s ∙ ap (given s) is.records'
    ∙ flat_map-cons (λ (found : ℕ × Record). patches_in s found.1) (is.at, LongConst is.bytes) ((is.end, End) ∷ [])
    ∙ flat_map-cons (λ (found : ℕ × Record). patches_in s found.1) (is.end, End) [])

pub bytes-again : (bytes : List ℕ) → bytes_in (map Byte bytes) ≡ bytes
bytes-again [] = refl
bytes-again (b ∷ bytes) = ap (λ (l : List ℕ). b ∷ l) (bytes-again bytes)

pub bytes-there : (s : Segment) → patches_of s ≡ [] → bytes_in (cells s) ≡ segment_bytes s
bytes-there s none = ap bytes_in (cells-bytes s none) ∙ bytes-again (segment_bytes s)

pub cells-again : (s : Segment) → patches_of s ≡ [] → cells s ≡ map Byte (bytes_in (cells s))
cells-again s none = cells-bytes s none ∙ ap (map Byte) (sym (bytes-there s none))

-- ---- what phase 4 says

-- whether it is the second one, its kind, whether it is one LCONST, and what is wrong with the rows
pub path_by : Bool → ℕ → Bool → Option ℕ → Option ℕ
path_by second kind long rows = option_or (first_of ((second, 0) ∷ (is_dynamic kind || is_skipped kind, 0) ∷ (not long, 0) ∷ [])) rows

pub path_flaw-is : (segments : List Segment) (number : ℕ) (u : Segment)
    → pathnames_flaw segments number u ≡ path_by (list_any has_pathnames (take (number - 1) segments)) u.fields.kind (is_one_long u.fields.length u.records) (rows_flaw most_paths 0 0 (segment_bytes u))
unfolding pathnames_flaw path_by
path_flaw-is segments number u = refl

pub path_long : (second : Bool) (kind : ℕ) (long : Bool) (rows : Option ℕ) → path_by second kind long rows ≡ None → long ≡ true
unfolding path_by
path_long second kind long rows e =
    let flaws = both (first_of ((second, 0) ∷ (is_dynamic kind || is_skipped kind, 0) ∷ (not long, 0) ∷ [])) rows e in
    let one = first_of-none second 0 ((is_dynamic kind || is_skipped kind, 0) ∷ (not long, 0) ∷ []) flaws in
    let two = first_of-none (is_dynamic kind || is_skipped kind) 0 ((not long, 0) ∷ []) one.1 in
    not-false long (first_of-none (not long) 0 [] two.1).0
  where
    both : (a b : Option ℕ) → option_or a b ≡ None → a ≡ None
    both None b e' = refl
    both (Some at) b e' = absurd cc

abbrev no_fault : Option Fault
no_fault = None

flaw_none : (o : Option ℕ) → option_map (λ (at : ℕ). (BadTable, at)) o ≡ no_fault → o ≡ None
flaw_none None e = refl
flaw_none (Some at) e = absurd cc

pub path_flaw_none : (segments : List Segment) (number : ℕ) (s : Segment) → has_pathnames s ≡ true → pathnames_fault segments number s ≡ None → pathnames_flaw segments number s ≡ None
path_flaw_none segments number s is e = flaw_none (pathnames_flaw segments number s) (rw is at e)

pub path_fault_none : (segments : List Segment) (number : ℕ) (s : Segment) → (has_pathnames s ≡ true → pathnames_flaw segments number s ≡ None) → pathnames_fault segments number s ≡ None
path_fault_none segments number s none = by_kind (has_pathnames s) refl
  where
    by_kind : (b : Bool) → has_pathnames s ≡ b → pathnames_fault segments number s ≡ None
    by_kind true is = let flaw = none is in rw (is, flaw) refl
    by_kind false is = rw is refl

-- the pathname segment of a load file
pub lone_of : (file : List ℕ) (segments : List Segment) (k : ℕ) (s : Segment) → IsLoadable file segments → slice_get segments k ≡ Some s → has_pathnames s ≡ true → IsLone s
lone_of file segments k s loadable at is =
    let flaw = path_flaw_none segments (1 + k) s is (none_at (pathnames_fault segments) 1 segments (later_none segments loadable.sound).2 k s at) in
    lone_there s file (loadable_at file segments loadable (suc k) s at).segment
    (path_long (list_any has_pathnames (take (1 + k - 1) segments)) s.fields.kind (is_one_long s.fields.length s.records) (rows_flaw most_paths 0 0 (segment_bytes s)) (sym (path_flaw-is segments (1 + k) s) ∙ flaw))

-- ---- the paths of a file

-- the paths that segments hold, `more` at most
pub paths_held : ℕ → List Plain → List (List ℕ)
paths_held more [] = []
paths_held more (p ∷ plains) = cond (is_pathname p) (paths_in more (bytes_in p.cells')) (paths_held more plains)

pub paths-held : (more : ℕ) (segments : List Segment) → more ≡ most_paths → ((k : ℕ) (s : Segment) → slice_get segments k ≡ Some s → has_pathnames s ≡ true → bytes_in (cells s) ≡ segment_bytes s)
    → paths_of segments ≡ paths_held more (plain segments)
unfolding paths_of paths_held plain_of
paths-held more [] most each = refl
paths-held more (s ∷ segments) most each = by_kind (has_pathnames s) refl (paths-held more segments most (λ k t at. each (suc k) t at))
  where
    by_kind : (b : Bool) → has_pathnames s ≡ b → paths_of segments ≡ paths_held more (plain segments) → cond (has_pathnames s) (paths_in most_paths (segment_bytes s)) (paths_of segments) ≡ cond (has_pathnames s) (paths_in more (bytes_in (cells s))) (paths_held more (plain segments))
    by_kind true is rest =
        subst (λ (n : ℕ). cond (has_pathnames s) (paths_in n (segment_bytes s)) (paths_of segments) ≡ cond (has_pathnames s) (paths_in more (bytes_in (cells s))) (paths_held more (plain segments))) most
        (ap (λ (b : Bool). cond b (paths_in more (segment_bytes s)) (paths_of segments)) is
        ∙ ap (λ (l : List ℕ). paths_in more l) (sym (each 0 s refl is))
        ∙ sym (ap (λ (b : Bool). cond b (paths_in more (bytes_in (cells s))) (paths_held more (plain segments))) is))
    by_kind false is rest =
        ap (λ (b : Bool). cond b (paths_in most_paths (segment_bytes s)) (paths_of segments)) is
        ∙ rest
        ∙ sym (ap (λ (b : Bool). cond b (paths_in more (bytes_in (cells s))) (paths_held more (plain segments))) is)

pub paths_same : (segments others : List Segment) → plain segments ≡ plain others → ((k : ℕ) (s : Segment) → slice_get segments k ≡ Some s → has_pathnames s ≡ true → bytes_in (cells s) ≡ segment_bytes s)
    → ((k : ℕ) (s : Segment) → slice_get others k ≡ Some s → has_pathnames s ≡ true → bytes_in (cells s) ≡ segment_bytes s) → paths_of segments ≡ paths_of others
paths_same segments others same each each' =
    paths-held most_paths segments refl each ∙ ap (paths_held most_paths) same ∙ sym (paths-held most_paths others refl each')

-- Files that hold the same are seen alike by the loader's machine, so one can replace the other.
use Rattle.std.proofs.Common.{◌≡◌, ℕ, suc, ◌+◌, ◌≤◌, Bool, true, false, cond, List, [], ◌∷◌, length, map, Option, Some, None, refl, sym, ap, subst, ◌∙◌, arith, inl, inr}
use Rattle.std.specs.Prelude.{◌⊎◌, ◌≢◌, slice_get, not, ◌&&◌}
use Rattle.std.specs.Str.{bytes_eq}
use Rattle.std.specs.Cmp.Lexicographic.{bytes_decides}
use Rattle.std.specs.FinMap.{get}
use Rattle.std.proofs.lemmas.Option.{same_Some}
use Rattle.std.proofs.lemmas.Bool.{cases_Bool}
use Rattle.omf_format.specs.Header.{is_dynamic, is_skipped}
use Rattle.omf_format.specs.File.{Segment}
use Rattle.load_meaning.specs.Cells.{Byte, segment_bytes, patches_of, cells}
use Rattle.load_meaning.specs.laws.CellLaws.{cells-bytes, loadable_has}
use Rattle.load_meaning.specs.declared.table.Target.{Target}
use Rattle.load_meaning.specs.LoadTable.{entry_count, targets_from, targets_of}
use Rattle.load_meaning.specs.Loadable.{first_in, IsLoadable, IsFirstLoadFault}
use Rattle.load_meaning.specs.Runtime.{kind_fault, runtime_fault, IsFirstRuntimeFault, OfLoading, OfKind}
use Rattle.load_meaning.specs.laws.LoadableLaws.{loadable_same, loadable_sound}
use Rattle.load_meaning.specs.declared.load.LoadFault.{LoadFault}
use Rattle.load_meaning.specs.Pathnames.{has_pathnames}
use Rattle.omf_io.specs.Files.{FileMap, max_file}
use Rattle.omf_format.specs.Number.{IsBytes}
use Rattle.loader_machine.specs.declared.faults.LoaderFault.TheVariants.{BadFile}
use Rattle.loader_machine.specs.Commands.{Refused}
use Rattle.loader_machine.specs.Found.{HoldsFile, HoldsLoad, HoldsRuntime, HoldsRuntimeFault}
use Rattle.loader_machine.specs.Heads.{head_of, is_table}
use Rattle.loader_machine.specs.declared.seen.SegmentHead.{SegmentHead}
use Rattle.omf_compact.specs.Stretches.{bytes_in}
use Rattle.omf_compact.specs.Canonical.{Plain, plain_of, plain, canon}
use Rattle.omf_compact.specs.Answer.{IsAnswer}
use Rattle.omf_compact.specs.laws.AnswerLaws.{answer_is_loaded}
use Rattle.omf_compact.specs.laws.SightLaws.{all_answered}
use Rattle.omf_compact.specs.Replaced.{Replaces, no_load_file, IsLikeReply, SameReply, OtherPlace, AnswerIsNotSeen}
use Rattle.omf_compact.specs.laws.PathnameLaws.{lone_of, lone_patches, bytes-there, paths_same}
use Rattle.omf_compact.specs.laws.Sights.{Sight, sight_of, AreAlike, Shows}

-- ---- what is seen of a segment, by what it holds

bytes-in : (bytes : List ℕ) → bytes_in (map Byte bytes) ≡ bytes
bytes-in [] = refl
bytes-in (b ∷ bytes) = ap (λ (l : List ℕ). b ∷ l) (bytes-in bytes)

plain_sight : Plain → Sight
plain_sight p =
    let head : SegmentHead = record { length = p.length; kind = p.kind; bank_size = p.bank_size; align = p.align; org = p.org; entry = p.entry } in
    record { head = head; cells' = p.cells'; targets = cond (is_table head) (targets_from (bytes_in p.cells') 0 (entry_count p.length)) [] }

-- a table has no patches, so its entries are read from its cells
sight-plain : (s : Segment) → (is_table (head_of s) ≡ true → patches_of s ≡ []) → sight_of s ≡ plain_sight (plain_of s)
unfolding plain_sight plain_of targets_of
sight-plain s unpatched = elim (cases_Bool (is_table (head_of s))) [
  | inl is ↦ rw is (ap (λ (l : List ℕ). seen (targets_from l 0 (entry_count s.fields.length))) (sym (ap bytes_in (cells-bytes s (unpatched is)) ∙ bytes-in (segment_bytes s))))
  | inr other ↦ rw other refl
]
  where
    seen : List Target → Sight
    seen targets = record { head = head_of s; cells' = cells s; targets = targets }

-- ---- files that hold the same are alike

sights-plain : (segments : List Segment) → ((k : ℕ) (s : Segment) → slice_get segments k ≡ Some s → is_table (head_of s) ≡ true → patches_of s ≡ []) → map sight_of segments ≡ map plain_sight (plain segments)
sights-plain [] each = refl
sights-plain (s ∷ segments) each =
    ap (λ (v : Sight). v ∷ map sight_of segments) (sight-plain s (each 0 s refl)) ∙ ap (λ (l : List Sight). plain_sight (plain_of s) ∷ l) (sights-plain segments (λ k t is. each (suc k) t is))

tables-unpatched : (file : List ℕ) (segments : List Segment) → IsLoadable file segments → (k : ℕ) (s : Segment) → slice_get segments k ≡ Some s → is_table (head_of s) ≡ true → patches_of s ≡ []
tables-unpatched file segments loadable k s is table = ((loadable_has file segments loadable (suc k) s is).table table).unpatched

path-bytes : (file : List ℕ) (segments : List Segment) → IsLoadable file segments → (k : ℕ) (s : Segment) → slice_get segments k ≡ Some s → has_pathnames s ≡ true → bytes_in (cells s) ≡ segment_bytes s
path-bytes file segments loadable k s at is = bytes-there s (lone_patches s (lone_of file segments k s loadable at is))

pub alike : (file other : List ℕ) (segments others : List Segment) → IsLoadable file segments → IsLoadable other others → plain segments ≡ plain others → AreAlike segments others
alike file other segments others one two same = record {
  sights = sights-plain segments (tables-unpatched file segments one) ∙ ap (map plain_sight) same ∙ sym (sights-plain others (tables-unpatched other others two));
  paths = paths_same segments others same (path-bytes file segments one) (path-bytes other others two);
}

-- ---- run-time library files

-- the first fault of one, by what is kept of headers and where segments begin: both have none, or both the same segment's
data AlikeFaults (one other : Option LoadFault) : Type 0 where
  NoFault : one ≡ None → other ≡ None → AlikeFaults one other
  SomeFault : (segment at at' : ℕ) → one ≡ Some (no_load_file segment at) → other ≡ Some (no_load_file segment at') → AlikeFaults one other

kind_same : (s t : Segment) → plain_of s ≡ plain_of t → s.fields.kind ≡ t.fields.kind
unfolding plain_of
kind_same s t e = ap (λ (p : Plain). p.kind) e

kinds_alike : (number : ℕ) (segments others : List Segment) → plain segments ≡ plain others → AlikeFaults (first_in kind_fault number segments) (first_in kind_fault number others)
kinds_alike number [] [] same = NoFault refl refl
kinds_alike number [] (t ∷ others) same = absurd cc
kinds_alike number (s ∷ segments) [] same = absurd cc
kinds_alike number (s ∷ segments) (t ∷ others) same =
    let first : plain_of s ≡ plain_of t = heads (plain_of s) (plain_of t) (plain segments) (plain others) same in
    let rest : plain segments ≡ plain others = tails (plain_of s) (plain_of t) (plain segments) (plain others) same in
    let kind : s.fields.kind ≡ t.fields.kind = kind_same s t first in
    go (is_dynamic s.fields.kind && not (is_skipped s.fields.kind)) refl (ap (λ (k : ℕ). is_dynamic k && not (is_skipped k)) (sym kind)) (kinds_alike (number + 1) segments others rest)
  where
    heads : (a b : Plain) (xs ys : List Plain) → a ∷ xs ≡ b ∷ ys → a ≡ b
    heads a b xs ys e = cc

    tails : (a b : Plain) (xs ys : List Plain) → a ∷ xs ≡ b ∷ ys → xs ≡ ys
    tails a b xs ys e = cc

    go : (b : Bool) → (is_dynamic s.fields.kind && not (is_skipped s.fields.kind)) ≡ b → (is_dynamic t.fields.kind && not (is_skipped t.fields.kind)) ≡ (is_dynamic s.fields.kind && not (is_skipped s.fields.kind))
        → AlikeFaults (first_in kind_fault (number + 1) segments) (first_in kind_fault (number + 1) others) → AlikeFaults (first_in kind_fault number (s ∷ segments)) (first_in kind_fault number (t ∷ others))
    go true is is' rest = rw (is', is) rest
    go false is is' rest = rw (is', is) (SomeFault number s.start t.start refl refl)

runtime_faults_alike : (segments others : List Segment) → plain segments ≡ plain others → AlikeFaults (runtime_fault segments) (runtime_fault others)
unfolding runtime_fault
runtime_faults_alike segments others same = kinds_alike 1 segments others same

-- ---- one file in the place of another

-- two files that hold the same, short enough to be read
pub record HoldSame (file other : List ℕ) : Type 0 where
  pub segments : List Segment
  pub others : List Segment
  pub loadable : IsLoadable file segments
  pub loadable' : IsLoadable other others
  pub same : plain segments ≡ plain others
  pub short : length file ≤ max_file
  pub short' : length other ≤ max_file

same_or_other : (q path : List ℕ) → (q ≡ path) ⊎ (q ≢ path)
same_or_other q path = elim (cases_Bool (bytes_eq q path)) [
  | inl is ↦ inl ((bytes_decides q path).0 is)
  | inr not_is ↦ inr (λ e. clash ((bytes_decides q path).1 e) not_is)
]
  where
    clash : {b : Bool} → b ≡ true → b ≡ false → ⊥
    clash x y = cc

module _ (path file other : List ℕ) (held now : FileMap) (same : HoldSame file other) (replaces : Replaces path file other held now) where
  file_is : (q f : List ℕ) → q ≡ path → HoldsFile held q f → f ≡ file
  file_is q f e has = same_Some f file (sym has.0 ∙ ap (get held) e ∙ replaces.before)

  other_there : (q : List ℕ) → q ≡ path → HoldsFile now q other
  other_there q e = (ap (get now) e ∙ replaces.following, same.short')

  kept : (q f : List ℕ) → q ≢ path → HoldsFile held q f → HoldsFile now q f
  kept q f apart has = (replaces.rest q apart ∙ has.0, has.1)

  segments_are : (q : List ℕ) (f : List ℕ) (segments : List Segment) → q ≡ path → HoldsFile held q f → IsLoadable f segments → segments ≡ same.segments
  segments_are q f segments e has loads = loadable_same file segments same.segments (subst (λ (g : List ℕ). IsLoadable g segments) (file_is q f e has) loads) same.loadable

  alike_there : (q f : List ℕ) (segments : List Segment) → q ≡ path → HoldsFile held q f → IsLoadable f segments → AreAlike segments same.others
  alike_there q f segments e has loads =
      subst (λ (ss : List Segment). AreAlike ss same.others) (sym (segments_are q f segments e has loads)) (alike file other same.segments same.others same.loadable same.loadable' same.same)

  good_there : (q : List ℕ) (segments : List Segment) → q ≡ path → HoldsLoad held q segments → (others : List Segment) × HoldsLoad now q others × AreAlike segments others
  good_there q segments e has = (
    same.others,
    record { file = other; is_held = other_there q e; loadable = same.loadable' },
    alike_there q has.file segments e has.is_held has.loadable,
  )

  -- the file is loaded, so it has no first fault
  no_fault : (q f : List ℕ) (fault : LoadFault) → q ≡ path → HoldsFile held q f → IsFirstLoadFault f fault → ⊥
  no_fault q f fault e has first = loadable_sound file same.segments fault same.loadable (subst (λ (g : List ℕ). IsFirstLoadFault g fault) (file_is q f e has) first)

  runtime_there : (q : List ℕ) (segments : List Segment) → q ≡ path → HoldsRuntime held q segments → (others : List Segment) × HoldsRuntime now q others × AreAlike segments others
  runtime_there q segments e has =
      let is = segments_are q has.file segments e has.is_held has.runtime.loadable in
      let none : runtime_fault same.segments ≡ None = ap runtime_fault (sym is) ∙ has.runtime.dynamic in
      (same.others, record { file = other; is_held = other_there q e; runtime = record { loadable = same.loadable'; dynamic = go (runtime_faults_alike same.segments same.others same.same) none } }, alike_there q has.file segments e has.is_held has.runtime.loadable)
    where
      go : AlikeFaults (runtime_fault same.segments) (runtime_fault same.others) → runtime_fault same.segments ≡ None → runtime_fault same.others ≡ None
      go (NoFault one two) none = two
      go (SomeFault segment at at' one two) none = let clash : None ≡ Some (no_load_file segment at) = sym none ∙ one in absurd cc

  abbrev RuntimeAlike : List ℕ → LoadFault → Type 0
  RuntimeAlike q fault = (fault' : LoadFault) × HoldsRuntimeFault now q fault' × IsLikeReply (Refused (BadFile fault)) (Refused (BadFile fault'))

  fault_there : (q f : List ℕ) (fault : LoadFault) → q ≡ path → HoldsFile held q f → IsFirstRuntimeFault f fault → RuntimeAlike q fault
  fault_there q f fault e has (OfLoading first) = absurd (no_fault q f fault e has first)
  fault_there q f fault e has (OfKind segments loads some) =
      let is = segments_are q f segments e has loads in
      go (runtime_faults_alike same.segments same.others same.same) (ap runtime_fault (sym is) ∙ some)
    where
      go : AlikeFaults (runtime_fault same.segments) (runtime_fault same.others) → runtime_fault same.segments ≡ Some fault → RuntimeAlike q fault
      go (NoFault one two) found = let clash : None ≡ Some fault = sym one ∙ found in absurd cc
      go (SomeFault segment at at' one two) found = (
        no_load_file segment at',
        record { file = other; is_held = other_there q e; first = OfKind same.others same.loadable' two },
        OtherPlace segment at at' (ap (λ (bad : LoadFault). Refused (BadFile bad)) (same_Some fault (no_load_file segment at) (sym found ∙ one))) refl,
      )

  pub shows : Shows held now
  shows = record {
    readable = λ q f has. elim (same_or_other q path) [
      | inl e ↦ (other, other_there q e)
      | inr apart ↦ (f, kept q f apart has)
    ];
    good = λ q segments has. elim (same_or_other q path) [
      | inl e ↦ good_there q segments e has
      | inr apart ↦ (segments, record { file = has.file; is_held = kept q has.file apart has.is_held; loadable = has.loadable }, record { sights = refl; paths = refl })
    ];
    bad = λ q fault has. elim (same_or_other q path) [
      | inl e ↦ absurd (no_fault q has.file fault e has.is_held has.first)
      | inr apart ↦ record { file = has.file; is_held = kept q has.file apart has.is_held; first = has.first }
    ];
    runtime = λ q segments has. elim (same_or_other q path) [
      | inl e ↦ runtime_there q segments e has
      | inr apart ↦ (segments, record { file = has.file; is_held = kept q has.file apart has.is_held; runtime = has.runtime }, record { sights = refl; paths = refl })
    ];
    not_runtime = λ q fault has. elim (same_or_other q path) [
      | inl e ↦ fault_there q has.file fault e has.is_held has.first
      | inr apart ↦ (fault, record { file = has.file; is_held = kept q has.file apart has.is_held; first = has.first }, SameReply refl)
    ];
  }

pub swapped : (file other : List ℕ) → HoldSame file other → HoldSame other file
swapped file other same = record {
  segments = same.others;
  others = same.segments;
  loadable = same.loadable';
  loadable' = same.loadable;
  same = sym same.same;
  short = same.short';
  short' = same.short;
}

pub put_back : (path file other : List ℕ) (held now : FileMap) → Replaces path file other held now → Replaces path other file now held
put_back path file other held now replaces = record { before = replaces.following; following = replaces.before; rest = λ q apart. sym (replaces.rest q apart) }

-- ---- the canonical file in the place of a load file

held_same : (file out : List ℕ) → IsBytes file → length file ≤ max_file → IsAnswer file out → HoldSame file out
held_same file out fits short is =
    let size : length (canon (plain is.segments)) ≤ max_file = omega (arith, ap length is.written, is.short) in
    let made = answer_is_loaded file is.segments fits is.loadable is.whole size in
    record {
      segments = is.segments;
      others = made.0;
      loadable = is.loadable;
      loadable' = subst (λ (l : List ℕ). IsLoadable l made.0) (sym is.written) made.1;
      same = sym made.2;
      short = short;
      short' = is.short;
    }

pub answer_is_not_seen : AnswerIsNotSeen
answer_is_not_seen path file out held now fits short is replaces state commands replies others reads last =
    let same = held_same file out fits short is in
    let there = shows path file out held now same replaces in
    let back = shows path out file now held (swapped file out same) (put_back path file out held now replaces) in
    (all_answered held now there back state commands replies others reads last, all_answered now held back there state commands replies others reads last)

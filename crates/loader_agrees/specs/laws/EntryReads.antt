-- The entries of a jump table in memory, as they are read.
use Rattle.std.proofs.Common.{◌≡◌, inl, inr, ℕ, zero, suc, Bool, true, cond, ◌+◌, ◌^◌, ◌<◌, ◌≤◌, List, [], ◌∷◌, ◌++◌, length, map, Option, Some, refl, sym, ap, subst, ◌∙◌, arith}
use Rattle.std.specs.Prelude.{slice_get}
use Rattle.std.specs.List.{AllByRecursion}
use Rattle.std.proofs.lemmas.Option.{same_Some, slice_get_within}
use Rattle.std.proofs.lemmas.List.{length-map, map-append}
use Rattle.omf_format.specs.Number.{number_at}
use Rattle.omf_format.specs.File.{Segment, segment_at}
use Rattle.omf_io.specs.Counts.{IsFront}
use Rattle.load_meaning.specs.declared.table.Target.{Target}
use Rattle.load_meaning.specs.declared.table.Entry.{Entry}
use Rattle.load_meaning.specs.Cells.{byte_of, cells, segment_bytes}
use Rattle.load_meaning.specs.Table.{entry_start, table_bytes}
use Rattle.load_meaning.specs.LoadTable.{is_table, entry_count, target_at, targets_of}
use Rattle.load_meaning.specs.Loadable.{IsLoadable, IsSoundSegment, IsOwnTarget, IsTarget}
use Rattle.load_meaning.specs.laws.LoadTableLaws.{length-targets_from}
use Rattle.load_meaning.specs.laws.CellLaws.{loadable_has}
use Rattle.loader_machine.specs.declared.seen.SegmentHead.{SegmentHead}
use Rattle.loader_machine.specs.Heads.{head_of, at_number}
use Rattle.loader_machine.specs.State.{no_pokes, user_of, named_by}
use Rattle.loader_machine.specs.Stands.{AddressSetting, stands}
use Rattle.loader_machine.specs.laws.Words.{entry_for, entries_bytes, read_bytes}
use Rattle.loader_machine.specs.laws.PokeLaws.{over_none}
use Rattle.loader_agrees.specs.Agrees.{LoadedUser, kept_outlines, IsCall}
use Rattle.loader_agrees.specs.laws.EntryBytes.{file_is, segment_is, offset_is}
use Rattle.loader_agrees.specs.laws.Lists.{get_inside}
use Rattle.loader_agrees.specs.laws.Reads.{head_at}

-- an element of a list, and what is before and after it
record Splits {X : Type 0} (xs : List X) (k : ℕ) (x : X) : Type 0 where
  before : List X
  following : List X
  whole : xs ≡ before ++ x ∷ following
  long : length before ≡ k

splits : {X : Type 0} (xs : List X) (k : ℕ) (x : X) → slice_get xs k ≡ Some x → Splits xs k x
splits [] k x is = absurd cc
splits (y ∷ xs) zero x is = record { before = []; following = xs; whole = ap (λ z. z ∷ xs) (same_Some y x is); long = refl }
splits (y ∷ xs) (suc k) x is =
    let at = splits xs k x is in
    record { before = y ∷ at.before; following = at.following; whole = ap (λ zs. y ∷ zs) at.whole; long = ap suc at.long }

module _ (at : AddressSetting) (targets : List Target) (bytes : List ℕ) (front : IsFront (table_bytes (map (entry_for at) targets)) bytes) (k : ℕ) (t : Target) (is : slice_get targets k ≡ Some t) where
  here : Splits targets k t
  here = splits targets k t is

  long : length (map (entry_for at) here.before) ≡ k
  long = length-map here.before (entry_for at) ∙ here.long

  parted : bytes ≡ table_bytes (map (entry_for at) here.before ++ entry_for at t ∷ map (entry_for at) here.following) ++ front.0
  parted = front.1 ∙ ap (λ (ts : List Target). table_bytes (map (entry_for at) ts) ++ front.0) here.whole
      ∙ ap (λ (es : List Entry). table_bytes es ++ front.0) (map-append (entry_for at) here.before (t ∷ here.following))

  -- the file, the segment and the offset that an entry in memory names are those of its target
  pub file_read : t.file < 256 ^ 2 → number_at 2 (entry_start k + 2) bytes ≡ t.file
  file_read fits = ap (λ (n : ℕ). number_at 2 (entry_start n + 2) bytes) (sym long)
      ∙ file_is (map (entry_for at) here.before) (map (entry_for at) here.following) front.0 (entry_for at t) bytes parted fits

  pub segment_read : t.segment < 256 ^ 2 → number_at 2 (entry_start k + 4) bytes ≡ t.segment
  segment_read fits = ap (λ (n : ℕ). number_at 2 (entry_start n + 4) bytes) (sym long)
      ∙ segment_is (map (entry_for at) here.before) (map (entry_for at) here.following) front.0 (entry_for at t) bytes parted fits

  pub offset_read : t.offset < 256 ^ 4 → number_at 4 (entry_start k + 6) bytes ≡ t.offset
  offset_read fits = ap (λ (n : ℕ). number_at 4 (entry_start n + 6) bytes) (sym long)
      ∙ offset_is (map (entry_for at) here.before) (map (entry_for at) here.following) front.0 (entry_for at t) bytes parted fits

-- ---- a table of a load file

pub table_stands : (s : Segment) (at : AddressSetting) → is_table s ≡ true → stands at no_pokes s ≡ table_bytes (map (entry_for at) (targets_of s))
unfolding stands
table_stands s at table = over_none (read_bytes at s) ∙ ap (λ (t : Bool). cond t (entries_bytes at (targets_of s)) (map (byte_of at.place) (cells s))) table

pub targets_count : (s : Segment) → length (targets_of s) ≡ entry_count s.fields.length
unfolding targets_of
targets_count s = length-targets_from (segment_bytes s) 0 (entry_count s.fields.length)

-- the number of a segment is at most their count
pub number_within : (segments : List Segment) (number : ℕ) (s : Segment) → segment_at segments number ≡ Some s → number ≤ length segments
number_within segments zero s is = omega arith
number_within segments (suc k) s is = let within = slice_get_within segments k s is in omega (arith, within)

-- ---- the segment to which an entry of a new user's table leads

pub get_all : {X : Type 0} (P : X → Type 0) (xs : List X) (n : ℕ) (x : X) → slice_get xs n ≡ Some x → AllByRecursion P xs → P x
get_all P [] n x found all = absurd cc
get_all P (y ∷ xs) zero x found all = subst P (same_Some y x found) all.0
get_all P (y ∷ xs) (suc n) x found all = get_all P xs n x found all.1

module _ (file : List ℕ) (segments : List Segment) (loadable : IsLoadable file segments) (short : length segments < 2 ^ 16) (users : List (Option LoadedUser)) (id : ℕ) (kept : LoadedUser)
    (made : user_of users id ≡ Some kept) (heads : kept.heads ≡ map head_of segments) (at : AddressSetting) (number k : ℕ) (s : Segment) (bytes : List ℕ) (is : segment_at segments number ≡ Some s) (table : is_table s ≡ true)
    (front : IsFront (stands at no_pokes s) bytes) (inside : k < entry_count s.fields.length)
    (far : (t : Target) → slice_get (targets_of s) k ≡ Some t → 2 ≤ t.file → IsCall users id t × (t.file < 2 ^ 16) × (t.segment < 2 ^ 16)) where
  sound : IsSoundSegment segments number s
  sound = loadable_has file segments loadable number s is

  its_target : (t : Target) × (slice_get (targets_of s) k ≡ Some t)
  its_target = get_inside (targets_of s) k (omega (arith, inside, targets_count s))

  table_front : IsFront (table_bytes (map (entry_for at) (targets_of s))) bytes
  table_front = subst (λ (l : List ℕ). IsFront l bytes) (table_stands s at table) front

  -- it is read as it is in the file
  call_read : (t : Target) → slice_get (targets_of s) k ≡ Some t → IsCall users id t → t.file < 2 ^ 16 → t.segment < 2 ^ 16 → IsCall users id (target_at bytes k)
  unfolding target_at
  call_read t found call file_fits segment_fits = record {
    other = call.other;
    named = ap (named_by (kept_outlines users) id) (file_read at (targets_of s) bytes table_front k t found (omega (arith, file_fits))) ∙ call.named;
    kept = call.kept;
    made = call.made;
    head = call.head;
    head' = ap (at_number call.kept.heads) (segment_read at (targets_of s) bytes table_front k t found (omega (arith, segment_fits))) ∙ call.head';
    dynamic = call.dynamic;
    loaded = call.loaded;
  }

  -- an entry for file 1 leads to a segment of the user
  own_call : (t : Target) → IsOwnTarget segments t → IsCall users id t
  own_call t own = record {
    other = id;
    named = ap (λ (n : ℕ). named_by (kept_outlines users) id n) own.file';
    kept = kept;
    made = made;
    head = head_of own.segment';
    head' = ap (λ (hs : List SegmentHead). at_number hs t.segment) heads ∙ head_at segments t.segment own.segment' own.is;
    dynamic = own.dynamic;
    loaded = own.kept;
  }

  by_target : (t : Target) → slice_get (targets_of s) k ≡ Some t → IsTarget segments t → IsCall users id (target_at bytes k)
  by_target t found (inl own) =
      call_read t found (own_call t own) (omega (arith, own.file')) (omega (arith, short, number_within segments t.segment own.segment' own.is))
  by_target t found (inr other) = let call = far t found other.beyond in call_read t found call.0 call.1 call.2

  pub its_call : IsCall users id (target_at bytes k)
  its_call = by_target its_target.0 its_target.1 (get_all (IsTarget segments) (targets_of s) k its_target.0 its_target.1 (sound.table table).targets)

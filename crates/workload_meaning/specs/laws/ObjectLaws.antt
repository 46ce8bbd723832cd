-- The object of the workload is a file: which segments and records it has.
use Rattle.std.proofs.Common.{◌≡◌, ℕ, zero, suc, ◌+◌, ◌*◌, ◌%◌, ◌^◌, ◌<◌, ◌≤◌, false, true, List, [], ◌∷◌, ◌++◌, length, map, refl, sym, ap, subst, ◌∙◌, arith}
use Rattle.std.specs.Prelude.{codes, replicate}
use Rattle.std.specs.List.{AllByRecursion}
use Rattle.std.proofs.lemmas.List.{length-replicate}
use Rattle.omf_format.specs.Header.{HeaderFields, is_listed, form_of, is_private}
use Rattle.omf_format.specs.Record.{Record, End, Const, LongConst, Align, Org, Space, Reloc, InterSeg, ShortReloc, ShortInterSeg, Super, Using, Strong, Label, Equate, Formula, Entry}
use Rattle.omf_format.specs.File.{Segment}
use Rattle.object_meaning.specs.Sizes.{body_size}
use Rattle.asm_meaning.specs.State.{FinishedSegment}
use Rattle.asm_meaning.specs.Pieces.{place_after, IsPlain}
use Rattle.asm_meaning.specs.laws.PieceLaws.{ArePlain}
use Rattle.asm_meaning.specs.laws.Sound.{IsSoundHeader, IsSoundEnded}
use Rattle.asm_meaning.specs.ObjectFile.{IsReadAs, AreReadAs}
use Rattle.workload_meaning.specs.Draws.{next, draws}
use Rattle.workload_meaning.specs.Object.{name_of, padded, value_of, header_for, calls, main_segment, dynamic_segment, dynamic_segments}
use Rattle.workload_meaning.specs.laws.NameLaws.{name_short, is_name, is_value, length-padded}

-- ---- its segments can be written

const_plain : IsPlain (Const (0x22 ∷ []))
const_plain = record { spelled = λ at size. (omega arith, omega arith); inner = refl }

expr_plain : (i : ℕ) → i ≤ 64 → IsPlain (Formula 0xEB 3 0 (value_of (name_of i)))
expr_plain i small = record { spelled = λ at size. (refl, refl, refl, is_value (name_of i) (is_name i (omega (arith, small)))); inner = refl }

call_plain : (i : ℕ) → i ≤ 64 → IsPlain (Formula 0xF3 3 0 (value_of (name_of i)))
call_plain i small = record { spelled = λ at size. (refl, refl, refl, is_value (name_of i) (is_name i (omega (arith, small)))); inner = refl }

-- the calls without END
calls_inner : ℕ → ℕ → List Record
calls_inner zero i = []
calls_inner (suc more) i = Const (0x22 ∷ []) ∷ Formula 0xF3 3 0 (value_of (name_of i)) ∷ calls_inner more (i + 1)

calls_end : (more i : ℕ) → calls more i ≡ calls_inner more i ++ End ∷ []
unfolding calls_inner
calls_end zero i = refl
calls_end (suc more) i = ap (λ (l : List Record). Const (0x22 ∷ []) ∷ Formula 0xF3 3 0 (value_of (name_of i)) ∷ l) (calls_end more (i + 1))

calls_plain : (more i : ℕ) → i + more ≤ 65 → ArePlain (calls_inner more i)
unfolding calls_inner
calls_plain zero i few = tt
calls_plain (suc more) i few = (const_plain, (call_plain i (omega (arith, few)), calls_plain more (i + 1) (omega (arith, few))))

calls_size : (more i at : ℕ) → place_after at (calls more i) ≡ at + 4 * more
unfolding place_after
calls_size zero i at = omega arith
calls_size (suc more) i at = calls_size more (i + 1) (at + 1 + 3) ∙ omega arith

header_sound : (kind size number : ℕ) (name : List ℕ) → kind < 2 ^ 16 → is_listed (form_of kind) ≡ true → number < 2 ^ 16 → 1 ≤ length name → length name ≤ 10 → IsSoundHeader (header_for kind size number name)
header_sound kind size number name small listed few some short = record {
  version = refl;
  res_spc = refl;
  entry = refl;
  bank_size = omega arith;
  kind = small;
  listed = listed;
  org = omega arith;
  align = omega arith;
  seg_num = few;
  load_name = length-padded name short;
  name = (some, omega (arith, short));
}

main_sound : (n : ℕ) → n ≤ 64 → IsSoundEnded (main_segment n)
main_sound n few = record {
  header = header_sound 0x0000 (4 * n) 1 (codes "MAIN") (omega arith) refl (omega arith) (omega arith) (omega arith);
  inner = calls_inner n 1;
  body = calls_end n 1;
  plain = calls_plain n 1 (omega (arith, few));
  length' = sym (calls_size n 1 0 ∙ omega arith);
  short = omega (arith, few);
}

dynamic_sound : (i size : ℕ) → i ≤ 64 → size < 4112 → IsSoundEnded (dynamic_segment i size)
unfolding place_after
dynamic_sound i size few small = record {
  header = header_sound 0x8000 (3 + size) (i + 1) (name_of i) (omega arith) refl (omega (arith, few)) (omega arith) (name_short i (omega (arith, few)));
  inner = Formula 0xEB 3 0 (value_of (name_of i)) ∷ LongConst (replicate size i) ∷ [];
  body = refl;
  plain = (expr_plain i few, (record { spelled = λ at less. omega (arith, length-replicate size i, small); inner = refl }, tt));
  length' = omega (arith, length-replicate size i);
  short = omega (arith, small);
}

dynamics_sound : (i : ℕ) (all : List ℕ) → i + length all ≤ 65 → AllByRecursion IsSoundEnded (dynamic_segments i all)
dynamics_sound i [] few = tt
dynamics_sound i (draw ∷ all) few = (dynamic_sound i (16 + draw % 4096) (omega (arith, few)) (omega arith), dynamics_sound (i + 1) all (omega (arith, few)))

pub length-draws : (count x : ℕ) → length (draws count x) ≡ count
length-draws zero x = refl
length-draws (suc count) x = ap suc (length-draws count (next x))

-- the segments of the object
abbrev pub segments_of : ℕ → ℕ → List FinishedSegment
segments_of n seed = main_segment n ∷ dynamic_segments 1 (draws n seed)

pub are_sound : (n seed : ℕ) → n ≤ 64 → AllByRecursion IsSoundEnded (segments_of n seed)
are_sound n seed few = (main_sound n few, dynamics_sound 1 (draws n seed) (omega (arith, length-draws n seed, few)))

-- ---- what is read

-- a record among `n` dynamic segments: bytes, or the place of one of them
abbrev pub IsOwnRecord : ℕ → Record → Type 0
IsOwnRecord n End = Unit {0}
IsOwnRecord n (Const bytes) = Unit {0}
IsOwnRecord n (LongConst bytes) = Unit {0}
IsOwnRecord n (Formula code count k expr) = (i : ℕ) × (1 ≤ i) × (i ≤ n) × (expr ≡ value_of (name_of i))
IsOwnRecord n (Align k) = ⊥
IsOwnRecord n (Org k) = ⊥
IsOwnRecord n (Space k) = ⊥
IsOwnRecord n (Reloc count shift location offset) = ⊥
IsOwnRecord n (InterSeg count shift location file segment offset) = ⊥
IsOwnRecord n (ShortReloc count shift location offset) = ⊥
IsOwnRecord n (ShortInterSeg count shift location segment offset) = ⊥
IsOwnRecord n (Super form bytes) = ⊥
IsOwnRecord n (Using name) = ⊥
IsOwnRecord n (Strong name) = ⊥
IsOwnRecord n (Label global name size form private) = ⊥
IsOwnRecord n (Equate global name size form private expr) = ⊥
IsOwnRecord n (Entry segment offset name) = ⊥

abbrev pub contents : Segment → List Record
contents s = map (λ found. found.1) s.records

-- a segment that is neither private nor data, asks for no place, stays in a bank and is short
pub record IsOwn (n : ℕ) (s : Segment) : Type 0 where
  pub lab_len : s.fields.lab_len ≡ 0
  pub res_spc : s.fields.res_spc ≡ 0
  pub length' : s.fields.length ≡ body_size s
  pub bank : s.fields.bank_size ≡ 0x10000
  pub form : form_of s.fields.kind ≡ 0
  pub public : is_private s.fields.kind ≡ false
  pub org : s.fields.org ≡ 0
  pub align : s.fields.align ≡ 0
  pub some : 1 ≤ length s.fields.name
  pub cells : 1 ≤ s.fields.length
  pub small : s.fields.length ≤ 4114
  pub body : AllByRecursion (IsOwnRecord n) (contents s)

-- it has this name and these records
pub record IsPart (name : List ℕ) (body : List Record) (s : Segment) : Type 0 where
  pub name' : s.fields.name ≡ name
  pub load_name : s.fields.load_name ≡ padded name
  pub records : contents s ≡ body

-- the dynamic segments from the one with a number on
abbrev pub AreDynamic : ℕ → ℕ → List ℕ → List Segment → Type 0
AreDynamic n i [] [] = Unit {0}
AreDynamic n i [] (s ∷ segments) = ⊥
AreDynamic n i (draw ∷ draws) [] = ⊥
AreDynamic n i (draw ∷ draws) (s ∷ segments) =
    IsOwn n s × IsPart (name_of i) (dynamic_segment i (16 + draw % 4096)).body s × AreDynamic n (i + 1) draws segments

-- the first segment calls these
pub record IsWorkload (n : ℕ) (sizes : List ℕ) (segments : List Segment) : Type 0 where
  pub main : Segment
  pub others : List Segment
  pub parts : segments ≡ main ∷ others
  pub own : IsOwn n main
  pub calls' : IsPart (codes "MAIN") (calls n 1) main
  pub dynamic : AreDynamic n 1 sizes others

calls_own : (n more i : ℕ) → 1 ≤ i → i + more ≤ n + 1 → AllByRecursion (IsOwnRecord n) (calls more i)
calls_own n zero i some few = (tt, tt)
calls_own n (suc more) i some few = (tt, ((i, some, omega (arith, few), refl), calls_own n more (i + 1) (omega (arith, some)) (omega (arith, few))))

own_read : (n kind size number : ℕ) (name : List ℕ) (body : List Record) (s : Segment) → IsReadAs (record { header = header_for kind size number name; body = body }) s
    → form_of kind ≡ 0 → is_private kind ≡ false → 1 ≤ length name → 1 ≤ size → size ≤ 4114 → AllByRecursion (IsOwnRecord n) body → IsOwn n s
own_read n kind size number name body s read form public some cells small own = record {
  lab_len = ap (λ (f : HeaderFields). f.lab_len) read.fields;
  res_spc = ap (λ (f : HeaderFields). f.res_spc) read.fields;
  length' = read.cells;
  bank = ap (λ (f : HeaderFields). f.bank_size) read.fields;
  form = ap (λ (f : HeaderFields). form_of f.kind) read.fields ∙ form;
  public = ap (λ (f : HeaderFields). is_private f.kind) read.fields ∙ public;
  org = ap (λ (f : HeaderFields). f.org) read.fields;
  align = ap (λ (f : HeaderFields). f.align) read.fields;
  some = omega (arith, ap (λ (f : HeaderFields). length f.name) read.fields, some);
  cells = omega (arith, ap (λ (f : HeaderFields). f.length) read.fields, cells);
  small = omega (arith, ap (λ (f : HeaderFields). f.length) read.fields, small);
  body = subst (AllByRecursion (IsOwnRecord n)) (sym read.records) own;
}

part_read : (kind size number : ℕ) (name : List ℕ) (body : List Record) (s : Segment) → IsReadAs (record { header = header_for kind size number name; body = body }) s → IsPart name body s
part_read kind size number name body s read = record {
  name' = ap (λ (f : HeaderFields). f.name) read.fields;
  load_name = ap (λ (f : HeaderFields). f.load_name) read.fields;
  records = read.records;
}

dynamics_read : (n i : ℕ) (all : List ℕ) (segments : List Segment) → 1 ≤ i → i + length all ≤ n + 1 → AreReadAs (dynamic_segments i all) segments → AreDynamic n i all segments
dynamics_read n i [] [] some few are = tt
dynamics_read n i [] (s ∷ segments) some few are = absurd are
dynamics_read n i (draw ∷ all) [] some few are = absurd are
dynamics_read n i (draw ∷ all) (s ∷ segments) some few are =
    let size = 16 + draw % 4096 in
    let body = (dynamic_segment i size).body in (
      own_read n 0x8000 (3 + size) (i + 1) (name_of i) body s are.0 refl refl (omega arith) (omega arith) (omega arith) ((i, some, omega (arith, few), refl), (tt, (tt, tt))),
      part_read 0x8000 (3 + size) (i + 1) (name_of i) body s are.0,
      dynamics_read n (i + 1) all segments (omega (arith, some)) (omega (arith, few)) are.1,
    )

pub are_read : (n seed : ℕ) (segments : List Segment) → 1 ≤ n → n ≤ 64 → AreReadAs (segments_of n seed) segments → IsWorkload n (draws n seed) segments
are_read n seed [] some few are = absurd are
are_read n seed (s ∷ segments) some few are = record {
  main = s;
  others = segments;
  parts = refl;
  own = own_read n 0x0000 (4 * n) 1 (codes "MAIN") (calls n 1) s are.0 refl refl (omega arith) (omega (arith, some)) (omega (arith, few)) (calls_own n n 1 (omega arith) (omega arith));
  calls' = part_read 0x0000 (4 * n) 1 (codes "MAIN") (calls n 1) s are.0;
  dynamic = dynamics_read n 1 (draws n seed) segments (omega arith) (omega (arith, length-draws n seed)) are.1;
}

-- The parts of the object, one after another.
use Rattle.std.proofs.Common.{◌≡◌, ℕ, zero, suc, ◌+◌, ◌*◌, ◌/◌, ◌%◌, ◌<◌, ◌≤◌, ◌==◌, false, List, [], ◌∷◌, ◌++◌, length, refl, sym, ap, subst, ◌∙◌, append_assoc, append-nil, arith}
use Rattle.std.specs.Prelude.{replicate}
use Rattle.std.proofs.lemmas.List.{length-append, length-replicate}
use Rattle.std.proofs.lemmas.List.Concat.{flat_map-cons}
use Rattle.byteorder.specs.Endian.{little_bytes}
use Rattle.byteorder.specs.Numbers.{length-bytes_low_first}
use Rattle.omf_format.specs.Field.{written_layout, name_text}
use Rattle.omf_format.specs.Expression.{term_text}
use Rattle.omf_format.specs.Header.{header_bytes}
use Rattle.omf_format.specs.laws.WrittenHeaderLaws.{length-header}
use Rattle.omf_format.specs.Record.{Record, End, Const, LongConst, Formula, spelling}
use Rattle.asm_meaning.specs.State.{FinishedSegment}
use Rattle.asm_meaning.specs.Object.{records_text, segment_text, object_text}
use Rattle.workload_meaning.specs.Draws.{next, draws, following}
use Rattle.workload_meaning.specs.Object.{name_of, value_of, calls, main_segment, dynamic_segment, dynamic_segments, object}
use Rattle.workload_meaning.specs.laws.NameLaws.{name_short, length-padded}
use Rattle.workload_meaning.specs.laws.ObjectLaws.{length-draws}

-- the bytes of a JSL to a dynamic segment
abbrev pub call_text : ℕ → List ℕ
call_text i = spelling written_layout (Const (0x22 ∷ [])) ++ spelling written_layout (Formula 0xF3 3 0 (value_of (name_of i)))

-- one JSL more
pub one_call : (more i : ℕ) → records_text (calls (suc more) i) ≡ call_text i ++ records_text (calls more (i + 1))
unfolding records_text
one_call more i =
    let const : Record = Const (0x22 ∷ []) in
    let formula : Record = Formula 0xF3 3 0 (value_of (name_of i)) in
    flat_map-cons (spelling written_layout) const (formula ∷ calls more (i + 1))
    ∙ ap (λ (l : List ℕ). spelling written_layout const ++ l) (flat_map-cons (spelling written_layout) formula (calls more (i + 1)))
    ∙ sym (append_assoc (spelling written_layout const) (spelling written_layout formula) (records_text (calls more (i + 1))))

-- the end alone
pub no_call : (i : ℕ) → records_text (calls 0 i) ≡ spelling written_layout End
unfolding records_text
no_call i = flat_map-cons (spelling written_layout) End [] ∙ append-nil (spelling written_layout End)

-- ---- the calls

-- `more` calls are left from a number on, and after these bytes they make the records of MAIN
pub record CallsLeft (n i : ℕ) (body : List ℕ) : Type 0 where
  pub more : ℕ
  pub count : i + more ≡ n + 1
  pub parts : body ++ records_text (calls more i) ≡ records_text (calls n 1)

pub calls_start : (n : ℕ) → CallsLeft n 1 []
calls_start n = record { more = n; count = omega arith; parts = refl }

pub calls_step : (n i : ℕ) (body new : List ℕ) → CallsLeft n i body → i < n + 1 → new ≡ body ++ call_text i → CallsLeft n (i + 1) new
calls_step n i body new left within is = go left.more left.count left.parts
  where
    go : (more : ℕ) → i + more ≡ n + 1 → body ++ records_text (calls more i) ≡ records_text (calls n 1) → CallsLeft n (i + 1) new
    go zero count parts = absurd (omega (arith, count, within))
    go (suc more) count parts = record {
      more = more;
      count = omega (arith, count);
      parts = ap (λ (l : List ℕ). l ++ records_text (calls more (i + 1))) is ∙ append_assoc body (call_text i) (records_text (calls more (i + 1)))
          ∙ ap (λ (l : List ℕ). body ++ l) (sym (one_call more i)) ∙ parts;
    }

pub calls_end : (n i : ℕ) (body new : List ℕ) → CallsLeft n i body → n + 1 ≤ i → new ≡ body ++ spelling written_layout End → new ≡ records_text (calls n 1)
calls_end n i body new left done is = go left.more left.count left.parts
  where
    go : (more : ℕ) → i + more ≡ n + 1 → body ++ records_text (calls more i) ≡ records_text (calls n 1) → new ≡ records_text (calls n 1)
    go zero count parts = is ∙ ap (λ (l : List ℕ). body ++ l) (sym (no_call i)) ∙ parts
    go (suc more) count parts = absurd (omega (arith, count, done))

-- ---- the records of a dynamic segment

pub content_parts : (i size : ℕ) (name : List ℕ) → records_text (Formula 0xEB 3 0 (value_of name) ∷ LongConst (replicate size i) ∷ End ∷ [])
    ≡ spelling written_layout (Formula 0xEB 3 0 (value_of name)) ++ (spelling written_layout (LongConst (replicate size i)) ++ spelling written_layout End)
unfolding records_text
content_parts i size name =
    let formula : Record = Formula 0xEB 3 0 (value_of name) in
    let bytes : Record = LongConst (replicate size i) in
    flat_map-cons (spelling written_layout) formula (bytes ∷ End ∷ [])
    ∙ ap (λ (l : List ℕ). spelling written_layout formula ++ l) (flat_map-cons (spelling written_layout) bytes (End ∷ [])
    ∙ ap (λ (l : List ℕ). spelling written_layout bytes ++ l) (flat_map-cons (spelling written_layout) End [] ∙ append-nil (spelling written_layout End)))

pub content_made : (i size : ℕ) (name none first second third : List ℕ) → none ≡ [] → first ≡ none ++ spelling written_layout (Formula 0xEB 3 0 (value_of name))
    → second ≡ first ++ spelling written_layout (LongConst (replicate size i)) → third ≡ second ++ spelling written_layout End
    → third ≡ records_text (Formula 0xEB 3 0 (value_of name) ∷ LongConst (replicate size i) ∷ End ∷ [])
content_made i size name none first second third empty one two three =
    let formula = spelling written_layout (Formula 0xEB 3 0 (value_of name)) in
    let bytes = spelling written_layout (LongConst (replicate size i)) in
    three ∙ ap (λ (l : List ℕ). l ++ spelling written_layout End) (two ∙ ap (λ (l : List ℕ). l ++ bytes) (one ∙ ap (λ (l : List ℕ). l ++ formula) empty))
    ∙ append_assoc formula bytes (spelling written_layout End) ∙ sym (content_parts i size name)

-- ---- sizes

length-value : (name : List ℕ) → length (value_of name) ≡ length name + 3
unfolding value_of term_text name_text
length-value name = omega (arith, length-append (0x83 ∷ length name ∷ name) (0x00 ∷ []))

length-formula : (code : ℕ) (name : List ℕ) → (code == 0xEE) ≡ false → length (spelling written_layout (Formula code 3 0 (value_of name))) ≡ length name + 5
unfolding spelling
length-formula code name e = rw e (omega (arith, length-value name))

length-call : (i : ℕ) → i ≤ 64 → length (call_text i) ≤ 17
unfolding spelling
length-call i small = omega (arith, length-append (spelling written_layout (Const (0x22 ∷ []))) (spelling written_layout (Formula 0xF3 3 0 (value_of (name_of i)))), length-formula 0xF3 (name_of i) refl, name_short i (omega (arith, small)))

pub calls_short : (more i : ℕ) → i + more ≤ 65 → length (records_text (calls more i)) ≤ 1 + 17 * more
unfolding spelling
calls_short zero i small = omega (arith, ap length (no_call i))
calls_short (suc more) i small =
    omega (arith, ap length (one_call more i), length-append (call_text i) (records_text (calls more (i + 1))), length-call i (omega (arith, small)), calls_short more (i + 1) (omega (arith, small)))

pub content_short : (i size : ℕ) (name : List ℕ) → length name ≤ 10 → size < 4112
    → length (records_text (Formula 0xEB 3 0 (value_of name) ∷ LongConst (replicate size i) ∷ End ∷ [])) ≤ 65536
unfolding spelling
content_short i size name short small =
    omega (
      arith,
      ap length (content_parts i size name),
      length-append (spelling written_layout (Formula 0xEB 3 0 (value_of name))) (spelling written_layout (LongConst (replicate size i)) ++ spelling written_layout End),
      length-formula 0xEB name refl,
      length-append (spelling written_layout (LongConst (replicate size i))) (spelling written_layout End),
      length-append (little_bytes 4 (length (replicate size i))) (replicate size i),
      length-bytes_low_first 0 4 (length (replicate size i)),
      length-replicate size i,
      short,
      small,
    )

-- ---- the segments

-- the object is its first segment and the dynamic ones
pub object_parts : (n seed : ℕ) → object n seed ≡ segment_text (main_segment n) ++ object_text (dynamic_segments 1 (draws n seed))
unfolding object object_text
object_parts n seed = flat_map-cons segment_text (main_segment n) (dynamic_segments 1 (draws n seed))

-- one dynamic segment more
pub one_segment : (i draw : ℕ) (draws : List ℕ) → object_text (dynamic_segments i (draw ∷ draws)) ≡ segment_text (dynamic_segment i (16 + draw % 4096)) ++ object_text (dynamic_segments (i + 1) draws)
unfolding object_text
one_segment i draw draws = flat_map-cons segment_text (dynamic_segment i (16 + draw % 4096)) (dynamic_segments (i + 1) draws)

pub no_segment : (i : ℕ) → object_text (dynamic_segments i []) ≡ []
unfolding object_text
no_segment i = refl

-- `more` segments are left from a number on, whose sizes are drawn after the number `x`; after these bytes they make the object
pub record SegmentsLeft (n seed i x : ℕ) (text : List ℕ) : Type 0 where
  pub more : ℕ
  pub count : i + more ≡ n + 1
  pub parts : text ++ object_text (dynamic_segments i (draws more x)) ≡ object n seed
  pub last : following more x ≡ following n seed

pub segments_start : (n seed : ℕ) (text : List ℕ) → text ≡ segment_text (main_segment n) → SegmentsLeft n seed 1 seed text
segments_start n seed text is = record {
  more = n;
  count = omega arith;
  parts = ap (λ (l : List ℕ). l ++ object_text (dynamic_segments 1 (draws n seed))) is ∙ sym (object_parts n seed);
  last = refl;
}

pub segments_step : (n seed i x y : ℕ) (text new : List ℕ) → SegmentsLeft n seed i x text → i < n + 1 → y ≡ next x
    → new ≡ text ++ segment_text (dynamic_segment i (16 + next x / 65536 % 4096)) → SegmentsLeft n seed (i + 1) y new
segments_step n seed i x y text new left within drawn is = subst (λ (z : ℕ). SegmentsLeft n seed (i + 1) z new) (sym drawn) (go left.more left.count left.parts left.last)
  where
    go : (more : ℕ) → i + more ≡ n + 1 → text ++ object_text (dynamic_segments i (draws more x)) ≡ object n seed → following more x ≡ following n seed → SegmentsLeft n seed (i + 1) (next x) new
    go zero count parts last = absurd (omega (arith, count, within))
    go (suc more) count parts last =
        let segment = segment_text (dynamic_segment i (16 + next x / 65536 % 4096)) in
        let rest = object_text (dynamic_segments (i + 1) (draws more (next x))) in
        record {
          more = more;
          count = omega (arith, count);
          parts = ap (λ (l : List ℕ). l ++ rest) is ∙ append_assoc text segment rest
              ∙ ap (λ (l : List ℕ). text ++ l) (sym (one_segment i (next x / 65536) (draws more (next x)))) ∙ parts;
          last = last;
        }

pub segments_end : (n seed i x : ℕ) (text : List ℕ) → SegmentsLeft n seed i x text → n + 1 ≤ i → (text ≡ object n seed) × (x ≡ following n seed)
segments_end n seed i x text left done = go left.more left.count left.parts left.last
  where
    go : (more : ℕ) → i + more ≡ n + 1 → text ++ object_text (dynamic_segments i (draws more x)) ≡ object n seed → following more x ≡ following n seed → (text ≡ object n seed) × (x ≡ following n seed)
    go zero count parts last = (sym (append-nil text) ∙ ap (λ (l : List ℕ). text ++ l) (sym (no_segment i)) ∙ parts, last)
    go (suc more) count parts last = absurd (omega (arith, count, done))

-- ---- the object's size

segment_short : (e : FinishedSegment) → length e.header.load_name ≡ 10 → length e.header.name ≤ 10 → length (records_text e.body) ≤ 65536 → length (segment_text e) ≤ 65601
unfolding segment_text
segment_short e ten short small =
    let n = length (records_text e.body) in
    omega (arith, length-append (header_bytes e.header n) (records_text e.body), length-header e.header n ten, short, small)

dynamic_short : (i draw : ℕ) → i ≤ 64 → length (segment_text (dynamic_segment i (16 + draw % 4096))) ≤ 65601
dynamic_short i draw few =
    let short = name_short i (omega (arith, few)) in
    segment_short (dynamic_segment i (16 + draw % 4096)) (length-padded (name_of i) short) short (content_short i (16 + draw % 4096) (name_of i) short (omega arith))

dynamics_short : (i : ℕ) (all : List ℕ) → i + length all ≤ 65 → length (object_text (dynamic_segments i all)) ≤ 65601 * length all
dynamics_short i [] few = omega (arith, ap length (no_segment i))
dynamics_short i (draw ∷ all) few =
    omega (
      arith,
      ap length (one_segment i draw all),
      length-append (segment_text (dynamic_segment i (16 + draw % 4096))) (object_text (dynamic_segments (i + 1) all)),
      dynamic_short i draw (omega (arith, few)),
      dynamics_short (i + 1) all (omega (arith, few)),
    )

pub object_short : (n seed : ℕ) → n ≤ 64 → length (object n seed) ≤ 16777216
object_short n seed few =
    let main = segment_short (main_segment n) refl (omega arith) (omega (arith, calls_short n 1 (omega (arith, few)), few)) in
    omega (
      arith,
      ap length (object_parts n seed),
      length-append (segment_text (main_segment n)) (object_text (dynamic_segments 1 (draws n seed))),
      main,
      dynamics_short 1 (draws n seed) (omega (arith, length-draws n seed, few)),
      length-draws n seed,
      few,
    )

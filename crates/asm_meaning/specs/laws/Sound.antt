-- What lines leave can be written: the records have spellings, the headers' fields have their widths, and LENGTH is the
-- number of cells.
use Rattle.std.proofs.Common.{◌≡◌, ℕ, ◌+◌, ◌^◌, ◌<◌, ◌≤◌, min, Bool, true, false, cond, List, [], ◌∷◌, ◌++◌, length, Option, Some, None, refl, sym, ap, ◌∙◌, append_assoc, arith}
use Rattle.std.specs.Prelude.{bytes_eq}
use Rattle.std.specs.List.{AllByRecursion}
use Rattle.std.specs.Option.{option_map}
use Rattle.omf_format.specs.Header.{HeaderFields, is_listed, form_of}
use Rattle.omf_format.specs.Record.{Record, End, Label}
use Rattle.orca_meaning.specs.Line.{Line}
use Rattle.orca_meaning.specs.Names.{with_name}
use Rattle.asm_meaning.specs.declared.directives.Class.{Class}
use Rattle.asm_meaning.specs.declared.directives.Class.TheVariants.{Code, PrivateCode, Data, PrivateData}
use Rattle.asm_meaning.specs.declared.directives.Switch.{Switch}
use Rattle.asm_meaning.specs.declared.directives.Switch.TheVariants.{LongA, LongI, Msb}
use Rattle.asm_meaning.specs.Pieces.{place_after, length_at, IsPlain}
use Rattle.asm_meaning.specs.State.{Names, StartedSegment, FinishedSegment, State, start, no_names, cells_of, kind_of, bank_size_of, header_of, state_after_start, state_after_end, with_label, local_of, with_records, with_local_record, in_segment, with_switch_set}
use Rattle.asm_meaning.specs.laws.Steps.{ended_of}
use Rattle.asm_meaning.specs.Constant.{AreSmall}
use Rattle.asm_meaning.specs.laws.PieceLaws.{ArePlain, all-append, place_after-append}
use Rattle.asm_meaning.specs.laws.GivenLaws.{IsNameLength}

-- ---- what is sound

-- a header's fields, as they are before its END
pub record IsSoundHeader (f : HeaderFields) : Type 0 where
  pub version : f.version ≡ 2
  pub res_spc : f.res_spc ≡ 0
  pub entry : f.entry ≡ 0
  pub bank_size : f.bank_size ≤ 0x10000
  pub kind : f.kind < 2 ^ 16
  pub listed : is_listed (form_of f.kind) ≡ true
  pub org : f.org < 2 ^ 32
  pub align : f.align < 2 ^ 32
  pub seg_num : f.seg_num < 2 ^ 16
  pub load_name : Rattle.std.specs.Prelude.length f.load_name ≡ 10
  pub name : IsNameLength f.name

-- the constants among the names have 32 bits
abbrev pub HaveSmall : Names → Type 0
HaveSmall names = (name : List ℕ) (n : ℕ) → names name ≡ Some (Some n) → n < 2 ^ 32

pub record IsSoundSegment (s : StartedSegment) : Type 0 where
  pub header : IsSoundHeader s.header
  pub names : HaveSmall s.names
  pub body : ArePlain s.body

-- its records are plain up to END, LENGTH is the number of its cells, and it isn't too long
pub record IsSoundEnded (e : FinishedSegment) : Type 0 where
  pub header : IsSoundHeader e.header
  pub inner : List Record
  pub body : e.body ≡ inner ++ End ∷ []
  pub plain : ArePlain inner
  pub length' : e.header.length ≡ place_after 0 e.body
  pub short : e.header.length ≤ 0xFFFFFF

abbrev pub InSegment : (StartedSegment → Type 0) → Option StartedSegment → Type 0
InSegment P None = Unit {0}
InSegment P (Some s) = P s

pub record IsSound (state : State) : Type 0 where
  pub outside : AreSmall state.outside
  pub org : state.org < 2 ^ 32
  pub align : state.align < 2 ^ 32
  pub front : ArePlain state.front
  pub segment : InSegment IsSoundSegment state.segment
  pub ended : AllByRecursion IsSoundEnded state.ended

-- the open segment isn't too long
abbrev pub IsShort : State → Type 0
IsShort state = InSegment (λ s. cells_of s ≤ 0xFFFFFF) state.segment

-- a label: none, or a name
abbrev pub IsLabelText : List ℕ → Type 0
IsLabelText [] = Unit {0}
IsLabelText (byte ∷ label) = IsNameLength (byte ∷ label)

-- ---- what keeps it

pub sound_start : IsSound start
sound_start = record { outside = λ name n e. absurd cc; org = omega arith; align = omega arith; front = tt; segment = tt; ended = tt }

label_plain : (global : Bool) (name : List ℕ) (size form : ℕ) → IsNameLength name → size < 2 ^ 16 → form < 2 ^ 8 → IsPlain (Label global name size form 0)
label_plain global name size form is small fits = record { spelled = λ at cells. (is, (small, fits, omega arith)); inner = refl }

local_plain : (label : List ℕ) (form size : ℕ) → IsLabelText label → form < 2 ^ 8 → ArePlain (local_of label form size)
local_plain [] form size is fits = tt
local_plain (byte ∷ label) form size is fits = (label_plain false (byte ∷ label) (min size 0xFFFF) form is (omega arith) fits, tt)

-- a name that was given a value
given_small : (name : List ℕ) (value : Option ℕ) (names : Names) → HaveSmall names → ((n : ℕ) → value ≡ Some n → n < 2 ^ 32) → HaveSmall (with_name name value names)
given_small name value names small fits asked n e = by_name (bytes_eq name asked) e
  where
    given : Option ℕ → Option (Option ℕ)
    given v = Some v

    same : Some value ≡ Some (Some n) → value ≡ Some n
    same e = cc

    by_name : (b : Bool) → cond b (Some value) (names asked) ≡ Some (Some n) → n < 2 ^ 32
    by_name true e = fits n (same e)
    by_name false e = small asked n e

label_small : (label : List ℕ) (value : Option ℕ) (names : Names) → HaveSmall names → ((n : ℕ) → value ≡ Some n → n < 2 ^ 32) → HaveSmall (with_label label value names)
label_small [] value names small fits = small
label_small (byte ∷ label) value names small fits = given_small (byte ∷ label) value names small fits

abbrev no_number : Option ℕ
no_number = None

no_value : (n : ℕ) → no_number ≡ Some n → n < 2 ^ 32
no_value n e = absurd cc

pub grown_sound : (label : List ℕ) (value : Option ℕ) (front contents : List Record) (s : StartedSegment) → IsSoundSegment s → ((n : ℕ) → value ≡ Some n → n < 2 ^ 32) → ArePlain front → ArePlain contents
    → IsSoundSegment (with_records label value front contents s)
grown_sound label value front contents s sound fits p q = record {
  header = sound.header;
  names = label_small label value s.names sound.names fits;
  body = all-append IsPlain s.body (front ++ contents) sound.body (all-append IsPlain front contents p q);
}

pub marked_sound : (label : List ℕ) (form : ℕ) (contents : List Record) (s : StartedSegment) → IsSoundSegment s → IsLabelText label → form < 2 ^ 8 → ArePlain contents → IsSoundSegment (with_local_record label form contents s)
marked_sound label form contents s sound is fits plain =
    grown_sound label None (local_of label form (length_at (cells_of s) contents)) contents s sound no_value (local_plain label form (length_at (cells_of s) contents) is fits) plain

-- a change of the open segment
pub change_sound : (change : StartedSegment → StartedSegment) (state : State) → IsSound state → ((s : StartedSegment) → IsSoundSegment s → IsSoundSegment (change s)) → IsSound (in_segment change state)
change_sound change state sound keeps = record {
  outside = sound.outside;
  org = sound.org;
  align = sound.align;
  front = sound.front;
  segment = by_segment state.segment sound.segment;
  ended = sound.ended;
}
  where
    by_segment : (o : Option StartedSegment) → InSegment IsSoundSegment o → InSegment IsSoundSegment (option_map change o)
    by_segment None is = tt
    by_segment (Some s) is = keeps s is

pub mark_sound : (label : List ℕ) (form : ℕ) (contents : List Record) (state : State) → IsSound state → IsLabelText label → form < 2 ^ 8 → ArePlain contents → IsSound (in_segment (with_local_record label form contents) state)
mark_sound label form contents state sound is fits plain = change_sound (with_local_record label form contents) state sound (λ s p. marked_sound label form contents s p is fits plain)

pub turned_sound : (switch : Switch) (on : Bool) (state : State) → IsSound state → IsSound (with_switch_set switch on state)
turned_sound LongA on state sound = record { outside = sound.outside; org = sound.org; align = sound.align; front = sound.front; segment = sound.segment; ended = sound.ended }
turned_sound LongI on state sound = record { outside = sound.outside; org = sound.org; align = sound.align; front = sound.front; segment = sound.segment; ended = sound.ended }
turned_sound Msb on state sound = record { outside = sound.outside; org = sound.org; align = sound.align; front = sound.front; segment = sound.segment; ended = sound.ended }

header_sound : (state : State) (class : Class) (name load_name : List ℕ) → IsSound state → IsNameLength name → length load_name ≡ 10 → IsSoundHeader (header_of state class name load_name)
header_sound state class name load_name sound is ten = record {
  version = refl;
  res_spc = refl;
  entry = refl;
  bank_size = banks class;
  kind = kinds class;
  listed = lists class;
  org = sound.org;
  align = sound.align;
  seg_num = omega arith;
  load_name = ten;
  name = is;
}
  where
    banks : (c : Class) → bank_size_of c ≤ 0x10000
    banks Code = omega arith
    banks PrivateCode = omega arith
    banks Data = omega arith
    banks PrivateData = omega arith

    kinds : (c : Class) → kind_of c < 2 ^ 16
    kinds Code = omega arith
    kinds PrivateCode = omega arith
    kinds Data = omega arith
    kinds PrivateData = omega arith

    lists : (c : Class) → is_listed (form_of (kind_of c)) ≡ true
    lists Code = refl
    lists PrivateCode = refl
    lists Data = refl
    lists PrivateData = refl

pub begun_sound : (state : State) (line : Line) (class : Class) (name load_name : List ℕ) → IsSound state → IsNameLength name → length load_name ≡ 10 → IsSound (state_after_start state line class name load_name)
begun_sound state line class name load_name sound is ten = record {
  outside = sound.outside;
  org = omega arith;
  align = omega arith;
  front = tt;
  segment = record {
    header = header_sound state class name load_name sound is ten;
    names = given_small name None no_names (λ asked n e. absurd cc) no_value;
    body = sound.front;
  };
  ended = sound.ended;
}

-- END, with LOCAL for its label, gives no cells
local_cells : (at : ℕ) (label : List ℕ) (form size : ℕ) → place_after at (local_of label form size) ≡ at
unfolding place_after
local_cells at [] form size = refl
local_cells at (byte ∷ label) form size = omega arith

end_cells : (at : ℕ) (label : List ℕ) (form size : ℕ) → place_after at (local_of label form size ++ End ∷ []) ≡ at
unfolding place_after
end_cells at label form size =
    place_after-append at (local_of label form size) (End ∷ []) ∙ ap (λ (k : ℕ). k + 0) (local_cells at label form size) ∙ zero_after
  where
    zero_after : at + 0 ≡ at
    zero_after = omega arith

pub ends_sound : (label : List ℕ) (state : State) → IsSound state → IsShort state → IsLabelText label → IsSound (state_after_end (in_segment (with_local_record label 0x4E (End ∷ [])) state))
ends_sound label state sound short is = record {
  outside = sound.outside;
  org = sound.org;
  align = sound.align;
  front = sound.front;
  segment = tt;
  ended = all-append IsSoundEnded state.ended (ended_of (option_map (with_local_record label 0x4E (End ∷ [])) state.segment)) sound.ended (by_segment state.segment sound.segment short);
}
  where
    by_segment : (o : Option StartedSegment) → InSegment IsSoundSegment o → InSegment (λ s. cells_of s ≤ 0xFFFFFF) o → AllByRecursion IsSoundEnded (ended_of (option_map (with_local_record label 0x4E (End ∷ [])) o))
    by_segment None p q = tt
    by_segment (Some s) p q =
        let local = local_of label 0x4E (length_at (cells_of s) (End ∷ [])) in
        let cells : place_after 0 (s.body ++ (local ++ End ∷ [])) ≡ cells_of s =
        place_after-append 0 s.body (local ++ End ∷ []) ∙ end_cells (cells_of s) label 0x4E (length_at (cells_of s) (End ∷ [])) in (
          record {
            header = record {
              version = p.header.version;
              res_spc = p.header.res_spc;
              entry = p.header.entry;
              bank_size = p.header.bank_size;
              kind = p.header.kind;
              listed = p.header.listed;
              org = p.header.org;
              align = p.header.align;
              seg_num = p.header.seg_num;
              load_name = p.header.load_name;
              name = p.header.name;
            };
            inner = s.body ++ local;
            body = sym (append_assoc s.body local (End ∷ []));
            plain = all-append IsPlain s.body local p.body (local_plain label 0x4E (length_at (cells_of s) (End ∷ [])) is (omega arith));
            length' = refl;
            short = omega (arith, cells, q);
          },
          tt,
        )

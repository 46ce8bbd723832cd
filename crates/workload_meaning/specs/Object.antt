-- The object of the workload: a segment that calls dynamic segments, and these (GS/OS Reference, appendix F).
use Rattle.std.specs.Prelude.{ℕ, zero, suc, ◌+◌, ◌-◌, ◌*◌, ◌%◌, List, [], ◌∷◌, ◌++◌, codes, length, replicate}
use Rattle.omf_format.specs.declared.codes.TheConstants.{EXPR, LEXPR}
use Rattle.omf_format.specs.Ascii as ascii
use Rattle.omf_base.specs.Digits.{decimal}
use Rattle.omf_format.specs.Header.{HeaderFields}
use Rattle.omf_format.specs.Expression.{Named, term_text}
use Rattle.omf_format.specs.Record.{Record, End, Const, LongConst, Formula}
use Rattle.asm_meaning.specs.State.{FinishedSegment}
use Rattle.asm_meaning.specs.Object.{object_text}
use Rattle.workload_meaning.specs.Draws.{draws}

-- the name of the dynamic segment with a number, from 1
abbrev pub name_of : ℕ → List ℕ
name_of i = codes "D" ++ decimal i

-- a load name: ten bytes, the last of them spaces
abbrev pub padded : List ℕ → List ℕ
padded name = name ++ replicate (10 - length name) ascii.space

-- an expression that is a name alone
unfoldable pub value_of : List ℕ → List ℕ
value_of name = term_text 0 (Named 0x83 name) ++ 0x00 ∷ []

-- The header of a segment of this KIND, LENGTH and number that stays in a bank, both of whose names are this one. The fields that
-- the writing of a header works out are 0.
abbrev pub header_for : ℕ → ℕ → ℕ → List ℕ → HeaderFields
header_for kind size number name = record {
  byte_count = 0;
  res_spc = 0;
  length = size;
  lab_len = 0;
  version = 2;
  bank_size = 0x10000;
  kind = kind;
  org = 0;
  align = 0;
  seg_num = number;
  entry = 0;
  disp_name = 0;
  disp_data = 0;
  load_name = padded name;
  name = name;
}

-- JSLs to a given number of dynamic segments, from one with a number on, and then END: each JSL is the byte $22 and LEXPR of three bytes
abbrev pub calls : ℕ → ℕ → List Record
calls zero i = End ∷ []
calls (suc more) i = Const (0x22 ∷ []) ∷ Formula LEXPR 3 0 (value_of (name_of i)) ∷ calls more (i + 1)

-- the segment MAIN, of code, calls each dynamic segment once
abbrev pub main_segment : ℕ → FinishedSegment
main_segment n = record { header = header_for 0x0000 (4 * n) 1 (codes "MAIN"); body = calls n 1 }

-- a dynamic segment: EXPR of three bytes of its own name, and `size` bytes that are its number
abbrev pub dynamic_segment : ℕ → ℕ → FinishedSegment
dynamic_segment i size = record {
  header = header_for 0x8000 (3 + size) (i + 1) (name_of i);
  body = Formula EXPR 3 0 (value_of (name_of i)) ∷ LongConst (replicate size i) ∷ End ∷ [];
}

-- a dynamic segment for each draw, from the one with a number on
abbrev pub dynamic_segments : ℕ → List ℕ → List FinishedSegment
dynamic_segments i [] = []
dynamic_segments i (draw ∷ draws) = dynamic_segment i (16 + draw % 4096) ∷ dynamic_segments (i + 1) draws

-- the object of `n` dynamic segments for a seed
unfoldable pub object : ℕ → ℕ → List ℕ
object n seed = object_text (main_segment n ∷ dynamic_segments 1 (draws n seed))

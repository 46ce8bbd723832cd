-- Listings that were worked out by hand: what the definitions make of three segments.
use Rattle.std.specs.Prelude.{◌≡◌, ℕ, List, [], ◌∷◌, codes, replicate, Ok, Err, Result}
use Rattle.omf_format.specs.declared.codes.TheConstants.{EXPR, LEXPR}
use Rattle.omf_format.specs.File.{Segment}
use Rattle.omf_format.specs.Header.{HeaderFields}
use Rattle.omf_format.specs.Record.{Formula, End, Const, Space}
use Rattle.list_meaning.specs.Listed.{ListedStatement, listing_text}
use Rattle.list_meaning.specs.Listing.{listing_of}

-- a header of a code segment `A` with this LENGTH
abbrev pub fields : ℕ → HeaderFields
fields length = record {
  byte_count = 0x42;
  res_spc = 0;
  length = length;
  lab_len = 0;
  version = 2;
  bank_size = 0x10000;
  kind = 0;
  org = 0;
  align = 0;
  seg_num = 1;
  entry = 0;
  disp_name = 0x2C;
  disp_data = 0x38;
  load_name = replicate 10 0x20;
  name = codes "A";
}

-- three constant bytes and five zeros
abbrev pub row_one : Segment
row_one = record { start = 0; fields = fields 8; records = (0x38, Const (0xA9 ∷ 0x01 ∷ 0x60 ∷ [])) ∷ (0x3C, Space 5) ∷ (0x41, End) ∷ [] }

-- the text of lines
abbrev pub text_of : Result (List ListedStatement) ℕ → List ℕ
text_of (Ok all) = listing_text all
text_of (Err at) = []

-- the place that can't be listed
abbrev pub place_of : Result (List ListedStatement) ℕ → ℕ
place_of (Ok all) = 0
place_of (Err at) = at

-- an EXPR of $87
abbrev pub row_two : Segment
row_two = record { start = 0; fields = fields 2; records = (0x38, Formula EXPR 2 0 (0x87 ∷ 0x01 ∷ 0x00 ∷ 0x00 ∷ 0x00 ∷ 0x00 ∷ [])) ∷ (0x40, End) ∷ [] }

-- widths along a run, and two bytes that are held back
abbrev pub row_three : Segment
row_three = record {
  start = 0;
  fields = fields 11;
  records = (0x38, Const (0xE2 ∷ 0x20 ∷ 0xA9 ∷ [])) ∷ (0x3C, Formula EXPR 1 0 (0x83 ∷ 0x01 ∷ 0x42 ∷ 0x00 ∷ []))
      ∷ (0x43, Const (0x54 ∷ 0x01 ∷ 0x02 ∷ 0x22 ∷ [])) ∷ (0x48, Formula LEXPR 3 0 (0x83 ∷ 0x01 ∷ 0x42 ∷ 0x81 ∷ 0x05 ∷ 0x00 ∷ 0x00 ∷ 0x00 ∷ 0x02 ∷ 0x00 ∷ [])) ∷ (0x55, End) ∷ [];
}

-- the listings of the first and of the third, and the place at which the second can't be listed
pub record AreWorked : Type 0 where
  pub first : text_of (listing_of row_one) ≡ codes "A START\n KIND $0000\n LONGA ON\n LONGI ON\n LDA #$6001\n DS $00000005\n END\n"
  pub second : place_of (listing_of row_two) ≡ 0x38
  pub third : text_of (listing_of row_three) ≡ codes "A START\n KIND $0000\n LONGA ON\n LONGI ON\n SEP #$20\n LONGA OFF\n LDA #B\n MVN $02,$01\n JSL >B-$00000005\n END\n"

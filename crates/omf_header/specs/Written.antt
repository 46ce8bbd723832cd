-- The fields of headers that are made to be written.
use Rattle.std.specs.Prelude.{ℕ, List}
use Rattle.omf_format.specs.Header.{HeaderFields}

-- those of version 2 that have no zeros after the data, ask for no address and no alignment, and are entered at the start; what the writing gives is 0
abbrev pub written : List ℕ → List ℕ → ℕ → ℕ → ℕ → ℕ → HeaderFields
written load_name name kind length bank_size seg_num = record {
  byte_count = 0;
  res_spc = 0;
  length = length;
  lab_len = 0;
  version = 2;
  bank_size = bank_size;
  kind = kind;
  org = 0;
  align = 0;
  seg_num = seg_num;
  entry = 0;
  disp_name = 0;
  disp_data = 0;
  load_name = load_name;
  name = name;
}

-- those of version 2 that have `zeros` zeros after the data, and the rest as they are; what the writing gives is 0
abbrev pub with_reserved_zeros : HeaderFields → ℕ → HeaderFields
with_reserved_zeros f zeros = record f { byte_count = 0; res_spc = zeros; lab_len = 0; version = 2; disp_name = 0; disp_data = 0 }

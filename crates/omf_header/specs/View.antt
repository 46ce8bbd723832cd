-- How a header and the faults of reading one are seen.
use Rattle.std.specs.Prelude.{◌≡◌, List, ℕ, Some}
use Rattle.omf_format.specs.declared.fault.HeaderFault.{HeaderFault}
use Rattle.omf_format.specs.declared.fault.HeaderFault.TheVariants.{Truncated, Unsupported, BadField, Memory}
use Rattle.omf_format.specs.Header.{HeaderFields, header_fault}
use Rattle.omf_header.specs.declared.header.Header.{Header}

-- the fields of a header
abbrev pub fields : Header → HeaderFields
fields h = record {
  byte_count = h.byte_count;
  res_spc = h.res_spc;
  length = h.length;
  lab_len = h.lab_len;
  version = h.version;
  bank_size = h.bank_size;
  kind = h.kind.bits;
  org = h.org;
  align = h.align;
  seg_num = h.seg_num;
  entry = h.entry;
  disp_name = h.disp_name;
  disp_data = h.disp_data;
  load_name = h.load_name;
  name = h.name;
}

-- the fault is the first one of the header at the start of the bytes, unless out of memory
abbrev pub IsRefused : HeaderFault → List ℕ → Type 0
IsRefused (Truncated n) bytes = header_fault bytes ≡ Some (Truncated n)
IsRefused (Unsupported field) bytes = header_fault bytes ≡ Some (Unsupported field)
IsRefused (BadField field) bytes = header_fault bytes ≡ Some (BadField field)
IsRefused Memory bytes = Unit {0}

-- How the parts of a load file are seen by C.
use Rattle.std.specs.Prelude.{◌≡◌, length}
use Rattle.load_meaning.specs.declared.table.Target.{Target}
use Rattle.load_meaning.specs.Exports as exports
use Rattle.omf_format.specs.Header.{HeaderFields}
use Rattle.omf_c_files.specs.declared.header.OmfHeader.{OmfHeader}
use Rattle.omf_c_files.specs.declared.target.OmfTarget.{OmfTarget}
use Rattle.omf_c_files.specs.declared.export.OmfExport.{OmfExport}
use Rattle.omf_c_files.specs.Faults.{zero_padded}

-- the fields of a header; the name has zeros after it
pub record ReportsFields (header : OmfHeader) (f : HeaderFields) : Type 0 where
  pub byte_count : header.byte_count ≡ f.byte_count
  pub res_spc : header.res_spc ≡ f.res_spc
  pub length' : header.length ≡ f.length
  pub lab_len : header.lab_len ≡ f.lab_len
  pub version : header.version ≡ f.version
  pub bank_size : header.bank_size ≡ f.bank_size
  pub kind : header.kind ≡ f.kind
  pub org : header.org ≡ f.org
  pub align : header.align ≡ f.align
  pub seg_num : header.seg_num ≡ f.seg_num
  pub entry : header.entry ≡ f.entry
  pub disp_name : header.disp_name ≡ f.disp_name
  pub disp_data : header.disp_data ≡ f.disp_data
  pub load_name : header.load_name ≡ f.load_name
  pub name_size : header.name_size ≡ length f.name
  pub name : header.name ≡ zero_padded 256 f.name

-- a target
abbrev pub target_view : Target → OmfTarget
target_view target = record { file = target.file; segment = target.segment; offset = target.offset }

-- the place that an exported name represents
abbrev pub export_view : exports.Export → OmfExport
export_view export = record { segment = export.segment; offset = export.offset }

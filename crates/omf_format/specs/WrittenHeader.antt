-- Which fields fit into a written header.
use Rattle.std.proofs.Common.{◌≡◌, ℕ, ◌+◌, ◌^◌, ◌<◌, ◌≤◌, length}
use Rattle.omf_format.specs.Header.{HeaderFields}

-- a written header: what it says fits, and the segment stays below 2 ^ 32 bytes
pub record FitsWritten (f : HeaderFields) (n : ℕ) : Type 0 where
  pub res_spc : f.res_spc < 2 ^ 32
  pub length : f.length < 2 ^ 32
  pub bank_size : f.bank_size < 2 ^ 32
  pub kind : f.kind < 2 ^ 16
  pub org : f.org < 2 ^ 32
  pub align : f.align < 2 ^ 32
  pub seg_num : f.seg_num < 2 ^ 16
  pub entry : f.entry < 2 ^ 32
  pub load_name : Rattle.std.specs.Prelude.length f.load_name ≡ 10
  pub name : Rattle.std.specs.Prelude.length f.name ≤ 255
  pub total : 0x37 + Rattle.std.specs.Prelude.length f.name + n < 2 ^ 32

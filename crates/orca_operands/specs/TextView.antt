-- How bytes are kept that may be too many.
use Rattle.std.specs.Prelude.{ℕ, Bool, true, false, nat_le, List, length, Option, Some, None, if◌then◌else◌}
use Rattle.asm_meaning.specs.Object.{most_bytes}
use Rattle.orca_operands.specs.declared.record_bytes.RecordBytes.{RecordBytes}

-- a text, unless it has more bytes than a file may have
abbrev pub text_within_limit : List ℕ → Option (List ℕ)
text_within_limit text = if nat_le (length text) most_bytes then Some text else None

-- the bytes, unless they became too many
abbrev pub kept_by : Bool → List ℕ → Option (List ℕ)
kept_by true bytes = None
kept_by false bytes = Some bytes

-- the bytes of records, unless they became too many
abbrev pub kept_text : RecordBytes → Option (List ℕ)
kept_text t = kept_by t.long t.bytes.items

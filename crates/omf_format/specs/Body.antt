-- The bytes that the records of a segment put into it (GS/OS Reference, appendix F, "Segment body": CONST, LCONST and DS).
use Rattle.std.specs.Prelude.{ℕ, List}
use Rattle.std.specs.List.{flat_map}
use Rattle.omf_format.specs.Record.{content_of}
use Rattle.omf_format.specs.File.{Segment}

-- the bytes of its records, in order
unfoldable pub body_bytes : Segment → List ℕ
body_bytes s = flat_map (λ found. content_of found.1) s.records

use Rattle.std.proofs.Common.{◌≡◌, ◌≤◌, ◌++◌, length, take, IfSome, arith}
use Rattle.std.specs.Io.KnownBytes.{Consumes}
use Rattle.std.specs.Option.{option_map}
use Rattle.omf_io.proofs.Limits.{whole_front}
use Rattle.omf_io.proofs.Pieces.{Consumes-rest, MatchResult-kept}
use Rattle.omf_io.proofs.streams.read_whole.Goals as goal

-- no more than the limit were read, so they are all
pub returns-clause-bytes : goal.returns-clause-bytes
returns-clause-bytes g c =
    let left = option_map (take 16777217) (g.R.Read.remaining c.args.reader) in
    let following = option_map (take c.front_of.new.reader.limit) (g.R.Read.remaining c.front_of.new.reader.inner) in
    let all = c.read_to_end.new.buf.items in
    let first = c.in_ok-bytes.bytes.items in
    let lost : Consumes left following first =
    rw (← c.take-front.ensures.inner) (rw (← c.take-front.ensures.limit) (MatchResult-kept c.front_of.result c.map_err.result c.in_ok-bytes.bytes _ (λ bytes. Consumes _ following bytes.items) c.in_ok-bytes.was c.map_err.ensures.variant c.map_err.ensures.cases c.front_of.ensures)) in
    let rest : IfSome following (λ xs. all ≡ first ++ xs) =
    MatchResult-kept c.read_to_end.result c.map_err-2.result c.in_ok-map_err.field-0 _ _ c.in_ok-map_err.was c.map_err-2.ensures.variant c.map_err-2.ensures.cases c.read_to_end.ensures.bytes in
    let size : length all ≤ 16777216 = omega (arith, c.read_to_end.new.buf.ok, c.len.ensures, c.if-len-gt-MAX_FILE.false) in
    whole_front (g.R.Read.remaining c.args.reader) 16777216 all (Consumes-rest left following first all lost rest) size

-- Sinks of text: what is seen of one, and what a put may answer.
use Rattle.std.specs.Prelude.{◌≡◌, ℕ, List, ◌++◌, Option}
use Rattle.std.specs.Option.{option_map}
use Rattle.omf_io.specs.declared.sink.SinkFault.{SinkFault}
use Rattle.omf_io.specs.declared.sink.SinkFault.TheVariants.{Failed, Memory}
use Rattle.omf_io.specs.Counts.{one_more, IsFront}

-- what is seen of a sink: all that it took, where it reveals that; and how often the outside failed
pub record SinkSeen : Type 0 where
  pub written : Option (List ℕ)
  pub faults : ℕ

-- the sink with these bytes after what it took
abbrev pub with_text : List ℕ → SinkSeen → SinkSeen
with_text piece sink = record sink { written = option_map (λ text. text ++ piece) sink.written }

-- a put that took the whole piece
abbrev pub HasPut : List ℕ → SinkSeen → SinkSeen → Type 0
HasPut piece before now = now ≡ with_text piece before

-- a prefix of the text was taken, which may be nothing or all of it, and the outside failed once
abbrev pub FailsToPrint : List ℕ → SinkSeen → SinkSeen → Type 0
FailsToPrint text before now = (front : List ℕ) × IsFront front text × (now ≡ record (with_text front before) { faults = one_more before.faults })

-- a put that was refused
abbrev pub PutFailed : SinkFault → List ℕ → SinkSeen → SinkSeen → Type 0
PutFailed Failed piece before now = FailsToPrint piece before now
PutFailed Memory piece before now = now ≡ before

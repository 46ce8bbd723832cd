-- The outside: a store of files and a sink of text, before something is done and after it.
use Rattle.omf_io.specs.Counts.{one_more}
use Rattle.omf_io.specs.Files.{StoreSeen}
use Rattle.omf_io.specs.Sinks.{SinkSeen}
use Rattle.std.specs.Prelude.{◌≤◌}

pub record Outside : Type 0 where
  pub store : StoreSeen
  pub new_store : StoreSeen
  pub sink : SinkSeen
  pub new_sink : SinkSeen

-- the outside, from its parts
abbrev pub outside : StoreSeen → StoreSeen → SinkSeen → SinkSeen → Outside
outside store new_store sink new_sink = record { store = store; new_store = new_store; sink = sink; new_sink = new_sink }

-- no count of faults rose
pub record IsCalm (o : Outside) : Type 0 where
  pub store : one_more o.store.faults ≤ o.new_store.faults → ⊥
  pub sink : one_more o.sink.faults ≤ o.new_sink.faults → ⊥

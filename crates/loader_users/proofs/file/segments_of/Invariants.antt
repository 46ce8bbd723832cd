use Rattle.std.specs.Prelude.{◌≡◌, map, take}
use Rattle.loader_machine.specs.Heads.{head_of}
use Rattle.loader_agrees.specs.Acts.{no_handle_of}
use Rattle.loader_users.proofs.Written.{heads_of, handles_of}
use Rattle.loader_users.proofs.file.segments_of.Given as goal

-- the segments so far have the headers of the file's first ones, and no handles
abbrev pub invariant-places : goal.invariant-places
invariant-places l = (heads_of l.segments.items ≡ map head_of (take l.place l.load)) × (handles_of l.segments.items ≡ map no_handle_of (heads_of l.segments.items))

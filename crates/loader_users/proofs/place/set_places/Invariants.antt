use Rattle.std.specs.Prelude.{◌≡◌, length, take}
use Rattle.loader_users.proofs.Settling.{addresses}
use Rattle.loader_users.proofs.place.set_places.Given as goal

-- the first segments have their addresses
abbrev pub invariant-places : goal.invariant-places
invariant-places l = record {
  long : length l.places ≡ length l.segments.items;
  set : take l.place l.places ≡ addresses l.banks.slots (take l.place l.segments.items);
}

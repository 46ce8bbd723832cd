use Rattle.std.proofs.Common.{◌≡◌, ◌&&◌, ◌||◌, ℕ, List, take, nat_eq}
use Rattle.link_tables.specs.Usings.{names_of, is_among, holds_name}
use Rattle.link_tables.proofs.usings.add_each.Given as goal

-- the names so far are there
abbrev pub invariant-loop-name : goal.invariant-loop-name
invariant-loop-name l = (other : ℕ) (name : List ℕ)
    → holds_name l.each other name ≡ ((nat_eq l.place other && is_among name (names_of (take l.name-index l.names))) || holds_name l.initial.each other name)

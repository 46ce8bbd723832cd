-- How the loader's Rust values are seen.
use Rattle.std.specs.Prelude.{List, map, option_map, Option, string_bytes}
use Rattle.iigs_meaning.specs.Memory.{Memory}
use Rattle.loader_agrees.specs.Agrees.{LoadedUser, Loaded}
use Rattle.loader_users.specs.declared.user.User.{User}

abbrev pub kept : User → LoadedUser
kept user = record {
  path = string_bytes user.path;
  life = user.life;
  handles = map (λ s. s.handle) user.segments.items;
  heads = map (λ s. s.head) user.segments.items;
  attached = user.attached.items;
}

abbrev pub loaded : Memory → List (Option User) → Loaded
loaded memory users = record { memory = memory; users = map (option_map kept) users }

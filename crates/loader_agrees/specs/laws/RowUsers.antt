-- A user after others, and after it those that are to be attached to it.
use Rattle.std.proofs.Common.{◌≡◌, ℕ, zero, suc, true, false, ◌+◌, ◌-◌, ◌<◌, ◌≤◌, List, [], ◌∷◌, ◌++◌, length, map, Option, Some, None, nat_lt, refl, sym, ap, subst, ◌∙◌, arith}
use Rattle.std.specs.Prelude.{slice_get, option_map}
use Rattle.std.specs.Option.{option_and_then}
use Rattle.std.proofs.lemmas.Option.{same_Some, slice_get_within}
use Rattle.omf_format.specs.Header.{is_dynamic, is_skipped}
use Rattle.omf_format.specs.File.{Segment, segment_at}
use Rattle.load_meaning.specs.Pathnames.{most_paths}
use Rattle.load_meaning.specs.LoadTable.{is_table}
use Rattle.iigs_meaning.specs.declared.handles.Handle.{Handle}
use Rattle.loader_machine.specs.declared.seen.SegmentHead.{SegmentHead}
use Rattle.loader_machine.specs.declared.seen.Life.TheVariants.{Running}
use Rattle.loader_machine.specs.Heads.{head_of}
use Rattle.loader_machine.specs.Heads.{is_table as is_table_head}
use Rattle.loader_machine.specs.State.{HeldSegment, Outline, absent, first_id, user_of, attached_at, ids_from, outline_of}
use Rattle.loader_machine.specs.Presences.{handle_at}
use Rattle.loader_machine.specs.Steps.{joined_users}
use Rattle.loader_machine.specs.laws.Words.{joined_user}
use Rattle.loader_agrees.specs.Agrees.{LoadedUser, outline, kept_outlines, IsJoined, AreAttached}
use Rattle.loader_agrees.specs.Acts.{no_handle_of, joined_kept, joined_kepts}
use Rattle.loader_agrees.specs.laws.Joining.{user_stays}
use Rattle.loader_agrees.specs.laws.Reads.{headed}
use Rattle.loader_agrees.specs.laws.Seeing.{user_is, made_at}

-- ---- lists

-- an element of a list with one in the midst
pub data Lies {X : Type 0} (xs : List X) (y : X) (zs : List X) (p : ℕ) (x : X) : Type 0 where
  Front : p < length xs → slice_get xs p ≡ Some x → Lies xs y zs p x
  Midst : p ≡ length xs → x ≡ y → Lies xs y zs p x
  After : (j : ℕ) → p ≡ length xs + (1 + j) → slice_get zs j ≡ Some x → Lies xs y zs p x

module _ {X : Type 0} where
  later : (w : X) (xs : List X) (y : X) (zs : List X) (p : ℕ) (x : X) → Lies xs y zs p x → Lies (w ∷ xs) y zs (suc p) x
  later w xs y zs p x (Front less is) = Front (omega (arith, less)) is
  later w xs y zs p x (Midst at is) = Midst (omega (arith, at)) is
  later w xs y zs p x (After j at is) = After j (omega (arith, at)) is

  pub lies : (xs : List X) (y : X) (zs : List X) (p : ℕ) (x : X) → slice_get (xs ++ y ∷ zs) p ≡ Some x → Lies xs y zs p x
  lies [] y zs zero x is = Midst refl (sym (same_Some y x is))
  lies [] y zs (suc p) x is = After p (omega arith) is
  lies (w ∷ xs) y zs zero x is = Front (omega arith) is
  lies (w ∷ xs) y zs (suc p) x is = later w xs y zs p x (lies xs y zs p x is)

  pub front_at : (xs : List X) (y : X) (zs : List X) (p : ℕ) (x : X) → slice_get xs p ≡ Some x → slice_get (xs ++ y ∷ zs) p ≡ Some x
  front_at [] y zs p x is = absurd cc
  front_at (w ∷ xs) y zs zero x is = is
  front_at (w ∷ xs) y zs (suc p) x is = front_at xs y zs p x is

  pub midst_at : (xs : List X) (y : X) (zs : List X) → slice_get (xs ++ y ∷ zs) (length xs) ≡ Some y
  midst_at [] y zs = refl
  midst_at (w ∷ xs) y zs = midst_at xs y zs

  pub after_at : (xs : List X) (y : X) (zs : List X) (j : ℕ) → slice_get (xs ++ y ∷ zs) (length xs + (1 + j)) ≡ slice_get zs j
  after_at [] y zs j = let e : 0 + (1 + j) ≡ suc j = omega arith in ap (slice_get (y ∷ zs)) e
  after_at (w ∷ xs) y zs j = let e : suc (length xs) + (1 + j) ≡ suc (length xs + (1 + j)) = omega arith in ap (slice_get (w ∷ (xs ++ y ∷ zs))) e ∙ after_at xs y zs j

-- the j-th of the attached users
pub record IsRow (paths : List (List ℕ)) (all : List (List Segment)) (j : ℕ) (path : List ℕ) (segments : List Segment) : Type 0 where
  pub path' : slice_get paths j ≡ Some path
  pub segments' : slice_get all j ≡ Some segments

pub row_kept : (paths : List (List ℕ)) (all : List (List Segment)) (j : ℕ) (k : Option LoadedUser) → slice_get (joined_kepts paths all) j ≡ Some k
    → (path : List ℕ) × (segments : List Segment) × IsRow paths all j path segments × (k ≡ Some (joined_kept path (map head_of segments)))
row_kept [] all j k is = absurd cc
row_kept (path ∷ paths) [] j k is = absurd cc
row_kept (path ∷ paths) (segments ∷ all) zero k is = (path, segments, record { path' = refl; segments' = refl }, cc)
row_kept (path ∷ paths) (segments ∷ all) (suc j) k is = let one = row_kept paths all j k is in (one.0, one.1, record { path' = one.2.path'; segments' = one.2.segments' }, one.3)

pub row_there : (paths : List (List ℕ)) (all : List (List Segment)) (j : ℕ) → length all ≡ length paths → j < length paths
    → (path : List ℕ) × (segments : List Segment) × IsRow paths all j path segments × (slice_get (joined_kepts paths all) j ≡ Some (Some (joined_kept path (map head_of segments))))
row_there [] all j long less = absurd (omega (arith, less))
row_there (path ∷ paths) [] j long less = absurd (omega (arith, long))
row_there (path ∷ paths) (segments ∷ all) zero long less = (path, segments, record { path' = refl; segments' = refl }, refl)
row_there (path ∷ paths) (segments ∷ all) (suc j) long less =
    let one = row_there paths all j (omega (arith, long)) (omega (arith, less)) in (one.0, one.1, record { path' = one.2.path'; segments' = one.2.segments' }, one.3)

pub user_row : (paths : List (List ℕ)) (all : List (List Segment)) (j : ℕ) (path : List ℕ) (segments : List Segment) → IsRow paths all j path segments
    → slice_get (joined_users paths all) j ≡ Some (Some (joined_user path (map head_of segments)))
user_row [] all j path segments row = let is = row.path' in absurd cc
user_row (p ∷ paths) [] j path segments row = let is = row.segments' in absurd cc
user_row (p ∷ paths) (s ∷ all) zero path segments row =
    let same : p ≡ path = same_Some p path row.path' in
    let same' : s ≡ segments = same_Some s segments row.segments' in
    rw (same, same') refl
user_row (p ∷ paths) (s ∷ all) (suc j) path segments row = user_row paths all j path segments (record { path' = row.path'; segments' = row.segments' })

pub id_at : (id n j m : ℕ) → slice_get (ids_from id n) j ≡ Some m → (j < n) × (m ≡ id + j)
id_at id zero j m is = absurd cc
id_at id (suc n) zero m is = let same : id ≡ m = same_Some id m is in (omega arith, omega (arith, same))
id_at id (suc n) (suc j) m is = let one = id_at (id + 1) n j m is in (omega (arith, one.0), omega (arith, one.1))

pub without_handle : (heads : List SegmentHead) (n : ℕ) → handle_at (map no_handle_of heads) n ≡ None
without_handle heads zero = refl
without_handle [] (suc k) = refl
without_handle (g ∷ heads) (suc zero) = refl
without_handle (g ∷ heads) (suc (suc k)) = without_handle heads (suc k)

pub handles_same : (heads : List SegmentHead) → map (λ (held : HeldSegment). held.handle) (map (λ (head : SegmentHead). absent) heads) ≡ map no_handle_of heads
handles_same [] = refl
handles_same (g ∷ heads) = ap (λ (hs : List (Option Handle)). None ∷ hs) (handles_same heads)

pub outline_rows : (paths : List (List ℕ)) (all : List (List Segment)) → map (option_map outline) (joined_kepts paths all) ≡ map (option_map outline_of) (joined_users paths all)
outline_rows [] all = refl
outline_rows (path ∷ paths) [] = refl
outline_rows (path ∷ paths) (segments ∷ all) =
    let one : outline (joined_kept path (map head_of segments)) ≡ outline_of (joined_user path (map head_of segments)) =
    ap (λ (hs : List (Option Handle)). let o : Outline = record { path = path; life = Running; handles = hs; attached = [] } in o) (sym (handles_same (map head_of segments))) in
    ap (λ (o : Outline). Some o ∷ map (option_map outline) (joined_kepts paths all)) one ∙ ap (λ (os : List (Option Outline)). Some (outline_of (joined_user path (map head_of segments))) ∷ os) (outline_rows paths all)

pub user_there : (users : List (Option LoadedUser)) (p : ℕ) (k : LoadedUser) → slice_get users p ≡ Some (Some k) → user_of users (first_id + p) ≡ Some k
user_there users p k is =
    let above : nat_lt (first_id + p) first_id ≡ false = grind arith in
    let at : first_id + p - first_id ≡ p = omega arith in
    rw (above, at, is) refl

length-ids : (first n : ℕ) → length (ids_from first n) ≡ n
length-ids first zero = refl
length-ids first (suc n) = ap (λ (m : ℕ). suc m) (length-ids (first + 1) n)

pub id_there : (first n j : ℕ) → j < n → slice_get (ids_from first n) j ≡ Some (first + j)
id_there first zero j less = absurd (omega (arith, less))
id_there first (suc n) zero less = let same : first ≡ first + 0 = omega arith in ap (λ (m : ℕ). Some m) same
id_there first (suc n) (suc j) less = let same : first + 1 + j ≡ first + suc j = omega arith in id_there (first + 1) n j (omega (arith, less)) ∙ ap (λ (m : ℕ). Some m) same

-- ---- users

-- each of these segments is dynamic, not skipped, and no table
abbrev pub AreCalled : List Segment → Type 0
AreCalled segments = (n : ℕ) (s : Segment) → segment_at segments n ≡ Some s → (is_dynamic s.fields.kind ≡ true) × (is_skipped s.fields.kind ≡ false) × (is_table s ≡ false)

-- after these users one with the ID can be made, with attached users of these paths, whose files have these segments
pub record AreRows (users : List (Option LoadedUser)) (paths : List (List ℕ)) (all : List (List Segment)) (id : ℕ) : Type 0 where
  pub attached : AreAttached users
  pub id_is : id ≡ first_id + length users
  pub few : length paths ≤ most_paths
  pub long : length all ≡ length paths
  pub called : (j : ℕ) (segments : List Segment) → slice_get all j ≡ Some segments → AreCalled segments

module _ (users : List (Option LoadedUser)) (paths : List (List ℕ)) (all : List (List Segment)) (id : ℕ) (rows : AreRows users paths all id) (first : LoadedUser) (runs : first.life ≡ Running) where
  abbrev ids : List ℕ
  ids = ids_from (id + 1) (length paths)

  abbrev its : LoadedUser
  its = record first { attached = ids }

  abbrev made : List (Option LoadedUser)
  made = users ++ Some its ∷ joined_kepts paths all

  pub stay : (p : ℕ) (k : LoadedUser) → slice_get users p ≡ Some (Some k) → slice_get made p ≡ Some (Some k)
  stay p k is = front_at users (Some its) (joined_kepts paths all) p (Some k) is

  -- the user of an attached ID
  pub row_user : (j : ℕ) → j < length paths → (p : List ℕ) × (ss : List Segment) × IsRow paths all j p ss × (user_of made (id + 1 + j) ≡ Some (joined_kept p (map head_of ss)))
  row_user j less =
      let one = row_there paths all j rows.long less in
      let there : slice_get made (length users + (1 + j)) ≡ Some (Some (joined_kept one.0 (map head_of one.1))) = after_at users (Some its) (joined_kepts paths all) j ∙ one.3 in
      let at : first_id + (length users + (1 + j)) ≡ id + 1 + j = omega (arith, rows.id_is) in
      (one.0, one.1, one.2, subst (λ (n : ℕ). user_of made n ≡ Some (joined_kept one.0 (map head_of one.1))) at (user_there made (length users + (1 + j)) (joined_kept one.0 (map head_of one.1)) there))

  old_id : (p i n : ℕ) (k : LoadedUser) → slice_get users p ≡ Some (Some k) → slice_get k.attached i ≡ Some n → n < id
  old_id p i n k made' is =
      let one = rows.attached.each p i n k made' is in
      let there = made_at users n one.0 one.1 in
      let within = slice_get_within users (n - first_id) (Some one.0) there.0 in
      omega (arith, within, there.1, rows.id_is)

  pub attached_made : AreAttached made
  attached_made = record { few = few_made; each = each; once = once }
    where
      Which : ℕ → LoadedUser → Type 0
      Which p k = Lies users (Some its) (joined_kepts paths all) p (Some k)

      nothing : (i n : ℕ) → slice_get {X = ℕ} [] i ≡ Some n → ⊥
      nothing i n is = cc

      alone : (j : ℕ) (k : LoadedUser) (i n : ℕ) → slice_get (joined_kepts paths all) j ≡ Some (Some k) → slice_get k.attached i ≡ Some n → ⊥
      alone j k i n is found =
          let one = row_kept paths all j (Some k) is in
          let same : k ≡ joined_kept one.0 (map head_of one.1) = same_Some k (joined_kept one.0 (map head_of one.1)) one.3 in
          nothing i n (ap (λ (x : LoadedUser). slice_get x.attached i) (sym same) ∙ found)

      dynamic : (j : ℕ) (p : List ℕ) (ss : List Segment) → IsRow paths all j p ss → IsJoined Running (joined_kept p (map head_of ss))
      dynamic j p ss row = record {
        same = refl;
        alone = refl;
        dynamic = λ n head is. let one = headed ss n head is in let kind = rows.called j ss row.segments' n one.0 one.1 in
            (ap (λ (h : SegmentHead). is_dynamic h.kind) (sym one.2) ∙ kind.0, ap (λ (h : SegmentHead). is_skipped h.kind) (sym one.2) ∙ kind.1);
        plain = λ n head is. let one = headed ss n head is in subst (λ (h : SegmentHead). is_table_head h ≡ false) one.2 (rows.called j ss row.segments' n one.0 one.1).2;
      }

      few_by : (p : ℕ) (k : LoadedUser) → Which p k → length k.attached ≤ most_paths
      few_by p k (Front less is) = rows.attached.few p k is
      few_by p k (Midst at is) = let same : its ≡ k = sym (same_Some k its is) in subst (λ (x : LoadedUser). length x.attached ≤ most_paths) same (omega (arith, rows.few, length-ids (id + 1) (length paths)))
      few_by p k (After j at is) =
          let one = row_kept paths all j (Some k) is in
          let same : joined_kept one.0 (map head_of one.1) ≡ k = sym (same_Some k (joined_kept one.0 (map head_of one.1)) one.3) in
          subst (λ (x : LoadedUser). length x.attached ≤ most_paths) same (omega arith)

      few_made : (p : ℕ) (k : LoadedUser) → slice_get made p ≡ Some (Some k) → length k.attached ≤ most_paths
      few_made p k is = few_by p k (lies users (Some its) (joined_kepts paths all) p (Some k) is)

      each_by : (p i n : ℕ) (k : LoadedUser) → Which p k → slice_get k.attached i ≡ Some n → (other : LoadedUser) × (user_of made n ≡ Some other) × IsJoined k.life other
      each_by p i n k (Front less is) found = let one = rows.attached.each p i n k is found in (one.0, user_stays users made stay n one.0 one.1, one.2)
      each_by p i n k (Midst at is) found =
          let same : its ≡ k = sym (same_Some k its is) in
          let here = id_at (id + 1) (length paths) i n (ap (λ (x : LoadedUser). slice_get x.attached i) same ∙ found) in
          let row = row_user i here.0 in
          let life : Running ≡ k.life = sym runs ∙ ap (λ (x : LoadedUser). x.life) same in
          (joined_kept row.0 (map head_of row.1), ap (user_of made) here.1 ∙ row.3, subst (λ l. IsJoined l (joined_kept row.0 (map head_of row.1))) life (dynamic i row.0 row.1 row.2))
      each_by p i n k (After j at is) found = absurd (alone j k i n is found)

      each : (p i n : ℕ) (k : LoadedUser) → slice_get made p ≡ Some (Some k) → slice_get k.attached i ≡ Some n → (other : LoadedUser) × (user_of made n ≡ Some other) × IsJoined k.life other
      each p i n k is found = each_by p i n k (lies users (Some its) (joined_kepts paths all) p (Some k) is) found

      its_id : (k : LoadedUser) (i n : ℕ) → Some k ≡ Some its → slice_get k.attached i ≡ Some n → n ≡ id + 1 + i
      its_id k i n is found = (id_at (id + 1) (length paths) i n (ap (λ (x : LoadedUser). slice_get x.attached i) (sym (same_Some k its is)) ∙ found)).1

      once_by : (p q i j n : ℕ) (a b : LoadedUser) → Which p a → Which q b → slice_get a.attached i ≡ Some n → slice_get b.attached j ≡ Some n → (p ≡ q) × (i ≡ j)
      once_by p q i j n a b (Front less is) (Front less' is') one two = rows.attached.once p q i j n a b is is' one two
      once_by p q i j n a b (Front less is) (Midst at is') one two = absurd (omega (arith, old_id p i n a is one, its_id b j n is' two))
      once_by p q i j n a b (Midst at is) (Front less is') one two = absurd (omega (arith, old_id q j n b is' two, its_id a i n is one))
      once_by p q i j n a b (Midst at is) (Midst at' is') one two = (omega (arith, at, at'), omega (arith, its_id a i n is one, its_id b j n is' two))
      once_by p q i j n a b (After m at is) w one two = absurd (alone m a i n is one)
      once_by p q i j n a b (Front less is) (After m at is') one two = absurd (alone m b j n is' two)
      once_by p q i j n a b (Midst at is) (After m at' is') one two = absurd (alone m b j n is' two)

      once : (p q i j n : ℕ) (a b : LoadedUser) → slice_get made p ≡ Some (Some a) → slice_get made q ≡ Some (Some b) → slice_get a.attached i ≡ Some n → slice_get b.attached j ≡ Some n → (p ≡ q) × (i ≡ j)
      once p q i j n a b is is' one two = once_by p q i j n a b (lies users (Some its) (joined_kepts paths all) p (Some a) is) (lies users (Some its) (joined_kepts paths all) q (Some b) is') one two

  pub attached_stays : (q f other : ℕ) → attached_at (kept_outlines users) q f ≡ Some other → attached_at (kept_outlines made) q f ≡ Some other
  attached_stays q f other is = rw (user_is outline made q) (go (user_of users q) (user_of made q) (user_stays users made stay q)
      (ap (option_and_then (λ (u : Outline). slice_get u.attached (f - 2))) (sym (user_is outline users q)) ∙ is))
    where
      go : (o p : Option LoadedUser) → ((k : LoadedUser) → o ≡ Some k → p ≡ Some k) → option_and_then (λ (u : Outline). slice_get u.attached (f - 2)) (option_map outline o) ≡ Some other
          → option_and_then (λ (u : Outline). slice_get u.attached (f - 2)) (option_map outline p) ≡ Some other
      go None p g e = absurd cc
      go (Some k) p g e = rw (g k refl) e

  pub its_there : user_of made id ≡ Some its
  its_there = subst (λ (n : ℕ). user_of made n ≡ Some its) (sym rows.id_is) (user_there made (length users) its (midst_at users (Some its) (joined_kepts paths all)))

  pub its_attached : (f : ℕ) → attached_at (kept_outlines made) id f ≡ slice_get ids (f - 2)
  its_attached f = rw (user_is outline made id, its_there) refl

-- The rows of a library, and what they offer.
use Rattle.std.proofs.Common.{◌≡◌, inl, inr, ℕ, zero, suc, ◌-◌, true, List, [], ◌∷◌, Option, Some, refl, sym, ap, subst, ◌∙◌, arith, Ok}
use Rattle.std.specs.Prelude.{slice_get, option_map}
use Rattle.std.specs.Option.{option_map_or}
use Rattle.omf_format.specs.File.{Segment, segment_at}
use Rattle.link_meaning.specs.Member.{OfferedRow, Offer, offer_of, LinkSetting, is_library}
use Rattle.lib_dict.specs.Library.{LibraryRow, row_view}
use Rattle.link_program.specs.Inputs.{StandsIn, AllStand}
use Rattle.link_meaning.specs.Dictionary.{rows_of}
use Rattle.lib_dict.specs.DictionaryLayout.{AreRows, RowsAreLaidOut}

-- the place of a row's segment
pub record HasPlace (segments : List Segment) (row : OfferedRow) (at : ℕ) : Type 0 where
  pub k : ℕ
  pub number : row.segment ≡ suc k
  pub segment : Segment
  pub here : slice_get segments k ≡ Some segment
  pub start : segment.start ≡ at

pub row_place : (segments : List Segment) (row : OfferedRow) (reported : LibraryRow) → reported ≡ row_view segments row → StandsIn segments row → HasPlace segments row reported.at
row_place segments row reported is stands = settle row.segment refl stands.here
  where
    settle : (n : ℕ) → row.segment ≡ n → segment_at segments n ≡ Some stands.segment → HasPlace segments row reported.at
    settle zero e here = absurd cc
    settle (suc k) e here = record {
      k = k;
      number = e;
      segment = stands.segment;
      here = here;
      start = sym (ap (λ (t : LibraryRow). t.at) is ∙ ap (λ (o : Option Segment). option_map_or (λ (s : Segment). s.start) o 0) stands.here);
    }

abbrev pub offer_with : LinkSetting → ℕ → OfferedRow → Segment → Offer
offer_with setting file row s = record { name = row.name; private = row.private; member = record { file = file; number = row.segment; from = row.from; segment = s; setting = setting } }

pub offer_same : (a b : Offer) → Some a ≡ Some b → a ≡ b
offer_same a b e = cc

-- what a row offers
pub offer_is : (setting : LinkSetting) (file : ℕ) (segments : List Segment) (row : OfferedRow) (o : Offer) (k : ℕ) (s : Segment) → offer_of setting file segments row ≡ Some o → row.segment ≡ suc k → slice_get segments k ≡ Some s
    → o ≡ record { name = row.name; private = row.private; member = record { file = file; number = row.segment; from = row.from; segment = s; setting = setting } }
offer_is setting file segments row o k s is number here =
    let place : row.segment - 1 ≡ k = omega (arith, number) in
    offer_same o (offer_with setting file row s) (sym is ∙ ap (λ (x : Option Segment). option_map (offer_with setting file row) x) (ap (slice_get segments) place ∙ here))

-- ---- the segment of each row is there

row_stands : (segments : List Segment) (numbers : List ℕ) (names : List (List ℕ)) (rows : List OfferedRow) (bytes : List ℕ) → AreRows segments numbers names rows bytes → AllStand segments rows
row_stands segments numbers names [] bytes are row is = absurd is
row_stands segments numbers names (x ∷ rows) bytes are row (inl e) =
    let r = are.4 in
    subst (StandsIn segments) e (record { segment = r.segment; here = r.here; defines = r.defines })
row_stands segments numbers names (x ∷ rows) bytes are row (inr is) = row_stands segments numbers names rows are.1 are.5 row is

pub rows_stand : (segments : List Segment) (rows : List OfferedRow) → RowsAreLaidOut → is_library segments ≡ true → rows_of segments ≡ Ok rows → AllStand segments rows
rows_stand segments rows law library read = let d = law segments rows library read in row_stands segments d.numbers d.names rows d.second d.rows'

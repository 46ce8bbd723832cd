-- What records give, and the last byte of a member.
use Rattle.std.proofs.Common.{◌≡◌, ℕ, ◌+◌, ◌<◌, Bool, false, eqb, List, [], ◌∷◌, ◌++◌, length, map, Option, Some, None, Result, Ok, Err, refl, sym, ap, subst, ◌∙◌, arith}
use Rattle.std.proofs.lemmas.List.{length-append, length-map, map-append}
use Rattle.omf_format.specs.declared.value.Value.{Value}
use Rattle.omf_format.specs.Record.{Formula}
use Rattle.load_meaning.specs.Cells.{Cell, Byte, Part, byte_under}
use Rattle.link_meaning.specs.declared.fault.LinkCause.{LinkCause}
use Rattle.load_meaning.specs.declared.table.Target.{Target}
use Rattle.link_meaning.specs.Fitting.{Fit, PatchPlace, ends_in_jsl, fit_value, fit_cells, targets_after}
use Rattle.link_meaning.specs.laws.Steps.{is_jsl_byte, frame_of}
use Rattle.link_meaning.specs.Member.{LinkSetting, Member, setting_in}
use Rattle.link_meaning.specs.Layout.{load_headers, load_of, offset_of}
use Rattle.link_meaning.specs.LinkValues.{EquateAnswer, value_in}
use Rattle.link_meaning.specs.LinkedCells.{LinkState, Item, bank_of, table_number, cells_before, made_by}
use Rattle.link_content.specs.Holding.{Holding, last_of}
use Rattle.link_content.specs.declared.fit.FormulaRecord as kept
use Rattle.link_content.specs.declared.fit.PatchPlace as fit
use Rattle.link_content.specs.declared.context.LinkContext.{LinkContext}
use Rattle.link_content.specs.declared.context.RecordPlace.{RecordPlace}
use Rattle.link_content.specs.Contents.{HoldsCells}
use Rattle.link_content.specs.Puts.{PutsValue}
use Rattle.link_content.specs.Fits.{shown_frame}
use Rattle.link_content.specs.Records.{StandsAt, PutsMade}

-- ---- the last byte

abbrev pub is_22 : Option ℕ → Bool
is_22 None = false
is_22 (Some b) = eqb b 0x22

under_22 : (c : Cell) → is_jsl_byte c ≡ eqb (byte_under c) 0x22
under_22 (Byte b) = refl
under_22 (Part file segment offset shift index) = refl

last_under : (cells : List Cell) → ends_in_jsl cells ≡ is_22 (last_of (map byte_under cells))
last_under [] = refl
last_under (c ∷ []) = under_22 c
last_under (c ∷ d ∷ cells) = last_under (d ∷ cells)

last-append : (xs : List ℕ) (y : ℕ) (ys : List ℕ) → last_of (xs ++ y ∷ ys) ≡ last_of (y ∷ ys)
last-append [] y ys = refl
last-append (x ∷ []) y ys = refl
last-append (x ∷ z ∷ xs) y ys = last-append (z ∷ xs) y ys

-- the last byte of all is that of the last cells, where there are some
pub jsl_there : (front cells : List Cell) (bytes : List ℕ) → bytes ≡ map byte_under (front ++ cells) → length front < length bytes → ends_in_jsl cells ≡ is_22 (last_of bytes)
jsl_there front [] bytes is more = absurd (omega (arith, more, ap length is, length-map (front ++ []) byte_under, length-append front []))
jsl_there front (c ∷ cells) bytes is more =
    last_under (c ∷ cells) ∙ sym (ap is_22 (ap last_of (is ∙ map-append byte_under front (c ∷ cells)) ∙ last-append (map byte_under front) (byte_under c) (map byte_under cells)))

-- ---- expressions

pub formula_gives : (list : List Member) (reported : List EquateAnswer) (state : LinkState) (i : Item) (code count n : ℕ) (expr : List ℕ) (v : Value) (fit : Fit) → value_in list reported i.place i.member i.here.location expr ≡ Ok v
    → fit_value (load_headers list) (frame_of list i) state.targets (cells_before state i) code count n v ≡ Ok fit
    → made_by list reported state i (Formula code count n expr) ≡ Ok (fit_cells (table_number list) count (targets_after state.targets fit) fit, targets_after state.targets fit)
formula_gives list reported state i code count n expr v fit value fits = rw (value, fits) refl

-- the frame of the record that is at this place
module _ (list : List Member) (reported : List EquateAnswer) (state : LinkState) (i : Item) (context : LinkContext) (place : RecordPlace) (targets new : List Target) (front : List Cell) (before after : Holding)
    (stands : StandsAt list reported state i context place targets front before) (formula : kept.FormulaRecord) (expr : List ℕ) (value : value_in list reported i.place i.member i.here.location expr ≡ Ok formula.value)
    (frame : fit.PatchPlace) (own : frame.own ≡ place.member.load_segment) (bank : frame.bank_size ≡ bank_of (load_headers list) place.member.load_segment) (at : frame.place ≡ place.member.offset + place.location) where
  abbrev made_of : ℕ → ℕ → ℕ → LinkSetting → PatchPlace
  made_of own bank_size place setting = record { own = own; bank_size = bank_size; place = place; setting = setting }

  here : shown_frame (setting_in context.program.now) frame ≡ frame_of list i
  here =
      let setting = setting_in context.program.now in
      let load : frame.own ≡ load_of list i.member = own ∙ stands.member'.load in
      let offset : place.member.offset ≡ offset_of list i.place i.member = stands.member'.offset' ∙ ap (λ (n : ℕ). offset_of list n i.member) stands.place' in
      ap (made_of frame.own frame.bank_size frame.place) (sym stands.setting')
      ∙ ap (λ (n : ℕ). made_of n frame.bank_size frame.place (setting_in list)) load
      ∙ ap (λ (n : ℕ). made_of (load_of list i.member) n frame.place (setting_in list)) (bank ∙ ap (bank_of (load_headers list)) stands.member'.load)
      ∙ ap (λ (n : ℕ). made_of (load_of list i.member) (bank_of (load_headers list) (load_of list i.member)) n (setting_in list)) (at ∙ ap (λ (n : ℕ). n + place.location) offset ∙ ap (λ (n : ℕ). offset_of list i.place i.member + n) (sym stands.location'))

  -- the fit is the same in terms of the list
  same_fit : (r : Result Fit LinkCause) → fit_value (load_headers list) (shown_frame (setting_in context.program.now) frame) targets (cells_before state i) formula.code formula.count formula.n formula.value ≡ r
      → fit_value (load_headers list) (frame_of list i) state.targets (cells_before state i) formula.code formula.count formula.n formula.value ≡ r
  same_fit r is =
      ap (λ (f : PatchPlace). fit_value (load_headers list) f state.targets (cells_before state i) formula.code formula.count formula.n formula.value) (sym here)
      ∙ ap (λ (ts : List Target). fit_value (load_headers list) (shown_frame (setting_in context.program.now) frame) ts (cells_before state i) formula.code formula.count formula.n formula.value) stands.targets'
      ∙ is

  -- what was put is what the record gives
  pub value_put : PutsValue (load_headers list) (shown_frame (setting_in context.program.now) frame) (cells_before state i) formula context.table targets new before after
      → PutsMade (made_by list reported state i (Formula formula.code formula.count formula.n expr)) (front ++ cells_before state i) new after
  value_put puts =
      let following : new ≡ targets_after state.targets puts.fit = puts.targets' ∙ ap (λ (ts : List Target). targets_after ts puts.fit) (sym stands.targets') in
      let cells : fit_cells context.table formula.count new puts.fit ≡ fit_cells (table_number list) formula.count (targets_after state.targets puts.fit) puts.fit =
      ap (λ (n : ℕ). fit_cells n formula.count new puts.fit) stands.table' ∙ ap (λ (ts : List Target). fit_cells (table_number list) formula.count ts puts.fit) following in
      record {
        gives = (fit_cells (table_number list) formula.count (targets_after state.targets puts.fit) puts.fit, targets_after state.targets puts.fit);
        is = formula_gives list reported state i formula.code formula.count formula.n expr formula.value puts.fit value (same_fit (Ok puts.fit) puts.fits);
        targets' = following;
        holds = subst (λ (l : List Cell). HoldsCells ((front ++ cells_before state i) ++ l) after) cells (puts.cells' (front ++ cells_before state i) stands.holds);
      }

  -- what doesn't fit is refused as the record is
  pub value_refused : (cause : LinkCause) → fit_value (load_headers list) (shown_frame (setting_in context.program.now) frame) targets (cells_before state i) formula.code formula.count formula.n formula.value ≡ Err cause
      → made_by list reported state i (Formula formula.code formula.count formula.n expr) ≡ Err cause
  value_refused cause is = rw (value, same_fit (Err cause) is) refl

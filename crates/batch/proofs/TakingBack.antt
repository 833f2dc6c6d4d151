-- The latest action taken off again, over the records: file and totals become those of the records before it.
-- Assumes nothing.
use Prim.Native.Nat.{ℕ, ◌+◌, ◌-◌, ◌*◌, ◌/◌, ◌≤◌, ◌<◌}
use mathlib.Core.Path.{◌≡◌, refl, sym, ap, ◌∙◌, subst}
use mathlib.Core.Bool.{Bool, true, false, cond, and-eq-true_iff}
use mathlib.Core.List.{List, [], ◌∷◌, ◌++◌, map, append-nil}
use native.Mathlib.Omega.{arith}
use borrow.Author.Tests.{eq-eqb, eqb-true}
use lib.Dec.{eqb}
use lib.ListN.{length, get_or, set, take, drop, length-append}
use lib.Seq.{get_or-take, get_or-drop, get_or-set_same, set-set, set_comm, set-get_or}
use Rattle.psc.specs.Table.{Known}
use Rattle.text.specs.Answers.{or_else}
use Rattle.text.specs.Lists.{same_bytes, overlay}
use Rattle.text.proofs.Booleans.{clash}
use Rattle.text.proofs.Lists.{same_exactly}
use Rattle.layout.specs.Layout.{field_of}
use Rattle.fields.specs.Amounts.{read_money}
use Rattle.record.specs.Readings.{cancelled_rec}
use Rattle.record.proofs.Status.{cancelled_rec_others, cancelled_rec_status}
use Rattle.posting.specs.declared.Totals.{Totals}
use Rattle.posting.specs.File.{line_of, record_at, totals, amount_in, with_record}
use Rattle.posting.specs.Records.{lines_of}
use Rattle.posting.specs.Sums.{cash_in, price_in, totals_of}
use Rattle.posting.proofs.PrintedLines.{lines_last, bytes_changed}
use Rattle.batch.specs.Actions.{Action, Addition, Amendment, Cancellation}
use Rattle.batch.specs.Records.{id_of, has_id, is_cancelled_rec, replaced_by, cancelled_for, records_after, records_from, records_of}
use Rattle.batch.specs.Rules.{posted, is_present, is_cancelled_there, action_rule, rule_behind, in_turn_behind, in_turn}
use Rattle.batch.specs.Batch.{zeros, zero_filled}
use Rattle.batch.specs.Places.{place_of, with_line, action_file, one_live_more, amounts_replaced}
use Rattle.batch.specs.Undoing.{without_line, with_blank, one_live_less, one_revived, carried_by, carried_from}
use Rattle.batch.proofs.Rows.{length_last, PlaceIn, earlier, last, place_in, length_map, map_nth, none_at}
use Rattle.batch.proofs.ZeroFilled.{filled_less}
use Rattle.batch.proofs.Sheets.{Sheet, status_is, Adds, adds, amends, cancels, sheet_step}
use Rattle.batch.proofs.Verdicts.{posted_fit}
use Rattle.batch.proofs.PlaceLaws.{long_of, lines_long, only, is_present_lem, cancelled_there, changed_there, record_view, Touched, touched, file_view}
use Rattle.batch.proofs.OneMore.{totals_more}
use Rattle.batch.proofs.Totals.{live_more, cancelled_more, off, blank, totals_before, totals_after, totals_step}
use Rattle.batch.proofs.Made.{records_last, accepted_if, Fits, none_fits, fits_last}
use Rattle.batch.proofs.Walks.{is_struck, not_struck}

-- ---- an addition
less_more : (t : Totals) (d p : ℕ) → one_live_less (one_live_more t d p) d p ≡ totals t.live t.cancelled t.cash.0 t.price.0
less_more t d p = rw (off t.live 1, off t.cash.0 d, off t.price.0 p)

module _ {known : Known} (n : ℕ) (recs : List (List ℕ)) (s : Sheet known recs) (rec : List ℕ) (z : (action_rule (posted known) recs (n / 401) (Addition rec)).code ≡ 0) where
  good : Adds (posted known) recs (n / 401) rec
  good = adds (posted known) recs (n / 401) rec z

  pub line_off : without_line (zero_filled n (lines_of (recs ++ rec ∷ []))) (length (recs ++ rec ∷ []) - 1) ≡ zero_filled n (lines_of recs)
  line_off =
      let at : (length (recs ++ rec ∷ []) - 1) * 401 ≡ length (lines_of recs) = omega (arith, length_last recs rec, lines_long recs s) in
      let wide : 401 ≡ length (line_of rec) = omega (arith, length-append rec (13 ∷ 10 ∷ []), (posted_fit known).long rec good.passes) in
      (λ i. overlay (zero_filled n (lines_last recs rec i)) (at i) (zeros (wide i)))
      ∙ filled_less n (lines_of recs) (line_of rec) (omega (arith, length-append (lines_of recs) (line_of rec), wide, lines_long recs s, good.room))

  pub live_off : one_live_less (totals_of (recs ++ rec ∷ [])) (cash_in rec) (price_in rec) ≡ totals_of recs
  live_off =
      let all : recs ++ [] ≡ recs = append-nil recs in
      let more : totals_of (recs ++ rec ∷ []) ≡ one_live_more (totals_of recs) (cash_in rec) (price_in rec) =
      totals_more recs rec [] ∙ ap (λ (l : List (List ℕ)). with_record (totals_of l) rec) all ∙ live_more (totals_of recs) rec ((posted_fit known).blank rec good.passes) in
      ap (λ (t : Totals). one_live_less t (cash_in rec) (price_in rec)) more ∙ less_more (totals_of recs) (cash_in rec) (price_in rec)

-- ---- the place of an identifier
place_is : {known : Known} (recs : List (List ℕ)) (s : Sheet known recs) (t id : List ℕ) (k : ℕ) → k < length recs → has_id id (get_or recs k []) ≡ true → place_of (lines_of recs ++ t) id (length recs) ≡ k
place_is recs s t id k h e =
    let m = touched recs s t id (is_present_lem recs s id k h e) in
    m.found ∙ only recs s id m.place k m.within h m.its e

same_zeros : {known : Known} (n : ℕ) (recs others : List (List ℕ)) → Sheet known recs → Sheet known others → length others ≡ length recs → lines_of recs ++ zeros (n - length (lines_of others)) ≡ zero_filled n (lines_of recs)
same_zeros n recs others s o e =
    let long : length (lines_of others) ≡ length (lines_of recs) = omega (arith, lines_long recs s, lines_long others o, e) in
    ap (λ (k : ℕ). lines_of recs ++ zeros (n - k)) long

-- ---- a cancellation
-- a blank status, cancelled and blank again
blank_again : (old : List ℕ) → length old ≡ 399 → field_of old 19 ≡ 32 ∷ 32 ∷ [] → set (set (cancelled_rec old) 340 32) 341 32 ≡ old
blank_again old long clear =
    let two : take 2 (drop 340 old) ≡ 32 ∷ 32 ∷ [] = sym (status_is old long) ∙ clear in
    let first : get_or old 340 0 ≡ 32 = sym (get_or-drop 340 old 0 0) ∙ sym (get_or-take 2 (drop 340 old) 0 0 (omega arith)) ∙ ap (λ (x : List ℕ). get_or x 0 0) two in
    let second : get_or old 341 0 ≡ 32 = sym (get_or-drop 340 old 1 0) ∙ sym (get_or-take 2 (drop 340 old) 1 0 (omega arith)) ∙ ap (λ (x : List ℕ). get_or x 1 0) two in
    ap (λ (x : List ℕ). set x 341 32) (set_comm (set old 340 48) 341 340 32 32 (λ e. omega (arith, e)))
    ∙ set-set (set (set old 340 48) 340 32) 341 32 32
    ∙ ap (λ (x : List ℕ). set x 341 32) (set-set old 340 48 32 ∙ ap (set old 340) (sym first) ∙ set-get_or old 340 0)
    ∙ ap (set old 341) (sym second)
    ∙ set-get_or old 341 0

live_again : (t : Totals) (d p : ℕ) → one_revived (totals t.live (t.cancelled + 1) t.cash.0 t.price.0) d p ≡ one_live_more t d p
live_again t d p = rw (off t.cancelled 1)

module _ {known : Known} (n : ℕ) (recs : List (List ℕ)) (s : Sheet known recs) (id : List ℕ) (z : (action_rule (posted known) recs (n / 401) (Cancellation id)).code ≡ 0) where
  abbrev struck : List (List ℕ)
  struck = map (cancelled_for id) recs

  abbrev behind : List ℕ
  behind = zeros (n - length (lines_of struck))

  struck_sheet : Sheet known struck
  struck_sheet = sheet_step (posted known) (posted_fit known) recs (n / 401) (Cancellation id) s z

  live : (is_present recs id ≡ true) × (is_cancelled_there recs id ≡ false)
  live = cancels (posted known) recs (n / 401) id z

  m : Touched recs s behind id
  m = touched recs s behind id live.0

  abbrev old : List ℕ
  old = get_or recs m.place []

  set_so : struck ≡ set recs m.place (cancelled_rec old)
  set_so = changed_there recs s id m.place m.within m.its cancelled_rec

  there : get_or struck m.place [] ≡ cancelled_rec old
  there = ap (λ (r : List (List ℕ)). get_or r m.place []) set_so ∙ get_or-set_same recs m.place (cancelled_rec old) [] m.within

  inside : m.place < length struck
  inside = omega (arith, m.within, length_map (cancelled_for id) recs)

  its_still : has_id id (get_or struck m.place []) ≡ true
  its_still = ap (has_id id) there ∙ ap (λ (x : List ℕ). same_bytes x id) (cancelled_rec_others old 1 (λ e. omega (arith, e))) ∙ m.its

  placed : place_of (zero_filled n (lines_of struck)) id (length struck) ≡ m.place
  placed = place_is struck struck_sheet behind id m.place inside its_still

  pub struck_there : is_present struck id ≡ true
  struck_there = is_present_lem struck struck_sheet id m.place inside its_still

  clear : field_of old 19 ≡ 32 ∷ 32 ∷ []
  clear = blank recs s behind id m live.1

  set_back : set struck m.place (set (set (get_or struck m.place []) 340 32) 341 32) ≡ recs
  set_back =
      ap (λ (x : List ℕ). set struck m.place (set (set x 340 32) 341 32)) there
      ∙ ap (set struck m.place) (blank_again old (s.each m.place m.within).long clear)
      ∙ ap (λ (r : List (List ℕ)). set r m.place old) set_so
      ∙ set-set recs m.place (cancelled_rec old) old
      ∙ set-get_or recs m.place []

  pub status_off : with_blank (zero_filled n (lines_of struck)) (place_of (zero_filled n (lines_of struck)) id (length struck)) ≡ zero_filled n (lines_of recs)
  status_off =
      ap (with_blank (zero_filled n (lines_of struck))) placed
      ∙ bytes_changed struck behind m.place (long_of struck struck_sheet) inside 340 32 341 32 (omega arith) (omega arith)
      ∙ ap (λ (r : List (List ℕ)). lines_of r ++ behind) set_back
      ∙ same_zeros n recs struck s struck_sheet (length_map (cancelled_for id) recs)

  abbrev sought : List ℕ
  sought = record_at (zero_filled n (lines_of struck)) (place_of (zero_filled n (lines_of struck)) id (length struck))

  sought_is : sought ≡ cancelled_rec old
  sought_is = ap (record_at (zero_filled n (lines_of struck))) placed ∙ record_view struck struck_sheet behind m.place inside ∙ there

  cash_is : cash_in sought ≡ cash_in old
  cash_is = ap cash_in sought_is ∙ ap (λ (f : List ℕ). amount_in (read_money f)) (cancelled_rec_others old 16 (λ e. omega (arith, e)))

  price_is : price_in sought ≡ price_in old
  price_is = ap price_in sought_is ∙ ap (λ (f : List ℕ). amount_in (read_money f)) (cancelled_rec_others old 17 (λ e. omega (arith, e)))

  pub revived_off : one_revived (totals_of struck) (cash_in sought) (price_in sought) ≡ totals_of recs
  revived_off =
      (λ i. one_revived (totals_after recs s behind id m live.1 cancelled_rec i) (cash_is i) (price_is i))
      ∙ ap (λ (t : Totals). one_revived t (cash_in old) (price_in old)) (cancelled_more _ (cancelled_rec old) (cancelled_rec_status old (s.each m.place m.within).long))
      ∙ live_again _ (cash_in old) (price_in old)
      ∙ sym (totals_before recs s behind id m live.1)

-- ---- an amendment: by the record before it, which was live
abbrev pub Carried : Known → List ℕ → List (List ℕ) → List ℕ → Type 0
Carried known id recs old = (i : ℕ) → i < length recs → has_id id (get_or recs i []) ≡ true → is_cancelled_rec (get_or recs i []) ≡ false → (get_or recs i [] ≡ old) × ((posted known old).code ≡ 0)

module _ {known : Known} (n : ℕ) (recs : List (List ℕ)) (s : Sheet known recs) (fits : length recs * 401 ≤ n) (rec : List ℕ) (z : (action_rule (posted known) recs (n / 401) (Amendment rec)).code ≡ 0)
    (before : List ℕ) (c : Carried known (id_of rec) recs before) where
  abbrev amended : List (List ℕ)
  amended = map (replaced_by rec) recs

  amended_sheet : Sheet known amended
  amended_sheet = sheet_step (posted known) (posted_fit known) recs (n / 401) (Amendment rec) s z

  met : ((posted known rec).code ≡ 0) × (is_present recs (id_of rec) ≡ true) × (is_cancelled_there recs (id_of rec) ≡ false)
  met = amends (posted known) recs (n / 401) rec z

  at : Touched recs s [] (id_of rec)
  at = touched recs s [] (id_of rec) met.1

  carried : (get_or recs at.place [] ≡ before) × ((posted known before).code ≡ 0)
  carried = c at.place at.within at.its (sym (cancelled_there recs s (id_of rec) at.place at.within at.its) ∙ met.2)

  same_id : id_of before ≡ id_of rec
  same_id = ap id_of (sym carried.0) ∙ (same_exactly _ _).0 at.its

  set_new : amended ≡ set recs at.place rec
  set_new = changed_there recs s (id_of rec) at.place at.within at.its (λ old. rec)

  new_there : get_or amended at.place [] ≡ rec
  new_there = ap (λ (r : List (List ℕ)). get_or r at.place []) set_new ∙ get_or-set_same recs at.place rec [] at.within

  within_still : at.place < length amended
  within_still = omega (arith, at.within, length_map (replaced_by rec) recs)

  its_new : has_id (id_of before) (get_or amended at.place []) ≡ true
  its_new = (same_exactly _ _).1 (ap id_of new_there ∙ sym same_id)

  pub before_there : is_present amended (id_of before) ≡ true
  before_there = is_present_lem amended amended_sheet (id_of before) at.place within_still its_new

  pub before_long : length before ≡ 399
  before_long = (posted_fit known).long before carried.1

  accepts : (action_rule (posted known) amended (n / 401) (Amendment before)).code ≡ 0
  unfolding action_rule or_else
  accepts =
      let live : is_cancelled_there amended (id_of before) ≡ false =
      cancelled_there amended amended_sheet (id_of before) at.place within_still its_new ∙ ap is_cancelled_rec new_there ∙ not_struck known rec met.0 in
      rw (eq-eqb (posted known before).code 0 carried.1, before_there, live)

  back : records_after amended (Amendment before) ≡ recs
  back =
      changed_there amended amended_sheet (id_of before) at.place within_still its_new (λ old. before)
      ∙ ap (λ (r : List (List ℕ)). set r at.place before) set_new
      ∙ set-set recs at.place rec before
      ∙ ap (set recs at.place) (sym carried.0)
      ∙ set-get_or recs at.place []

  pub line_back : with_line (zero_filled n (lines_of amended)) (place_of (zero_filled n (lines_of amended)) (id_of before) (length amended)) before ≡ zero_filled n (lines_of recs)
  unfolding action_file
  line_back =
      file_view n amended amended_sheet (omega (arith, fits, length_map (replaced_by rec) recs)) (Amendment before) accepts
      ∙ ap (λ (r : List (List ℕ)). zero_filled n (lines_of r)) back

  abbrev newer : List ℕ
  newer = record_at (zero_filled n (lines_of amended)) (place_of (zero_filled n (lines_of amended)) (id_of before) (length amended))

  pub amounts_back : amounts_replaced (totals_of amended) (cash_in newer) (price_in newer) (cash_in before) (price_in before) ≡ totals_of recs
  amounts_back = totals_step n amended amended_sheet [] 0 (Amendment before) accepts ∙ ap totals_of back

-- ---- along a list that is acceptable in its turn, a live record is the latest one that was carried for its identifier
module _ (known : Known) (id : List ℕ) where
  carried_step : (recs : List (List ℕ)) (places : ℕ) (a : Action) (old : List ℕ) → Sheet known recs → (action_rule (posted known) recs places a).code ≡ 0 → Carried known id recs old → Carried known id (records_after recs a) (carried_by id old a)
  carried_step recs places (Addition rec) old s z c i h its live = go (has_id id rec) refl (place_in recs rec [] i h)
    where
      p : Adds (posted known) recs places rec
      p = adds (posted known) recs places rec z

      go : (b : Bool) → has_id id rec ≡ b → PlaceIn recs rec [] i → (get_or (recs ++ rec ∷ []) i [] ≡ cond b rec old) × ((posted known (cond b rec old)).code ≡ 0)
      go true e (earlier g q) =
          let same : id_of (get_or recs i []) ≡ id = ap id_of (sym q) ∙ (same_exactly _ _).0 its in
          absurd (none_at (has_id (id_of rec)) recs i p.new g ((same_exactly _ _).1 (same ∙ sym ((same_exactly _ _).0 e))))
      go true e (last g q) = (q, p.passes)
      go false e (earlier g q) = let r = c i g (ap (has_id id) (sym q) ∙ its) (ap is_cancelled_rec (sym q) ∙ live) in (q ∙ r.0, r.1)
      go false e (last g q) = absurd (clash (ap (has_id id) (sym q) ∙ its) e)
  carried_step recs places (Amendment rec) old s z c i h its live =
      let q = map_nth (replaced_by rec) recs i [] [] inside in
      let r = go (has_id id rec) refl (has_id (id_of rec) (get_or recs i [])) refl (ap (has_id id) (sym q) ∙ its) (ap is_cancelled_rec (sym q) ∙ live) in
      (q ∙ r.0, r.1)
    where
      inside : i < length recs
      inside = omega (arith, h, length_map (replaced_by rec) recs)

      go : (b : Bool) → has_id id rec ≡ b → (d : Bool) → has_id (id_of rec) (get_or recs i []) ≡ d → has_id id (cond d rec (get_or recs i [])) ≡ true → is_cancelled_rec (cond d rec (get_or recs i [])) ≡ false
          → (cond d rec (get_or recs i []) ≡ cond b rec old) × ((posted known (cond b rec old)).code ≡ 0)
      go true e true f t l = (refl, (amends (posted known) recs places rec z).0)
      go true e false f t l = absurd (clash ((same_exactly _ _).1 ((same_exactly _ _).0 t ∙ sym ((same_exactly _ _).0 e))) f)
      go false e true f t l = absurd (clash t e)
      go false e false f t l = c i inside t l
  carried_step recs places (Cancellation other) old s z c i h its live =
      let q = map_nth (cancelled_for other) recs i [] [] inside in
      let r = go (has_id other (get_or recs i [])) (ap (has_id id) (sym q) ∙ its) (ap is_cancelled_rec (sym q) ∙ live) in
      (q ∙ r.0, r.1)
    where
      inside : i < length recs
      inside = omega (arith, h, length_map (cancelled_for other) recs)

      go : (d : Bool) → has_id id (cond d (cancelled_rec (get_or recs i [])) (get_or recs i [])) ≡ true → is_cancelled_rec (cond d (cancelled_rec (get_or recs i [])) (get_or recs i [])) ≡ false
          → (cond d (cancelled_rec (get_or recs i [])) (get_or recs i []) ≡ old) × ((posted known old).code ≡ 0)
      go true t l = absurd (clash (is_struck (get_or recs i []) (s.each i inside).long) l)
      go false t l = c i inside t l

  module _ (n m : ℕ) where
    carried_along : (before xs : List Action) (old : List ℕ) → Fits known n m before → in_turn_behind (posted known) n m before xs ≡ true → Carried known id (records_of before) old
        → Carried known id (records_from (records_of before) xs) (carried_from id old xs)
    unfolding in_turn_behind
    carried_along before [] old f t c = c
    carried_along before (a ∷ xs) old f t c =
        let p = (and-eq-true_iff (eqb (rule_behind (posted known) n m before a).code 0) (in_turn_behind (posted known) n m (before ++ a ∷ []) xs)).0 t in
        let z = eqb-true _ 0 p.0 in
        let after : records_of (before ++ a ∷ []) ≡ records_after (records_of before) a = records_last [] before a in
        let step = carried_step (records_of before) (n / 401) a old f.sheet (accepted_if (posted known) _ _ _ a z).rule c in
        subst (λ (r : List (List ℕ)). Carried known id (records_from r xs) (carried_from id (carried_by id old a) xs)) after
        (carried_along (before ++ a ∷ []) xs (carried_by id old a) (fits_last (posted known) (posted_fit known) n m before a f z) p.1
        (subst (λ (r : List (List ℕ)). Carried known id r (carried_by id old a)) (sym after) step))

    pub carried_all : (xs : List Action) (old : List ℕ) → in_turn (posted known) n m xs ≡ true → Carried known id (records_of xs) (carried_from id old xs)
    carried_all xs old t = carried_along [] xs old (none_fits n m) t (λ i h. absurd (omega arith))

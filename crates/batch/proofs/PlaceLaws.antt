-- The file buffer of a batch as its records: what an action meets there and makes of it is what it meets and makes over the records.
-- Assumes nothing.
use Prim.Native.Nat.{ℕ, zero, suc, ◌+◌, ◌-◌, ◌*◌, ◌/◌, ◌≤◌, ◌<◌}
use mathlib.Core.Path.{◌≡◌, refl, sym, ap, ◌∙◌}
use mathlib.Core.Bool.{Bool, true, false, cond, ◌&&◌}
use mathlib.Core.List.{List, [], ◌∷◌, ◌++◌, map}
use native.Mathlib.Omega.{arith}
use borrow.Author.Tests.{eqb-true, eqb-false, ne_eqb, le-leb, lt-leb, ltb-true, ltb-false}
use lib.Dec.{eqb, ltb, leb}
use lib.ListN.{length, get_or, drop, set}
use lib.Seq.{get_or-take, get_or-drop}
use Rattle.psc.specs.Table.{Known}
use Rattle.text.specs.Lists.{same_bytes, overlay}
use Rattle.text.proofs.Booleans.{clash}
use Rattle.text.proofs.Lists.{same_exactly}
use Rattle.posting.specs.File.{line_of, record_at, id_at}
use Rattle.posting.specs.Records.{lines_of}
use Rattle.posting.proofs.PrintedLines.{Long, all_lines_long, lines_last, record_there, id_there, byte_there, line_replaced, bytes_changed}
use Rattle.batch.specs.Places.{record_number, present, place_of, is_cancelled_at, id_of, live_answer, add_answer, amend_answer, cancel_answer, with_line, with_cancelled, action_answer, action_file}
use Rattle.record.specs.Readings.{cancelled_rec}
use Rattle.record.specs.Consignors.{first_of}
use Rattle.record.proofs.Consignors.{first_suffices}
use Rattle.batch.specs.Actions.{Action, Addition, Amendment, Cancellation, number_of, body_of}
use Rattle.batch.specs.Records.{has_id, is_cancelled_rec, replaced_by, cancelled_for, records_after}
use Rattle.batch.specs.Rules.{posted, is_present, is_cancelled_there, live_rule, action_rule}
use Rattle.batch.specs.Batch.{zeros, zero_filled}
use Rattle.batch.proofs.Rows.{length_map, changed, map_one, some_at, none_passes}
use Rattle.batch.proofs.ZeroFilled.{filled_long, filled_more}
use Rattle.batch.proofs.Sheets.{Sheet, status_is, amends, cancels, kept_posting, sheet_step}
use Rattle.batch.proofs.Verdicts.{posted_fit}

pub long_of : {known : Known} (recs : List (List ℕ)) → Sheet known recs → Long recs
long_of recs s = λ i h. (s.each i h).long

pub lines_long : {known : Known} (recs : List (List ℕ)) → Sheet known recs → length (lines_of recs) ≡ length recs * 401
lines_long recs s = all_lines_long recs (long_of recs s)

-- ---- the identifier that is sought among the first n
pub data Sought (file id : List ℕ) (n : ℕ) : Type 0 where
  nowhere : record_number file id n ≡ 0 → ((i : ℕ) → i < n → same_bytes (id_at file i) id ≡ false) → Sought file id n
  there : (k : ℕ) → record_number file id n ≡ suc k → k < n → same_bytes (id_at file k) id ≡ true → Sought file id n

one_more_lem : (test : ℕ → Bool) (n : ℕ) → test n ≡ false → ((i : ℕ) → i < n → test i ≡ false) → (i : ℕ) → i < suc n → test i ≡ false
one_more_lem test n e none i h = go (eqb i n) refl
  where
    go : (t : Bool) → eqb i n ≡ t → test i ≡ false
    go true q = rw (eqb-true i n q) e
    go false q = let other = eqb-false i n q in none i (omega arith)

pub sought : (file id : List ℕ) (n : ℕ) → Sought file id n
unfolding record_number
sought file id zero = nowhere refl (λ i h. absurd (omega arith))
sought file id (suc n) = go (same_bytes (id_at file n) id) refl (sought file id n)
  where
    go : (t : Bool) → same_bytes (id_at file n) id ≡ t → Sought file id n → Sought file id (suc n)
    go true e s = there n (rw e) (omega arith) e
    go false e (nowhere z none) = nowhere (rw e z) (one_more_lem (λ i. same_bytes (id_at file i) id) n e none)
    go false e (there k z h t) = there k (rw e z) (omega arith) t

-- ---- the one record with an identifier
module _ {known : Known} (recs : List (List ℕ)) (s : Sheet known recs) (id : List ℕ) where
  pub only : (i j : ℕ) → i < length recs → j < length recs → has_id id (get_or recs i []) ≡ true → has_id id (get_or recs j []) ≡ true → i ≡ j
  only i j h g e f = s.apart i j h g ((same_exactly (id_of (get_or recs i [])) id).0 e ∙ sym ((same_exactly (id_of (get_or recs j [])) id).0 f))

  module _ (k : ℕ) (h : k < length recs) (e : has_id id (get_or recs k []) ≡ true) where
    pub is_present_lem : is_present recs id ≡ true
    is_present_lem = some_at (has_id id) recs k h e

    pub cancelled_there : is_cancelled_there recs id ≡ is_cancelled_rec (get_or recs k [])
    cancelled_there = go (is_cancelled_rec (get_or recs k [])) refl
      where
        other : is_cancelled_rec (get_or recs k []) ≡ false → (i : ℕ) → i < length recs → (b : Bool) → has_id id (get_or recs i []) ≡ b → b && is_cancelled_rec (get_or recs i []) ≡ false
        other w i l true q = rw (only i k l h q e) w
        other w i l false q = refl

        go : (w : Bool) → is_cancelled_rec (get_or recs k []) ≡ w → is_cancelled_there recs id ≡ w
        go true w = some_at (λ rec. has_id id rec && is_cancelled_rec rec) recs k h (rw (e, w))
        go false w = none_passes (λ rec. has_id id rec && is_cancelled_rec rec) recs (λ i l. other w i l (has_id id (get_or recs i [])) refl)

    pub changed_there : (new : List ℕ → List ℕ) → map (changed (has_id id) new) recs ≡ set recs k (new (get_or recs k []))
    changed_there new = map_one (has_id id) new recs k [] h e (λ i l q. only i k l h q e)

-- ---- what stands in the file, with anything behind it
module _ {known : Known} (recs : List (List ℕ)) (s : Sheet known recs) (t : List ℕ) where
  pub record_view : (i : ℕ) → i < length recs → record_at (lines_of recs ++ t) i ≡ get_or recs i []
  record_view i h = record_there recs t i (long_of recs s) h

  pub id_view : (i : ℕ) → i < length recs → id_at (lines_of recs ++ t) i ≡ id_of (get_or recs i [])
  id_view i h = id_there recs t i (long_of recs s) h

  -- the first byte of the status tells a cancelled record
  pub cancelled_view : (i : ℕ) → i < length recs → is_cancelled_at (lines_of recs ++ t) i ≡ is_cancelled_rec (get_or recs i [])
  cancelled_view i h =
      let rec = get_or recs i [] in
      let k = s.each i h in
      let byte : get_or rec 340 0 ≡ get_or (cond (is_cancelled_rec rec) (48 ∷ 32 ∷ []) (32 ∷ 32 ∷ [])) 0 0 =
      sym (get_or-drop 340 rec 0 0) ∙ sym (get_or-take 2 (drop 340 rec) 0 0 (omega arith)) ∙ ap (λ (y : List ℕ). get_or y 0 0) (sym (status_is rec k.long) ∙ k.status) in
      ap (λ (b : ℕ). eqb b 48) (byte_there recs t i (long_of recs s) h 340 (omega arith) ∙ byte) ∙ go (is_cancelled_rec rec)
    where
      go : (w : Bool) → eqb (get_or (cond w (48 ∷ 32 ∷ []) (32 ∷ 32 ∷ [])) 0 0) 48 ≡ w
      go true = refl
      go false = refl

  -- the record that is sought
  pub data Located (id : List ℕ) : Type 0 where
    absent : record_number (lines_of recs ++ t) id (length recs) ≡ 0 → is_present recs id ≡ false → Located id
    at : (k : ℕ) → record_number (lines_of recs ++ t) id (length recs) ≡ suc k → k < length recs → has_id id (get_or recs k []) ≡ true → Located id

  pub located : (id : List ℕ) → Located id
  located id = go (sought (lines_of recs ++ t) id (length recs))
    where
      go : Sought (lines_of recs ++ t) id (length recs) → Located id
      go (nowhere z none) = absent z (none_passes (has_id id) recs (λ i h. rw (← id_view i h) (none i h)))
      go (there k z h e) = at k z h (rw (← id_view k h) e)

  -- where its record stands, of an identifier that is present
  pub record Touched (id : List ℕ) : Type 0 where
    pub place : ℕ
    pub within : place < length recs
    pub found : place_of (lines_of recs ++ t) id (length recs) ≡ place
    pub its : has_id id (get_or recs place []) ≡ true

  pub touched : (id : List ℕ) → is_present recs id ≡ true → Touched id
  touched id p = go (located id)
    where
      go : Located id → Touched id
      go (absent z none) = absurd (clash p none)
      go (at k z h e) = record { place = k; within = h; found = omega (arith, z); its = e }

  pub present_view : (id : List ℕ) → present (lines_of recs ++ t) id (length recs) ≡ is_present recs id
  present_view id = go (located id)
    where
      go : Located id → present (lines_of recs ++ t) id (length recs) ≡ is_present recs id
      go (absent z none) = rw (z, none)
      go (at k z h e) = rw (z, ne_eqb (suc k) 0 (λ q. omega arith), is_present_lem recs s id k h e)

  pub live_view : (id : List ℕ) → live_answer (lines_of recs ++ t) (length recs) id ≡ live_rule recs id
  live_view id = go (located id)
    where
      go : Located id → live_answer (lines_of recs ++ t) (length recs) id ≡ live_rule recs id
      go (absent z none) = rw (z, none)
      go (at k z h e) =
          let place : suc k - 1 ≡ k = omega arith in
          rw (z, ne_eqb (suc k) 0 (λ q. omega arith), place, cancelled_view k h, is_present_lem recs s id k h e, cancelled_there recs s id k h e)

-- ---- an action, in a buffer of n bytes
module _ {known : Known} (n : ℕ) (recs : List (List ℕ)) (s : Sheet known recs) (fits : length recs * 401 ≤ n) where
  abbrev behind : List ℕ
  behind = zeros (n - length (lines_of recs))

  room_view : leb (length recs * 401 + 401) (length (zero_filled n (lines_of recs))) ≡ ltb (length recs) (n / 401)
  room_view = go (ltb (length recs) (n / 401)) refl
    where
      long : length (zero_filled n (lines_of recs)) ≡ n
      long = filled_long n (lines_of recs) (omega (arith, lines_long recs s))

      go : (b : Bool) → ltb (length recs) (n / 401) ≡ b → leb (length recs * 401 + 401) (length (zero_filled n (lines_of recs))) ≡ b
      go true e = rw long (le-leb (length recs * 401 + 401) n (omega (arith, ltb-true (length recs) (n / 401) e)))
      go false e = rw long (lt-leb (length recs * 401 + 401) n (omega (arith, ltb-false (length recs) (n / 401) e)))

  pub answer_view : (a : Action) → action_answer known (zero_filled n (lines_of recs)) (length recs) (first_of recs) (number_of a) (body_of a) ≡ action_rule (posted known) recs (n / 401) a
  unfolding action_answer add_answer amend_answer cancel_answer action_rule
  answer_view (Addition rec) = rw (present_view recs s behind (id_of rec), ← first_suffices recs rec s.one, room_view)
  answer_view (Amendment rec) = rw (live_view recs s behind (id_of rec))
  answer_view (Cancellation id) = rw (live_view recs s behind id)

  -- as many records, changed, with the same zeros behind them
  same_rest : (others : List (List ℕ)) → Sheet known others → length others ≡ length recs → lines_of others ++ behind ≡ zero_filled n (lines_of others)
  same_rest others o e =
      let z : n - length (lines_of recs) ≡ n - length (lines_of others) = omega (arith, lines_long recs s, lines_long others o) in
      ap (λ (k : ℕ). lines_of others ++ zeros k) z

  added : (rec : List ℕ) → with_line (zero_filled n (lines_of recs)) (length recs) rec ≡ zero_filled n (lines_of (recs ++ rec ∷ []))
  added rec =
      ap (λ (k : ℕ). overlay (zero_filled n (lines_of recs)) k (line_of rec)) (sym (lines_long recs s))
      ∙ filled_more n (lines_of recs) (line_of rec) ∙ ap (zero_filled n) (sym (lines_last recs rec))

  amended : (rec : List ℕ) → length rec ≡ 399 → is_present recs (id_of rec) ≡ true
      → with_line (zero_filled n (lines_of recs)) (place_of (zero_filled n (lines_of recs)) (id_of rec) (length recs)) rec ≡ lines_of (map (replaced_by rec) recs) ++ behind
  amended rec long p =
      let m = touched recs s behind (id_of rec) p in
      ap (λ (k : ℕ). with_line (zero_filled n (lines_of recs)) k rec) m.found
      ∙ line_replaced recs behind m.place (long_of recs s) m.within rec long
      ∙ ap (λ (others : List (List ℕ)). lines_of others ++ behind) (sym (changed_there recs s (id_of rec) m.place m.within m.its (λ old. rec)))

  cancelled_line : (id : List ℕ) → is_present recs id ≡ true
      → with_cancelled (zero_filled n (lines_of recs)) (place_of (zero_filled n (lines_of recs)) id (length recs)) ≡ lines_of (map (cancelled_for id) recs) ++ behind
  cancelled_line id p =
      let m = touched recs s behind id p in
      ap (λ (k : ℕ). with_cancelled (zero_filled n (lines_of recs)) k) m.found
      ∙ bytes_changed recs behind m.place (long_of recs s) m.within 340 48 341 32 (omega arith) (omega arith)
      ∙ ap (λ (others : List (List ℕ)). lines_of others ++ behind) (sym (changed_there recs s id m.place m.within m.its cancelled_rec))

  pub file_view : (a : Action) → (action_rule (posted known) recs (n / 401) a).code ≡ 0
      → action_file (zero_filled n (lines_of recs)) (length recs) (number_of a) (body_of a) ≡ zero_filled n (lines_of (records_after recs a))
  unfolding action_file
  file_view (Addition rec) z = added rec
  file_view (Amendment rec) z =
      let p = amends (posted known) recs (n / 401) rec z in
      amended rec (kept_posting (posted known) (posted_fit known) rec p.0).long p.1
      ∙ same_rest (records_after recs (Amendment rec)) (sheet_step (posted known) (posted_fit known) recs (n / 401) (Amendment rec) s z) (length_map (replaced_by rec) recs)
  file_view (Cancellation id) z =
      cancelled_line id (cancels (posted known) recs (n / 401) id z).0
      ∙ same_rest (records_after recs (Cancellation id)) (sheet_step (posted known) (posted_fit known) recs (n / 401) (Cancellation id) s z) (length_map (cancelled_for id) recs)

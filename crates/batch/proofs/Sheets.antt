-- The records of a batch as a list: what is known of those that acceptable actions made, under any verdict that is fit.
-- Assumes nothing.
use Prim.Native.Nat.{ℕ, ◌*◌, ◌/◌, ◌≤◌, ◌<◌}
use mathlib.Core.Path.{◌≡◌, refl, sym, ap, ◌∙◌}
use mathlib.Core.Bool.{Bool, true, false, cond}
use mathlib.Core.List.{List, [], ◌∷◌, ◌++◌, map}
use native.Mathlib.Omega.{arith}
use borrow.Author.Tests.{ltb-true}
use lib.Dec.{ltb}
use lib.ListN.{length, get_or, take, drop}
use Rattle.psc.specs.Table.{Known}
use Rattle.text.specs.Answers.{answer, accepted}
use Rattle.text.specs.Lists.{same_bytes}
use Rattle.text.proofs.Lists.{same_exactly}
use Rattle.ident.specs.Identifier.{right_id}
use Rattle.layout.specs.Layout.{field_of}
use Rattle.record.specs.Rules.{in_file, record_answer}
use Rattle.record.proofs.Status.{cancelled_rec_long, cancelled_rec_others, cancelled_rec_status, cancelled_rec_passes}
use Rattle.record.specs.Readings.{cancelled_rec}
use Rattle.ident.specs.Consignor.{consignor_in}
use Rattle.ident.proofs.Consignors.{turned}
use Rattle.record.specs.Consignors.{consignor_of, strays, OneConsignor}
use Rattle.record.proofs.Consignors.{named_within, one_none, one_more_lem}
use Rattle.batch.specs.Actions.{Action, Addition, Amendment, Cancellation}
use Rattle.batch.specs.Records.{id_of, is_cancelled_rec, has_id, replaced_by, cancelled_for, records_after}
use Rattle.batch.specs.Rules.{Verdict, Fit, is_present, is_cancelled_there, live_rule, action_rule}
use Rattle.batch.proofs.JournalWays.{or_both}
use Rattle.batch.proofs.Rows.{length_last, PlaceIn, earlier, last, place_in, length_map, map_nth, none_at}

-- ---- sheets
-- a record as it may stand in a batch: 399 bytes that keep the table, status blank or "0 "
pub record Kept (known : Known) (rec : List ℕ) : Type 0 where
  pub long : length rec ≡ 399
  pub status : field_of rec 19 ≡ cond (is_cancelled_rec rec) (48 ∷ 32 ∷ []) (32 ∷ 32 ∷ [])
  pub passes : (record_answer (in_file known) rec).code ≡ 0

-- such records, no two with one identifier, all that name a consignor naming the same
pub record Sheet (known : Known) (recs : List (List ℕ)) : Type 0 where
  pub each : (i : ℕ) → i < length recs → Kept known (get_or recs i [])
  pub apart : (i j : ℕ) → i < length recs → j < length recs → id_of (get_or recs i []) ≡ id_of (get_or recs j []) → i ≡ j
  pub one : OneConsignor recs

pub sheet_none : {known : Known} → Sheet known []
sheet_none = record { each = λ i h. absurd (omega arith); apart = λ i j h g e. absurd (omega arith); one = one_none }

-- ---- the status of a record of 399 bytes
pub status_is : (rec : List ℕ) → length rec ≡ 399 → field_of rec 19 ≡ take 2 (drop 340 rec)
unfolding field_of
status_is rec long = rw long

-- ---- an accepted action
-- an addition: the record passes, its identifier is new, it names no other consignor, and there is a place
pub record Adds (v : Verdict) (recs : List (List ℕ)) (places : ℕ) (rec : List ℕ) : Type 0 where
  pub passes : (v rec).code ≡ 0
  pub new : is_present recs (id_of rec) ≡ false
  pub same : strays recs rec ≡ false
  pub room : length recs < places

pub adds : (v : Verdict) (recs : List (List ℕ)) (places : ℕ) (rec : List ℕ) → (action_rule v recs places (Addition rec)).code ≡ 0 → Adds v recs places rec
unfolding action_rule
adds v recs places rec z =
    let both = or_both (v rec) _ z in
    go (is_present recs (id_of rec)) refl (strays recs rec) refl (ltb (length recs) places) refl both.0 both.1
  where
    go : (p : Bool) → is_present recs (id_of rec) ≡ p → (w : Bool) → strays recs rec ≡ w → (q : Bool) → ltb (length recs) places ≡ q → (v rec).code ≡ 0
        → (cond p (answer 2 1) (cond w (answer 241 1) (cond q accepted (answer 230 0)))).code ≡ 0 → Adds v recs places rec
    go true ep w ew q eq t h = absurd (omega (arith, h))
    go false ep true ew q eq t h = absurd (omega (arith, h))
    go false ep false ew true eq t h = record { passes = t; new = ep; same = ew; room = ltb-true (length recs) places eq }
    go false ep false ew false eq t h = absurd (omega (arith, h))

-- present and not cancelled
live_accepts : (recs : List (List ℕ)) (id : List ℕ) → (live_rule recs id).code ≡ 0 → (is_present recs id ≡ true) × (is_cancelled_there recs id ≡ false)
live_accepts recs id z = go (is_present recs id) (is_cancelled_there recs id) z
  where
    go : (p c : Bool) → (cond p (cond c (answer 233 0) accepted) (answer 232 0)).code ≡ 0 → (p ≡ true) × (c ≡ false)
    go true true z = absurd (omega arith)
    go true false z = (refl, refl)
    go false c z = absurd (omega arith)

-- an amendment: the record passes, and its identifier is present and not cancelled
pub amends : (v : Verdict) (recs : List (List ℕ)) (places : ℕ) (rec : List ℕ) → (action_rule v recs places (Amendment rec)).code ≡ 0
    → ((v rec).code ≡ 0) × (is_present recs (id_of rec) ≡ true) × (is_cancelled_there recs (id_of rec) ≡ false)
unfolding action_rule
amends v recs places rec z =
    let both = or_both (v rec) (live_rule recs (id_of rec)) z in
    let live = live_accepts recs (id_of rec) both.1 in
    (both.0, live.0, live.1)

pub cancels : (v : Verdict) (recs : List (List ℕ)) (places : ℕ) (id : List ℕ) → (action_rule v recs places (Cancellation id)).code ≡ 0 → (is_present recs id ≡ true) × (is_cancelled_there recs id ≡ false)
unfolding action_rule
cancels v recs places id z = live_accepts recs id (go (right_id id) z)
  where
    go : (t : Bool) → (cond t (live_rule recs id) (answer 1 1)).code ≡ 0 → (live_rule recs id).code ≡ 0
    go true h = h
    go false h = absurd (omega (arith, h))

-- ---- what it leaves
pub kept_posting : {known : Known} (v : Verdict) → Fit known v → (rec : List ℕ) → (v rec).code ≡ 0 → Kept known rec
unfolding same_bytes
kept_posting v fit rec z = record { long = fit.long rec z; status = fit.blank rec z ∙ rw (fit.blank rec z); passes = fit.passes rec z }

kept_cancelled : {known : Known} (rec : List ℕ) → Kept known rec → Kept known (cancelled_rec rec)
unfolding same_bytes
kept_cancelled rec k =
    let e = cancelled_rec_status rec k.long in
    record { long = cancelled_rec_long rec ∙ k.long; status = e ∙ rw e; passes = cancelled_rec_passes _ rec k.long k.passes }

-- one record more, with a new identifier and no other consignor
sheet_last : {known : Known} (recs : List (List ℕ)) (rec : List ℕ) → Sheet known recs → Kept known rec → is_present recs (id_of rec) ≡ false → strays recs rec ≡ false → Sheet known (recs ++ rec ∷ [])
sheet_last {known} recs rec s k new no_other = record {
  each = λ i h. kept (place_in recs rec [] i h);
  apart = λ i j h g e. same (place_in recs rec [] i h) (place_in recs rec [] j g) e;
  one = one_more_lem recs rec s.one no_other;
}
  where
    fresh : (i : ℕ) → i < length recs → id_of (get_or recs i []) ≡ id_of rec → ⊥
    fresh i h e = none_at (has_id (id_of rec)) recs i new h ((same_exactly (id_of (get_or recs i [])) (id_of rec)).1 e)

    kept : {i : ℕ} → PlaceIn recs rec [] i → Kept known (get_or (recs ++ rec ∷ []) i [])
    kept {i} (earlier h e) = rw e (s.each i h)
    kept {i} (last h e) = rw e k

    same : {i j : ℕ} → PlaceIn recs rec [] i → PlaceIn recs rec [] j → id_of (get_or (recs ++ rec ∷ []) i []) ≡ id_of (get_or (recs ++ rec ∷ []) j []) → i ≡ j
    same {i} {j} (earlier h e) (earlier g f) q = s.apart i j h g (rw (e, f) at q)
    same {i} {j} (earlier h e) (last g f) q = absurd (fresh i h (rw (e, f) at q))
    same {i} {j} (last h e) (earlier g f) q = absurd (fresh j g (sym (rw (e, f) at q)))
    same {i} {j} (last h e) (last g f) q = h ∙ sym g

-- each changed to a record that may stand there, with the same identifier
sheet_map : {known : Known} (recs : List (List ℕ)) (f : List ℕ → List ℕ) → Sheet known recs → ((rec : List ℕ) → Kept known rec → Kept known (f rec)) → ((rec : List ℕ) → Kept known rec → id_of (f rec) ≡ id_of rec) → Sheet known (map f recs)
sheet_map recs f s keeps same_id = record {
  each = λ i h. rw (map_nth f recs i [] [] (within i h)) (keeps (get_or recs i []) (s.each i (within i h)));
  apart = λ i j h g e. s.apart i j (within i h) (within j g) (sym (id_at_lem i (within i h)) ∙ e ∙ id_at_lem j (within j g));
  one = record {
    same = λ i j a.
        s.one.same i j (rw (consignor_at i (named_within (map f recs) i a), consignor_at j (named_within (map f recs) j (turned a))) at a);
  };
}
  where
    within : (i : ℕ) → i < length (map f recs) → i < length recs
    within i h = omega (arith, length_map f recs)

    id_at_lem : (i : ℕ) → i < length recs → id_of (get_or (map f recs) i []) ≡ id_of (get_or recs i [])
    id_at_lem i h = rw (map_nth f recs i [] [] h) (same_id (get_or recs i []) (s.each i h))

    consignor_at : (i : ℕ) → i < length (map f recs) → consignor_of (get_or (map f recs) i []) ≡ consignor_of (get_or recs i [])
    consignor_at i h = ap consignor_in (id_at_lem i (within i h))

module _ {known : Known} (new : List ℕ) (k : Kept known new) where
  replaced_kept : (rec : List ℕ) → Kept known rec → Kept known (replaced_by new rec)
  replaced_kept rec l = go (has_id (id_of new) rec)
    where
      go : (t : Bool) → Kept known (cond t new rec)
      go true = k
      go false = l

  replaced_id : (rec : List ℕ) → Kept known rec → id_of (replaced_by new rec) ≡ id_of rec
  replaced_id rec l = go (has_id (id_of new) rec) refl
    where
      go : (t : Bool) → has_id (id_of new) rec ≡ t → id_of (cond t new rec) ≡ id_of rec
      go true e = sym ((same_exactly (id_of rec) (id_of new)).0 e)
      go false e = refl

module _ {known : Known} (id : List ℕ) where
  cancelled_kept : (rec : List ℕ) → Kept known rec → Kept known (cancelled_for id rec)
  cancelled_kept rec l = go (has_id id rec)
    where
      go : (t : Bool) → Kept known (cond t (cancelled_rec rec) rec)
      go true = kept_cancelled rec l
      go false = l

  cancelled_id : (rec : List ℕ) → Kept known rec → id_of (cancelled_for id rec) ≡ id_of rec
  cancelled_id rec l = go (has_id id rec)
    where
      go : (t : Bool) → id_of (cond t (cancelled_rec rec) rec) ≡ id_of rec
      go true = cancelled_rec_others rec 1 (λ e. omega (arith, e))
      go false = refl

module _ {known : Known} (v : Verdict) (fit : Fit known v) where
  pub sheet_step : (recs : List (List ℕ)) (places : ℕ) (a : Action) → Sheet known recs → (action_rule v recs places a).code ≡ 0 → Sheet known (records_after recs a)
  sheet_step recs places (Addition rec) s z = let p = adds v recs places rec z in sheet_last recs rec s (kept_posting v fit rec p.passes) p.new p.same
  sheet_step recs places (Amendment rec) s z =
      let k = kept_posting v fit rec (amends v recs places rec z).0 in
      sheet_map recs (replaced_by rec) s (replaced_kept rec k) (replaced_id rec k)
  sheet_step recs places (Cancellation id) s z = sheet_map recs (cancelled_for id) s (cancelled_kept id) (cancelled_id id)

pub fits_step : (v : Verdict) (n : ℕ) (recs : List (List ℕ)) (a : Action) → length recs * 401 ≤ n → (action_rule v recs (n / 401) a).code ≡ 0 → length (records_after recs a) * 401 ≤ n
fits_step v n recs (Addition rec) f z = omega (arith, (adds v recs (n / 401) rec z).room, length_last recs rec)
fits_step v n recs (Amendment rec) f z = omega (arith, length_map (replaced_by rec) recs)
fits_step v n recs (Cancellation id) f z = omega (arith, length_map (cancelled_for id) recs)

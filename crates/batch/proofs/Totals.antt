-- The totals of a batch are those of its records, before and after an action; its records make a good file.
-- Assumes nothing.
use Prim.Native.Nat.{ℕ, suc, ◌+◌, ◌-◌, ◌/◌, ◌≤◌}
use mathlib.Core.Path.{◌≡◌, sym, ap, ◌∙◌}
use mathlib.Core.Bool.{false}
use mathlib.Core.List.{List, [], ◌∷◌, ◌++◌, map, append-nil}
use native.Mathlib.Nat.{add-zero}
use native.Mathlib.Omega.{arith}
use lib.ListN.{length, get_or, take, drop}
use lib.Seq.{split_at, set_split}
use Rattle.psc.specs.Table.{Known}
use Rattle.layout.specs.Layout.{field_of}
use Rattle.fields.proofs.OtherLaws.{live_exactly, cancelled_exactly}
use Rattle.record.specs.Rules.{in_file}
use Rattle.record.proofs.Order.{accepted_exactly}
use Rattle.record.proofs.Status.{posting_passes, cancelled_rec_status}
use Rattle.posting.specs.declared.Totals.{Totals}
use Rattle.posting.specs.File.{record_at, totals, brought, with_record, totals_over}
use Rattle.posting.specs.Sums.{cash_in, price_in, totals_of}
use Rattle.posting.proofs.PrintedLines.{totals_there}
use Rattle.posting.specs.Records.{lines_of, GoodRecords}
use Rattle.batch.specs.Places.{id_of, place_of, one_live_more, one_cancelled, amounts_replaced}
use Rattle.batch.specs.Batch.{batch_of, counts_of, zeros, zero_filled}
use Rattle.batch.specs.Work.{action_totals}
use Rattle.record.specs.Readings.{cancelled_rec}
use Rattle.batch.specs.Actions.{Action, Addition, Amendment, Cancellation, number_of, body_of}
use Rattle.batch.specs.Records.{is_cancelled_rec, has_id, cancelled_for, records_after}
use Rattle.batch.specs.Rules.{posted, is_cancelled_there, action_rule}
use Rattle.batch.proofs.Rows.{changed}
use Rattle.batch.proofs.Sheets.{Sheet, adds, amends, cancels}
use Rattle.batch.proofs.PlaceLaws.{long_of, cancelled_there, changed_there, record_view, Touched, touched}
use Rattle.batch.proofs.OneMore.{totals_more}

-- ---- one record more, replaced or cancelled, in the totals
pub live_more : (t : Totals) (rec : List ℕ) → field_of rec 19 ≡ 32 ∷ 32 ∷ [] → with_record t rec ≡ one_live_more t (cash_in rec) (price_in rec)
unfolding brought
live_more t rec blank = let status = (live_exactly (field_of rec 19)).1 blank in rw (status, add-zero t.cancelled)

pub cancelled_more : (t : Totals) (rec : List ℕ) → field_of rec 19 ≡ 48 ∷ 32 ∷ [] → with_record t rec ≡ totals t.live (t.cancelled + 1) t.cash.0 t.price.0
unfolding brought
cancelled_more t rec struck =
    let status = (cancelled_exactly (field_of rec 19)).1 struck in rw (status, add-zero t.live, add-zero t.cash.0, add-zero t.price.0)

-- what was added comes off again
pub off : (a d : ℕ) → a + d - d ≡ a
off a d = omega arith

replaced : (t : Totals) (d p d' p' : ℕ) → amounts_replaced (one_live_more t d p) d p d' p' ≡ one_live_more t d' p'
replaced t d p d' p' = rw (off t.cash.0 d, off t.price.0 p)

struck : (t : Totals) (d p : ℕ) → one_cancelled (one_live_more t d p) d p ≡ totals t.live (t.cancelled + 1) t.cash.0 t.price.0
struck t d p = rw (off t.live 1, off t.cash.0 d, off t.price.0 p)

module _ (t rest : Totals) (x old : List ℕ) (there : x ≡ old) (before : t ≡ one_live_more rest (cash_in old) (price_in old)) where
  amended : (rec : List ℕ) → amounts_replaced t (cash_in x) (price_in x) (cash_in rec) (price_in rec) ≡ one_live_more rest (cash_in rec) (price_in rec)
  amended rec = rw (there, before) (replaced rest (cash_in old) (price_in old) (cash_in rec) (price_in rec))

  cancelled : one_cancelled t (cash_in x) (price_in x) ≡ totals rest.live (rest.cancelled + 1) rest.cash.0 rest.price.0
  cancelled = rw (there, before) (struck rest (cash_in old) (price_in old))

-- ---- the totals around the record that is touched
module _ {known : Known} (recs : List (List ℕ)) (s : Sheet known recs) (t id : List ℕ) (m : Touched recs s t id) (live : is_cancelled_there recs id ≡ false) where
  abbrev old : List ℕ
  old = get_or recs m.place []

  abbrev rest : Totals
  rest = totals_of (take m.place recs ++ drop (suc m.place) recs)

  -- the record where the file has the identifier
  abbrev sought : List ℕ
  sought = record_at (lines_of recs ++ t) (place_of (lines_of recs ++ t) id (length recs))

  sought_is : sought ≡ old
  sought_is = ap (record_at (lines_of recs ++ t)) m.found ∙ record_view recs s t m.place m.within

  pub blank : field_of old 19 ≡ 32 ∷ 32 ∷ []
  blank =
      let status : is_cancelled_rec old ≡ false = sym (cancelled_there recs s id m.place m.within m.its) ∙ live in
      rw status at (s.each m.place m.within).status

  pub totals_before : totals_of recs ≡ one_live_more rest (cash_in old) (price_in old)
  totals_before =
      ap totals_of (split_at recs m.place [] m.within) ∙ totals_more (take m.place recs) old (drop (suc m.place) recs) ∙ live_more rest old blank

  pub totals_after : (new : List ℕ → List ℕ) → totals_of (map (changed (has_id id) new) recs) ≡ with_record rest (new old)
  totals_after new =
      ap totals_of (changed_there recs s id m.place m.within m.its new ∙ set_split recs m.place (new old) m.within)
      ∙ totals_more (take m.place recs) (new old) (drop (suc m.place) recs)

  amend_step : (rec : List ℕ) → field_of rec 19 ≡ 32 ∷ 32 ∷ []
      → amounts_replaced (totals_of recs) (cash_in sought) (price_in sought) (cash_in rec) (price_in rec) ≡ totals_of (map (changed (has_id id) (λ r. rec)) recs)
  amend_step rec clear = amended (totals_of recs) rest sought old sought_is totals_before rec ∙ sym (totals_after (λ r. rec) ∙ live_more rest rec clear)

  cancel_step : one_cancelled (totals_of recs) (cash_in sought) (price_in sought) ≡ totals_of (map (cancelled_for id) recs)
  cancel_step =
      cancelled (totals_of recs) rest sought old sought_is totals_before
      ∙ sym (totals_after cancelled_rec ∙ cancelled_more rest (cancelled_rec old) (cancelled_rec_status old (s.each m.place m.within).long))

-- ---- the totals of a batch, and what an action makes of them
module _ {known : Known} (n : ℕ) (recs : List (List ℕ)) (s : Sheet known recs) where
  abbrev behind : List ℕ
  behind = zeros (n - length (lines_of recs))

  pub totals_view : totals_over (zero_filled n (lines_of recs)) (length recs) ≡ totals_of recs
  totals_view = totals_there recs behind (long_of recs s)

  pub totals_step : (journal : List ℕ) (used : ℕ) (a : Action) → (action_rule (posted known) recs (n / 401) a).code ≡ 0
      → action_totals (batch_of (zero_filled n (lines_of recs)) journal (counts_of (totals_of recs) (length recs) used)) (number_of a) (body_of a) ≡ totals_of (records_after recs a)
  totals_step journal used (Addition rec) z =
      let p = posting_passes known rec (adds (posted known) recs (n / 401) rec z).passes in
      let all : recs ++ [] ≡ recs = append-nil recs in
      sym (totals_more recs rec [] ∙ ap (λ (l : List (List ℕ)). with_record (totals_of l) rec) all ∙ live_more (totals_of recs) rec p.1)
  totals_step journal used (Amendment rec) z =
      let p = amends (posted known) recs (n / 401) rec z in
      amend_step recs s behind (id_of rec) (touched recs s behind (id_of rec) p.1) p.2 rec (posting_passes known rec p.0).1
  totals_step journal used (Cancellation id) z =
      let p = cancels (posted known) recs (n / 401) id z in
      cancel_step recs s behind id (touched recs s behind id p.0) p.1

-- ---- the file, cut behind its last record
pub good_records : {known : Known} (recs : List (List ℕ)) → Sheet known recs → length recs ≤ 999 → GoodRecords known recs
good_records {known} recs s few = record {
  few = few;
  wide = long_of recs s;
  keeps = λ i h. (accepted_exactly (in_file known) (get_or recs i []) (s.each i h).long).0 (s.each i h).passes;
  apart = λ i j l h e. let same = s.apart i j (omega arith) h e in omega arith;
  one = s.one;
}

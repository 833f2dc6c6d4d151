-- An action on a batch in which a state stands: what it meets in the bytes is what the rules say, and what it leaves there is what the longer list makes.
-- Assumes nothing.
use Prim.Native.Nat.{ℕ, ◌+◌, ◌-◌, ◌/◌, ◌≤◌}
use mathlib.Core.Path.{◌≡◌, refl, sym, ap, ◌∙◌}
use mathlib.Core.Bool.{Bool, true, false}
use mathlib.Core.List.{List, [], ◌∷◌, ◌++◌}
use native.Mathlib.Omega.{arith}
use borrow.Author.Tests.{leb-true, leb-false, le-leb, lt-leb}
use lib.Dec.{eqb, leb}
use lib.ListN.{length, length-append}
use Rattle.psc.specs.Table.{Known}
use Rattle.text.specs.Lists.{overlay}
use Rattle.std.specs.Prelude.{Option}
use Rattle.ident.specs.declared.consignor.Consignor.{Consignor}
use Rattle.record.specs.Consignors.{first_of}
use Rattle.posting.specs.declared.Totals.{Totals}
use Rattle.posting.specs.Sums.{totals_of}
use Rattle.posting.specs.Records.{lines_of}
use Rattle.batch.specs.Actions.{Action, Addition, Amendment, Cancellation, kind_of, number_of, body_of, sized, entry_of, entries_of}
use Rattle.batch.specs.Actions as Actions
use Rattle.batch.specs.Places.{action_held}
use Rattle.batch.specs.Entries.{body_length, entry_length}
use Rattle.batch.specs.Records.{replaced_by, cancelled_for, records_after, records_of}
use Rattle.batch.specs.Rules.{posted, entry_rule, rule_behind}
use Rattle.batch.specs.Batch.{Batch, batch_of, counts_of, State, state, zero_filled, made, with, file_length, journal_length, Stands}
use Rattle.batch.specs.Work.{entry_answer, entered}
use Rattle.batch.proofs.Rows.{length_last, length_map}
use Rattle.batch.proofs.ZeroFilled.{filled_more}
use Rattle.batch.proofs.PlaceLaws.{answer_view, file_view}
use Rattle.batch.proofs.Totals.{totals_step}
use Rattle.batch.proofs.Heads.{entry_same}
use Rattle.batch.proofs.Verdicts.{posted_fit}
use Rattle.batch.proofs.Made.{records_last, entries_last, entry_long, accepted_if, Fits, turns_fit, journal_long}

room_left : (u k m : ℕ) → u ≤ m → leb (u + k) m ≡ leb k (m - u)
room_left u k m h = go (leb k (m - u)) refl
  where
    go : (t : Bool) → leb k (m - u) ≡ t → leb (u + k) m ≡ t
    go true e = let l = leb-true k (m - u) e in le-leb (u + k) m (omega arith)
    go false e = let l = leb-false k (m - u) e in lt-leb (u + k) m (omega arith)

-- a kind by its number, and by its row
size_same : (a : Action) → eqb (length (body_of a)) (body_length (number_of a)) ≡ sized a
size_same (Addition rec) = refl
size_same (Amendment rec) = refl
size_same (Cancellation id) = refl

length_same : (a : Action) → entry_length (number_of a) ≡ Actions.entry_length (kind_of a)
length_same (Addition rec) = refl
length_same (Amendment rec) = refl
length_same (Cancellation id) = refl

held_step : (recs : List (List ℕ)) (a : Action) → action_held (length recs) (number_of a) ≡ length (records_after recs a)
held_step recs (Addition rec) = sym (length_last recs rec)
held_step recs (Amendment rec) = sym (length_map (replaced_by rec) recs)
held_step recs (Cancellation id) = sym (length_map (cancelled_for id) recs)

batch_eq : {f f' j j' : List ℕ} {t t' : Totals} {h h' u u' : ℕ} → f ≡ f' → j ≡ j' → t ≡ t' → h ≡ h' → u ≡ u' → batch_of f j (counts_of t h u) ≡ batch_of f' j' (counts_of t' h' u')
batch_eq ef ej et eh eu = λ i. batch_of (ef i) (ej i) (counts_of (et i) (eh i) (eu i))

module _ {known : Known} (n m : ℕ) (xs : List Action) (f : Fits known n m xs) (a : Action) where
  made_ruled : entry_answer known (made n m (state xs)) (first_of (records_of xs)) (number_of a) (body_of a) ≡ rule_behind (posted known) n m xs a
  unfolding made entry_answer entry_rule
  made_ruled = rw (size_same a, answer_view n (records_of xs) f.sheet f.places a, journal_long n m xs f, length_same a, room_left (length (entries_of xs)) (Actions.entry_length (kind_of a)) m f.room)

  made_entered : (rule_behind (posted known) n m xs a).code ≡ 0 → entered (made n m (state xs)) (number_of a) (body_of a) ≡ made n m (state (xs ++ a ∷ []))
  unfolding made entered
  made_entered z =
      let ok = accepted_if (posted known) (records_of xs) (n / 401) (m - length (entries_of xs)) a z in
      let recs : records_after (records_of xs) a ≡ records_of (xs ++ a ∷ []) = sym (records_last [] xs a) in
      let entries : entries_of xs ++ entry_of a ≡ entries_of (xs ++ a ∷ []) = sym (entries_last xs a) in
      let used : length (entries_of xs) + entry_length (number_of a) ≡ length (entries_of (xs ++ a ∷ [])) =
      omega (arith, length_same a, entry_long a ok.size, ap length entries, length-append (entries_of xs) (entry_of a)) in
      batch_eq (file_view n (records_of xs) f.sheet f.places a ok.rule ∙ ap (λ (r : List (List ℕ)). zero_filled n (lines_of r)) recs)
      (ap (overlay (zero_filled m (entries_of xs)) (length (entries_of xs))) (entry_same a) ∙ filled_more m (entries_of xs) (entry_of a) ∙ ap (zero_filled m) entries)
      (totals_step n (records_of xs) f.sheet (zero_filled m (entries_of xs)) (length (entries_of xs)) a ok.rule ∙ ap totals_of recs)
      (held_step (records_of xs) a ∙ ap length recs)
      used

-- of any batch in which a state stands
module _ (known : Known) (b : Batch) (s : State) (st : Stands (posted known) b s) (a : Action) where
  fits_so : Fits known (file_length b) (journal_length b) s.actions
  fits_so = turns_fit (posted known) (posted_fit known) (file_length b) (journal_length b) s.actions st.turns

  pub entry_ruled : (seen : Option Consignor) → seen ≡ first_of (records_of s.actions) → entry_answer known b seen (number_of a) (body_of a) ≡ rule_behind (posted known) (file_length b) (journal_length b) s.actions a
  entry_ruled seen first = (λ i. entry_answer known (st.is i) (first i) (number_of a) (body_of a)) ∙ made_ruled (file_length b) (journal_length b) s.actions fits_so a

  pub entry_enters : (rule_behind (posted known) (file_length b) (journal_length b) s.actions a).code ≡ 0 → entered b (number_of a) (body_of a) ≡ made (file_length b) (journal_length b) (with s a)
  entry_enters z = ap (λ (x : Batch). entered x (number_of a) (body_of a)) st.is ∙ made_entered (file_length b) (journal_length b) s.actions fits_so a z

-- The test of the state: what the walk found stands if lines, rests and totals are as it makes them, and else nothing does.
-- Assumes nothing.
use Prim.Native.Nat.{ℕ, zero, suc, ◌+◌, ◌-◌, ◌*◌, ◌/◌, ◌≤◌, ◌<◌}
use mathlib.Core.Path.{◌≡◌, refl, sym, ap, ◌∙◌}
use mathlib.Core.Bool.{Bool, true, false, cond, and-eq-true_iff}
use mathlib.Core.List.{List, [], ◌∷◌, ◌++◌, append_assoc}
use mathlib.Core.Option.{some-injective}
use native.Mathlib.Nat.{zero-mul}
use native.Mathlib.Omega.{arith}
use borrow.Author.Tests.{eqb-true}
use lib.ListN.{length, get_or, take, drop, length-append, length-drop, length-take, take-append-drop}
use lib.Seq.{take_at, drop_at, take-add, drop-append_seam, drop-append-add, drop-drop, length-take-le}
use Rattle.psc.specs.Table.{Known}
use Rattle.text.specs.Bytes.{every, is_zero}
use Rattle.text.proofs.Booleans.{clash}
use Rattle.record.specs.Readings.{cancelled_rec}
use Rattle.record.proofs.Status.{cancelled_rec_long}
use Rattle.posting.specs.File.{line_of, totals_over}
use Rattle.posting.specs.Sums.{totals_of}
use Rattle.posting.specs.Records.{lines_of}
use Rattle.posting.proofs.PrintedLines.{Long, all_lines_long}
use Rattle.std.specs.Prelude.{Option}
use Rattle.ident.specs.declared.consignor.Consignor.{Consignor}
use Rattle.batch.specs.declared.Counts.{Counts}
use Rattle.batch.specs.Actions.{Action, entries_of}
use Rattle.batch.specs.Records.{records_of}
use Rattle.batch.specs.Rules.{posted}
use Rattle.batch.specs.Batch.{Batch, batch_of, counts_of, right_lengths, State, state, zeros, zero_filled, made, Stands}
use Rattle.batch.specs.Test.{odd, record_from, marked_record, Walked, Marked, LineAt, Found}
use Rattle.batch.proofs.Reading.{read_exactly}
use Rattle.batch.proofs.Standing.{turns_sized}
use Rattle.batch.proofs.Verdicts.{posted_fit}
use Rattle.batch.proofs.Made.{Fits, turns_fit}
use Rattle.batch.proofs.Totals.{totals_view}
use Rattle.batch.proofs.Walks.{used_bytes}

-- ---- lines
line_long : (rec : List ℕ) → length rec ≡ 399 → length (line_of rec) ≡ 401
line_long rec e = omega (arith, length-append rec (13 ∷ 10 ∷ []), e)

line_at : (recs : List (List ℕ)) (t : List ℕ) (i : ℕ) → Long recs → i < length recs → take 401 (drop (i * 401) (lines_of recs ++ t)) ≡ line_of (get_or recs i [])
line_at [] t i l h = absurd (omega arith)
line_at (x ∷ recs) t zero l h =
    ap (λ (k : ℕ). take 401 (drop k ((line_of x ++ lines_of recs) ++ t))) (zero-mul 401)
    ∙ ap (take 401) (append_assoc (line_of x) (lines_of recs) t) ∙ take_at (line_of x) (lines_of recs ++ t) 401 (line_long x (l 0 (omega arith)))
line_at (x ∷ recs) t (suc i) l h =
    let wide = line_long x (l 0 (omega arith)) in
    let there : suc i * 401 ≡ length (line_of x) + i * 401 = omega (arith, wide) in
    ap (λ (k : ℕ). take 401 (drop k ((line_of x ++ lines_of recs) ++ t))) there
    ∙ ap (λ (s : List ℕ). take 401 (drop (length (line_of x) + i * 401) s)) (append_assoc (line_of x) (lines_of recs) t)
    ∙ ap (take 401) (drop-append-add (line_of x) (lines_of recs ++ t) (i * 401))
    ∙ line_at recs t i (λ j g. l (suc j) (omega arith)) (omega arith)

-- a file whose lines are those of the records begins with them
lines_so : (file : List ℕ) (recs : List (List ℕ)) → ((i : ℕ) → i < length recs → take 401 (drop (i * 401) file) ≡ line_of (get_or recs i [])) → take (length recs * 401) file ≡ lines_of recs
lines_so file [] each = ap (λ (k : ℕ). take k file) (zero-mul 401)
lines_so file (x ∷ recs) each =
    let size : length (x ∷ recs) * 401 ≡ 401 + length recs * 401 = omega arith in
    let first : take 401 file ≡ line_of x = ap (λ (k : ℕ). take 401 (drop k file)) (sym (zero-mul 401)) ∙ each 0 (omega arith) in
    let rest : take (length recs * 401) (drop 401 file) ≡ lines_of recs =
    lines_so (drop 401 file) recs (λ i h. ap (take 401) (drop_both i file) ∙ each (suc i) (omega (arith, h))) in
    ap (λ (k : ℕ). take k file) size ∙ take-add 401 (length recs * 401) file ∙ (λ i. first i ++ rest i)
  where
    drop_both : (i : ℕ) (s : List ℕ) → drop (i * 401) (drop 401 s) ≡ drop (suc i * 401) s
    drop_both i s = let size : 401 + i * 401 ≡ suc i * 401 = omega arith in drop-drop (i * 401) 401 s ∙ ap (λ (k : ℕ). drop k s) size

-- ---- what a walk to the end found
zeros_are : (s : List ℕ) → every is_zero s ≡ true → s ≡ zeros (length s)
zeros_are [] h = refl
zeros_are (x ∷ s) h =
    let p = (and-eq-true_iff (is_zero x) (every is_zero s)).0 h in
    rw (eqb-true x 0 p.0) (ap (λ (t : List ℕ). 0 ∷ t) (zeros_are s p.1))

zeros_pass : (k : ℕ) → every is_zero (zeros k) ≡ true
zeros_pass zero = refl
zeros_pass (suc k) = zeros_pass k

module _ {known : Known} (file journal : List ℕ) (c : Counts) (held : ℕ) (seen : Option Consignor) (last : ℕ) (marks table : List ℕ) (good : right_lengths (length file) (length journal) ≡ true)
    (w : Walked known file journal held seen c.used last marks table) where
  abbrev b : Batch
  b = batch_of file journal c

  abbrev n : ℕ
  n = length file

  abbrev m : ℕ
  m = length journal

  abbrev recs : List (List ℕ)
  recs = records_of w.acts

  fits_so : Fits known n m w.acts
  fits_so = turns_fit (posted known) (posted_fit known) n m w.acts w.turns

  longs : Long recs
  longs = λ i h. (fits_so.sheet.each i h).long

  lines_are_long : length (lines_of recs) ≡ held * 401
  lines_are_long = all_lines_long recs longs ∙ ap (λ (k : ℕ). k * 401) w.many

  pub marked_so : length journal ≤ 1048576 → Marked file journal held marks
  marked_so bounded = record {
    few = w.marking.few;
    places = w.marking.places;
    marked = omega (arith, w.marking.marked, w.marking.places);
    there = λ i h. omega (arith, mark_there i h);
    bounded = bounded;
  }
    where
      record_long : (k : ℕ) → length (marked_record journal k) ≡ length (record_from journal (k / 2))
      record_long k = go (odd k)
        where
          go : (t : Bool) → length (cond t (cancelled_rec (record_from journal (k / 2))) (record_from journal (k / 2))) ≡ length (record_from journal (k / 2))
          go true = cancelled_rec_long (record_from journal (k / 2))
          go false = refl

      mark_there : (i : ℕ) → i < held → get_or marks i 0 / 2 + 403 ≤ length journal
      mark_there i h =
          let long : length (record_from journal (get_or marks i 0 / 2)) ≡ 399 = sym (record_long (get_or marks i 0)) ∙ ap length (sym (w.named i h)) ∙ longs i (omega (arith, h, w.many)) in
          omega (arith, long, length-take 399 (drop (get_or marks i 0 / 2 + 4) journal), length-drop (get_or marks i 0 / 2 + 4) journal)

  -- whatever stands is the list that was walked
  same_acts : (s : State) → Stands (posted known) b s → w.acts ≡ s.actions
  same_acts s st =
      let bytes : entries_of w.acts ≡ entries_of s.actions = sym w.front ∙ used_bytes file journal c s st in
      some-injective _ _
      (sym ((read_exactly (entries_of w.acts) w.acts).1 (turns_sized (posted known) n m [] w.acts w.turns, refl))
      ∙ (read_exactly (entries_of w.acts) s.actions).1 (turns_sized (posted known) n m [] s.actions st.turns, sym bytes))

  made_so : (s : State) → Stands (posted known) b s → b ≡ made n m (state w.acts)
  made_so s st = st.is ∙ ap (λ (xs : List Action). made n m (state xs)) (sym (same_acts s st))

  pub held_wrong : (held ≡ c.held → ⊥) → (s : State) → Stands (posted known) b s → ⊥
  unfolding made
  held_wrong other s st = other (sym w.many ∙ sym (ap (λ (x : Batch). x.counts.held) (made_so s st)))

  file_made : (s : State) → Stands (posted known) b s → file ≡ zero_filled n (lines_of recs)
  unfolding made
  file_made s st = ap (λ (x : Batch). x.file) (made_so s st)

  pub lines_wrong : (((i : ℕ) → i < held → LineAt file journal marks i) → ⊥) → (s : State) → Stands (posted known) b s → ⊥
  lines_wrong other s st =
      other (λ i h.
      ap (λ (t : List ℕ). take 401 (drop (i * 401) t)) (file_made s st)
      ∙ line_at recs (zeros (n - length (lines_of recs))) i longs (omega (arith, h, w.many)) ∙ ap line_of (w.named i h))

  pub rest_wrong : every is_zero (drop (held * 401) file) ≡ false → (s : State) → Stands (posted known) b s → ⊥
  rest_wrong e s st =
      clash (ap (λ (t : List ℕ). every is_zero (drop (held * 401) t)) (file_made s st) ∙ ap (every is_zero) (drop_at (lines_of recs) _ (held * 401) lines_are_long) ∙ zeros_pass (n - length (lines_of recs))) e

  pub journal_wrong : every is_zero (drop c.used journal) ≡ false → (s : State) → Stands (posted known) b s → ⊥
  unfolding made
  journal_wrong e s st =
      clash (ap (λ (x : Batch). every is_zero (drop x.counts.used x.journal)) (made_so s st) ∙ ap (every is_zero) (drop-append_seam (entries_of w.acts) _) ∙ zeros_pass (m - length (entries_of w.acts))) e

  -- ---- and where all is as it makes it, it stands
  module _ (same-held : held ≡ c.held) (lines : (i : ℕ) → i < held → LineAt file journal marks i) (rest : every is_zero (drop (held * 401) file) ≡ true) (behind : every is_zero (drop c.used journal) ≡ true) (within : c.used ≤ m) where
    file_is : file ≡ zero_filled n (lines_of recs)
    file_is =
        let front : take (held * 401) file ≡ lines_of recs =
        ap (λ (k : ℕ). take (k * 401) file) (sym w.many) ∙ lines_so file recs (λ i h. lines i (omega (arith, h, w.many)) ∙ ap line_of (sym (w.named i (omega (arith, h, w.many))))) in
        let size : length (drop (held * 401) file) ≡ n - length (lines_of recs) = length-drop (held * 401) file ∙ ap (λ (k : ℕ). n - k) (sym lines_are_long) in
        sym (take-append-drop (held * 401) file) ∙ (λ i. front i ++ (zeros_are (drop (held * 401) file) rest ∙ ap zeros size) i)

    used_is : c.used ≡ length (entries_of w.acts)
    used_is = sym (length-take-le c.used journal within) ∙ ap length w.front

    journal_is : journal ≡ zero_filled m (entries_of w.acts)
    journal_is =
        let size : length (drop c.used journal) ≡ m - length (entries_of w.acts) = length-drop c.used journal ∙ ap (λ (k : ℕ). m - k) used_is in
        sym (take-append-drop c.used journal) ∙ (λ i. w.front i ++ (zeros_are (drop c.used journal) behind ∙ ap zeros size) i)

    totals_are : totals_over file c.held ≡ totals_of recs
    totals_are = (λ i. totals_over (file_is i) ((sym same-held ∙ sym w.many) i)) ∙ totals_view n recs fits_so.sheet

    pub test_passes : totals_over file c.held ≡ c.totals → Found known b seen last
    unfolding made
    test_passes t = record {
      what = state w.acts;
      stands = record {
        lengths = good;
        turns = w.turns;
        is = λ i. batch_of (file_is i) (journal_is i) (counts_of ((sym t ∙ totals_are) i) ((sym same-held ∙ sym w.many) i) (used_is i));
      };
      first = w.first;
      latest = w.latest;
    }

    pub totals_wrong : (totals_over file c.held ≡ c.totals → ⊥) → (s : State) → Stands (posted known) b s → ⊥
    unfolding made
    totals_wrong other s st = other (totals_are ∙ sym (ap (λ (x : Batch). x.counts.totals) (made_so s st)))

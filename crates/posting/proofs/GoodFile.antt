-- An accepted file is a good one: its records, each with its line end, are the file; each breaks no rule, no two have the same identifier, all that name a
-- consignor name the same, and the answer has the totals over them. And a file that is made of such records is accepted.
-- Assumes nothing.
use Prim.Native.Nat.{ℕ, zero, suc, ◌+◌, ◌*◌, ◌<◌}
use mathlib.Core.Path.{◌≡◌, refl, sym, ap, ◌∙◌}
use mathlib.Core.Bool.{true, false, cond}
use mathlib.Core.List.{List, [], ◌∷◌, ◌++◌, map, append-nil}
use mathlib.Core.Logic.{◌↔◌}
use native.Mathlib.Omega.{arith}
use lib.ListN.{length, get_or, length-append}
use Rattle.text.proofs.Booleans.{clash}
use Rattle.text.specs.Lists.{joined}
use Rattle.psc.specs.Table.{Known}
use Rattle.layout.specs.Layout.{field_of}
use Rattle.fields.specs.declared.others.StatusReading.{StatusReading}
use Rattle.fields.specs.declared.others.StatusReading.TheVariants as Status
use Rattle.fields.specs.Others.{read_status}
use Rattle.fields.specs.Amounts.{malformed_money}
use Rattle.record.specs.Readings.{malformed_status}
use Rattle.record.specs.Rules.{in_file, table}
use Rattle.record.specs.Outcomes.{none_broken}
use Rattle.record.proofs.Order.{accepted_exactly as record-accepted-exactly}
use Rattle.record.proofs.Status.{none_malformed}
use Rattle.record.specs.Consignors.{OneConsignor}
use Rattle.record.proofs.Consignors.{one_by_pairs}
use Rattle.posting.specs.declared.FileAnswer.{FileAnswer}
use Rattle.posting.specs.File.{up_to, records, line_of, record_at, id_at, line_answer, passed, totals_over, records_in, file_answer}
use Rattle.posting.specs.Outcomes.{RightLine, no_break, AllRight}
use Rattle.posting.specs.Records.{line_at, lines, lines_of, Readable, GoodFile, GoodRecords, MadeOfGood}
use Rattle.posting.specs.Sums.{kept, is_live, is_cancelled, live, cancelled, totals_of}
use Rattle.posting.proofs.Lines.{line_right_exactly}
use Rattle.posting.proofs.FirstBreak.{outcome_exactly, accepted_exactly}
use Rattle.posting.proofs.RecordList.{kept_last, length_up_to, up_to_nth, totals_are_sums, record_wide, id_is, line_is, records_tile}
use Rattle.posting.proofs.PrintedLines.{all_lines_long, record_there, id_there, ended_there, totals_there}

-- ---- what the totals read of a record that keeps the table is well-formed
pub readable : (known : Known) (rec : List ℕ) → none_broken (table (in_file known) rec) ≡ true → Readable rec
readable known rec h = record {
  status = λ e. clash (ap (malformed_status false) e) (none_malformed (in_file known) rec h 17);
  cash = λ e. clash (ap malformed_money e) (none_malformed (in_file known) rec h 14);
  price = λ e. clash (ap malformed_money e) (none_malformed (in_file known) rec h 15);
}

-- ---- rows that are alike
up_to_same : {A : Type 0} (f g : ℕ → A) (n : ℕ) → ((i : ℕ) → i < n → f i ≡ g i) → up_to f n ≡ up_to g n
unfolding up_to
up_to_same f g zero h = refl
up_to_same f g (suc n) h = rw (up_to_same f g n (λ i l. h i (omega arith)), h n (omega arith))

map_last : {A B : Type 0} (h : A → B) (xs : List A) (x : A) → map h (xs ++ x ∷ []) ≡ map h xs ++ h x ∷ []
map_last h [] x = refl
map_last h (y ∷ xs) x = rw (map_last h xs x)

map_up_to : {A B : Type 0} (h : A → B) (f : ℕ → A) (n : ℕ) → map h (up_to f n) ≡ up_to (λ i. h (f i)) n
unfolding up_to
map_up_to h f zero = refl
map_up_to h f (suc n) = rw (map_last h (up_to f n) (f n), map_up_to h f n)

-- ---- each record with a good status is counted once
each_counted : (f : ℕ → List ℕ) (n : ℕ) → ((i : ℕ) → i < n → read_status (field_of (f i) 19) ≡ Status.Malformed → ⊥) → length (live (up_to f n)) + length (cancelled (up_to f n)) ≡ n
unfolding up_to kept
each_counted f zero h = refl
each_counted f (suc n) h =
    rw (kept_last (λ r. is_live (read_status (field_of r 19))) (up_to f n) (f n), kept_last (λ r. is_cancelled (read_status (field_of r 19))) (up_to f n) (f n))
    (go (live (up_to f n)) (cancelled (up_to f n)) (read_status (field_of (f n) 19)) (h n (omega arith)) (each_counted f n (λ i l. h i (omega arith))))
  where
    go : (l c : List (List ℕ)) (s : StatusReading) → (s ≡ Status.Malformed → ⊥) → length l + length c ≡ n
        → length (l ++ cond (is_live s) (f n ∷ []) []) + length (c ++ cond (is_cancelled s) (f n ∷ []) []) ≡ suc n
    go l c Status.Live m e = simp length-append (omega arith)
    go l c Status.Cancelled m e = simp length-append (omega arith)
    go l c Status.Malformed m e = absurd (m refl)

-- ---- a file that is accepted
module _ (known : Known) (file : List ℕ) (z : (file_answer known file).code ≡ 0) where
  all_right : AllRight known file
  all_right = (accepted_exactly known file).0 z

  whole : length file ≡ records_in file * 401
  whole = omega (arith, all_right.multiple)

  wide_there : (i : ℕ) → i < records_in file → length (record_at file i) ≡ 399
  wide_there i h = record_wide file i (omega (arith, whole))

  keeps_there : (i : ℕ) → i < records_in file → none_broken (table (in_file known) (record_at file i)) ≡ true
  keeps_there i h = (record-accepted-exactly (in_file known) (record_at file i) (wide_there i h)).0 (all_right.lines i h).table

  lines_end : (i : ℕ) → i < records_in file → line_at file i ≡ line_of (record_at file i)
  lines_end i h = let e = (all_right.lines i h).ended in line_is file i (omega (arith, whole)) ∙ rw (e.return, e.feed)

  ends : map line_of (records file (records_in file)) ≡ lines file (records_in file)
  ends =
      map_up_to line_of (record_at file) (records_in file)
      ∙ sym (up_to_same (line_at file) (λ i. line_of (record_at file i)) (records_in file) lines_end)

  one_there : OneConsignor (records file (records_in file))
  one_there =
      let n = records_in file in
      let nth : (i : ℕ) → i < n → get_or (records file n) i [] ≡ record_at file i = λ i h. up_to_nth (record_at file) n i [] h in
      one_by_pairs (records file n) (λ i j h l a.
      let within : j < n = rw (length_up_to (record_at file) n) at l in
      (all_right.lines j within).same i h (rw (nth i (omega arith), nth j within) at a))

  passes : file_answer known file ≡ passed (totals_over file (records_in file))
  passes =
      let a = all_right in
      sym ((outcome_exactly known file _).0 (no_break a.multiple a.few (λ i h. (line_right_exactly known file i).1 (a.lines i h)) refl))

  pub good_file : GoodFile known file (records_in file)
  good_file = record {
    bytes = sym (ap joined ends ∙ (records_tile file (records_in file) whole).together);
    wide = wide_there;
    keeps = keeps_there;
    apart = λ i j h l e. (all_right.lines j l).fresh i h e;
    one = one_there;
    reads = λ i h. readable known (record_at file i) (keeps_there i h);
    counts = each_counted (record_at file) (records_in file) (λ i h. (readable known (record_at file i) (keeps_there i h)).status);
    answers = passes ∙ ap passed (totals_are_sums file (records_in file));
  }

-- ---- records that make a good file
module _ {known : Known} (recs : List (List ℕ)) (g : GoodRecords known recs) where
  -- the file, with nothing behind it
  abbrev whole_file : List ℕ
  whole_file = lines_of recs ++ []

  right_there : (i : ℕ) → i < length recs → RightLine known whole_file i
  right_there i h = record {
    ended = ended_there recs [] i g.wide h;
    table = rw (record_there recs [] i g.wide h) ((record-accepted-exactly (in_file known) (get_or recs i []) (g.wide i h)).1 (g.keeps i h));
    fresh = λ j l e. g.apart j i l h (sym (id_there recs [] j g.wide (omega arith)) ∙ e ∙ id_there recs [] i g.wide h);
    same = λ j l a. g.one.same j i (rw (record_there recs [] j g.wide (omega arith), record_there recs [] i g.wide h) at a);
  }

  pub file_passes : file_answer known (lines_of recs) ≡ passed (totals_of recs)
  file_passes =
      let long : length whole_file ≡ length recs * 401 = omega (arith, length-append (lines_of recs) [], all_lines_long recs g.wide) in
      let many : records_in whole_file ≡ length recs = omega arith in
      let right : (i : ℕ) → i < records_in whole_file → (line_answer known whole_file i).code ≡ 0 = λ i h. (line_right_exactly known whole_file i).1 (right_there i (omega arith)) in
      let counts : totals_of recs ≡ totals_over whole_file (records_in whole_file) = rw many (sym (totals_there recs [] g.wide)) in
      ap (file_answer known) (sym (append-nil (lines_of recs)))
      ∙ sym ((outcome_exactly known whole_file (passed (totals_of recs))).0 (no_break (omega arith) (omega (arith, g.few)) right (ap passed counts)))

-- ---- so a file is accepted exactly if it is made of such records
pub made_exactly : (known : Known) (file : List ℕ) → ((file_answer known file).code ≡ 0) ↔ MadeOfGood known file
made_exactly known file = (made, λ m. ap (λ (f : List ℕ). (file_answer known f).code) m.bytes ∙ ap (λ (a : FileAnswer). a.code) (file_passes m.recs m.good))
  where
    n : ℕ
    n = records_in file

    made : (file_answer known file).code ≡ 0 → MadeOfGood known file
    made z =
        let good = good_file known file z in
        let long : length file ≡ n * 401 = whole known file z in
        let many = length_up_to (record_at file) n in
        let nth : (i : ℕ) → i < n → get_or (records file n) i [] ≡ record_at file i = λ i h. up_to_nth (record_at file) n i [] h in
        let id : (i : ℕ) → i < n → field_of (get_or (records file n) i []) 1 ≡ id_at file i = λ i h. ap (λ (r : List ℕ). field_of r 1) (nth i h) ∙ sym (id_is file i (omega arith)) in
        record {
          recs = records file n;
          good = record {
            few = omega (arith, (all_right known file z).few);
            wide = λ i h. ap length (nth i (omega arith)) ∙ good.wide i (omega arith);
            keeps = λ i h. ap (λ (r : List ℕ). none_broken (table (in_file known) r)) (nth i (omega arith)) ∙ good.keeps i (omega arith);
            one = good.one;
            apart = λ i j l h e. good.apart i j l (omega arith) (sym (id i (omega arith)) ∙ e ∙ id j (omega arith));
          };
          bytes = good.bytes;
        }

-- In a record that keeps the table and has a main identifier the serial is at least 01, and not above the number of pieces. So it is in every set of an
-- accepted file.
-- Assumes nothing.
use Prim.Native.Nat.{ℕ, zero, suc, ◌≤◌, ◌<◌}
use mathlib.Core.Path.{◌≡◌, refl, sym, ap, ◌∙◌}
use mathlib.Core.Bool.{Bool, true, false, cond, not, ◌&&◌, ◌||◌, not-not}
use mathlib.Core.List.{List, [], ◌∷◌}
use native.Mathlib.Omega.{arith}
use borrow.Author.Tests.{ltb-false}
use lib.Dec.{eqb, ltb}
use lib.ListN.{length, get_or}
use Rattle.text.specs.Bytes.{is_blank}
use Rattle.text.specs.Lists.{same_bytes}
use Rattle.text.proofs.Booleans.{clash}
use Rattle.text.proofs.Lists.{same_exactly}
use Rattle.ident.specs.Identifier.{right_id}
use Rattle.ident.specs.Calls.{parts_of}
use Rattle.layout.specs.Layout.{field_of}
use Rattle.fields.specs.declared.reading.Reading.TheVariants as Reading
use Rattle.fields.specs.Readings.{NumberReading}
use Rattle.fields.specs.Numbers.{read_count, malformed_number, absent_number, number_in}
use Rattle.fields.specs.Others.{read_status, read_main, malformed_main, absent_main}
use Rattle.fields.specs.Services.{services_in}
use Rattle.fields.proofs.ByteLaws.{spaces_blank}
use Rattle.fields.proofs.FrameLaws.{Way, way, blank, valued, neither}
use Rattle.fields.proofs.NumberLaws.{count_exactly}
use Rattle.psc.specs.Table.{Known, holds}
use Rattle.record.specs.declared.rules.Travel.{Travel}
use Rattle.record.specs.Table.{Case, Rule, at, rule, any_case, broken}
use Rattle.record.specs.Readings.{goods_of, piece_of}
use Rattle.record.specs.Rules.{in_file, asked_of, travel_of, table}
use Rattle.record.specs.Outcomes.{none_broken}
use Rattle.record.proofs.Status.{none_malformed}
use Rattle.posting.specs.File.{record_at, records_in, file_check}
use Rattle.posting.specs.Sums.{kept, is_live, live}
use Rattle.posting.proofs.RecordList.{length_up_to, up_to_nth}
use Rattle.posting.proofs.GoodFile.{good_file}
use Rattle.posting.proofs.Codes.{accepted_by}
use Rattle.closing.specs.Sets.{main_of, serial_of, pieces_of, set_under}
use Rattle.closing.specs.Closing.{records_of}
use Rattle.closing.specs.Outcomes.{Numbered}

-- ---- where no rule is broken, no case of any rule holds
no_case_lem : (ks : List Case) (k : ℕ) → any_case ks ≡ false → (get_or ks k (at 0 false)).when ≡ false
no_case_lem [] k h = refl
no_case_lem (c ∷ ks) k h = go c.when refl k h (no_case_lem ks)
  where
    go : (t : Bool) → c.when ≡ t → (k : ℕ) → (t || any_case ks) ≡ false → ((k : ℕ) → any_case ks ≡ false → (get_or ks k (at 0 false)).when ≡ false)
        → (get_or (c ∷ ks) k (at 0 false)).when ≡ false
    go true e k h later = absurd (clash refl h)
    go false e zero h later = e
    go false e (suc k) h later = later k h

-- the rule of a table that has this code
coded_rule : ℕ → List Rule → Rule
coded_rule c [] = rule c []
coded_rule c (r ∷ rs) = cond (eqb r.code c) r (coded_rule c rs)

rule_kept : (c : ℕ) (rs : List Rule) → none_broken rs ≡ true → broken (coded_rule c rs) ≡ false
unfolding none_broken coded_rule
rule_kept c [] h = refl
rule_kept c (r ∷ rs) h = go (broken r) refl (eqb r.code c) h (rule_kept c rs)
  where
    go : (t : Bool) → broken r ≡ t → (u : Bool) → cond t false (none_broken rs) ≡ true → (none_broken rs ≡ true → broken (coded_rule c rs) ≡ false)
        → broken (cond u r (coded_rule c rs)) ≡ false
    go true e u h later = absurd (clash h refl)
    go false e true h later = e
    go false e false h later = later h

-- ---- a main identifier that is filled is read
main_filled : (f : List ℕ) → is_blank f ≡ false → malformed_main (read_main f) ≡ false → absent_main (read_main f) ≡ false
main_filled f filled good = go (way Reading.Absent Reading.Malformed 13 f (right_id f) (Reading.Value (parts_of f)))
  where
    go : Way Reading.Absent Reading.Malformed 13 f (right_id f) (Reading.Value (parts_of f)) (read_main f) → absent_main (read_main f) ≡ false
    go (blank e s) = absurd (clash (ap is_blank s ∙ spaces_blank 13) filled)
    go (valued e p) = ap absent_main e
    go (neither e) = absurd (clash (ap malformed_main e) good)

-- a count that is filled is at least 01
count_low : (f : List ℕ) → malformed_number (read_count f) ≡ false → absent_number (read_count f) ≡ false → 1 ≤ number_in (read_count f)
count_low f good there = go (read_count f) refl good there
  where
    go : (n : NumberReading) → read_count f ≡ n → malformed_number n ≡ false → absent_number n ≡ false → 1 ≤ number_in n
    go Reading.Absent e g t = absurd (clash refl t)
    go (Reading.Value v) e g t = ((count_exactly f v).0 e).least
    go Reading.Malformed e g t = absurd (clash refl g)

-- ---- the rule on pieces that travel together
asked_for : (s b : Bool) → (s && b) ≡ false → s ≡ true → b ≡ false
asked_for true b h e = h
asked_for false b h e = absurd (clash e refl)

needs_service : (s b : Bool) → (not s && b) ≡ false → b ≡ true → s ≡ true
needs_service true b h e = refl
needs_service false b h e = absurd (clash e h)

module _ (known : Known) (rec : List ℕ) (keeps : none_broken (table (in_file known) rec) ≡ true) where
  abbrev service : Bool
  service = (asked_of (services_in (goods_of rec).services)).service70

  abbrev travel : Travel
  travel = travel_of rec (piece_of rec)

  set_rule : (k : ℕ) → (get_or (coded_rule 72 (table (in_file known) rec)).cases k (at 0 false)).when ≡ false
  set_rule k = no_case_lem (coded_rule 72 (table (in_file known) rec)).cases k (rule_kept 72 (table (in_file known) rec) keeps)

  pub numbered : is_blank (main_of rec) ≡ false → (1 ≤ serial_of rec) × (serial_of rec ≤ pieces_of rec)
  unfolding table travel_of coded_rule
  numbered filled =
      let main : not (absent_main (read_main (main_of rec))) ≡ true = ap not (main_filled (main_of rec) filled (none_malformed (in_file known) rec keeps 20)) in
      let asked : service ≡ true = needs_service service _ (set_rule 6) main in
      let serial : absent_number (read_count (field_of rec 23)) ≡ false = sym (not-not _) ∙ asked_for service _ (set_rule 2) asked in
      let above : ltb (pieces_of rec) (serial_of rec) ≡ false = asked_for service _ (set_rule 4) asked in
      (count_low (field_of rec 23) (none_malformed (in_file known) rec keeps 21) serial, ltb-false (pieces_of rec) (serial_of rec) above)

-- ---- one of those that a test keeps is one of the list, and passes the test
pub record OneOf {A : Type 0} (p : A → Bool) (xs : List A) (d x : A) : Type 0 where
  pub at : ℕ
  pub inside : at < length xs
  pub there : get_or xs at d ≡ x
  pub passes : p x ≡ true

pub kept_one_of : {A : Type 0} (p : A → Bool) (xs : List A) (d : A) (i : ℕ) → i < length (kept p xs) → OneOf p xs d (get_or (kept p xs) i d)
unfolding kept
kept_one_of p [] d i h = absurd (omega arith)
kept_one_of {A} p (x ∷ xs) d i h = go (p x) refl i h (kept_one_of p xs d)
  where
    later : {y : A} → OneOf p xs d y → OneOf p (x ∷ xs) d y
    later f = record { at = suc f.at; inside = omega (arith, f.inside); there = f.there; passes = f.passes }

    go : (t : Bool) → p x ≡ t → (i : ℕ) → i < length (cond t (x ∷ kept p xs) (kept p xs)) → ((i : ℕ) → i < length (kept p xs) → OneOf p xs d (get_or (kept p xs) i d))
        → OneOf p (x ∷ xs) d (get_or (cond t (x ∷ kept p xs) (kept p xs)) i d)
    go true e zero l ih = record { at = 0; inside = omega arith; there = refl; passes = e }
    go true e (suc i) l ih = later (ih i (omega arith))
    go false e i l ih = later (ih i l)

-- ---- every set of an accepted file
pub set_numbered : (psc file : List ℕ) (z : (file_check psc file).code ≡ 0) (main : List ℕ) → is_blank main ≡ false → Numbered (set_under (records_of file) main)
unfolding set_under
set_numbered psc file z main filled i h =
    let good = good_file (holds psc) file (accepted_by psc file z) in
    let n : ℕ = records_in file in
    let a = kept_one_of (λ rec. same_bytes (main_of rec) main) (live (records_of file)) [] i h in
    let rec : List ℕ = get_or (kept (λ rec. same_bytes (main_of rec) main) (live (records_of file))) i [] in
    let b = kept_one_of (λ rec. is_live (read_status (field_of rec 19))) (records_of file) [] a.at a.inside in
    let inside : b.at < n = omega (arith, b.inside, length_up_to (record_at file) n) in
    let is : rec ≡ record_at file b.at = sym a.there ∙ sym b.there ∙ up_to_nth (record_at file) n b.at [] inside in
    let its : main_of rec ≡ main = (same_exactly (main_of rec) main).0 a.passes in
    numbered (holds psc) rec (ap (λ (r : List ℕ). none_broken (table (in_file (holds psc)) r)) is ∙ good.keeps b.at inside) (ap is_blank its ∙ filled)

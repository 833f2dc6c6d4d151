-- The status of a record, field 19: a record that may be posted has a blank one and keeps the file's table too; setting it to "0 " changes no other
-- field and keeps the table kept.
-- Assumes nothing.
use Prim.Native.Nat.{ℕ, zero, suc, ◌+◌, ◌-◌, ◌≤◌, ◌<◌}
use mathlib.Core.Path.{◌≡◌, refl, sym, ap, ◌∙◌}
use mathlib.Core.Bool.{Bool, true, false, cond, ◌&&◌}
use mathlib.Core.List.{List, [], ◌∷◌}
use native.Mathlib.Omega.{arith}
use borrow.Author.Tests.{eq-eqb, eqb-true, eqb-false, ltb-true, ltb-false}
use lib.Dec.{eqb, ltb}
use lib.ListN.{length, get_or, take, drop, set, length-set}
use lib.Seq.{take-set-le, drop-set-lt, drop-set-add, drop-cons, get_or-set_same, get_or-set_other}
use Rattle.psc.specs.Table.{Known}
use Rattle.layout.specs.Widths.{start, cut}
use Rattle.layout.specs.Layout.{widths, is_field, field_of}
use Rattle.layout.proofs.Tiling.{no_overlap}
use Rattle.layout.proofs.Fields.{field_range}
use Rattle.fields.specs.declared.others.StatusReading.{StatusReading}
use Rattle.fields.specs.declared.others.StatusReading.TheVariants as Status
use Rattle.fields.specs.Others.{read_status}
use Rattle.fields.proofs.OtherLaws.{live_exactly, cancelled_exactly}
use Rattle.text.specs.Answers.{answer}
use Rattle.text.proofs.Booleans.{clash, both}
use Rattle.record.specs.Table.{Rule, places_from, any_case, broken, verdict}
use Rattle.record.specs.Readings.{when_of, address_of, street_of, contact_of, goods_of, marks_of, piece_of, tail_of, malformed_status, cancelled_rec}
use Rattle.record.specs.Rules.{in_file, to_post, terms, Terms, malformed, given_of, travel_of, table, record_answer}
use Rattle.record.specs.Outcomes.{none_broken}
use Rattle.record.proofs.Order.{accepted_exactly}

-- ---- a part of a list, with one place outside it set
part_set_before : {A : Type 0} (s : List A) (a w i : ℕ) (v : A) → i < a → take w (drop a (set s i v)) ≡ take w (drop a s)
part_set_before s a w i v h = ap (take w) (drop-set-lt a s i v h)

part_set_behind : {A : Type 0} (s : List A) (a w i : ℕ) (v : A) → a + w ≤ i → take w (drop a (set s i v)) ≡ take w (drop a s)
part_set_behind s a w i v h =
    let there : a + (i - a) ≡ i = omega arith in
    let shifted : drop a (set s i v) ≡ set (drop a s) (i - a) v = rw there at (drop-set-add a s (i - a) v) in
    ap (take w) shifted ∙ take-set-le w (drop a s) (i - a) v (omega arith)

-- ---- a record with its status set to "0 "
pub cancelled_rec_long : (rec : List ℕ) → length (cancelled_rec rec) ≡ length rec
cancelled_rec_long rec = length-set (set rec 340 48) 341 32 ∙ length-set rec 340 48

-- a field that ends before the status, and one that starts behind it
cut_before : (rec : List ℕ) (k : ℕ) → k < 18 → cut widths (cancelled_rec rec) k ≡ cut widths rec k
cut_before rec k h =
    let ends = no_overlap widths k 18 h (omega arith) in
    part_set_behind (set rec 340 48) (start widths k) (get_or widths k 0) 341 32 (omega arith)
    ∙ part_set_behind rec (start widths k) (get_or widths k 0) 340 48 (omega arith)

cut_behind : (rec : List ℕ) (k : ℕ) → 18 < k → k < 26 → cut widths (cancelled_rec rec) k ≡ cut widths rec k
cut_behind rec k h g =
    let starts = no_overlap widths 18 k h g in
    part_set_before (set rec 340 48) (start widths k) (get_or widths k 0) 341 32 (omega arith)
    ∙ part_set_before rec (start widths k) (get_or widths k 0) 340 48 (omega arith)

-- every other field stays
pub cancelled_rec_others : (rec : List ℕ) (n : ℕ) → (n ≡ 19 → ⊥) → field_of (cancelled_rec rec) n ≡ field_of rec n
unfolding field_of
cancelled_rec_others rec n other = rw (cancelled_rec_long rec) (go (eqb (length rec) 399 && is_field n) refl)
  where
    there : (b : Bool) → ltb n 19 ≡ b → is_field n ≡ true → cut widths (cancelled_rec rec) (n - 1) ≡ cut widths rec (n - 1)
    there b e f = let range = field_range n f in by b e range.0 range.1
      where
        by : (b : Bool) → ltb n 19 ≡ b → 1 ≤ n → n ≤ 26 → cut widths (cancelled_rec rec) (n - 1) ≡ cut widths rec (n - 1)
        by true e low high = let l = ltb-true n 19 e in cut_before rec (n - 1) (omega arith)
        by false e low high = let l = ltb-false n 19 e in cut_behind rec (n - 1) (omega (arith, other)) (omega arith)

    go : (t : Bool) → eqb (length rec) 399 && is_field n ≡ t → cond t (cut widths (cancelled_rec rec) (n - 1)) [] ≡ cond t (cut widths rec (n - 1)) []
    go true e = there (ltb n 19) refl (both (eqb (length rec) 399) (is_field n) e).1
    go false e = refl

-- and the status is "0 "
pub cancelled_rec_status : (rec : List ℕ) → length rec ≡ 399 → field_of (cancelled_rec rec) 19 ≡ 48 ∷ 32 ∷ []
unfolding field_of
cancelled_rec_status rec long =
    let wide : length (cancelled_rec rec) ≡ 399 = cancelled_rec_long rec ∙ long in
    let one : length (set rec 340 48) ≡ 399 = length-set rec 340 48 ∙ long in
    let first : get_or (cancelled_rec rec) 340 0 ≡ 48 = get_or-set_other (set rec 340 48) 341 340 32 0 (λ e. omega arith) ∙ get_or-set_same rec 340 48 0 (omega arith) in
    let second : get_or (cancelled_rec rec) 341 0 ≡ 32 = get_or-set_same (set rec 340 48) 341 32 0 (omega arith) in
    let bytes : take 2 (drop 340 (cancelled_rec rec)) ≡ 48 ∷ 32 ∷ [] = rw (drop-cons (cancelled_rec rec) 340 0 (omega arith), drop-cons (cancelled_rec rec) 341 0 (omega arith), first, second) in
    rw (eq-eqb (length (cancelled_rec rec)) 399 wide) bytes

-- ---- two records that differ in the status alone, under either table
status_only : (known : Known) (p q : Bool) (rec new : List ℕ) → ((n : ℕ) → (n ≡ 19 → ⊥) → field_of new n ≡ field_of rec n)
    → malformed_status q (read_status (field_of new 19)) ≡ malformed_status p (read_status (field_of rec 19)) → none_broken (table (terms q known) new) ≡ none_broken (table (terms p known) rec)
unfolding table given_of travel_of
status_only known p q rec new same e =
    let other : (n : ℕ) → eqb n 19 ≡ false → field_of new n ≡ field_of rec n = λ n h. same n (eqb-false n 19 h) in
    rw (e, other 1 refl, other 2 refl, other 3 refl, other 4 refl, other 5 refl, other 6 refl, other 7 refl, other 8 refl, other 9 refl, other 10 refl, other 11 refl, other 12 refl, other 13 refl, other 14 refl, other 15 refl, other 16 refl, other 17 refl, other 18 refl, other 20 refl, other 21 refl, other 22 refl, other 23 refl, other 24 refl, other 25 refl, other 26 refl)

-- ---- a record that keeps a table has no malformed field, so a status that it allows
pub no_flag : (bs : List Bool) (p k : ℕ) → any_case (places_from p bs) ≡ false → get_or bs k false ≡ false
no_flag [] p k h = refl
no_flag (true ∷ bs) p k h = absurd (clash refl h)
no_flag (false ∷ bs) p zero h = refl
no_flag (false ∷ bs) p (suc k) h = no_flag bs (suc p) k h

pub second_kept : (r s : Rule) (rs : List Rule) → none_broken (r ∷ s ∷ rs) ≡ true → broken s ≡ false
unfolding none_broken
second_kept r s rs h = go (broken r) (broken s) h
  where
    go : (a b : Bool) → cond a false (cond b false (none_broken rs)) ≡ true → b ≡ false
    go true b e = absurd (clash e refl)
    go false true e = absurd (clash e refl)
    go false false e = refl

-- which of the fields 2 to 26 are malformed
abbrev pub malformed_in : Bool → List ℕ → List Bool
malformed_in to_be_posted rec = malformed to_be_posted (when_of rec) (address_of rec) (street_of rec) (contact_of rec) (goods_of rec) (marks_of rec) (piece_of rec) (tail_of rec)

pub none_malformed : (t : Terms) (rec : List ℕ) → none_broken (table t rec) ≡ true → (k : ℕ) → get_or (malformed_in t.to_be_posted rec) k false ≡ false
unfolding table
none_malformed t rec h k = no_flag (malformed_in t.to_be_posted rec) 2 k (second_kept _ _ _ h)

status_allowed : (t : Terms) (rec : List ℕ) → none_broken (table t rec) ≡ true → malformed_status t.to_be_posted (read_status (field_of rec 19)) ≡ false
status_allowed t rec h = none_malformed t rec h 17

-- ---- a record that may be posted
posting_long : (known : Known) (rec : List ℕ) → (record_answer (to_post known) rec).code ≡ 0 → length rec ≡ 399
unfolding record_answer
posting_long known rec z = go (eqb (length rec) 399) refl z
  where
    go : (t : Bool) → eqb (length rec) 399 ≡ t → (cond t (verdict (table (to_post known) rec)) (answer 236 0)).code ≡ 0 → length rec ≡ 399
    go true e z = eqb-true (length rec) 399 e
    go false e z = absurd (omega arith)

pub posting_passes : (known : Known) (rec : List ℕ) → (record_answer (to_post known) rec).code ≡ 0 → (length rec ≡ 399) × (field_of rec 19 ≡ 32 ∷ 32 ∷ []) × ((record_answer (in_file known) rec).code ≡ 0)
posting_passes known rec z =
    let long = posting_long known rec z in
    let kept = (accepted_exactly (to_post known) rec long).0 z in
    go (read_status (field_of rec 19)) refl long kept (status_allowed (to_post known) rec kept)
  where
    go : (s : StatusReading) → read_status (field_of rec 19) ≡ s → length rec ≡ 399 → none_broken (table (to_post known) rec) ≡ true → malformed_status true s ≡ false
        → (length rec ≡ 399) × (field_of rec 19 ≡ 32 ∷ 32 ∷ []) × ((record_answer (in_file known) rec).code ≡ 0)
    go Status.Live e long kept a = (
      long,
      (live_exactly (field_of rec 19)).0 e,
      (accepted_exactly (in_file known) rec long).1 (status_only known true false rec rec (λ n h. refl) (ap (malformed_status false) e ∙ sym (ap (malformed_status true) e)) ∙ kept),
    )
    go Status.Cancelled e long kept a = absurd (clash refl a)
    go Status.Malformed e long kept a = absurd (clash refl a)

-- ---- a record whose status is set to "0 "
pub cancelled_rec_passes : (known : Known) (rec : List ℕ) → length rec ≡ 399 → (record_answer (in_file known) rec).code ≡ 0 → (record_answer (in_file known) (cancelled_rec rec)).code ≡ 0
cancelled_rec_passes known rec long z =
    let kept = (accepted_exactly (in_file known) rec long).0 z in
    let status : malformed_status false (read_status (field_of (cancelled_rec rec) 19)) ≡ false = ap (malformed_status false) ((cancelled_exactly _).1 (cancelled_rec_status rec long)) in
    (accepted_exactly (in_file known) (cancelled_rec rec) (cancelled_rec_long rec ∙ long)).1
    (status_only known false false rec (cancelled_rec rec) (cancelled_rec_others rec) (status ∙ sym (status_allowed (in_file known) rec kept)) ∙ kept)

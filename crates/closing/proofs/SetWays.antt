-- The pieces of one set: how they are found by links, what looking at them says, and each way out of the functions of `sets`.
-- Assumes nothing.
use Prim.Native.Nat.{ℕ, zero, suc, ◌+◌, ◌≤◌, ◌<◌}
use Rattle.std.specs.Prelude.{Option, None, Some, is_some, unwrap_or}
use mathlib.Core.Path.{◌≡◌, refl, sym, ap, subst, ◌∙◌}
use mathlib.Core.Bool.{Bool, beq, true, false, cond, not, ◌&&◌, ◌||◌, and-true, and-false}
use mathlib.Core.List.{List, [], ◌∷◌, ◌++◌, append-nil, append_assoc}
use native.Mathlib.Numerals.{add-one}
use native.Mathlib.Omega.{arith}
use Rattle.std.specs.List.{list_any}
use Rattle.std.proofs.lemmas.List.Folds.{list_any_more}
use Rattle.std.proofs.lemmas.Grind.{get_or_after_one}
use borrow.Author.Tests.{eqb-true, eqb-false, eq-eqb, ne_eqb}
use lib.Dec.{eqb}
use lib.ListN.{length, get_or, set, replicate, get_or-replicate, length-set, take, drop, length-drop}
use lib.Seq.{get_or-set_same, get_or-set_other}
use Rattle.text.specs.Bytes.{every}
use Rattle.text.specs.Lists.{same_bytes}
use Rattle.text.proofs.Booleans.{both, clash}
use Rattle.text.proofs.Lists.{same_exactly}
use Rattle.text.proofs.Numbers.{every_append}
use Rattle.layout.specs.Layout.{field_of}
use Rattle.fields.specs.declared.reading.Reading.TheVariants.{Absent, Value, Malformed}
use Rattle.fields.specs.Readings.{NumberReading}
use Rattle.fields.specs.Texts.{contains}
use Rattle.fields.specs.Numbers.{read_count, number_in}
use Rattle.fields.specs.ServiceTexts.{all_different}
use Rattle.fields.proofs.NumberLaws.{count_exactly}
use Rattle.posting.specs.File.{up_to, records, record_at, records_in}
use Rattle.posting.specs.Sums.{kept, live}
use Rattle.posting.proofs.RecordList.{kept_last}
use Rattle.closing.specs.Sets.{main_of, count_in, pieces_of, pieces_in, set_under, serials_in, said_by, same_pieces, none_missing, offence}
use Rattle.closing.specs.Closing.{records_of}
use Rattle.closing.specs.Links.{live_at, main_at, last_live, Linked, all_marked, some_place, Judged}
use Rattle.closing.proofs.LinkWays.{Below, link_small}

-- ---- count_in
module _ (rec f : List ℕ) (n : ℕ) (reading : NumberReading) (r : ℕ) (ef : f ≡ field_of rec n) (ec : reading ≡ read_count f) (er : r ≡ number_in reading) where
  pub count_is : r ≡ count_in rec n
  count_is = er ∙ ap number_in (ec ∙ ap read_count ef)

  pub count_small : r < 100
  count_small = rw er (go reading (sym ec))
    where
      go : (x : NumberReading) → read_count f ≡ x → number_in x < 100
      go Absent e = omega arith
      go (Value v) e = omega (arith, ((count_exactly f v).0 e).most)
      go Malformed e = omega arith

-- ---- all_marked
pub marks_from : (seen : List Bool) (n : ℕ) → n < length seen → not (list_any (λ m. beq m false) (take n (drop 1 seen))) ≡ all_marked seen n
unfolding up_to
marks_from seen zero h = refl
marks_from seen (suc n) h =
    let long : n < length (drop 1 seen) = rw length-drop (omega arith) in
    let next : n + 1 ≡ suc n = add-one n in
    let behind : 1 + n ≡ suc n = omega arith in
    ap (λ (k : ℕ). not (list_any (λ m. beq m false) (take k (drop 1 seen)))) (sym next)
    ∙ ap not (list_any_more (λ m. beq m false) (drop 1 seen) n false long)
    ∙ go (list_any (λ m. beq m false) (take n (drop 1 seen))) (get_or (drop 1 seen) n false)
    ∙ rw (marks_from seen n (omega arith), get_or_after_one seen n false, behind)
    (sym (every_append (λ k. get_or seen k false) (up_to suc n) (suc n ∷ []) ∙ ap (λ (b : Bool). all_marked seen n && b) (and-true (get_or seen (suc n) false))))
  where
    go : (a m : Bool) → not (a || beq m false) ≡ (not a && m)
    go true m = refl
    go false true = refl
    go false false = refl

-- ---- the pieces of a set that were looked at: all give this number of pieces; whether a serial was there twice, and which serials are marked
pub record LookedAt (pieces : ℕ) (set' : List (List ℕ)) (twice : Bool) (seen : List Bool) : Type 0 where
  pub same : every (λ n. eqb n pieces) (pieces_in set') ≡ true
  pub once : not twice ≡ all_different (serials_in set')
  pub marked : (k : ℕ) → k < 100 → get_or seen k false ≡ contains k (serials_in set')
  pub long : length seen ≡ 100

pub looked_more : (pieces : ℕ) (twice : Bool) (seen : List Bool) (rec : List ℕ) (n serial : ℕ) → (n ≡ count_in rec 24) × (n < 100) → n ≡ pieces
    → (serial ≡ count_in rec 23) × (serial < 100) → (set' : List (List ℕ)) → LookedAt pieces set' twice seen
    → LookedAt pieces (rec ∷ set') (twice || get_or seen serial false) (set seen serial true)
unfolding all_different contains
looked_more pieces twice seen rec n serial en ep es set' known = record {
  same = rw (← en.0, ep, eq-eqb pieces pieces refl) known.same;
  once = rw (known.marked serial es.1, ← es.0) (once twice (contains serial (serials_in set')) known.once);
  marked = λ k h. rw (← es.0) (marked k h (eqb serial k) refl);
  long = length-set seen serial true ∙ known.long;
}
  where
    once : (t b : Bool) → not t ≡ all_different (serials_in set') → not (t || b) ≡ (not b && all_different (serials_in set'))
    once true true e = refl
    once true false e = e
    once false true e = refl
    once false false e = e

    marked : (k : ℕ) → k < 100 → (t : Bool) → eqb serial k ≡ t → get_or (set seen serial true) k false ≡ (t || contains k (serials_in set'))
    marked k h true e = rw (← (eqb-true serial k e)) (get_or-set_same seen serial true false (omega (arith, es.1, known.long)))
    marked k h false e =
        let other = eqb-false serial k e in
        get_or-set_other seen serial k true false (λ q. other (sym q)) ∙ known.marked k h

-- ---- the records of a set among the first n, and the last of them
abbrev pub set_to : List ℕ → List ℕ → ℕ → List (List ℕ)
set_to file main n = set_under (records file n) main

kept_one : (p : List ℕ → Bool) (xs : List (List ℕ)) (x : List ℕ) (b : Bool) → kept p (xs ++ cond b (x ∷ []) []) ≡ kept p xs ++ cond (b && p x) (x ∷ []) []
kept_one p xs x true = kept_last p xs x
kept_one p xs x false = ap (kept p) (append-nil xs) ∙ sym (append-nil (kept p xs))

set_last : (file main : List ℕ) (n : ℕ) → set_to file main (suc n) ≡ set_to file main n ++ cond (live_at file n && same_bytes (main_at file n) main) (record_at file n ∷ []) []
unfolding set_under up_to
set_last file main n =
    ap (kept (λ r. same_bytes (main_of r) main)) (kept_last _ (records file n) (record_at file n))
    ∙ kept_one (λ r. same_bytes (main_of r) main) (live (records file n)) (record_at file n) (live_at file n)

-- a place is there, or none
pub not_none : (i : ℕ) → None ≡ Some i → ⊥
not_none i e = clash {b = is_some (Some i)} refl (sym (ap is_some e))

pub same_place : (i j : ℕ) → Some i ≡ Some j → i ≡ j
same_place i j e = ap (λ (at : Option ℕ). unwrap_or at 0) e

-- none is live under that main identifier
pub set_none : (file main : List ℕ) (n : ℕ) → last_live file main n ≡ None → set_to file main n ≡ []
unfolding last_live set_under up_to kept
set_none file main zero e = refl
set_none file main (suc n) e = set_last file main n ∙ go (live_at file n && same_bytes (main_at file n) main) e (set_none file main n)
  where
    go : (t : Bool) → cond t (Some n) (last_live file main n) ≡ None → (last_live file main n ≡ None → set_to file main n ≡ [])
        → set_to file main n ++ cond t (record_at file n ∷ []) [] ≡ []
    go true z before = absurd (not_none n (sym z))
    go false z before = append-nil (set_to file main n) ∙ before z

-- record i is the last
pub record LastOf (file main : List ℕ) (n i : ℕ) : Type 0 where
  pub inside : i < n
  pub alive : live_at file i ≡ true
  pub under : main_at file i ≡ main
  pub splits : set_to file main n ≡ set_to file main i ++ record_at file i ∷ []

pub set_some : (file main : List ℕ) (n i : ℕ) → last_live file main n ≡ Some i → LastOf file main n i
unfolding last_live
set_some file main zero i e = absurd (not_none i e)
set_some file main (suc n) i e = go (live_at file n && same_bytes (main_at file n) main) refl e (set_some file main n i)
  where
    go : (t : Bool) → (live_at file n && same_bytes (main_at file n) main) ≡ t → cond t (Some n) (last_live file main n) ≡ Some i
        → (last_live file main n ≡ Some i → LastOf file main n i) → LastOf file main (suc n) i
    go true s z before =
        let same = same_place n i z in
        rw (← same)
        record {
          inside = omega arith;
          alive = (both (live_at file n) _ s).0;
          under = (same_exactly (main_at file n) main).0 (both (live_at file n) _ s).1;
          splits = set_last file main n ∙ rw s;
        }
    go false s z before =
        let known = before z in
        record { inside = omega (arith, known.inside); alive = known.alive; under = known.under; splits = set_last file main n ∙ rw s (append-nil (set_to file main n) ∙ known.splits) }

-- the records of a set among the first k come first
pub record Begins (front whole : List (List ℕ)) : Type 0 where
  pub rest : List (List ℕ)
  pub splits : whole ≡ front ++ rest

pub set_front : (file main : List ℕ) (k n : ℕ) → k ≤ n → Begins (set_to file main k) (set_to file main n)
set_front file main k zero h = let e : k ≡ 0 = omega arith in rw e record { rest = []; splits = sym (append-nil (set_to file main 0)) }
set_front file main k (suc n) h = go (eqb k (suc n)) refl (set_front file main k n)
  where
    go : (t : Bool) → eqb k (suc n) ≡ t → (k ≤ n → Begins (set_to file main k) (set_to file main n)) → Begins (set_to file main k) (set_to file main (suc n))
    go true e before = rw (eqb-true k (suc n) e) record { rest = []; splits = sym (append-nil (set_to file main (suc n))) }
    go false e before =
        let other = eqb-false k (suc n) e in
        let known = before (omega arith) in
        let last = cond (live_at file n && same_bytes (main_at file n) main) (record_at file n ∷ []) [] in
        record {
          rest = known.rest ++ last;
          splits = set_last file main n ∙ ap (λ (s : List (List ℕ)). s ++ last) known.splits ∙ append_assoc (set_to file main k) known.rest last;
        }

-- the first record of a set says how many pieces it has
pub first_says : (file main : List ℕ) (n i : ℕ) → i < n → last_live file main i ≡ None → live_at file i ≡ true → main_at file i ≡ main → said_by (set_to file main n) ≡ pieces_of (record_at file i)
first_says file main n i h none alive under =
    let known = set_front file main (suc i) n (omega arith) in
    let one : set_to file main (suc i) ≡ record_at file i ∷ [] =
    set_last file main i ∙ rw (set_none file main i none, alive, (same_exactly (main_at file i) main).1 under) in
    rw (known.splits, one)

-- ---- offence: the records of a set from place `upto` on were looked at
pub record Looking (file main : List ℕ) (pieces : ℕ) (at : Option ℕ) (twice : Bool) (seen : List Bool) : Type 0 where
  pub upto : ℕ
  pub most : upto ≤ records_in file
  pub left : at ≡ last_live file main upto
  pub seen_before : List (List ℕ)
  pub splits : set_under (records_of file) main ≡ set_to file main upto ++ seen_before
  pub looked : LookedAt pieces seen_before twice seen

-- whatever the main identifier is of which `last` is the last live record
abbrev pub LookingFrom : List ℕ → Option ℕ → ℕ → Option ℕ → Bool → List Bool → Type 0
LookingFrom file last pieces at twice seen = (main : List ℕ) → last ≡ last_live file main (records_in file) → Looking file main pieces at twice seen

pub look_start : (file : List ℕ) (last : Option ℕ) (pieces : ℕ) → LookingFrom file last pieces last false (replicate 100 false)
unfolding all_different contains
look_start file last pieces main e = record {
  upto = records_in file;
  most = omega arith;
  left = e;
  seen_before = [];
  splits = sym (append-nil (set_under (records_of file) main));
  looked = record { same = refl; once = refl; marked = λ k h. get_or-replicate 100 k false false h; long = refl };
}

-- the set, where record i is the next one
record Here (file main : List ℕ) (i pieces : ℕ) (twice : Bool) (seen : List Bool) : Type 0 where
  inside : i < records_in file
  under : main_at file i ≡ main
  later : List (List ℕ)
  splits : set_under (records_of file) main ≡ set_to file main i ++ record_at file i ∷ later
  looked : LookedAt pieces later twice seen

module _ (file : List ℕ) (last : Option ℕ) (pieces : ℕ) (at : Option ℕ) (twice : Bool) (seen : List Bool) (known : LookingFrom file last pieces at twice seen) (i : ℕ) (ea : at ≡ Some i) where
  here : (main : List ℕ) → last ≡ last_live file main (records_in file) → Here file main i pieces twice seen
  here main e =
      let before = known main e in
      let last = set_some file main before.upto i (sym before.left ∙ ea) in
      record {
        inside = omega (arith, last.inside, before.most);
        under = last.under;
        later = before.seen_before;
        splits = before.splits ∙ ap (λ (s : List (List ℕ)). s ++ before.seen_before) last.splits ∙ append_assoc (set_to file main i) (record_at file i ∷ []) before.seen_before;
        looked = before.looked;
      }

  module _ (rec : List ℕ) (er : rec ≡ record_at file i) (n : ℕ) (en : (n ≡ count_in rec 24) × (n < 100)) where
    pub look_on : n ≡ pieces → (serial : ℕ) → (serial ≡ count_in rec 23) × (serial < 100) → (links : List (Option ℕ)) → Linked file (records_in file) links
        → LookingFrom file last pieces (get_or links i None) (twice || get_or seen serial false) (set seen serial true)
    look_on ep serial es links linked main e =
        let h = here main e in
        record {
          upto = i;
          most = omega (arith, h.inside);
          left = linked.each i h.inside ∙ ap (λ (m : List ℕ). last_live file m i) h.under;
          seen_before = record_at file i ∷ h.later;
          splits = h.splits;
          looked = rw er at (looked_more pieces twice seen rec n serial en ep es h.later h.looked);
        }

    -- it gives another number of pieces
    pub out_unequal : (n ≡ pieces → ⊥) → Judged file last pieces (Some 24)
    unfolding offence same_pieces
    out_unequal other = record {
      each = λ main e p.
          let h = here main e in
          let unequal : same_pieces (set_under (records_of file) main) ≡ false =
          rw (p, h.splits) (every_map_append (set_to file main i) (record_at file i ∷ h.later)
          (rw (← er, ← en.0, ne_eqb n pieces other) refl)) in
          rw unequal;
    }
      where
        every_map_append : (xs ys : List (List ℕ)) → every (λ k. eqb k pieces) (pieces_in ys) ≡ false → every (λ k. eqb k pieces) (pieces_in (xs ++ ys)) ≡ false
        every_map_append [] ys f = f
        every_map_append (x ∷ xs) ys f = rw (every_map_append xs ys f) (and-false (eqb (pieces_of x) pieces))

-- all were looked at
module _ (file : List ℕ) (last : Option ℕ) (pieces : ℕ) (at : Option ℕ) (twice : Bool) (seen : List Bool) (known : LookingFrom file last pieces at twice seen) (ea : at ≡ None) where
  pub whole_looked : (main : List ℕ) → last ≡ last_live file main (records_in file) → LookedAt pieces (set_under (records_of file) main) twice seen
  whole_looked main e =
      let before = known main e in
      rw (before.splits ∙ ap (λ (s : List (List ℕ)). s ++ before.seen_before) (set_none file main before.upto (sym before.left ∙ ea))) before.looked

  same_is : (main : List ℕ) → last ≡ last_live file main (records_in file) → said_by (set_under (records_of file) main) ≡ pieces → same_pieces (set_under (records_of file) main) ≡ true
  unfolding same_pieces
  same_is main e p = rw p (whole_looked main e).same

  pub out_repeated : twice ≡ true → Judged file last pieces (Some 23)
  unfolding offence
  out_repeated t = record { each = λ main e p. rw (same_is main e p, ← (whole_looked main e).once, t) }

  module _ (t : twice ≡ false) (small : pieces < 100) (b : Bool) (eb : b ≡ all_marked seen pieces) where
    all_is : (main : List ℕ) → last ≡ last_live file main (records_in file) → said_by (set_under (records_of file) main) ≡ pieces → none_missing (set_under (records_of file) main) ≡ b
    unfolding none_missing up_to
    all_is main e p = rw p (sym (eb ∙ go pieces small))
      where
        go : (n : ℕ) → n < 100 → all_marked seen n ≡ every (λ k. contains k (serials_in (set_under (records_of file) main))) (up_to suc n)
        go zero h = refl
        go (suc n) h =
            every_append (λ k. get_or seen k false) (up_to suc n) (suc n ∷ [])
            ∙ rw (go n (omega arith), (whole_looked main e).marked (suc n) h) (sym (every_append (λ k. contains k (serials_in (set_under (records_of file) main))) (up_to suc n) (suc n ∷ [])))

    last_test : (place : ℕ) → place ≡ cond b 0 22 → Judged file last pieces (some_place place)
    unfolding offence
    last_test place ep = record { each = λ main e p. rw (ep, same_is main e p, ← (whole_looked main e).once, t, all_is main e p) }

    pub out_missing : b ≡ false → Judged file last pieces (Some 22)
    out_missing n = last_test 22 (rw n)

    pub out_whole : b ≡ true → Judged file last pieces None
    out_whole n = last_test 0 (rw n)

-- the record, and the link of each
pub here_inside : (n : ℕ) (at : Option ℕ) (i : ℕ) → Below n at → at ≡ Some i → i < n
here_inside n at i low e = let l : Below n (Some i) = subst (Below n) e low in l

pub next_inside : (file : List ℕ) (links : List (Option ℕ)) (i : ℕ) → Linked file (records_in file) links → i < records_in file → Below (records_in file) (get_or links i None)
next_inside file links i linked h = go (get_or links i None) (link_small file links (records_in file) i linked h)
  where
    go : (at : Option ℕ) → Below i at → Below (records_in file) at
    go None l = tt
    go (Some j) l = omega arith

-- how far a walk has to go at most
abbrev pub steps : Option ℕ → ℕ
steps None = 0
steps (Some i) = suc i

pub next_less : (file : List ℕ) (links : List (Option ℕ)) (i : ℕ) → Linked file (records_in file) links → i < records_in file → steps (get_or links i None) < suc i
next_less file links i linked h = go (get_or links i None) (link_small file links (records_in file) i linked h)
  where
    go : (at : Option ℕ) → Below i at → steps at < suc i
    go None l = omega arith
    go (Some j) l = omega arith

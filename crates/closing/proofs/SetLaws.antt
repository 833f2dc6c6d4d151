-- What the three tests of a set say of its records; so where a set offends, in the order's words: 24, else 23, else 22, each exactly under its condition.
-- Assumes nothing.
use Prim.Native.Nat.{ℕ, zero, suc, ◌-◌, ◌<◌}
use mathlib.Core.Path.{◌≡◌, refl, sym, ◌∙◌}
use mathlib.Core.Bool.{Bool, true, false, cond, not, ◌&&◌, not-eq-not}
use mathlib.Core.List.{List, [], ◌∷◌}
use mathlib.Core.Logic.{◌↔◌}
use native.Mathlib.Omega.{arith}
use borrow.Author.Tests.{eqb-true, eqb-false, eq-eqb, not-true}
use lib.Dec.{eqb}
use lib.ListN.{length, get_or, length-map, get_or-map}
use Rattle.text.specs.Bytes.{every}
use Rattle.text.proofs.Booleans.{clash, both}
use Rattle.layout.specs.Layout.{field_of}
use Rattle.fields.specs.Frame.{framed}
use Rattle.fields.specs.Texts.{contains}
use Rattle.fields.specs.ServiceTexts.{all_different}
use Rattle.fields.proofs.ByteLaws.{every_exactly}
use Rattle.fields.proofs.MailLaws.{contains_exactly}
use Rattle.posting.proofs.RecordList.{length_up_to, up_to_nth}
use Rattle.closing.specs.Sets.{count_in, serial_of, pieces_of, pieces_in, serials_in, said_by, same_pieces, none_twice, none_missing, offence}
use Rattle.closing.specs.Outcomes.{Unequal, Repeated, Missing, SetOutcome, unequal, repeated, missing, faultless}
use Rattle.posting.specs.File.{up_to}

-- ---- tests that are not true, or not false
pub never_false : (b : Bool) → (b ≡ false → ⊥) → b ≡ true
never_false b = (not-eq-not {b = true}).0

pub never_true : (b : Bool) → (b ≡ true → ⊥) → b ≡ false
never_true b = (not-eq-not {b = false}).0

-- a number of a list that fails a test
record Failing (test : ℕ → Bool) (ns : List ℕ) : Type 0 where
  at : ℕ
  within : at < length ns
  fails : test (get_or ns at 0) ≡ false

every_fails : (test : ℕ → Bool) (ns : List ℕ) → every test ns ≡ false → Failing test ns
every_fails test [] h = absurd (clash refl h)
every_fails test (n ∷ ns) h = go (test n) refl h (every_fails test ns)
  where
    go : (t : Bool) → test n ≡ t → (t && every test ns) ≡ false → (every test ns ≡ false → Failing test ns) → Failing test (n ∷ ns)
    go false e f later = record { at = 0; within = omega arith; fails = e }
    go true e f later = let l = later f in record { at = suc l.at; within = omega (arith, l.within); fails = l.fails }

-- a number that stands at two places
record Twice (ns : List ℕ) : Type 0 where
  earlier : ℕ
  later : ℕ
  before : earlier < later
  inside : later < length ns
  same : get_or ns earlier 0 ≡ get_or ns later 0

some_twice : (ns : List ℕ) → all_different ns ≡ false → Twice ns
unfolding all_different
some_twice [] h = absurd (clash refl h)
some_twice (n ∷ ns) h = go (contains n ns) refl h (some_twice ns)
  where
    go : (t : Bool) → contains n ns ≡ t → (not t && all_different ns) ≡ false → (all_different ns ≡ false → Twice ns) → Twice (n ∷ ns)
    go true e f behind =
        let p = (contains_exactly n ns).0 e in
        record { earlier = 0; later = suc p.at; before = omega arith; inside = omega (arith, p.within); same = sym p.there }
    go false e f behind =
        let t = behind f in
        record { earlier = suc t.earlier; later = suc t.later; before = omega (arith, t.before); inside = omega (arith, t.inside); same = t.same }

none_twice_lem : (ns : List ℕ) → all_different ns ≡ true → (i j : ℕ) → i < j → j < length ns → get_or ns i 0 ≡ get_or ns j 0 → ⊥
unfolding all_different
none_twice_lem [] h i j l g e = omega arith
none_twice_lem (n ∷ ns) h i zero l g e = omega arith
none_twice_lem (n ∷ ns) h zero (suc j) l g e =
    let other = not-true (contains n ns) (both (not (contains n ns)) (all_different ns) h).0 in
    clash ((contains_exactly n ns).1 (record { at = j; within = omega arith; there = sym e })) other
none_twice_lem (n ∷ ns) h (suc i) (suc j) l g e = none_twice_lem ns (both (not (contains n ns)) (all_different ns) h).1 i j (omega arith) (omega arith) e

-- ---- the numbers that the records of a set give
no_count : (n : ℕ) → count_in [] n ≡ 0
unfolding field_of framed
no_count n = refl

pub pieces_nth : (set : List (List ℕ)) (i : ℕ) → get_or (pieces_in set) i 0 ≡ pieces_of (get_or set i [])
pieces_nth set i = rw (no_count 24) at (get_or-map pieces_of set i [])

pub serials_nth : (set : List (List ℕ)) (i : ℕ) → get_or (serials_in set) i 0 ≡ serial_of (get_or set i [])
serials_nth set i = rw (no_count 23) at (get_or-map serial_of set i [])

-- ---- the three tests
module _ (set : List (List ℕ)) where
  as_many_pieces : length (pieces_in set) ≡ length set
  as_many_pieces = length-map set pieces_of

  as_many_serials : length (serials_in set) ≡ length set
  as_many_serials = length-map set serial_of

  pub same_pieces_exactly : (same_pieces set ≡ true) ↔ ((i : ℕ) → i < length set → pieces_of (get_or set i []) ≡ said_by set)
  unfolding same_pieces
  same_pieces_exactly =
      let c = every_exactly (λ n. eqb n (said_by set)) (pieces_in set) in (
        λ h i l. sym (pieces_nth set i) ∙ eqb-true _ (said_by set) (c.0 h i (omega (arith, as_many_pieces))),
        λ each. c.1 (λ i l. eq-eqb _ (said_by set) (pieces_nth set i ∙ each i (omega (arith, as_many_pieces)))),
      )

  pub unequal_exactly : (same_pieces set ≡ false) ↔ Unequal set
  unfolding same_pieces
  unequal_exactly = (found, λ u. never_true (same_pieces set) (never u))
    where
      found : same_pieces set ≡ false → Unequal set
      found h =
          let f = every_fails (λ n. eqb n (said_by set)) (pieces_in set) h in
          record {
            one = f.at;
            other = 0;
            one_inside = omega (arith, f.within, as_many_pieces);
            other_inside = omega (arith, f.within, as_many_pieces);
            differ = λ e. eqb-false _ (said_by set) f.fails (pieces_nth set f.at ∙ e ∙ sym (pieces_nth set 0));
          }

      never : Unequal set → same_pieces set ≡ true → ⊥
      never u h = let each = same_pieces_exactly.0 h in u.differ (each u.one u.one_inside ∙ sym (each u.other u.other_inside))

  pub repeated_exactly : (none_twice set ≡ false) ↔ Repeated set
  repeated_exactly = (found, λ r. never_true (none_twice set) (never r))
    where
      found : none_twice set ≡ false → Repeated set
      found h =
          let t = some_twice (serials_in set) h in
          record {
            earlier = t.earlier;
            later = t.later;
            before = t.before;
            inside = omega (arith, t.inside, as_many_serials);
            same = sym (serials_nth set t.earlier) ∙ t.same ∙ serials_nth set t.later;
          }

      never : Repeated set → none_twice set ≡ true → ⊥
      never r h =
          none_twice_lem (serials_in set) h r.earlier r.later r.before (omega (arith, r.inside, as_many_serials))
          (serials_nth set r.earlier ∙ r.same ∙ sym (serials_nth set r.later))

  -- each serial from 01 to the number of pieces is there
  pub none_missing_exactly : (none_missing set ≡ true) ↔ ((i : ℕ) → i < said_by set → contains (suc i) (serials_in set) ≡ true)
  unfolding none_missing
  none_missing_exactly =
      let c = every_exactly (λ k. contains k (serials_in set)) (up_to suc (said_by set)) in
      let long = length_up_to suc (said_by set) in (
        λ h i l. rw (up_to_nth suc (said_by set) i 0 l) at (c.0 h i (omega arith)),
        λ each. c.1 (λ i l. rw (up_to_nth suc (said_by set) i 0 (omega arith)) (each i (omega arith))),
      )

  pub missing_exactly : (none_missing set ≡ false) ↔ Missing set
  unfolding none_missing
  missing_exactly = (found, λ m. never_true (none_missing set) (never m))
    where
      found : none_missing set ≡ false → Missing set
      found h =
          let f = every_fails (λ k. contains k (serials_in set)) (up_to suc (said_by set)) h in
          let inside : f.at < said_by set = omega (arith, f.within, length_up_to suc (said_by set)) in
          let lacks : contains (suc f.at) (serials_in set) ≡ false = rw (up_to_nth suc (said_by set) f.at 0 inside) at f.fails in
          record {
            serial = suc f.at;
            least = omega arith;
            most = omega arith;
            none = λ i l e. clash ((contains_exactly _ _).1 (record { at = i; within = omega (arith, as_many_serials); there = serials_nth set i ∙ e })) lacks;
          }

      never : Missing set → none_missing set ≡ true → ⊥
      never m h =
          let back : suc (m.serial - 1) ≡ m.serial = omega (arith, m.least) in
          let p = (contains_exactly (suc (m.serial - 1)) (serials_in set)).0 (none_missing_exactly.0 h (m.serial - 1) (omega (arith, m.least, m.most))) in
          m.none p.at (omega (arith, p.within, as_many_serials)) (sym (serials_nth set p.at) ∙ p.there ∙ back)

-- ---- where a set offends
pub set_outcome : (set : List (List ℕ)) → SetOutcome set (offence set)
unfolding offence
set_outcome set = go (same_pieces set) refl (none_twice set) refl (none_missing set) refl
  where
    go : (a : Bool) → same_pieces set ≡ a → (b : Bool) → none_twice set ≡ b → (c : Bool) → none_missing set ≡ c → SetOutcome set (cond a (cond b (cond c 0 22) 23) 24)
    go false e b f c g = unequal ((unequal_exactly set).0 e) refl
    go true e false f c g = repeated (λ u. clash e ((unequal_exactly set).1 u)) ((repeated_exactly set).0 f) refl
    go true e true f false g = missing (λ u. clash e ((unequal_exactly set).1 u)) (λ r. clash f ((repeated_exactly set).1 r)) ((missing_exactly set).0 g) refl
    go true e true f true g =
        faultless (λ u. clash e ((unequal_exactly set).1 u)) (λ r. clash f ((repeated_exactly set).1 r)) (λ m. clash g ((missing_exactly set).1 m)) refl

-- and at no other place
pub set_outcome_exactly : (set : List (List ℕ)) (p : ℕ) → SetOutcome set p ↔ (p ≡ offence set)
unfolding offence
set_outcome_exactly set p = (only, λ e. rw e (set_outcome set))
  where
    same : (Unequal set → ⊥) → same_pieces set ≡ true
    same n = never_false (same_pieces set) (λ f. n ((unequal_exactly set).0 f))

    once : (Repeated set → ⊥) → none_twice set ≡ true
    once n = never_false (none_twice set) (λ f. n ((repeated_exactly set).0 f))

    all : (Missing set → ⊥) → none_missing set ≡ true
    all n = never_false (none_missing set) (λ f. n ((missing_exactly set).0 f))

    only : SetOutcome set p → p ≡ offence set
    only (unequal u e) = rw ((unequal_exactly set).1 u) e
    only (repeated n r e) = rw (same n, (repeated_exactly set).1 r) e
    only (missing n o m e) = rw (same n, once o, (missing_exactly set).1 m) e
    only (faultless n o a e) = rw (same n, once o, all a) e

-- ---- each place exactly under its condition
pub place_24_exactly : (set : List (List ℕ)) → (offence set ≡ 24) ↔ Unequal set
place_24_exactly set = (λ e. go ((set_outcome_exactly set 24).1 (sym e)), λ u. sym ((set_outcome_exactly set 24).0 (unequal u refl)))
  where
    go : SetOutcome set 24 → Unequal set
    go (unequal u e) = u
    go (repeated n r e) = absurd (omega arith)
    go (missing n o m e) = absurd (omega arith)
    go (faultless n o a e) = absurd (omega arith)

pub place_23_exactly : (set : List (List ℕ)) → (offence set ≡ 23) ↔ ((Unequal set → ⊥) × Repeated set)
place_23_exactly set = (λ e. go ((set_outcome_exactly set 23).1 (sym e)), λ p. sym ((set_outcome_exactly set 23).0 (repeated p.0 p.1 refl)))
  where
    go : SetOutcome set 23 → (Unequal set → ⊥) × Repeated set
    go (unequal u e) = absurd (omega arith)
    go (repeated n r e) = (n, r)
    go (missing n o m e) = absurd (omega arith)
    go (faultless n o a e) = absurd (omega arith)

pub place_22_exactly : (set : List (List ℕ)) → (offence set ≡ 22) ↔ ((Unequal set → ⊥) × (Repeated set → ⊥) × Missing set)
place_22_exactly set = (λ e. go ((set_outcome_exactly set 22).1 (sym e)), λ p. sym ((set_outcome_exactly set 22).0 (missing p.0 p.1 p.2 refl)))
  where
    go : SetOutcome set 22 → (Unequal set → ⊥) × (Repeated set → ⊥) × Missing set
    go (unequal u e) = absurd (omega arith)
    go (repeated n r e) = absurd (omega arith)
    go (missing n o m e) = (n, o, m)
    go (faultless n o a e) = absurd (omega arith)

-- The answer to one record of a file, in the paper's words: 212 for a wrong line end, then the record's table, then 2 for an identifier that an earlier
-- record has, then 241 for a consignor where an earlier record names another; 0 exactly if none of them holds.
-- Assumes nothing.
use Prim.Native.Nat.{ℕ, zero, suc, ◌+◌, ◌*◌, ◌<◌}
use mathlib.Core.Path.{◌≡◌, refl, sym, ap, ◌∙◌}
use mathlib.Core.Bool.{Bool, true, false, cond, ◌&&◌, ◌||◌}
use mathlib.Core.List.{List, []}
use mathlib.Core.Logic.{◌↔◌}
use native.Mathlib.Omega.{arith}
use borrow.Author.Tests.{eqb-true, eqb-false, eq-eqb}
use lib.Dec.{eqb}
use lib.ListN.{get_or}
use Rattle.text.specs.declared.Answer.{Answer}
use Rattle.text.specs.Answers.{answer, accepted, or_else}
use Rattle.text.specs.Lists.{same_bytes}
use Rattle.text.proofs.Booleans.{clash}
use Rattle.text.proofs.Lists.{same_exactly}
use Rattle.record.specs.Rules.{in_file, record_answer}
use Rattle.record.specs.Consignors.{strays}
use Rattle.record.proofs.Consignors.{strays_exactly, named_within}
use Rattle.psc.specs.Table.{Known}
use Rattle.posting.specs.File.{record_at, records, id_at, line_ends, repeats, line_answer}
use Rattle.posting.specs.Outcomes.{Ended, Repeated, Strayed, LineOutcome, ends_wrong, breaks_table, repeats_earlier, names_another, right, RightLine}
use Rattle.posting.proofs.RecordList.{length_up_to, up_to_nth}

-- ---- the tests decide them
both : (a b : ℕ) (x y : ℕ) → (eqb a x && eqb b y ≡ true) ↔ ((a ≡ x) × (b ≡ y))
both a b x y = (go (eqb a x) refl (eqb b y) refl, λ p. rw (eq-eqb a x p.0, eq-eqb b y p.1))
  where
    go : (s : Bool) → eqb a x ≡ s → (t : Bool) → eqb b y ≡ t → s && t ≡ true → (a ≡ x) × (b ≡ y)
    go true e true f h = (eqb-true a x e, eqb-true b y f)
    go true e false f h = absurd (clash h refl)
    go false e t f h = absurd (clash h refl)

pub ended_exactly : (file : List ℕ) (i : ℕ) → (line_ends file i ≡ true) ↔ Ended file i
ended_exactly file i =
    let b = both (get_or file (i * 401 + 399) 0) (get_or file (i * 401 + 400) 0) 13 10 in
    (λ t. let p = b.0 t in record { return = p.0; feed = p.1 }, λ e. b.1 (e.return, e.feed))

-- not the last of them, so one before it
not_last : (file : List ℕ) (i n : ℕ) → same_bytes (id_at file n) (id_at file i) ≡ false → Repeated file i (suc n) → Repeated file i n
not_last file i n e r = go (eqb r.earlier n) refl
  where
    go : (t : Bool) → eqb r.earlier n ≡ t → Repeated file i n
    go true q =
        let here : id_at file n ≡ id_at file i = rw (eqb-true r.earlier n q) at r.same in
        absurd (clash ((same_exactly (id_at file n) (id_at file i)).1 here) e)
    go false q = let no = eqb-false r.earlier n q in record { earlier = r.earlier; before = omega (arith, r.before); same = r.same }

-- some j < n has the identifier of record i
pub repeats_exactly : (file : List ℕ) (i n : ℕ) → (repeats file i n ≡ true) ↔ Repeated file i n
unfolding repeats
repeats_exactly file i zero = (λ t. absurd (clash t refl), λ r. absurd (omega (arith, r.before)))
repeats_exactly file i (suc n) = go (same_bytes (id_at file n) (id_at file i)) refl (repeats_exactly file i n)
  where
    go : (b : Bool) → same_bytes (id_at file n) (id_at file i) ≡ b → (repeats file i n ≡ true) ↔ Repeated file i n → (b || repeats file i n ≡ true) ↔ Repeated file i (suc n)
    go true e h = (λ t. record { earlier = n; before = omega arith; same = (same_exactly _ _).0 e }, λ r. refl)
    go false e h = (
      λ t. let r = h.0 t in record { earlier = r.earlier; before = omega (arith, r.before); same = r.same },
      λ r. h.1 (not_last file i n e r),
    )

-- a record before record i names another consignor
pub strayed_exactly : (file : List ℕ) (i : ℕ) → (strays (records file i) (record_at file i) ≡ true) ↔ Strayed file i
strayed_exactly file i =
    let e = strays_exactly (records file i) (record_at file i) in
    let nth : (j : ℕ) → j < i → get_or (records file i) j [] ≡ record_at file j = λ j h. up_to_nth (record_at file) i j [] h in (
      λ t.
          let s = e.0 t in
          let within : s.earlier < i = rw (length_up_to (record_at file) i) at (named_within (records file i) s.earlier s.other) in
          record { earlier = s.earlier; before = within; other = rw (nth s.earlier within) at s.other },
      λ s. e.1 (record { earlier = s.earlier; other = rw (nth s.earlier s.before) s.other }),
    )

-- ---- the answer to record i
pub line_outcome : (known : Known) (file : List ℕ) (i : ℕ) → LineOutcome known file i (line_answer known file i)
unfolding line_answer or_else
line_outcome known file i = go (line_ends file i) refl (eqb (record_answer (in_file known) (record_at file i)).code 0) refl (repeats file i i) refl (strays (records file i) (record_at file i)) refl
  where
    go : (s : Bool) → line_ends file i ≡ s → (t : Bool) → eqb (record_answer (in_file known) (record_at file i)).code 0 ≡ t → (u : Bool) → repeats file i i ≡ u
        → (w : Bool) → strays (records file i) (record_at file i) ≡ w
        → LineOutcome known file i (cond s (cond t (cond u (answer 2 1) (cond w (answer 241 1) accepted)) (record_answer (in_file known) (record_at file i))) (answer 212 0))
    go false e t f u g w h = ends_wrong (λ x. clash ((ended_exactly file i).1 x) e) refl
    go true e false f u g w h = breaks_table ((ended_exactly file i).0 e) (eqb-false _ 0 f) refl
    go true e true f true g w h = repeats_earlier ((ended_exactly file i).0 e) (eqb-true _ 0 f) ((repeats_exactly file i i).0 g) refl
    go true e true f false g true h =
        names_another ((ended_exactly file i).0 e) (eqb-true _ 0 f) (λ x. clash ((repeats_exactly file i i).1 x) g) ((strayed_exactly file i).0 h) refl
    go true e true f false g false h =
        right ((ended_exactly file i).0 e) (eqb-true _ 0 f) (λ x. clash ((repeats_exactly file i i).1 x) g) (λ x. clash ((strayed_exactly file i).1 x) h) refl

-- ---- code 0
pub line_right_exactly : (known : Known) (file : List ℕ) (i : ℕ) → ((line_answer known file i).code ≡ 0) ↔ RightLine known file i
line_right_exactly known file i = go (line_outcome known file i)
  where
    not_coded : {a : Answer} {c p : ℕ} → a ≡ answer c p → (c ≡ 0 → ⊥) → a.code ≡ 0 → ⊥
    not_coded e n z = n (sym (ap (λ (x : Answer). x.code) e) ∙ z)

    go : {a : Answer} → LineOutcome known file i a → (a.code ≡ 0) ↔ RightLine known file i
    go (ends_wrong n e) = (λ z. absurd (not_coded e (λ q. omega arith) z), λ r. absurd (n r.ended))
    go (breaks_table d n e) = (λ z. absurd (n (rw e at z)), λ r. absurd (n r.table))
    go (repeats_earlier d t r e) = (λ z. absurd (not_coded e (λ q. omega arith) z), λ x. absurd (x.fresh r.earlier r.before r.same))
    go (names_another d t n s e) = (λ z. absurd (not_coded e (λ q. omega arith) z), λ x. absurd (x.same s.earlier s.before s.other))
    go (right d t n s e) = (
      λ z. record {
        ended = d;
        table = t;
        fresh = λ j h q. n (record { earlier = j; before = h; same = q });
        same = λ j h q. s (record { earlier = j; before = h; other = q });
      },
      λ r. ap (λ (x : Answer). x.code) e,
    )

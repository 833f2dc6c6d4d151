-- A line of the file against the record that it should be: each way out, and the loop over the places.
-- Assumes nothing.
use Prim.Native.Nat.{ℕ, ◌+◌, ◌-◌, ◌*◌, ◌/◌, ◌%◌, ◌≤◌, ◌<◌}
use mathlib.Core.Path.{◌≡◌, refl, sym, ap, ◌∙◌, subst}
use mathlib.Core.Bool.{Bool, true, false, cond, not, ◌&&◌, and-eq-true_iff}
use mathlib.Core.List.{List, [], ◌∷◌, ◌++◌, append_assoc}
use native.Mathlib.Nat.{add-sub_cancel_left}
use native.Mathlib.Omega.{arith}
use borrow.Author.Tests.{eq-eqb, eqb-true, eqb-false, not-true, not-false}
use lib.Dec.{eqb}
use lib.ListN.{length, get_or, set, take, drop, length-append, length-drop, length-set, take-append-drop}
use lib.Seq.{set_split, take_at, drop_at, get_or_at, take-add, take_all, drop-drop, length-take-le}
use Rattle.text.specs.Lists.{same_bytes}
use Rattle.text.proofs.Booleans.{clash}
use Rattle.text.proofs.Lists.{same_exactly, step}
use Rattle.record.specs.Readings.{cancelled_rec}
use Rattle.record.proofs.Status.{cancelled_rec_long}
use Rattle.posting.specs.File.{line_of}
use Rattle.batch.specs.Test.{odd, record_from, LineSame, Marked, LineAt, LinesSame}

-- ---- cut where a status stands
drop_end : (s : List ℕ) (n : ℕ) → length s ≡ n → drop n s ≡ []
drop_end s n e = ap (λ (k : ℕ). drop k s) (sym e) ∙ go s
  where
    go : (t : List ℕ) → drop (length t) t ≡ []
    go [] = refl
    go (x ∷ t) = go t

cut_line : (line : List ℕ) → length line ≡ 401 → line ≡ take 399 line ++ get_or line 399 0 ∷ get_or line 400 0 ∷ []
cut_line line e =
    let rest : drop 399 line ≡ get_or line 399 0 ∷ get_or line 400 0 ∷ [] =
    step line 399 (omega (arith, e)) ∙ ap (λ (t : List ℕ). get_or line 399 0 ∷ t) (step line 400 (omega (arith, e)) ∙ ap (λ (t : List ℕ). get_or line 400 0 ∷ t) (drop_end line 401 e)) in
    sym (take-append-drop 399 line) ∙ ap (λ (t : List ℕ). take 399 line ++ t) rest

cut_status : (s : List ℕ) → 399 ≤ length s → take 399 s ≡ take 340 s ++ get_or s 340 0 ∷ get_or s 341 0 ∷ take 57 (drop 342 s)
cut_status s h =
    take-add 340 59 s
    ∙ ap (λ (t : List ℕ). take 340 s ++ take 59 t) (step s 340 (omega (arith, h)) ∙ ap (λ (t : List ℕ). get_or s 340 0 ∷ t) (step s 341 (omega (arith, h))))

struck_is : (rec : List ℕ) → length rec ≡ 399 → cancelled_rec rec ≡ take 340 rec ++ 48 ∷ 32 ∷ take 57 (drop 342 rec)
struck_is rec e =
    let front = length-take-le 340 rec (omega (arith, e)) in
    let once : set rec 340 48 ≡ (take 340 rec ++ 48 ∷ []) ++ drop 341 rec = set_split rec 340 48 (omega (arith, e)) ∙ sym (append_assoc (take 340 rec) (48 ∷ []) (drop 341 rec)) in
    let long : length (take 340 rec ++ 48 ∷ []) ≡ 341 = omega (arith, length-append (take 340 rec) (48 ∷ []), front) in
    let tail_long : length (drop 342 rec) ≤ 57 = omega (arith, length-drop 342 rec, e) in
    let ends : drop 342 ((take 340 rec ++ 48 ∷ []) ++ drop 341 rec) ≡ take 57 (drop 342 rec) =
    sym (drop-drop 1 341 ((take 340 rec ++ 48 ∷ []) ++ drop 341 rec)) ∙ ap (drop 1) (drop_at (take 340 rec ++ 48 ∷ []) (drop 341 rec) 341 long) ∙ drop-drop 1 341 rec ∙ sym (take_all 57 (drop 342 rec) tail_long) in
    set_split (set rec 340 48) 341 32 (omega (arith, length-set rec 340 48, e))
    ∙ (λ i. take 341 (once i) ++ 32 ∷ drop 342 (once i))
    ∙ (λ i. take_at (take 340 rec ++ 48 ∷ []) (drop 341 rec) 341 long i ++ 32 ∷ ends i)
    ∙ append_assoc (take 340 rec) (48 ∷ []) (32 ∷ take 57 (drop 342 rec))

-- ---- one line
module _ (line rec : List ℕ) (cancelled : Bool) (pre : (length line ≡ 401) × (length rec ≡ 399)) where
  abbrev wanted : List ℕ
  wanted = cond cancelled (cancelled_rec rec) rec

  wanted_long : length wanted ≡ 399
  wanted_long = go cancelled
    where
      go : (b : Bool) → length (cond b (cancelled_rec rec) rec) ≡ 399
      go true = cancelled_rec_long rec ∙ pre.1
      go false = pre.1

  abbrev ended : Bool
  ended = eqb (get_or line 399 0) 13 && eqb (get_or line 400 0) 10

  ended_if : line ≡ line_of wanted → ended ≡ true
  ended_if e =
      let a : get_or line 399 0 ≡ 13 = ap (λ (t : List ℕ). get_or t 399 0) e ∙ get_or_at wanted 13 (10 ∷ []) 0 399 wanted_long in
      let b : get_or line 400 0 ≡ 10 = ap (λ (t : List ℕ). get_or t 400 0) (e ∙ sym (append_assoc wanted (13 ∷ []) (10 ∷ []))) ∙ get_or_at (wanted ++ 13 ∷ []) 10 [] 0 400 (omega (arith, length-append wanted (13 ∷ []), wanted_long)) in
      rw (eq-eqb (get_or line 399 0) 13 a, eq-eqb (get_or line 400 0) 10 b)

  pub line_open : not ended ≡ true → LineSame line rec cancelled false
  line_open n = record { if_so = λ q. absurd (clash q refl); if_not = λ q e. clash (ended_if e) (not-true ended n) }

  module _ (closed : not ended ≡ false) where
    line_is : line ≡ line_of (take 399 line)
    line_is =
        let p = (and-eq-true_iff (eqb (get_or line 399 0) 13) (eqb (get_or line 400 0) 10)).0 (not-false ended closed) in
        cut_line line pre.0 ∙ (λ i. take 399 line ++ eqb-true (get_or line 399 0) 13 p.0 i ∷ eqb-true (get_or line 400 0) 10 p.1 i ∷ [])

    by_front : (b : Bool) → (b ≡ true → take 399 line ≡ wanted) → (b ≡ false → take 399 line ≡ wanted → ⊥) → LineSame line rec cancelled b
    by_front b so never = record {
      if_so = λ q. line_is ∙ ap line_of (so q);
      if_not = λ q e. never q (ap (take 399) e ∙ take_at wanted (13 ∷ 10 ∷ []) 399 wanted_long);
    }

    pub line_plain : not cancelled ≡ true → (b : Bool) → b ≡ same_bytes (take 399 line) rec → LineSame line rec cancelled b
    line_plain n b e =
        let plain : wanted ≡ rec = rw (not-true cancelled n) in
        by_front b (λ q. (same_exactly _ _).0 (sym e ∙ q) ∙ sym plain) (λ q x. clash (e ∙ (same_exactly _ _).1 (x ∙ plain)) q)

    module _ (struck : not cancelled ≡ false) where
      wanted_is : wanted ≡ take 340 rec ++ 48 ∷ 32 ∷ take 57 (drop 342 rec)
      wanted_is = ap (λ (b : Bool). cond b (cancelled_rec rec) rec) (not-false cancelled struck) ∙ struck_is rec pre.1

      front_long : length (take 340 rec) ≡ 340
      front_long = length-take-le 340 rec (omega (arith, pre.1))

      line_cut : take 399 line ≡ take 340 line ++ get_or line 340 0 ∷ get_or line 341 0 ∷ take 57 (drop 342 line)
      line_cut = cut_status line (omega (arith, pre.0))

      line_front_long : length (take 340 line) ≡ 340
      line_front_long = length-take-le 340 line (omega (arith, pre.0))

      -- the parts of a line that is as wanted
      module _ (x : take 399 line ≡ wanted) where
        both : take 340 line ++ get_or line 340 0 ∷ get_or line 341 0 ∷ take 57 (drop 342 line) ≡ take 340 rec ++ 48 ∷ 32 ∷ take 57 (drop 342 rec)
        both = sym line_cut ∙ x ∙ wanted_is

        same_front : take 340 line ≡ take 340 rec
        same_front = sym (take_at (take 340 line) _ 340 line_front_long) ∙ ap (take 340) both ∙ take_at (take 340 rec) _ 340 front_long

        same_behind : get_or line 340 0 ∷ get_or line 341 0 ∷ take 57 (drop 342 line) ≡ 48 ∷ 32 ∷ take 57 (drop 342 rec)
        same_behind = sym (drop_at (take 340 line) _ 340 line_front_long) ∙ ap (drop 340) both ∙ drop_at (take 340 rec) _ 340 front_long

      abbrev marked : Bool
      marked = eqb (get_or line 340 0) 48 && eqb (get_or line 341 0) 32

      pub line_live : not marked ≡ true → LineSame line rec cancelled false
      line_live n = by_front false (λ q. absurd (clash q refl)) (λ q x.
          clash (rw (eq-eqb (get_or line 340 0) 48 (ap (λ (t : List ℕ). get_or t 0 0) (same_behind x)), eq-eqb (get_or line 341 0) 32 (ap (λ (t : List ℕ). get_or t 1 0) (same_behind x)))) (not-true marked n))

      pub line_other : (b : Bool) → b ≡ same_bytes (take 340 line) (take 340 rec) → not b ≡ true → LineSame line rec cancelled false
      line_other b e n = by_front false (λ q. absurd (clash q refl)) (λ q x. clash (e ∙ (same_exactly _ _).1 (same_front x)) (not-true b n))

      pub line_struck : (b : Bool) → b ≡ same_bytes (take 340 line) (take 340 rec) → not b ≡ false → not marked ≡ false
          → (r : Bool) → r ≡ same_bytes (take 57 (drop 342 line)) (take 57 (drop 342 rec)) → LineSame line rec cancelled r
      line_struck b e n m r er =
          let p = (and-eq-true_iff (eqb (get_or line 340 0) 48) (eqb (get_or line 341 0) 32)).0 (not-false marked m) in
          let front = (same_exactly _ _).0 (sym e ∙ not-false b n) in
          by_front r
          (λ q. line_cut ∙ (λ i. front i ++ eqb-true (get_or line 340 0) 48 p.0 i ∷ eqb-true (get_or line 341 0) 32 p.1 i ∷ (same_exactly _ _).0 (sym er ∙ q) i) ∙ sym wanted_is)
          (λ q x. clash (er ∙ (same_exactly _ _).1 (ap (drop 2) (same_behind x))) q)

-- ---- all places
module _ (file journal : List ℕ) (held : ℕ) (marks : List ℕ) (pre : Marked file journal held marks) (k : ℕ) (low : k < held) where
  abbrev from : ℕ
  from = get_or marks k 0 / 2 + 4

  pub to_inside : get_or marks k 0 / 2 + 4 + 399 ≤ length journal
  to_inside = omega (arith, pre.there k low)

  pub place_inside : k * 401 + 401 ≤ length file
  place_inside = omega (arith, low, pre.places)

  pub record_wide : length (take (from + 399 - from) (drop from journal)) ≡ 399
  record_wide = ap (λ (w : ℕ). length (take w (drop from journal))) (add-sub_cancel_left from 399) ∙ length-take-le 399 (drop from journal) (omega (arith, length-drop from journal, to_inside))

  module _ (r : Bool) (s : LineSame (take (k * 401 + 401 - k * 401) (drop (k * 401) file)) (take (from + 399 - from) (drop from journal)) (eqb (get_or marks k 0 % 2) 1) r) where
    here : LineSame (take 401 (drop (k * 401) file)) (record_from journal (get_or marks k 0 / 2)) (odd (get_or marks k 0)) r
    here =
        subst (λ (w : ℕ). LineSame (take w (drop (k * 401) file)) (record_from journal (get_or marks k 0 / 2)) (odd (get_or marks k 0)) r) (add-sub_cancel_left (k * 401) 401)
        (subst (λ (w : ℕ). LineSame (take (k * 401 + 401 - k * 401) (drop (k * 401) file)) (take w (drop from journal)) (odd (get_or marks k 0)) r) (add-sub_cancel_left from 399) s)

    pub lines_fail : r ≡ false → LinesSame file journal held marks false
    lines_fail n = record { if_so = λ q. absurd (clash q refl); if_not = λ q all. here.if_not n (all k low) }

    pub lines_on : r ≡ true → ((i : ℕ) → i < k → LineAt file journal marks i) → (i : ℕ) → i < k + 1 → LineAt file journal marks i
    lines_on n each i h = go (eqb i k) refl
      where
        go : (t : Bool) → eqb i k ≡ t → LineAt file journal marks i
        go true e = subst (LineAt file journal marks) (sym (eqb-true i k e)) (here.if_so n)
        go false e = each i (omega (arith, h, eqb-false i k e))

pub lines_end : (file journal : List ℕ) (held : ℕ) (marks : List ℕ) (k : ℕ) → held ≤ k → ((i : ℕ) → i < k → LineAt file journal marks i) → LinesSame file journal held marks true
lines_end file journal held marks k h each = record { if_so = λ q i l. each i (omega (arith, h, l)); if_not = λ q. absurd (clash refl q) }

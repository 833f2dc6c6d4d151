-- The table of an index: in any table, what is found has the key; and with one record more, noted where the walk for its key ends, every walk still
-- ends where it should.
-- Assumes nothing.
use Prim.Native.Nat.{ℕ, zero, suc, ◌+◌, ◌-◌, ◌≤◌, ◌<◌}
use mathlib.Core.Path.{◌≡◌, refl, sym, ap, subst, ◌∙◌}
use mathlib.Core.Bool.{Bool, true, false, cond, not, ◌&&◌}
use mathlib.Core.List.{List, [], ◌∷◌}
use native.Mathlib.Omega.{arith}
use native.Mathlib.Nat.{mod-lt}
use native.Mathlib.Numerals.{add-one}
use borrow.Author.Tests.{eqb-true, eqb-false, eq-eqb, ne_eqb, ltb-true, ltb-false, lt-ltb, le-ltb}
use lib.Dec.{eqb, ltb}
use lib.ListN.{length, get_or, set, length-set, replicate, length-replicate, get_or-eq_default}
use lib.Seq.{get_or-set_same, get_or-set_other}
use Rattle.text.specs.Lists.{same_bytes}
use Rattle.text.proofs.Lists.{same_exactly, same_refl}
use Rattle.text.proofs.Booleans.{clash}
use Rattle.index.specs.Index.{key_at, has_key, seek, named, named_at, hash_of, ends, next, slot_from, slot_of, found, noting}
use Rattle.index.specs.Laws.{Has, FoundHas, noted, NotedFinds, taken, Indexed, IndexedNone, IndexedMore}

-- ---- what `seek` says
pub seek_down : (file : List ℕ) (from : ℕ) (key : List ℕ) (n : ℕ) → seek file from key (n + 1) ≡ cond (same_bytes (key_at file from n) key) (suc n) (seek file from key n)
unfolding seek
seek_down file from key n = rw add-one

pub seek_small : (file : List ℕ) (from : ℕ) (key : List ℕ) (n : ℕ) → seek file from key n ≤ n
unfolding seek
seek_small file from key zero = omega arith
seek_small file from key (suc n) = go (same_bytes (key_at file from n) key) (seek_small file from key n)
  where
    go : (t : Bool) → seek file from key n ≤ n → cond t (suc n) (seek file from key n) ≤ suc n
    go true h = omega arith
    go false h = omega arith

-- none has the key
seek_none : (file : List ℕ) (from : ℕ) (key : List ℕ) (n : ℕ) → seek file from key n ≡ 0 → (j : ℕ) → j < n → same_bytes (key_at file from j) key ≡ false
unfolding seek
seek_none file from key zero e j h = absurd (omega arith)
seek_none file from key (suc n) e j h = go (same_bytes (key_at file from n) key) refl (eqb j n) refl (λ z l. seek_none file from key n z j l)
  where
    go : (t : Bool) → same_bytes (key_at file from n) key ≡ t → (u : Bool) → eqb j n ≡ u
        → (seek file from key n ≡ 0 → j < n → same_bytes (key_at file from j) key ≡ false) → same_bytes (key_at file from j) key ≡ false
    go true t u eu ih = absurd (let z : suc n ≡ 0 = rw t at e in omega arith)
    go false t true eu ih = rw (eqb-true j n eu) t
    go false t false eu ih =
        let other = eqb-false j n eu in
        ih (rw t at e) (omega arith)

-- ---- how many slots are taken
taken_set : (ts : List ℕ) (s v : ℕ) → taken (set ts s v) ≤ suc (taken ts)
unfolding taken
taken_set [] s v = omega arith
taken_set (x ∷ ts) zero v = go (eqb x 0) (eqb v 0)
  where
    go : (t u : Bool) → cond u (taken ts) (suc (taken ts)) ≤ suc (cond t (taken ts) (suc (taken ts)))
    go true true = omega arith
    go true false = omega arith
    go false true = omega arith
    go false false = omega arith
taken_set (x ∷ ts) (suc s) v = go (eqb x 0) (taken_set ts s v)
  where
    go : (t : Bool) → taken (set ts s v) ≤ suc (taken ts) → cond t (taken (set ts s v)) (suc (taken (set ts s v))) ≤ suc (cond t (taken ts) (suc (taken ts)))
    go true h = omega arith
    go false h = omega arith

taken_all : (ts : List ℕ) → ((j : ℕ) → j < length ts → get_or ts j 0 ≡ 0 → ⊥) → taken ts ≡ length ts
unfolding taken
taken_all [] busy = refl
taken_all (x ∷ ts) busy = rw (ne_eqb x 0 (busy 0 (omega arith))) (ap suc (taken_all ts (λ j h e. busy (suc j) (omega arith) e)))

taken_none : (m : ℕ) → taken (replicate m 0) ≡ 0
unfolding taken
taken_none zero = refl
taken_none (suc m) = taken_none m

none_at : (m s : ℕ) → get_or {A = ℕ} (replicate m 0) s 0 ≡ 0
none_at zero s = refl
none_at (suc m) zero = refl
none_at (suc m) (suc s) = none_at m s

-- ---- k slots on from s, of m
hop : ℕ → ℕ → ℕ → ℕ
hop m s k = cond (ltb (s + k) m) (s + k) (s + k - m)

hop_low : (m s k : ℕ) → s + k < m → hop m s k ≡ s + k
unfolding hop
hop_low m s k h = rw (lt-ltb (s + k) m h)

hop_high : (m s k : ℕ) → m ≤ s + k → hop m s k ≡ s + k - m
unfolding hop
hop_high m s k h = rw (le-ltb (s + k) m h)

next_low : (m s : ℕ) → s < m → next m s < m
next_low m s l = go (ltb (s + 1) m) refl
  where
    go : (t : Bool) → ltb (s + 1) m ≡ t → cond t (s + 1) 0 < m
    go true t = ltb-true (s + 1) m t
    go false t = omega arith

hop_none : (m s : ℕ) → s < m → hop m s 0 ≡ s
hop_none m s l = hop_low m s 0 (omega arith) ∙ omega arith

hop_next : (m s i : ℕ) → s < m → suc i ≤ m → hop m s (suc i) ≡ hop m (next m s) i
hop_next m s i l h = go (ltb (s + 1) m) refl (ltb (s + suc i) m) refl
  where
    go : (t : Bool) → ltb (s + 1) m ≡ t → (u : Bool) → ltb (s + suc i) m ≡ u → hop m s (suc i) ≡ hop m (cond t (s + 1) 0) i
    go true t true u = let y = ltb-true (s + suc i) m u in hop_low m s (suc i) y ∙ (let z : s + suc i ≡ s + 1 + i = omega arith in z) ∙ sym (hop_low m (s + 1) i (omega arith))
    go true t false u = let y = ltb-false (s + suc i) m u in hop_high m s (suc i) y ∙ (let z : s + suc i - m ≡ s + 1 + i - m = omega arith in z) ∙ sym (hop_high m (s + 1) i (omega arith))
    go false t u eu =
        let x = ltb-false (s + 1) m t in
        hop_high m s (suc i) (omega arith) ∙ (let z : s + suc i - m ≡ 0 + i = omega arith in z) ∙ sym (hop_low m 0 i (omega arith))

-- how many slots lie from s to j
back : ℕ → ℕ → ℕ → ℕ
back m s j = cond (ltb j s) (j + m - s) (j - s)

back_low : (m s j : ℕ) → s < m → j < m → back m s j < m
unfolding back
back_low m s j l h = go (ltb j s) refl
  where
    go : (t : Bool) → ltb j s ≡ t → cond t (j + m - s) (j - s) < m
    go true t = let x = ltb-true j s t in omega arith
    go false t = omega arith

around : (m s j : ℕ) → s < m → j < m → hop m s (back m s j) ≡ j
unfolding back
around m s j l h = go (ltb j s) refl
  where
    go : (t : Bool) → ltb j s ≡ t → hop m s (cond t (j + m - s) (j - s)) ≡ j
    go true t = let x = ltb-true j s t in hop_high m s (j + m - s) (omega arith) ∙ omega arith
    go false t = let x = ltb-false j s t in hop_low m s (j - s) (omega arith) ∙ omega arith

-- ---- what a slot names
pub named_zero : (file : List ℕ) (from : ℕ) → named file from 0 ≡ 0
unfolding named
named_zero file from = refl

pub named_is : (file : List ℕ) (from t : ℕ) → (t ≡ 0 → ⊥) → has_key file from (t - 1) ≡ true → named file from t ≡ t
unfolding named
named_is file from t busy has = rw (ne_eqb t 0 busy, has)

pub named_none : (file : List ℕ) (from t : ℕ) → has_key file from (t - 1) ≡ false → named file from t ≡ 0
unfolding named
named_none file from t lacks = rw lacks (go (eqb t 0))
  where
    go : (b : Bool) → cond (not b && false) t 0 ≡ 0
    go true = refl
    go false = refl

-- what is named has its key
pub named_has : (file : List ℕ) (from t : ℕ) → (named file from t ≡ 0 → ⊥) → has_key file from (named file from t - 1) ≡ true
named_has file from t busy = go (eqb t 0) refl (has_key file from (t - 1)) refl
  where
    go : (b : Bool) → eqb t 0 ≡ b → (k : Bool) → has_key file from (t - 1) ≡ k → has_key file from (named file from t - 1) ≡ true
    go true z k has = absurd (busy (rw (eqb-true t 0 z) (named_zero file from)))
    go false z true has = rw (named_is file from t (eqb-false t 0 z) has) has
    go false z false has = absurd (busy (named_none file from t has))

pub named_beyond : (table file : List ℕ) (from s : ℕ) → length table ≤ s → named_at table file from s ≡ 0
named_beyond table file from s h = rw (get_or-eq_default table 0 {n = s} h) (named_zero file from)

-- ---- a walk
module _ (m : ℕ) (table file : List ℕ) (from : ℕ) (key : List ℕ) where
  abbrev slot : ℕ → ℕ → ℕ
  slot q s = slot_from m table file from key q s

  -- one slot on
  pub slot_here : (q s : ℕ) → ends table file from key s ≡ true → slot (suc q) s ≡ s
  unfolding slot_from
  slot_here q s t = rw t

  pub slot_on : (q s : ℕ) → ends table file from key s ≡ false → slot (suc q) s ≡ slot q (next m s)
  unfolding slot_from
  slot_on q s t = rw t

  pub slot_out : (s : ℕ) → slot 0 s ≡ m
  unfolding slot_from
  slot_out s = refl

  -- it ends where it may
  slot_ends : (q s : ℕ) → slot q s < m → ends table file from key (slot q s) ≡ true
  slot_ends zero s h = absurd (omega (arith, slot_out s))
  slot_ends (suc q) s h = go (ends table file from key s) refl (slot_ends q (next m s))
    where
      go : (t : Bool) → ends table file from key s ≡ t → (slot q (next m s) < m → ends table file from key (slot q (next m s)) ≡ true)
          → ends table file from key (slot (suc q) s) ≡ true
      go true t ih = rw (slot_here q s t) t
      go false t ih = rw (slot_on q s t) (ih (rw (slot_on q s t) at h))

  busy_slot : (s : ℕ) → ends table file from key s ≡ false → named_at table file from s ≡ 0 → ⊥
  busy_slot s f e = clash {b = ends table file from key s} (rw (eq-eqb (named_at table file from s) 0 e)) f

  -- it ends at no slot only where each names a record
  all_busy : (q s : ℕ) → q ≤ m → s < m → (slot q s < m → ⊥) → (k : ℕ) → k < q → named_at table file from (hop m s k) ≡ 0 → ⊥
  all_busy zero s few l n k h = absurd (omega arith)
  all_busy (suc q) s few l n k h = go (ends table file from key s) refl k h (all_busy q (next m s) (omega arith) (next_low m s l))
    where
      go : (t : Bool) → ends table file from key s ≡ t → (i : ℕ) → i < suc q
          → ((slot q (next m s) < m → ⊥) → (j : ℕ) → j < q → named_at table file from (hop m (next m s) j) ≡ 0 → ⊥)
          → named_at table file from (hop m s i) ≡ 0 → ⊥
      go true t i hi ih e = n (rw (slot_here q s t) l)
      go false t zero hi ih e = busy_slot s t (rw (hop_none m s l) at e)
      go false t (suc i) hi ih e = ih (λ x. n (rw (slot_on q s t) x)) i (omega arith) (rw (hop_next m s i l (omega arith)) at e)

  slot_there : (s : ℕ) → s < m → length table ≡ m → taken table < m → slot m s < m
  slot_there s l long few = go (ltb (slot m s) m) refl
    where
      busy : (slot m s < m → ⊥) → (j : ℕ) → j < length table → get_or table j 0 ≡ 0 → ⊥
      busy out j h e =
          all_busy m s (omega arith) l out (back m s j) (back_low m s j l (omega arith)) (rw (around m s j l (omega arith), e) (named_zero file from))

      go : (t : Bool) → ltb (slot m s) m ≡ t → slot m s < m
      go true t = ltb-true (slot m s) m t
      go false t =
          let high = ltb-false (slot m s) m t in
          absurd (omega (arith, taken_all table (busy (λ x. omega arith))))

  -- no record of the table has the key
  slot_quiet : ((s : ℕ) → ends table file from key s ≡ true → named_at table file from s ≡ 0) → length table ≡ m → (q s : ℕ) → named_at table file from (slot q s) ≡ 0
  slot_quiet quiet long zero s = rw (slot_out s) (named_beyond table file from m (omega arith))
  slot_quiet quiet long (suc q) s = go (ends table file from key s) refl (slot_quiet quiet long q (next m s))
    where
      go : (t : Bool) → ends table file from key s ≡ t → named_at table file from (slot q (next m s)) ≡ 0 → named_at table file from (slot (suc q) s) ≡ 0
      go true t ih = rw (slot_here q s t) (quiet s t)
      go false t ih = rw (slot_on q s t) ih

-- ---- in any table, what is found has the key
pub found_has : FoundHas
unfolding found slot_of
found_has table file from key i e = go (ltb (slot_of table file from key) (length table)) refl
  where
    busy : found table file from key ≡ 0 → ⊥
    busy z = omega arith

    back_i : found table file from key - 1 ≡ i
    back_i = omega arith

    go : (t : Bool) → ltb (slot_of table file from key) (length table) ≡ t → Has file from key i
    go false t = absurd (busy (named_beyond table file from (slot_of table file from key) (ltb-false _ (length table) t)))
    go true t =
        let ended = slot_ends (length table) table file from key (length table) (hash_of (length table) key) (ltb-true (slot_of table file from key) (length table) t) in
        record {
          inside = rw back_i at (named_has file from (get_or table (slot_of table file from key) 0) busy);
          same = (same_exactly (key_at file from i) key).0 (rw (ne_eqb (found table file from key) 0 busy, back_i) at ended);
        }

-- ---- one record more, at slot p
module _ (m : ℕ) (table file : List ℕ) (from n p : ℕ) (long : length table ≡ m) (lp : p < m) (has : has_key file from n ≡ true) where
  abbrev after : List ℕ
  after = set table p (n + 1)

  abbrev own : List ℕ
  own = key_at file from n

  at_p : named_at after file from p ≡ n + 1
  at_p =
      let back : n + 1 - 1 ≡ n = omega arith in
      rw (get_or-set_same table p (n + 1) 0 (omega arith)) (named_is file from (n + 1) (λ z. omega arith) (rw back has))

  not_p : (s : ℕ) → (s ≡ p → ⊥) → named_at after file from s ≡ named_at table file from s
  not_p s h = rw (get_or-set_other table p s (n + 1) 0 h)

  ends_p : (key : List ℕ) → ends after file from key p ≡ same_bytes own key
  ends_p key =
      let back : n + 1 - 1 ≡ n = omega arith in
      rw (at_p, ne_eqb (n + 1) 0 (λ e. omega arith), back)

  ends_not : (key : List ℕ) (s : ℕ) → (s ≡ p → ⊥) → ends after file from key s ≡ ends table file from key s
  ends_not key s h = rw (not_p s h)

  -- the record's own key is found there
  own_slot : (q s : ℕ) → slot_from m table file from own q s ≡ p → slot_from m after file from own q s ≡ p
  own_slot zero s e = absurd (omega (arith, slot_out m table file from own s))
  own_slot (suc q) s e = go (eqb s p) refl (ends table file from own s) refl (own_slot q (next m s))
    where
      go : (t : Bool) → eqb s p ≡ t → (u : Bool) → ends table file from own s ≡ u
          → (slot_from m table file from own q (next m s) ≡ p → slot_from m after file from own q (next m s) ≡ p)
          → slot_from m after file from own (suc q) s ≡ p
      go true t u eu ih =
          let here = eqb-true s p t in
          slot_here m after file from own q s (rw here (ends_p own ∙ same_refl own)) ∙ here
      go false t true eu ih = absurd (eqb-false s p t (sym (slot_here m table file from own q s eu) ∙ e))
      go false t false eu ih =
          slot_on m after file from own q s (ends_not own s (eqb-false s p t) ∙ eu)
          ∙ ih (sym (slot_on m table file from own q s eu) ∙ e)

  -- another key is found where it was
  module _ (key : List ℕ) (ended : ends table file from own p ≡ true) (differ : same_bytes own key ≡ false) where
    passes : (named_at table file from p ≡ 0 → ⊥) → ends table file from key p ≡ false
    passes busy =
        let one : key_at file from (named_at table file from p - 1) ≡ own = (same_exactly (key_at file from (named_at table file from p - 1)) own).0 (rw (ne_eqb (named_at table file from p) 0 busy) at ended) in
        rw (ne_eqb (named_at table file from p) 0 busy, one) differ

    other_slot : (k : ℕ) → 0 < k → (q s : ℕ) → named_at table file from (slot_from m table file from key q s) ≡ k → named_at after file from (slot_from m after file from key q s) ≡ k
    other_slot k pos zero s e = absurd (omega (arith, rw (slot_out m table file from key s) at e, named_beyond table file from m (omega arith)))
    other_slot k pos (suc q) s e = go (eqb s p) refl (ends table file from key s) refl (other_slot k pos q (next m s))
      where
        on : ends table file from key s ≡ false → ends after file from key s ≡ false
            → (named_at table file from (slot_from m table file from key q (next m s)) ≡ k → named_at after file from (slot_from m after file from key q (next m s)) ≡ k)
            → named_at after file from (slot_from m after file from key (suc q) s) ≡ k
        on f g ih = rw (slot_on m after file from key q s g) (ih (rw (slot_on m table file from key q s f) at e))

        go : (t : Bool) → eqb s p ≡ t → (u : Bool) → ends table file from key s ≡ u
            → (named_at table file from (slot_from m table file from key q (next m s)) ≡ k → named_at after file from (slot_from m after file from key q (next m s)) ≡ k)
            → named_at after file from (slot_from m after file from key (suc q) s) ≡ k
        go true t true eu ih =
            let here = eqb-true s p t in
            let full : named_at table file from p ≡ k = rw (slot_here m table file from key q s eu, here) at e in
            absurd (clash (rw here at eu) (passes (λ z. omega arith)))
        go true t false eu ih = let here = eqb-true s p t in on eu (rw here (ends_p key ∙ differ)) ih
        go false t true eu ih =
            rw (slot_here m after file from key q s (ends_not key s (eqb-false s p t) ∙ eu), not_p s (eqb-false s p t))
            (rw (slot_here m table file from key q s eu) at e)
        go false t false eu ih = on eu (ends_not key s (eqb-false s p t) ∙ eu) ih

-- ---- the index with a record more
hash_low : (m : ℕ) (key : List ℕ) → 0 < m → hash_of m key < m
unfolding hash_of
hash_low m key h = mod-lt _ h

module _ (file : List ℕ) (from n : ℕ) (table : List ℕ) (known : Indexed file from n table) (room : n + 1 < length table) (has : has_key file from n ≡ true) where
  abbrev m : ℕ
  m = length table

  abbrev p : ℕ
  p = slot_of table file from (key_at file from n)

  abbrev after' : List ℕ
  after' = set table p (n + 1)

  low : p < m
  unfolding slot_of
  low = slot_there m table file from (key_at file from n) (hash_of m (key_at file from n)) (hash_low m (key_at file from n) (omega arith)) refl (omega (arith, known.few))

  ended : ends table file from (key_at file from n) p ≡ true
  unfolding slot_of
  ended = slot_ends m table file from (key_at file from n) m (hash_of m (key_at file from n)) low

  small_more : (s : ℕ) → named_at after' file from s ≤ n + 1
  small_more s = go (eqb s p) refl
    where
      go : (t : Bool) → eqb s p ≡ t → named_at after' file from s ≤ n + 1
      go true t = rw (eqb-true s p t, at_p m table file from n p refl low has) (omega arith)
      go false t = rw (not_p m table file from n p refl low has s (eqb-false s p t)) (omega (arith, known.small s))

  finds_more : (key : List ℕ) → named_at after' file from (slot_from m after' file from key m (hash_of m key)) ≡ seek file from key (n + 1)
  unfolding found slot_of
  finds_more key = go (same_bytes (key_at file from n) key) refl
    where
      quiet : seek file from key (n + 1) ≡ 0 → (s : ℕ) → ends after' file from key s ≡ true → named_at after' file from s ≡ 0
      quiet z s st = by (eqb (named_at after' file from s) 0) refl
        where
          by : (t : Bool) → eqb (named_at after' file from s) 0 ≡ t → named_at after' file from s ≡ 0
          by true t = eqb-true (named_at after' file from s) 0 t
          by false t =
              let busy = eqb-false (named_at after' file from s) 0 t in
              absurd (clash (rw t at st) (seek_none file from key (n + 1) z (named_at after' file from s - 1) (omega (arith, small_more s))))

      go : (t : Bool) → same_bytes (key_at file from n) key ≡ t → named_at after' file from (slot_from m after' file from key m (hash_of m key)) ≡ seek file from key (n + 1)
      go true t =
          let one : key_at file from n ≡ key = (same_exactly (key_at file from n) key).0 t in
          rw (seek_down file from key n, t, ← one, own_slot m table file from n p refl low has m (hash_of m (key_at file from n)) refl, at_p m table file from n p refl low has)
          (add-one n)
      go false t = by (eqb (seek file from key n) 0) refl
        where
          same : seek file from key (n + 1) ≡ seek file from key n
          same = seek_down file from key n ∙ rw t

          by : (u : Bool) → eqb (seek file from key n) 0 ≡ u → named_at after' file from (slot_from m after' file from key m (hash_of m key)) ≡ seek file from key (n + 1)
          by true u =
              let z : seek file from key (n + 1) ≡ 0 = same ∙ eqb-true (seek file from key n) 0 u in
              slot_quiet m after' file from key (quiet z) (length-set table p (n + 1)) m (hash_of m key) ∙ sym z
          by false u =
              let busy = eqb-false (seek file from key n) 0 u in
              other_slot m table file from n p refl low has key ended t (seek file from key n) (omega arith) m (hash_of m key) (known.finds key) ∙ sym same

  set_more : Indexed file from (n + 1) after'
  unfolding found slot_of
  set_more =
      record {
        small = small_more;
        few = omega (arith, taken_set table p (n + 1), known.few);
        finds = λ key. rw (length-set table p (n + 1)) (finds_more key);
      }

pub indexed_more : IndexedMore
unfolding noting
indexed_more file from n table known room fits has = rw (has, lt-ltb n 65535 fits) (set_more file from n table known room has)

-- ---- no record yet
pub indexed_none : IndexedNone
unfolding seek found
indexed_none file from m =
    record {
      small = λ s. rw (none_at m s) (omega (arith, named_zero file from));
      few = omega (arith, taken_none m);
      finds = λ key. rw (none_at m (slot_of (replicate m 0) file from key)) (named_zero file from);
    }

-- ---- a table noted from the first record on
pub length_noting : (table file : List ℕ) (from n : ℕ) → length (noting table file from n) ≡ length table
unfolding noting
length_noting table file from n = go (has_key file from n && ltb n 65535)
  where
    go : (t : Bool) → length (cond t (set table (slot_of table file from (key_at file from n)) (n + 1)) table) ≡ length table
    go true = length-set table (slot_of table file from (key_at file from n)) (n + 1)
    go false = refl

length_noted : (file : List ℕ) (from m n : ℕ) → length (noted file from m n) ≡ m
unfolding noted
length_noted file from m zero = length-replicate {A = ℕ} m 0
length_noted file from m (suc n) = length_noting (noted file from m n) file from n ∙ length_noted file from m n

indexed_noted : (file : List ℕ) (from m n : ℕ) → n < m → n ≤ 65535 → ((i : ℕ) → i < n → has_key file from i ≡ true) → Indexed file from n (noted file from m n)
unfolding noted
indexed_noted file from m zero l f each = indexed_none file from m
indexed_noted file from m (suc n) l f each =
    let before = indexed_noted file from m n (omega arith) (omega arith) (λ i h. each i (omega arith)) in
    let more = indexed_more file from n (noted file from m n) before (omega (arith, length_noted file from m n)) (omega arith) (each n (omega arith)) in
    subst (λ (k : ℕ). Indexed file from k (noting (noted file from m n) file from n)) (add-one n) more

pub noted_finds : NotedFinds
noted_finds file from m n l f each key = (indexed_noted file from m n l f each).finds key

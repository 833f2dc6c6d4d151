-- Each turn of the loops, and each way out of the functions, from the facts that are known there.
-- Assumes nothing.
use Prim.Native.Nat.{ℕ, suc, ◌+◌, ◌-◌, ◌≤◌, ◌<◌}
use mathlib.Core.Path.{◌≡◌, refl, sym, ap, ◌∙◌}
use mathlib.Core.Bool.{Bool, true, false, cond, ◌&&◌, ◌||◌, and-false, and-true, or-false}
use mathlib.Core.List.{List, [], ◌∷◌}
use native.Mathlib.Omega.{arith}
use borrow.Author.Tests.{lt-ltb, le-ltb, le-leb, lt-leb, ltb-true, ltb-false, leb-true, leb-false}
use lib.Dec.{eqb, ltb, leb}
use lib.ListN.{length, get_or, take, drop}
use Rattle.std.proofs.Common.{slice_get, Some}
use Rattle.std.proofs.lemmas.Option.{get_or_from_slice_get}
use Rattle.text.specs.Bytes.{every}
use Rattle.text.proofs.Booleans.{by_cond}
use Rattle.text.proofs.Lists.{step, ended}
use Rattle.psc.specs.Table.{rises_from, is_postcode, right_table}
use Rattle.psc.specs.Search.{middle, found_in, found}

-- ---- right: the entries from place i on
pub right_long : (table : List ℕ) → 16000 < length table → false ≡ right_table table
unfolding right_table
right_long table h = rw (lt-leb (length table) 16000 h)

pub right_none : (table : List ℕ) → length table ≡ 0 → true ≡ right_table table
unfolding right_table rises_from
right_none [] h = refl
right_none (n ∷ ns) h = absurd (omega (arith, h))

-- they rise from the least that the next may be, and none passes 99999: so they end there if the least is no more than one above it
abbrev pub right_behind : ℕ → List ℕ → Bool
right_behind least ns = rises_from least ns && (leb least 100000 && every is_postcode ns)

behind_on : (least entry : ℕ) (ns : List ℕ) → least ≤ entry → right_behind least (entry ∷ ns) ≡ right_behind (entry + 1) ns
unfolding rises_from
behind_on least entry ns h = rw (le-leb least entry h) (ap (λ (b : Bool). rises_from (entry + 1) ns && b) (go (leb entry 99999) refl))
  where
    go : (t : Bool) → leb entry 99999 ≡ t → (leb least 100000 && (t && every is_postcode ns)) ≡ (leb (entry + 1) 100000 && every is_postcode ns)
    go true e = let low = leb-true entry 99999 e in rw (le-leb least 100000 (omega (arith, low)), le-leb (entry + 1) 100000 (omega (arith, low)))
    go false e = rw (lt-leb (entry + 1) 100000 (omega (arith, leb-false entry 99999 e)), and-false)

behind_falls : (least entry : ℕ) (ns : List ℕ) → entry < least → right_behind least (entry ∷ ns) ≡ false
unfolding rises_from
behind_falls least entry ns h = rw (lt-leb least entry h)

-- with these entries left, which are never none, and the last of all
abbrev pub right_left : Bool → List ℕ → List ℕ → ℕ → Type 0
right_left rises left table highest =
    (0 < length left) × (get_or left (length left - 1) 0 ≡ highest) × ((rises && right_behind (get_or left 0 0 + 1) (drop 1 left)) ≡ right_table table)

pub right_start : (table left : List ℕ) (highest : ℕ) → left ≡ table → slice_get table (length table - 1) ≡ Some highest → length table ≤ 16000 → right_left true left table highest
unfolding right_table
right_start [] left highest el last h = cc
right_start (n ∷ ns) left highest el last h =
    rw el (
      omega arith,
      get_or_from_slice_get (n ∷ ns) (length (n ∷ ns) - 1) highest 0 last,
      sym (behind_on 0 n ns (omega arith)) ∙ rw (le-leb (length (n ∷ ns)) 16000 h),
    )

module _ (table : List ℕ) (i last : ℕ) (rises r : Bool) (known : (rises && right_behind (last + 1) (drop i table)) ≡ r) where
  right_on : i < length table → ((rises && ltb last (get_or table i 0)) && right_behind (get_or table i 0 + 1) (drop (i + 1) table)) ≡ r
  right_on h = go (ltb last (get_or table i 0)) refl (rw (step table i h) at known)
    where
      go : (t : Bool) → ltb last (get_or table i 0) ≡ t → (rises && right_behind (last + 1) (get_or table i 0 ∷ drop (i + 1) table)) ≡ r
          → ((rises && t) && right_behind (get_or table i 0 + 1) (drop (i + 1) table)) ≡ r
      go true e k = rw (and-true rises) (rw (behind_on (last + 1) (get_or table i 0) (drop (i + 1) table) (omega (arith, ltb-true last (get_or table i 0) e))) at k)
      go false e k = rw (and-false rises) (rw (behind_falls (last + 1) (get_or table i 0) (drop (i + 1) table) (omega (arith, ltb-false last (get_or table i 0) e)), and-false rises) at k)

  right_ends : length table ≤ i → (rises && leb last 99999) ≡ r
  unfolding rises_from
  right_ends h = ap (λ (b : Bool). rises && b) (go (leb last 99999) refl) ∙ (rw (ended table i h) at known)
    where
      go : (t : Bool) → leb last 99999 ≡ t → t ≡ (leb (last + 1) 100000 && true)
      go true e = rw (le-leb (last + 1) 100000 (omega (arith, leb-true last 99999 e)))
      go false e = rw (lt-leb (last + 1) 100000 (omega (arith, leb-false last 99999 e)))

-- the first two of those that are left
pub pair_on : (rises : Bool) (left after pair table : List ℕ) (highest : ℕ) → right_left rises left table highest → 2 ≤ length left → pair ≡ take 2 left → after ≡ drop 1 left
    → right_left (rises && ltb (get_or pair 0 0) (get_or pair 1 0)) after table highest
pair_on rises [] after pair table highest known two ep ea = absurd (omega arith)
pair_on rises (a ∷ []) after pair table highest known two ep ea = absurd (omega arith)
pair_on rises (a ∷ b ∷ more) after pair table highest known two ep ea =
    let last : length (a ∷ b ∷ more) - 1 ≡ suc (length (b ∷ more) - 1) = omega arith in
    rw (ea, ep) (omega arith, rw last at known.1, right_on (b ∷ more) 0 a rises (right_table table) known.2 (omega arith))

pub pair_ends : (rises : Bool) (left table : List ℕ) (highest : ℕ) → right_left rises left table highest → length left < 2 → (rises && leb highest 99999) ≡ right_table table
pair_ends rises [] table highest known few = absurd (omega arith)
pair_ends rises (a ∷ []) table highest known few = rw (← known.1) (right_ends [] 0 a rises (right_table table) known.2 (omega arith))
pair_ends rises (a ∷ b ∷ more) table highest known few = absurd (omega arith)

-- ---- find: among the entries from `low` up to `high`, after so many of the 14 looks
pub look_first : (table : List ℕ) (n : ℕ) → found_in 14 table 0 (length table) n ≡ found table n
unfolding found
look_first table n = refl

module _ (look : ℕ) (table : List ℕ) (low high n : ℕ) (hit r : Bool) (known : (hit || found_in (14 - look) table low high n) ≡ r) where
  pub look_last : 14 ≤ look → hit ≡ r
  unfolding found_in
  look_last h = let z : 14 - look ≡ 0 = omega arith in sym (or-false hit) ∙ (rw z at known)

  module _ (some : look < 14) where
    down : (hit || found_in (suc (14 - (look + 1))) table low high n) ≡ r
    down = let one : suc (14 - (look + 1)) ≡ 14 - look = omega arith in rw one known

    pub look_none : high ≤ low → hit ≡ r
    unfolding found_in
    look_none h = sym (or-false hit) ∙ (rw (le-ltb low high h) at down)

    pub look_on : low < high → (entry l h : ℕ) → entry ≡ get_or table (middle low high) 0 → l ≡ cond (ltb entry n) (middle low high + 1) low → h ≡ cond (ltb entry n) high (middle low high)
        → (hit || eqb entry n || found_in (14 - (look + 1)) table l h n) ≡ r
    unfolding found_in
    look_on more entry l h e el eh = rw (el, eh) (go hit (eqb entry n) (ltb entry n)) ∙ (rw (lt-ltb low high more, ← e) at down)
      where
        left : ℕ
        left = 14 - (look + 1)

        go : (t u v : Bool) → (t || u || found_in left table (cond v (middle low high + 1) low) (cond v high (middle low high)) n)
            ≡ (t || cond u true (cond v (found_in left table (middle low high + 1) high n) (found_in left table low (middle low high) n)))
        go true u v = refl
        go false true v = refl
        go false false true = refl
        go false false false = refl

-- the half that is left stays inside the table
pub look_inside : (b : Bool) (low high h k : ℕ) → high ≤ k → low < high → h ≡ cond b high (middle low high) → h ≤ k
look_inside b low high h k within more e = rw e (by_cond (λ x. x ≤ k) b high (middle low high) (λ t. within) (λ t. omega arith))

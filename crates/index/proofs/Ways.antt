-- Each turn of the loop, and each way out of the functions, from the facts that are known there.
-- Assumes nothing.
use Prim.Native.Nat.{ℕ, zero, suc, ◌+◌, ◌-◌, ◌*◌, ◌/◌, ◌%◌, ◌^◌, ◌≤◌, ◌<◌}
use mathlib.Core.Path.{◌≡◌, refl, sym, ap, ◌∙◌}
use mathlib.Core.Bool.{Bool, true, false, cond, ◌&&◌, and-false}
use mathlib.Core.List.{List}
use native.Mathlib.Nat.{sub-zero}
use native.Mathlib.Omega.{arith}
use borrow.Author.Tests.{eq-eqb, ne_eqb, le-leb, lt-leb}
use lib.Dec.{leb, ltb}
use lib.ListN.{length, get_or, set, take, drop, length-drop}
use lib.Seq.{set_out, take_all}
use Rattle.std.proofs.Common.{Option, Some, None, MatchOption, Bor}
use Rattle.std.specs.Array.{IsFirstChunk}
use Rattle.text.specs.Lists.{same_bytes}
use Rattle.text.specs.Words.{word_of}
use Rattle.text.proofs.Booleans.{clash}
use Rattle.index.specs.Index.{key_at, has_key, named, hash_of, ends, next, slot_from, slot_of, slot_number, found, noting, Put}
use Rattle.index.proofs.Keys.{key_near, key_long, key_whole}
use Rattle.index.proofs.Slots.{named_zero, named_is, named_none, named_beyond, slot_here, slot_on, slot_out, found_has}

-- ---- key_at
pub key_far : (file : List ℕ) (from i : ℕ) → 388 < from → has_key file from i ≡ false
unfolding has_key
key_far file from i h = rw (lt-leb (from + 13) 401 (omega arith))

pub key_beyond : (file : List ℕ) (from i : ℕ) → length file < i * 401 + from + 13 → has_key file from i ≡ false
unfolding has_key
key_beyond file from i h = rw (lt-leb (i * 401 + from + 13) (length file) h) (and-false (leb (from + 13) 401))

key_is : (file : List ℕ) (from i : ℕ) → from ≤ 388 → i * 401 + from + 13 ≤ length file → has_key file from i ≡ true
unfolding has_key
key_is file from i near within = rw (le-leb (from + 13) 401 (omega arith), le-leb (i * 401 + from + 13) (length file) within)

-- what is left from its start on begins with it
module _ (file : List ℕ) (from i start : ℕ) (near : from ≤ 388) (es : start ≡ i * 401 + from) (left : List ℕ) (el : left ≡ take (length file - start) (drop start file))
    (long : length left + start ≡ length file) where
  pub key_told : (r : Option (Bor (List ℕ))) → MatchOption r (length left < 13) (λ y. IsFirstChunk left y.now 13)
      → MatchOption r (has_key file from i ≡ false) (λ key. (has_key file from i ≡ true) × (key.now ≡ key_at file from i))
  key_told None short = key_beyond file from i (omega arith)
  key_told (Some y) chunk =
      let enough = chunk.enough in
      let all : length (drop start file) ≤ length file - start = rw length-drop (omega arith) in
      (key_is file from i near (omega arith), chunk.same ∙ rw (el, take_all (length file - start) (drop start file) all, es))

-- ---- named
module _ (file : List ℕ) (from slot : ℕ) where
  pub named_empty : (t : ℕ) → t ≡ slot → (1 ≤ t → ⊥) → named file from slot ≡ 0
  named_empty t et none = let z : slot ≡ 0 = omega arith in rw z (named_zero file from)

  module _ (i : ℕ) (place : slot ≡ i + 1) where
    back : slot - 1 ≡ i
    back = omega arith

    pub named_lacks : has_key file from i ≡ false → named file from slot ≡ 0
    named_lacks h = named_none file from slot (rw back h)

    pub named_there : has_key file from i ≡ true → named file from slot ≡ i + 1
    named_there h = named_is file from slot (λ z. omega arith) (rw back h) ∙ place

-- ---- hash
pub hash_is : (m : ℕ) (key : List ℕ) → length key ≡ 13 → (v w r : ℕ) → (v ≡ word_of (take 12 (drop 1 key))) × (v < 2 ^ 64) → (w ≡ word_of (take 8 (drop 5 key))) × (w < 2 ^ 64)
    → r ≡ (v % 4294967296 * 1540483477 + w % 4294967296 * 1640531527 + w / 4294967296 * 1103515245) / 268435456 % m → r ≡ hash_of m key
unfolding hash_of
hash_is m key long v w r ev ew er =
    let front : v ≡ word_of (drop 1 key) = ev.0 ∙ ap word_of (take_all 12 (drop 1 key) (simp length-drop (omega arith))) in
    let back : w ≡ word_of (drop 5 key) = ew.0 ∙ ap word_of (take_all 8 (drop 5 key) (simp length-drop (omega arith))) in
    er ∙ rw (front, back)

-- ---- slot_of: at slot s, after so many turns of as many as there are slots
pub walk_none : (table file : List ℕ) (from : ℕ) (key : List ℕ) → length table ≡ 0 → slot_of table file from key ≡ length table
unfolding slot_from slot_of
walk_none table file from key z = rw z

pub walk_start : (table file : List ℕ) (from : ℕ) (key : List ℕ) (h : ℕ) → (h ≡ hash_of (length table) key) × (h < length table)
    → slot_from (length table) table file from key (length table - 0) h ≡ slot_of table file from key
unfolding slot_of
walk_start table file from key h e = rw (sub-zero, e.0)

module _ (m : ℕ) (table file : List ℕ) (from : ℕ) (key : List ℕ) (s turn r : ℕ) (known : slot_from m table file from key (m - turn) s ≡ r) where
  pub walk_out : m ≤ turn → r ≡ m
  walk_out h = let z : m - turn ≡ 0 = omega arith in sym (rw z at known) ∙ slot_out m table file from key s

  module _ (some : turn < m) where
    down : slot_from m table file from key (suc (m - (turn + 1))) s ≡ r
    down =
        let one : suc (m - (turn + 1)) ≡ m - turn = omega arith in
        rw one known

    pub walk_free : named file from (get_or table s 0) ≡ 0 → s ≡ r
    walk_free z = sym (slot_here m table file from key (m - (turn + 1)) s (rw (eq-eqb (named file from (get_or table s 0)) 0 z))) ∙ down

    module _ (i : ℕ) (k : List ℕ) (told : (named file from (get_or table s 0) ≡ i + 1) × (k ≡ key_at file from i)) (b : Bool) (eb : b ≡ same_bytes k key) where
      asked : ends table file from key s ≡ b
      asked =
          let busy : named file from (get_or table s 0) ≡ 0 → ⊥ = λ z. omega (arith, told.0) in
          let back : named file from (get_or table s 0) - 1 ≡ i = omega (arith, told.0) in
          rw (ne_eqb (named file from (get_or table s 0)) 0 busy, back, ← told.1) (sym eb)

      pub walk_found : b ≡ true → s ≡ r
      walk_found h = sym (slot_here m table file from key (m - (turn + 1)) s (asked ∙ h)) ∙ down

      pub walk_on : (u : ℕ) → (u ≡ next m s) × (u < m) → b ≡ false → slot_from m table file from key (m - (turn + 1)) u ≡ r
      walk_on u eu h = rw eu.0 (sym (slot_on m table file from key (m - (turn + 1)) s (asked ∙ h)) ∙ down)

-- ---- find
-- nothing is found but what is there
found_none : (table file : List ℕ) (from : ℕ) (key : List ℕ) → ((i : ℕ) → has_key file from i ≡ true → key_at file from i ≡ key → ⊥) → 0 ≡ found table file from key
found_none table file from key none = go (found table file from key) refl
  where
    go : (t : ℕ) → found table file from key ≡ t → 0 ≡ t
    go zero e = refl
    go (suc i) e = absurd (let h = found_has table file from key i e in none i h.inside h.same)

pub find_other : (table file : List ℕ) (from : ℕ) (key : List ℕ) → (length key ≡ 13 → ⊥) → 0 ≡ found table file from key
find_other table file from key other = found_none table file from key (λ i has same. other (ap length (sym same) ∙ key_long file from i has))

module _ (table file : List ℕ) (from : ℕ) (key own : List ℕ) (same : own ≡ key) where
  pub find_out : slot_of table file from own ≡ length table → 0 ≡ found table file from key
  unfolding found
  find_out none = rw same at (sym (named_beyond table file from (slot_of table file from own) (omega arith)))

  pub find_there : (s t : ℕ) → (s ≡ slot_of table file from own) × (s < length table) → t ≡ named file from (get_or table s 0) → t ≡ found table file from key
  unfolding found
  find_there s t es et = et ∙ rw (← same, ← es.0)

-- ---- put
pub put_keyless : (table file : List ℕ) (from n : ℕ) → has_key file from n ≡ false → Put table file from n None table
unfolding noting
put_keyless table file from n lacks =
    record {
      before = found_none table file from (key_at file from n)
          (λ i has same. clash (key_whole file from n (key_near file from i has) (ap length (sym same) ∙ key_long file from i has)) lacks);
      notes = rw lacks;
    }

module _ (table file : List ℕ) (from n : ℕ) (own : List ℕ) (told : (has_key file from n ≡ true) × (own ≡ key_at file from n)) where
  pub put_full : slot_of table file from own ≡ length table → Put table file from n None table
  unfolding noting
  put_full none =
      record {
        before = find_out table file from (key_at file from n) own told.1 none;
        notes = rw (← told.1) (go (has_key file from n && ltb n 65535));
      }
    where
      go : (t : Bool) → table ≡ cond t (set table (slot_of table file from own) (n + 1)) table
      go true = sym (set_out table (slot_of table file from own) (n + 1) (omega (arith, none)))
      go false = refl

  pub put_noted : (s : ℕ) (t : Option ℕ) (w : List ℕ) → (s ≡ slot_of table file from own) × (s < length table) → slot_number t ≡ named file from (get_or table s 0)
      → w ≡ cond (ltb n 65535) (set table s (n + 1)) table → Put table file from n t w
  unfolding noting
  put_noted s t w es et ew =
      record {
        before = find_there table file from (key_at file from n) own told.1 s (slot_number t) es et;
        notes = rw (ew, told.0, ← told.1, es.0);
      }

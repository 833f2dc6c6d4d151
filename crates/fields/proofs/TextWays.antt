-- Texts and e-mail: std's words for ours, each turn of the loops, and each way out.
-- Assumes nothing.
use Rattle.std.specs.Prelude.{Option, Some, None, IfSome, unwrap_or}
use Rattle.std.specs.Bool.{then_some}
use Rattle.std.specs.List.{list_any}
use Prim.Native.Nat.{ℕ, suc, ◌+◌, ◌-◌, ◌≤◌, ◌<◌}
use mathlib.Core.Path.{◌≡◌, refl, sym, ap, ◌∙◌}
use mathlib.Core.Bool.{Bool, true, false, cond, not, ◌&&◌, and-eq-true_iff, and-true, and-false}
use mathlib.Core.List.{List, [], ◌∷◌, ◌++◌}
use native.Mathlib.Omega.{arith}
use borrow.Author.Tests.{eq-eqb, ne_eqb, lt-ltb, eqb-true, not-false}
use lib.Dec.{eqb, ltb}
use lib.ListN.{length, get_or, take, drop, length-drop, take-append-drop, get_or-eq_default}
use lib.Seq.{take_all}
use Rattle.text.specs.Bytes.{every, is_space, is_blank, run}
use Rattle.text.specs.Lists.{part}
use Rattle.text.proofs.Booleans.{clash}
use Rattle.text.proofs.Numbers.{every_append}
use Rattle.fields.specs.declared.reading.Reading.TheVariants.{Absent, Value, Malformed}
use Rattle.fields.specs.Texts.{is_text, filled, read_text, is_plain, contains, is_host, is_mail, behind_at, mail_end}
use Rattle.fields.proofs.Frames.{frame_blank, frame_good, frame_bad}
use Rattle.fields.proofs.TextLaws.{filled_blank}

-- ---- std's word for ours
pub contains_any : (x : ℕ) (s : List ℕ) → list_any (λ b. eqb b x) s ≡ contains x s
unfolding contains
contains_any x [] = refl
contains_any x (b ∷ s) = rw (contains_any x s)

-- ---- filled: spaces at the end count for nothing
blank_append : (a e : List ℕ) → is_blank e ≡ true → is_blank (a ++ e) ≡ is_blank a
blank_append a e h = every_append is_space a e ∙ rw (h, and-true (is_blank a))

filled_append : (a e : List ℕ) → is_blank e ≡ true → filled (a ++ e) ≡ filled a
unfolding filled
filled_append [] e h = filled_blank e h
filled_append (b ∷ a) e h = rw (blank_append (b ∷ a) e h, filled_append a e h)

filled_last : (a : List ℕ) (x : ℕ) → (x ≡ 32 → ⊥) → filled (a ++ x ∷ []) ≡ length a + 1
unfolding filled
filled_last [] x n = rw (ne_eqb x 32 n)
filled_last (b ∷ a) x n =
    let not_all : is_blank (b ∷ (a ++ x ∷ [])) ≡ false = every_append is_space (b ∷ a) (x ∷ []) ∙ rw (ne_eqb x 32 n) (and-false (is_blank (b ∷ a))) in
    rw (not_all, filled_last a x n) (omega arith)

module _ (f s : List ℕ) (known : filled s ≡ filled f) where
  pub filled_before : (b e : List ℕ) (n : ℕ) (t : Bool) → b ≡ take n s → e ≡ drop n s → t ≡ is_blank e → not t ≡ false → filled b ≡ filled f
  filled_before b e n t eb ee et y =
      let blank : is_blank (drop n s) ≡ true = rw (← ee, ← et) (not-false t y) in
      rw eb (sym (filled_append (take n s) (drop n s) blank) ∙ rw (take-append-drop n s) known)

  pub filled_less : (b : List ℕ) (x : ℕ) → s ≡ b ++ x ∷ [] → x ≡ 32 → filled b ≡ filled f
  filled_less b x es e = sym (filled_append b (x ∷ []) (rw e)) ∙ rw (← es) known

  pub filled_here : (b : List ℕ) (x : ℕ) → s ≡ b ++ x ∷ [] → length b + 1 ≡ length s → (x ≡ 32 → ⊥) → length s ≡ filled f
  filled_here b x es long n = sym long ∙ sym (filled_last b x n) ∙ rw (← es) known

  pub filled_none : length s ≡ 0 → length s ≡ filled f
  unfolding filled
  filled_none z = z ∙ sym (nothing s z) ∙ known
    where
      nothing : (s : List ℕ) → length s ≡ 0 → filled s ≡ 0
      nothing [] e = refl
      nothing (b ∷ s) e = absurd (omega arith)

-- ---- the spaces at the end are text
blank_text : (s : List ℕ) → is_blank s ≡ true → every is_text s ≡ true
blank_text [] e = refl
blank_text (b ∷ s) e =
    let both = (and-eq-true_iff (eqb b 32) (is_blank s)).0 e in
    rw (eqb-true b 32 both.0, blank_text s both.1)

front_text : (s : List ℕ) → every is_text (take (filled s) s) ≡ every is_text s
unfolding filled
front_text [] = refl
front_text (b ∷ s) = go (is_blank (b ∷ s)) refl (front_text s)
  where
    go : (q : Bool) → is_blank (b ∷ s) ≡ q → every is_text (take (filled s) s) ≡ every is_text s → every is_text (take (cond q 0 (suc (filled s))) (b ∷ s)) ≡ every is_text (b ∷ s)
    go true e later = sym (blank_text (b ∷ s) e)
    go false e later = rw later

-- ---- read_text: nothing stands before the spaces exactly if all is blank
filled_some : (s : List ℕ) → is_blank s ≡ false → 0 < filled s
unfolding filled
filled_some [] e = absurd (clash refl e)
filled_some (b ∷ s) e = rw e (omega arith)

module _ (w : ℕ) (f : List ℕ) (n : ℕ) (long : length f ≡ w) (en : (n ≡ filled f) × (n ≤ length f)) where
  pub text_absent : n ≡ 0 → Absent ≡ read_text w f
  text_absent z = frame_blank Absent Malformed (Value (filled f)) w f (every is_text f && not (eqb (get_or f 0 0) 32)) (is_blank f) long refl (all (is_blank f) refl)
    where
      all : (b : Bool) → is_blank f ≡ b → b ≡ true
      all true e = refl
      all false e = absurd (omega (arith, filled_some f e, en.0, z))

  module _ (some : n ≡ 0 → ⊥) where
    not_all : (b : Bool) → is_blank f ≡ b → b ≡ false
    not_all true e = absurd (some (en.0 ∙ filled_blank f e))
    not_all false e = refl

    abbrev good : Bool
    good = every is_text f && not (eqb (get_or f 0 0) 32)

    pub text_value : every is_text (take n f) ≡ true → (get_or f 0 0 ≡ 32 → ⊥) → Value n ≡ read_text w f
    text_value t p =
        let is : good ≡ true = rw (← front_text f, ← en.0, t, ne_eqb (get_or f 0 0) 32 p) in
        rw en.0 (frame_good Absent Malformed (Value (filled f)) w f good (is_blank f) long refl (not_all (is_blank f) refl) is)

    bad : good ≡ false → Malformed ≡ read_text w f
    bad is = frame_bad Absent Malformed (Value (filled f)) w f good (is_blank f) long refl (not_all (is_blank f) refl) is

    pub text_no_text : every is_text (take n f) ≡ false → Malformed ≡ read_text w f
    text_no_text t = bad (rw (← front_text f, ← en.0, t))

    pub text_space : get_or f 0 0 ≡ 32 → Malformed ≡ read_text w f
    text_space p = bad (rw (eq-eqb (get_or f 0 0) 32 p, and-false (every is_text f)))

-- ---- host_length
contains_short : (x : ℕ) (s : List ℕ) (n : ℕ) → n < 2 → contains x (part s 1 (n - 1)) ≡ false
unfolding contains
contains_short x s n h = let e : n - 1 - 1 ≡ 0 = omega arith in rw e

module _ (h : List ℕ) (n : ℕ) (en : (n ≡ run is_plain h) × (n ≤ length h)) where
  pub host_short : n < 2 → None ≡ cond (is_host h) (Some (run is_plain h)) None
  unfolding is_host
  host_short l = rw (← en.0, contains_short 46 h n l)

  pub host_no_dot : (d : Bool) → d ≡ list_any (λ b. eqb b 46) (part h 1 (n - 1)) → d ≡ false → None ≡ cond (is_host h) (Some (run is_plain h)) None
  unfolding is_host
  host_no_dot d ed t = rw (← en.0, ← contains_any 46 (part h 1 (n - 1)), ← ed, t)

  pub host_is : (d s : Bool) (o : Option ℕ) → d ≡ list_any (λ b. eqb b 46) (part h 1 (n - 1)) → d ≡ true → s ≡ is_blank (take (length h - n) (drop n h)) → o ≡ then_some s n
      → (o ≡ cond (is_host h) (Some (run is_plain h)) None) × IfSome o (λ k. k ≤ length h)
  unfolding is_host
  host_is d s o ed t es eo =
      let rest : take (length h - n) (drop n h) ≡ drop n h = take_all (length h - n) (drop n h) (rw length-drop (omega arith)) in
      (eo ∙ rw (← en.0, ← contains_any 46 (part h 1 (n - 1)), ← ed, t, ← rest, ← es) (told s), rw eo (within s))
    where
      told : (s : Bool) → then_some s n ≡ cond s (Some n) None
      told true = refl
      told false = refl

      within : (s : Bool) → IfSome (then_some s n) (λ k. k ≤ length h)
      within true = en.1
      within false = tt

-- ---- read_mail
module _ (f : List ℕ) (a : ℕ) (ea : (a ≡ run is_plain f) × (a ≤ length f)) where
  pub mail_no_local : a ≡ 0 → None ≡ cond (is_mail f) (Some (mail_end f)) None
  unfolding is_mail
  mail_no_local z = rw (← ea.0, z)

  pub mail_no_at : (get_or f a 0 ≡ 64 → ⊥) → None ≡ cond (is_mail f) (Some (mail_end f)) None
  unfolding is_mail
  mail_no_at n = rw (← ea.0, ne_eqb (get_or f a 0) 64 n, and-false (ltb 0 a))

  pub mail_full : a ≡ length f → None ≡ cond (is_mail f) (Some (mail_end f)) None
  mail_full e =
      let past : get_or f a 0 ≡ 0 = get_or-eq_default f 0 {n = a} (omega arith) in
      mail_no_at (λ h. omega arith)

  module _ (some : a ≡ 0 → ⊥) (at : get_or f a 0 ≡ 64) where
    is_mail_lem : is_mail f ≡ is_host (behind_at f)
    unfolding is_mail
    is_mail_lem = rw (← ea.0, lt-ltb 0 a (omega arith), eq-eqb (get_or f a 0) 64 at)

    -- what stands behind the "@", as the code cuts it
    abbrev back : List ℕ
    back = take (length f - (a + 1)) (drop (a + 1) f)

    back_is : back ≡ behind_at f
    back_is = take_all (length f - (a + 1)) (drop (a + 1) f) (rw length-drop (omega arith)) ∙ rw ea.0

    module _ (o : Option ℕ) (eo : o ≡ cond (is_host back) (Some (run is_plain back)) None) where
      found : o ≡ cond (is_host (behind_at f)) (Some (run is_plain (behind_at f))) None
      found = rw back_is at eo

      pub mail_no_host : o ≡ None → None ≡ cond (is_mail f) (Some (mail_end f)) None
      mail_no_host n = rw is_mail_lem (go (is_host (behind_at f)) (sym n ∙ found))
        where
          go : (t : Bool) → None ≡ cond t (Some (run is_plain (behind_at f))) None → None ≡ cond t (Some (mail_end f)) None
          go true e = cc
          go false e = refl

      pub mail_is : (n : ℕ) → o ≡ Some n → Some (a + 1 + n) ≡ cond (is_mail f) (Some (mail_end f)) None
      mail_is n e = rw is_mail_lem (go (is_host (behind_at f)) (sym e ∙ found))
        where
          go : (t : Bool) → Some n ≡ cond t (Some (run is_plain (behind_at f))) None → Some (a + 1 + n) ≡ cond t (Some (mail_end f)) None
          go true e = rw ea.0 (ap (λ (o : Option ℕ). Some (run is_plain f + 1 + unwrap_or o 0)) e)
          go false e = cc

-- The four ways out of a reading, over any kind.
-- Assumes nothing.
use Prim.Native.Nat.{ℕ}
use mathlib.Core.Path.{◌≡◌, refl, ◌∙◌}
use mathlib.Core.Bool.{Bool, true, false, cond}
use mathlib.Core.List.{List}
use borrow.Author.Tests.{eq-eqb, ne_eqb, eqb-true}
use lib.ListN.{length}
use Rattle.text.specs.Bytes.{is_blank}
use Rattle.std.specs.Prelude.{Option, Some, None, is_some}
use lib.Dec.{eqb}
use Rattle.text.proofs.Booleans.{clash}
use Rattle.fields.specs.declared.reading.Reading.{Reading}
use Rattle.fields.specs.declared.reading.Reading.TheVariants.{Absent, Value, Malformed}
use Rattle.fields.specs.Frame.{framed, or_malformed, IsFramed}

module _ {A : Type 0} (absent bad v : A) (w : ℕ) (f : List ℕ) (good : Bool) where
  pub frame_wide : (length f ≡ w → ⊥) → bad ≡ framed absent bad w f good v
  unfolding framed
  frame_wide n = rw (ne_eqb (length f) w n)

  pub frame_blank : (b : Bool) → length f ≡ w → b ≡ is_blank f → b ≡ true → absent ≡ framed absent bad w f good v
  unfolding framed
  frame_blank b long e t = rw (eq-eqb (length f) w long, ← e, t)

  pub frame_good : (b : Bool) → length f ≡ w → b ≡ is_blank f → b ≡ false → good ≡ true → v ≡ framed absent bad w f good v
  unfolding framed
  frame_good b long e t g = rw (eq-eqb (length f) w long, ← e, t, g)

  pub frame_bad : (b : Bool) → length f ≡ w → b ≡ is_blank f → b ≡ false → good ≡ false → bad ≡ framed absent bad w f good v
  unfolding framed
  frame_bad b long e t g = rw (eq-eqb (length f) w long, ← e, t, g)

-- ---- a reading by what gives the value, or none
module _ {T : Type 0} (w : ℕ) (f : List ℕ) (P : Option T → Type 0) where
  pub framed_wide : (length f ≡ w → ⊥) → IsFramed w f P Malformed
  unfolding IsFramed framed
  framed_wide n = (None, (λ e b. absurd (n e)), rw (ne_eqb (length f) w n))

  pub framed_blank : is_blank f ≡ true → length f ≡ w → IsFramed w f P Absent
  unfolding IsFramed framed
  framed_blank b e = (None, (λ l n. absurd (clash b n)), rw (eq-eqb (length f) w e, b))

  pub framed_some : is_blank f ≡ false → length f ≡ w → (o : Option T) (v : T) → o ≡ Some v → P o → IsFramed w f P (Value v)
  unfolding IsFramed framed
  framed_some b e o v is p = (o, (λ l n. p), rw (eq-eqb (length f) w e, b, is))

  pub framed_none : is_blank f ≡ false → length f ≡ w → (o : Option T) → o ≡ None → P o → IsFramed w f P Malformed
  unfolding IsFramed framed
  framed_none b e o is p = (o, (λ l n. p), rw (eq-eqb (length f) w e, b, is))

-- where the value is v of a good part, this is the reading
pub framed_is : {T : Type 0} (w : ℕ) (f : List ℕ) (P : Option T → Type 0) (r : Reading T) → IsFramed w f P r → (good : Bool) (v : T)
    → ((o : Option T) → length f ≡ w → P o → o ≡ cond good (Some v) None) → r ≡ framed Absent Malformed w f good (Value v)
unfolding IsFramed framed
framed_is {T = T} w f P r is good v known = is.2 ∙ go (eqb (length f) w) (is_blank f) refl refl
  where
    found : (g : Bool) (o : Option T) → o ≡ cond g (Some v) None → cond (is_some o) (or_malformed o) Malformed ≡ cond g (Value v) Malformed
    found true o e = rw e
    found false o e = rw e

    go : (l b : Bool) → eqb (length f) w ≡ l → is_blank f ≡ b → cond l (cond b Absent (cond (is_some is.0) (or_malformed is.0) Malformed)) Malformed ≡ cond l (cond b Absent (cond good (Value v) Malformed)) Malformed
    go false b el eb = refl
    go true true el eb = refl
    go true false el eb = found good is.0 (known is.0 (eqb-true (length f) w el) (is.1 (eqb-true (length f) w el) eb))

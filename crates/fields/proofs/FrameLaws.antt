-- Readings turned round: how one came about, what is known of a part whose reading is a value, when a reading is absent, and a reading written.
-- Assumes nothing.
use Prim.Native.Nat.{ℕ}
use mathlib.Core.Path.{◌≡◌, refl, sym, ap, ◌∙◌}
use mathlib.Core.Bool.{Bool, true, false, cond}
use mathlib.Core.Logic.{◌↔◌}
use mathlib.Core.List.{List}
use borrow.Author.Tests.{eqb-true, eq-eqb}
use native.Mathlib.Omega.{arith}
use lib.Dec.{eqb}
use lib.ListN.{length, replicate}
use Rattle.text.specs.Bytes.{is_blank}
use Rattle.fields.specs.declared.reading.Reading.{Reading}
use Rattle.fields.specs.declared.reading.Reading.TheVariants.{Absent, Value, Malformed}
use Rattle.fields.specs.Frame.{framed}
use Rattle.text.proofs.Booleans.{clash}
use Rattle.fields.proofs.ByteLaws.{blank_exactly}

-- ---- a field that may be blank
-- the part f has the width w, isn't blank and is good
pub record GoodPart (w : ℕ) (f : List ℕ) (good : Bool) : Type 0 where
  pub long : length f ≡ w
  pub filled : is_blank f ≡ false
  pub fine : good ≡ true

module _ {A : Type 0} (absent malformed : A) (w : ℕ) (f : List ℕ) (good : Bool) (value : A) where
  abbrev reading : A
  reading = framed absent malformed w f good value

  -- how a reading came about: the part was blank, or good, or neither
  pub data Way (r : A) : Type 0 where
    blank : r ≡ absent → f ≡ replicate w 32 → Way r
    valued : r ≡ value → GoodPart w f good → Way r
    neither : r ≡ malformed → Way r

  pub way : Way reading
  unfolding framed
  way = go (eqb (length f) w) (is_blank f) good refl refl refl
    where
      go : (l b g : Bool) → eqb (length f) w ≡ l → is_blank f ≡ b → good ≡ g → Way (cond l (cond b absent (cond g value malformed)) malformed)
      go false b g el eb eg = neither refl
      go true true g el eb eg = blank refl ((blank_exactly w f).0 (eqb-true (length f) w el, eb))
      go true false true el eb eg = valued refl (record { long = eqb-true (length f) w el; filled = eb; fine = eg })
      go true false false el eb eg = neither refl

  -- a reading is some v other than absent and malformed exactly if the part is good, and its value is v
  pub value_exactly : (v : A) → (absent ≡ v → ⊥) → (malformed ≡ v → ⊥) → (reading ≡ v) ↔ (GoodPart w f good × (value ≡ v))
  unfolding framed
  value_exactly v na nm = (
    λ h. go h way,
    λ p. rw (eq-eqb (length f) w p.0.long, p.0.filled, p.0.fine) p.1,
  )
    where
      go : reading ≡ v → Way reading → GoodPart w f good × (value ≡ v)
      go h (blank e s) = absurd (na (sym e ∙ h))
      go h (valued e p) = (p, sym e ∙ h)
      go h (neither e) = absurd (nm (sym e ∙ h))

  -- a reading is absent exactly if the part is spaces, as many as the field is wide
  pub absent_spaces : (value ≡ absent → ⊥) → (malformed ≡ absent → ⊥) → (reading ≡ absent) ↔ (f ≡ replicate w 32)
  unfolding framed
  absent_spaces nv nm = (
    λ h. go h way,
    λ e. let p = (blank_exactly w f).1 e in rw (eq-eqb (length f) w p.0, p.1),
  )
    where
      go : reading ≡ absent → Way reading → f ≡ replicate w 32
      go h (blank e s) = s
      go h (valued e p) = absurd (nv (sym e ∙ h))
      go h (neither e) = absurd (nm (sym e ∙ h))

  -- a part that is not malformed, read and written: the part again
  pub read_written : (bytes : A → List ℕ) → bytes absent ≡ replicate w 32 → (GoodPart w f good → bytes value ≡ f) → (reading ≡ malformed → ⊥) → bytes reading ≡ f
  read_written bytes spaces written fine = go way
    where
      go : Way reading → bytes reading ≡ f
      go (blank e s) = rw e (spaces ∙ sym s)
      go (valued e p) = rw e (written p)
      go (neither e) = absurd (fine e)

-- ---- a reading: absent, a value or malformed
module _ {T : Type 0} where
  pub not_absent : (v : T) → Absent ≡ Value v → ⊥
  not_absent v e = let z : ◌≡◌ {A = ℕ} 0 1 = cc in omega arith

  pub not_malformed : (v : T) → Malformed ≡ Value v → ⊥
  not_malformed v e = let z : ◌≡◌ {A = ℕ} 0 1 = cc in omega arith

  differs : ◌≡◌ {A = Reading T} Malformed Absent → ⊥
  differs e = let z : ◌≡◌ {A = ℕ} 0 1 = cc in omega arith

  pub same_value : (v u : T) → Value v ≡ Value u → v ≡ u
  same_value v u e = cc

  module _ (w : ℕ) (f : List ℕ) (good : Bool) (value : T) where
    -- it is the value v exactly if the part is good, and its value is v
    pub reads_exactly : (v : T) → (framed Absent Malformed w f good (Value value) ≡ Value v) ↔ (GoodPart w f good × (value ≡ v))
    reads_exactly v =
        let c = value_exactly Absent Malformed w f good (Value value) (Value v) (not_absent v) (not_malformed v) in (
          λ h. let p = c.0 h in (p.0, same_value value v p.1),
          λ p. c.1 (p.0, ap Value p.1),
        )

    -- it is absent exactly if the part is spaces, as many as the field is wide
    pub reads_absent : (framed Absent Malformed w f good (Value value) ≡ Absent) ↔ (f ≡ replicate w 32)
    reads_absent = absent_spaces Absent Malformed w f good (Value value) (λ e. not_absent value (sym e)) differs

-- ---- a field that may not be blank
pub chosen_exactly : {A : Type 0} (malformed value v : A) (a b : Bool) → (malformed ≡ v → ⊥)
    → (cond a (cond b value malformed) malformed ≡ v) ↔ ((a ≡ true) × (b ≡ true) × (value ≡ v))
chosen_exactly malformed value v true true other = (λ h. (refl, refl, h), λ p. p.2)
chosen_exactly malformed value v true false other = (λ h. absurd (other h), λ p. absurd (clash p.1 refl))
chosen_exactly malformed value v false b other = (λ h. absurd (other h), λ p. absurd (clash p.0 refl))

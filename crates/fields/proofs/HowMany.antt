-- More than one of a list of different numbers passes a test exactly if two different ones do.
-- Assumes nothing.
use Prim.Native.Nat.{ℕ, suc, ◌≤◌}
use mathlib.Core.Path.{◌≡◌, refl, sym, ap, ◌∙◌}
use mathlib.Core.Bool.{Bool, true, false, cond, not, ◌||◌, or-true}
use mathlib.Core.List.{List, [], ◌∷◌}
use mathlib.Core.Logic.{◌↔◌}
use native.Mathlib.Omega.{arith}
use borrow.Author.Tests.{eqb-true, eqb-false, eq-eqb, ltb-true, lt-ltb, not-true}
use lib.Dec.{eqb, ltb}
use Rattle.text.proofs.Booleans.{clash, both}
use Rattle.fields.specs.Texts.{contains}
use Rattle.fields.specs.Services.{how_many}
use Rattle.fields.specs.ServiceTexts.{all_different, TwoOf}

module _ (test : ℕ → Bool) where
  -- ---- one
  record OneOf (ns : List ℕ) : Type 0 where
    one : ℕ
    listed : contains one ns ≡ true
    passes : test one ≡ true

  one_there : (ns : List ℕ) → 1 ≤ how_many test ns → OneOf ns
  unfolding how_many contains
  one_there [] h = absurd (omega arith)
  one_there (n ∷ ns) h = go (test n) refl (one_there ns) h
    where
      go : (t : Bool) → test n ≡ t → (1 ≤ how_many test ns → OneOf ns) → 1 ≤ cond t (suc (how_many test ns)) (how_many test ns) → OneOf (n ∷ ns)
      go true e rest h = record { one = n; listed = rw (eq-eqb n n refl); passes = e }
      go false e rest h = let r = rest h in record { one = r.one; listed = rw r.listed (or-true (eqb n r.one)); passes = r.passes }

  there_one : (ns : List ℕ) (k : ℕ) → contains k ns ≡ true → test k ≡ true → 1 ≤ how_many test ns
  unfolding how_many contains
  there_one [] k l p = absurd (clash l refl)
  there_one (n ∷ ns) k l p = go (eqb n k) refl (test n) refl (there_one ns k) l
    where
      go : (q : Bool) → eqb n k ≡ q → (t : Bool) → test n ≡ t → (contains k ns ≡ true → test k ≡ true → 1 ≤ how_many test ns) → (q || contains k ns) ≡ true
          → 1 ≤ cond t (suc (how_many test ns)) (how_many test ns)
      go q e true et rest l = omega arith
      go true e false et rest l = absurd (clash (ap test (eqb-true n k e) ∙ p) et)
      go false e false et rest l = rest l p

  -- ---- two
  two_there : (ns : List ℕ) → all_different ns ≡ true → 2 ≤ how_many test ns → TwoOf test ns
  unfolding how_many contains all_different
  two_there [] d h = absurd (omega arith)
  two_there (n ∷ ns) d h = let p = both (not (contains n ns)) (all_different ns) d in go (test n) refl (not-true _ p.0) (two_there ns p.1) h
    where
      go : (t : Bool) → test n ≡ t → contains n ns ≡ false → (2 ≤ how_many test ns → TwoOf test ns) → 2 ≤ cond t (suc (how_many test ns)) (how_many test ns) → TwoOf test (n ∷ ns)
      go true e once rest h =
          let r = one_there ns (omega arith) in
          record {
            one = n;
            other = r.one;
            listed = rw (eq-eqb n n refl);
            other_listed = rw r.listed (or-true (eqb n r.one));
            differ = λ q. clash (ap (λ (k : ℕ). contains k ns) q ∙ r.listed) once;
            passes = e;
            other_passes = r.passes;
          }
      go false e once rest h =
          let r = rest h in
          record {
            one = r.one;
            other = r.other;
            listed = rw r.listed (or-true (eqb n r.one));
            other_listed = rw r.other_listed (or-true (eqb n r.other));
            differ = r.differ;
            passes = r.passes;
            other_passes = r.other_passes;
          }

  -- k is listed behind n, if it is another
  behind : (n k : ℕ) (ns : List ℕ) → contains k (n ∷ ns) ≡ true → (n ≡ k → ⊥) → contains k ns ≡ true
  unfolding contains
  behind n k ns l d = go (eqb n k) refl l
    where
      go : (q : Bool) → eqb n k ≡ q → (q || contains k ns) ≡ true → contains k ns ≡ true
      go true e l = absurd (d (eqb-true n k e))
      go false e l = l

  there_two : (ns : List ℕ) → TwoOf test ns → 2 ≤ how_many test ns
  unfolding how_many contains
  there_two [] w = absurd (clash w.listed refl)
  there_two (n ∷ ns) w = go (eqb n w.one) refl (eqb n w.other) refl (there_two ns)
    where
      go : (p : Bool) → eqb n w.one ≡ p → (q : Bool) → eqb n w.other ≡ q → (TwoOf test ns → 2 ≤ how_many test ns) → 2 ≤ cond (test n) (suc (how_many test ns)) (how_many test ns)
      go true e q f rest =
          let same = eqb-true n w.one e in
          let more = there_one ns w.other (behind n w.other ns w.other_listed (λ z. w.differ (sym same ∙ z))) w.other_passes in
          rw (ap test same ∙ w.passes) (omega arith)
      go false e true f rest =
          let same = eqb-true n w.other f in
          let more = there_one ns w.one (behind n w.one ns w.listed (eqb-false n w.one e)) w.passes in
          rw (ap test same ∙ w.other_passes) (omega arith)
      go false e false f rest =
          let more = rest (record { one = w.one; other = w.other; listed = behind n w.one ns w.listed (eqb-false n w.one e); other_listed = behind n w.other ns w.other_listed (eqb-false n w.other f); differ = w.differ; passes = w.passes; other_passes = w.other_passes }) in
          at_least (test n) more
        where
          at_least : (t : Bool) → 2 ≤ how_many test ns → 2 ≤ cond t (suc (how_many test ns)) (how_many test ns)
          at_least true h = omega arith
          at_least false h = h

  pub several_exactly : (ns : List ℕ) → all_different ns ≡ true → (ltb 1 (how_many test ns) ≡ true) ↔ TwoOf test ns
  several_exactly ns d = (λ h. two_there ns d (ltb-true 1 (how_many test ns) h), λ w. lt-ltb 1 (how_many test ns) (there_two ns w))

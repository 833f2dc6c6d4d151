-- What is known of consignors: when one is another, that of several which are the same the first that is named suffices to know it, and that
-- an identifier written for a consignor is his.
-- Assumes nothing.
use Prim.Native.Nat.{ℕ, zero, suc}
use mathlib.Core.Path.{◌≡◌, refl, sym, ap, ◌∙◌}
use mathlib.Core.Bool.{Bool, true, false, not, ◌&&◌, ◌||◌}
use mathlib.Core.List.{List, [], ◌∷◌, ◌++◌}
use mathlib.Core.Logic.{◌↔◌, ◌⊎◌, inl, inr}
use native.Mathlib.Omega.{arith}
use borrow.Author.Tests.{eqb-true, eqb-false, eq-eqb, ne_eqb}
use lib.Dec.{eqb}
use lib.ListN.{get_or}
use Rattle.std.proofs.Common.{Option, Some, None}
use Rattle.text.proofs.Booleans.{clash}
use Rattle.ident.specs.declared.Parts.{Parts}
use Rattle.ident.specs.declared.consignor.Consignor.{Consignor}
use Rattle.ident.specs.Calls.{can_write, written}
use Rattle.ident.specs.Consignor.{consignor, whose, consignor_in, type_of, number_of, another, Another, another_in, AnotherIn, AllTheSame, or_named, first_named}
use Rattle.ident.proofs.RoundTrip.{written_right, written_parts}

-- ---- two consignors are the same exactly if type and number are
pub same_exactly : (t n u m : ℕ) → (Some (consignor t n) ≡ Some (consignor u m)) ↔ ((t ≡ u) × (n ≡ m))
same_exactly t n u m = (λ e. (ap type_of e, ap number_of e), λ e. rw (e.0, e.1))

somebody : (c : Consignor) → Some c ≡ None → ⊥
somebody c e = let z : ◌≡◌ {A = ℕ} 0 1 = cc in omega arith

pub another_exactly : (c d : Option Consignor) → (another c d ≡ true) ↔ Another c d
another_exactly (Some c) (Some d) = (go (eqb c.kind d.kind) refl (eqb c.number d.number) refl, λ a. differ (eqb c.kind d.kind) refl (eqb c.number d.number) refl a.differ)
  where
    go : (x : Bool) → eqb c.kind d.kind ≡ x → (y : Bool) → eqb c.number d.number ≡ y → not (x && y) ≡ true → Another (Some c) (Some d)
    go true e true f h = absurd (clash h refl)
    go true e false f h = record { this = somebody c; that = somebody d; differ = λ q. eqb-false c.number d.number f (ap number_of q) }
    go false e y f h = record { this = somebody c; that = somebody d; differ = λ q. eqb-false c.kind d.kind e (ap type_of q) }

    differ : (x : Bool) → eqb c.kind d.kind ≡ x → (y : Bool) → eqb c.number d.number ≡ y → (Some c ≡ Some d → ⊥) → not (x && y) ≡ true
    differ true e true f h = absurd (h ((same_exactly c.kind c.number d.kind d.number).1 (eqb-true c.kind d.kind e, eqb-true c.number d.number f)))
    differ true e false f h = refl
    differ false e y f h = refl
another_exactly (Some c) None = (λ h. absurd (clash h refl), λ a. absurd (a.that refl))
another_exactly None d = (λ h. absurd (clash h refl), λ a. absurd (a.this refl))

pub turned : {c d : Option Consignor} → Another c d → Another d c
turned a = record { this = a.that; that = a.this; differ = λ e. a.differ (sym e) }

-- ---- one of several is another
pub another_in_exactly : (cs : List (Option Consignor)) (c : Option Consignor) → (another_in cs c ≡ true) ↔ AnotherIn cs c
unfolding another_in
another_in_exactly [] c = (λ h. absurd (clash h refl), λ a. absurd (a.other.this refl))
another_in_exactly (d ∷ ds) c = go (another d c) refl (another_in_exactly ds c)
  where
    first : (a : AnotherIn (d ∷ ds) c) → another d c ≡ false → AnotherIn ds c
    first a none = by a.earlier a.other
      where
        by : (k : ℕ) → Another (get_or (d ∷ ds) k None) c → AnotherIn ds c
        by zero o = absurd (clash ((another_exactly d c).1 o) none)
        by (suc k) o = record { earlier = k; other = o }

    go : (b : Bool) → another d c ≡ b → (another_in ds c ≡ true) ↔ AnotherIn ds c → (b || another_in ds c ≡ true) ↔ AnotherIn (d ∷ ds) c
    go true e h = (λ t. record { earlier = 0; other = (another_exactly d c).0 e }, λ a. refl)
    go false e h = (λ t. let a = h.0 t in record { earlier = suc a.earlier; other = a.other }, λ a. h.1 (first a e))

-- ---- where all that are named are the same, the first that is named suffices
not_another : (c d : Option Consignor) → (Another c d → ⊥) → another c d ≡ false
not_another c d none = go (another c d) refl
  where
    go : (b : Bool) → another c d ≡ b → b ≡ false
    go true e = absurd (none ((another_exactly c d).0 e))
    go false e = refl

-- nobody is another than nobody; and two that are no others are another than c together
nobody_there : (cs : List (Option Consignor)) → another_in cs None ≡ false
unfolding another_in
nobody_there [] = refl
nobody_there (Some d ∷ cs) = nobody_there cs
nobody_there (None ∷ cs) = nobody_there cs

same_as_first : (d : Consignor) (cs : List (Option Consignor)) (c : Option Consignor) → ((i : ℕ) → Another (Some d) (get_or cs i None) → ⊥) → another (Some d) c ≡ false → another_in cs c ≡ false
unfolding another_in
same_as_first d [] c h none = refl
same_as_first d (None ∷ cs) c h none = same_as_first d cs c (λ i. h (suc i)) none
same_as_first d (Some f ∷ cs) c h none =
    let is : Some f ≡ Some d = same f (not_another (Some d) (Some f) (h 0)) in
    rw (is, none) (same_as_first d cs c (λ i. h (suc i)) none)
  where
    same : (f : Consignor) → another (Some d) (Some f) ≡ false → Some f ≡ Some d
    same f e = go (eqb d.kind f.kind) refl (eqb d.number f.number) refl e
      where
        go : (x : Bool) → eqb d.kind f.kind ≡ x → (y : Bool) → eqb d.number f.number ≡ y → not (x && y) ≡ false → Some f ≡ Some d
        go true p true q h = sym ((same_exactly d.kind d.number f.kind f.number).1 (eqb-true d.kind f.kind p, eqb-true d.number f.number q))
        go true p false q h = absurd (clash refl h)
        go false p y q h = absurd (clash refl h)

pub first_suffices : (cs : List (Option Consignor)) (c : Option Consignor) → AllTheSame cs → another_in cs c ≡ another (first_named cs) c
unfolding another_in first_named
first_suffices [] c one = refl
first_suffices (None ∷ cs) c one = first_suffices cs c (λ i j. one (suc i) (suc j))
first_suffices (Some d ∷ cs) c one = go (another (Some d) c) refl
  where
    go : (b : Bool) → another (Some d) c ≡ b → (b || another_in cs c) ≡ b
    go true e = refl
    go false e = same_as_first d cs c (λ i. one 0 (suc i)) e

-- ---- one more behind them
pub first_more : (cs : List (Option Consignor)) (c : Option Consignor) → first_named (cs ++ c ∷ []) ≡ or_named (first_named cs) c
unfolding first_named
first_more [] (Some d) = refl
first_more [] None = refl
first_more (Some d ∷ cs) c = refl
first_more (None ∷ cs) c = first_more cs c

-- the one behind them, or one of them
last_or_before : (cs : List (Option Consignor)) (c : Option Consignor) (i : ℕ) → (get_or (cs ++ c ∷ []) i None ≡ get_or cs i None) ⊎ (get_or (cs ++ c ∷ []) i None ≡ c)
last_or_before [] c zero = inr refl
last_or_before [] c (suc i) = inl refl
last_or_before (d ∷ ds) c zero = inl refl
last_or_before (d ∷ ds) c (suc i) = last_or_before ds c i

pub same_more : (cs : List (Option Consignor)) (c : Option Consignor) → AllTheSame cs → another_in cs c ≡ false → AllTheSame (cs ++ c ∷ [])
same_more cs c one none i j a = go (last_or_before cs c i) (last_or_before cs c j) a
  where
    not_there : (k : ℕ) → Another (get_or cs k None) c → ⊥
    not_there k o = clash ((another_in_exactly cs c).1 (record { earlier = k; other = o })) none

    go : {x y : Option Consignor} → (x ≡ get_or cs i None) ⊎ (x ≡ c) → (y ≡ get_or cs j None) ⊎ (y ≡ c) → Another x y → ⊥
    go (inl e) (inl f) o = one i j (rw (e, f) at o)
    go (inl e) (inr f) o = not_there i (rw (e, f) at o)
    go (inr e) (inl f) o = not_there j (turned (rw (e, f) at o))
    go (inr e) (inr f) o = o.differ (e ∙ sym f)

-- ---- what was written with a type and a number is read with them, and what was written for CZ names nobody
module _ (p : Parts) (can : can_write p ≡ true) where
  read_as : consignor_in (written p) ≡ whose p
  unfolding consignor_in
  read_as = rw (written_right p can, written_parts p can)

  pub written_for : (p.last ≡ 90 → ⊥) → consignor_in (written p) ≡ Some (consignor p.last p.consignor)
  written_for other = read_as ∙ rw (ne_eqb p.last 90 other)

  pub written_for_nobody : p.last ≡ 90 → consignor_in (written p) ≡ None
  written_for_nobody cz = read_as ∙ rw (eq-eqb p.last 90 cz)

-- The consignors of records: when one strays, that the first consignor named suffices to know it, and that records of one consignor stay so.
-- Assumes nothing.
use Prim.Native.Nat.{ℕ, zero, suc, ◌<◌}
use mathlib.Core.Path.{◌≡◌, refl, sym, ap, ◌∙◌}
use mathlib.Core.Bool.{Bool, true, false}
use mathlib.Core.List.{List, [], ◌∷◌, ◌++◌, map-append}
use mathlib.Core.Logic.{◌↔◌}
use native.Mathlib.Omega.{arith}
use borrow.Author.Tests.{ltb-true, ltb-false}
use lib.Dec.{ltb}
use lib.ListN.{length, get_or, get_or-eq_default}
use Rattle.std.proofs.Common.{Option, None}
use Rattle.ident.specs.declared.consignor.Consignor.{Consignor}
use Rattle.ident.specs.Identifier.{right_id}
use Rattle.ident.specs.Consignor.{consignor_in, another, Another, AllTheSame, or_named, first_named}
use Rattle.ident.proofs.Consignors as Ident
use Rattle.layout.specs.Layout.{field_of}
use Rattle.record.specs.Consignors.{consignor_of, consignors_of, strays, Strays, OneConsignor, first_of}

-- record i and its consignor; where there is none, nobody's
nobody_named : consignor_of [] ≡ None
unfolding field_of consignor_in right_id
nobody_named = refl

nth : (recs : List (List ℕ)) (i : ℕ) → get_or (consignors_of recs) i None ≡ consignor_of (get_or recs i [])
nth [] i = sym nobody_named
nth (rec ∷ recs) zero = refl
nth (rec ∷ recs) (suc i) = nth recs i

-- ---- a record strays exactly if one before it names another consignor
pub strays_exactly : (recs : List (List ℕ)) (rec : List ℕ) → (strays recs rec ≡ true) ↔ Strays recs rec
strays_exactly recs rec =
    let e = Ident.another_in_exactly (consignors_of recs) (consignor_of rec) in (
      λ t. let a = e.0 t in record { earlier = a.earlier; other = rw (nth recs a.earlier) at a.other },
      λ s. e.1 (record { earlier = s.earlier; other = rw (nth recs s.earlier) s.other }),
    )

pub strays_not : (recs : List (List ℕ)) (rec : List ℕ) → (Strays recs rec → ⊥) → strays recs rec ≡ false
strays_not recs rec none = go (strays recs rec) refl
  where
    go : (b : Bool) → strays recs rec ≡ b → b ≡ false
    go true e = absurd (none ((strays_exactly recs rec).0 e))
    go false e = refl

-- ---- who is named stands among them
pub named_within : (recs : List (List ℕ)) (i : ℕ) {c : Option Consignor} → Another (consignor_of (get_or recs i [])) c → i < length recs
named_within recs i a = go (ltb i (length recs)) refl
  where
    go : (b : Bool) → ltb i (length recs) ≡ b → i < length recs
    go true e = ltb-true i (length recs) e
    go false e = absurd (a.this (ap consignor_of (get_or-eq_default recs [] (ltb-false i (length recs) e)) ∙ nobody_named))

-- so records are of one consignor if of no two the later names another
pub one_by_pairs : (recs : List (List ℕ)) → ((i j : ℕ) → i < j → j < length recs → Another (consignor_of (get_or recs i [])) (consignor_of (get_or recs j [])) → ⊥) → OneConsignor recs
one_by_pairs recs pairs = record { same = λ i j a. go i j a (ltb i j) refl (ltb j i) refl }
  where
    go : (i j : ℕ) → Another (consignor_of (get_or recs i [])) (consignor_of (get_or recs j [])) → (s : Bool) → ltb i j ≡ s → (t : Bool) → ltb j i ≡ t → ⊥
    go i j a true e t f = pairs i j (ltb-true i j e) (named_within recs j (Ident.turned a)) a
    go i j a false e true f = pairs j i (ltb-true j i f) (named_within recs i a) (Ident.turned a)
    go i j a false e false f =
        let below = ltb-false i j e in
        let above = ltb-false j i f in
        let here : i ≡ j = omega arith in
        a.differ (ap (λ (k : ℕ). consignor_of (get_or recs k [])) here)

-- ---- of records of one consignor the first that is named suffices
all_the_same : (recs : List (List ℕ)) → OneConsignor recs → AllTheSame (consignors_of recs)
all_the_same recs one i j a = one.same i j (rw (nth recs i, nth recs j) at a)

pub first_suffices : (recs : List (List ℕ)) (rec : List ℕ) → OneConsignor recs → strays recs rec ≡ another (first_of recs) (consignor_of rec)
first_suffices recs rec one = Ident.first_suffices (consignors_of recs) (consignor_of rec) (all_the_same recs one)

-- ---- none yet, and one more that does not stray
pub one_none : OneConsignor []
one_none = record { same = λ i j a. a.this nobody_named }

pub one_more_lem : (recs : List (List ℕ)) (rec : List ℕ) → OneConsignor recs → strays recs rec ≡ false → OneConsignor (recs ++ rec ∷ [])
one_more_lem recs rec one none = record { same = λ i j a. same i j (rw (nth (recs ++ rec ∷ []) i, nth (recs ++ rec ∷ []) j) a) }
  where
    same : AllTheSame (consignors_of (recs ++ rec ∷ []))
    same = rw (map-append consignor_of recs (rec ∷ [])) (Ident.same_more (consignors_of recs) (consignor_of rec) (all_the_same recs one) none)

pub first_more : (recs : List (List ℕ)) (rec : List ℕ) → first_of (recs ++ rec ∷ []) ≡ or_named (first_of recs) (consignor_of rec)
first_more recs rec = ap first_named (map-append consignor_of recs (rec ∷ [])) ∙ Ident.first_more (consignors_of recs) (consignor_of rec)

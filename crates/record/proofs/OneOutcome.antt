-- One outcome only: two that satisfy what a check of a record promises are the same.
-- Assumes nothing.
use mathlib.Core.Path.{◌≡◌, sym, ap₂, ◌∙◌}
use mathlib.Core.List.{List}
use Prim.Native.Nat.{ℕ}
use Rattle.std.specs.Prelude.{Option, Result, ⊤}
use Rattle.text.specs.declared.Answer.{Answer}
use Rattle.text.specs.declared.Refusal.{Refusal}
use Rattle.text.proofs.Refusals.{answered_once}
use Rattle.ident.specs.declared.consignor.Consignor.{Consignor}
use Rattle.fields.specs.declared.others.StatusReading.{StatusReading}
use Rattle.fields.specs.Readings.{MoneyReading}
use Rattle.record.specs.declared.RecordCheck.{RecordCheck}
use Rattle.record.specs.declared.CheckWithAmounts.{CheckWithAmounts}
use Rattle.record.specs.Consignors.{WithConsignor, WithAmounts}

pub checked_once : (a : Answer) (rec : List ℕ) (r s : RecordCheck) → WithConsignor a rec r → WithConsignor a rec s → r ≡ s
checked_once a rec r s u v =
    ap₂ (λ (x : Result ⊤ Refusal) (c : Option Consignor). record { answer = x; consignor = c })
    (answered_once r.answer s.answer (u.0 ∙ sym v.0))
    (u.1 ∙ sym v.1)

-- field by field
together : (k l : RecordCheck) (st su : StatusReading) (c d p q : MoneyReading) → k ≡ l → st ≡ su → c ≡ d → p ≡ q
    → ◌≡◌ {A = CheckWithAmounts} (record { check = k; status = st; cash = c; price = p }) (record { check = l; status = su; cash = d; price = q })
together k l st su c d p q e f g h = rw (e, f, g, h)

pub judged_once : (a : Answer) (rec : List ℕ) (r s : CheckWithAmounts) → WithAmounts a rec r → WithAmounts a rec s → r ≡ s
judged_once a rec r s u v =
    together r.check s.check r.status s.status r.cash s.cash r.price s.price
    (checked_once a rec r.check s.check u.0 v.0)
    (u.1 ∙ sym v.1)
    (u.2 ∙ sym v.2)
    (u.3 ∙ sym v.3)

-- "One consignor in one file": whose identifier stands in field 1 of a record, and when a record names another consignor than one before it. Field 22 is
-- not judged.
-- Assumes nothing.
use Rattle.std.specs.Prelude.{ℕ, ◌≡◌, Bool, List, [], map, get_or, Option}
use Rattle.text.specs.declared.Answer.{Answer}
use Rattle.text.specs.Answers.{answered}
use Rattle.ident.specs.declared.consignor.Consignor.{Consignor}
use Rattle.ident.specs.Consignor.{consignor_in, another_in, Another, first_named}
use Rattle.layout.specs.Layout.{field_of}
use Rattle.record.specs.declared.RecordCheck.{RecordCheck}
use Rattle.record.specs.declared.CheckWithAmounts.{CheckWithAmounts}
use Rattle.record.specs.Readings.{goods_of}

-- ---- nobody's where field 1 is no right identifier, and where there are not 399 bytes
abbrev pub consignor_of : List ℕ → Option Consignor
consignor_of rec = consignor_in (field_of rec 1)

abbrev pub consignors_of : List (List ℕ) → List (Option Consignor)
consignors_of recs = map consignor_of recs

-- ---- what every check of a record gives: its answer, and beside it, whatever it is, the consignor
abbrev pub WithConsignor : Answer → List ℕ → RecordCheck → Type 0
WithConsignor a rec r = (answered r.answer ≡ a) × (r.consignor ≡ consignor_of rec)

-- the same, and beside it status, cash on delivery and price specified as they were read
abbrev pub WithAmounts : Answer → List ℕ → CheckWithAmounts → Type 0
WithAmounts a rec r =
    WithConsignor a rec r.check × (r.status ≡ (goods_of rec).status) × (r.cash ≡ (goods_of rec).cash) × (r.price ≡ (goods_of rec).price)

-- ---- a record behind others, cancelled or not: it names a consignor, and one of them names another
abbrev pub strays : List (List ℕ) → List ℕ → Bool
strays recs rec = another_in (consignors_of recs) (consignor_of rec)

pub record Strays (recs : List (List ℕ)) (rec : List ℕ) : Type 0 where
  pub earlier : ℕ
  pub other : Another (consignor_of (get_or recs earlier [])) (consignor_of rec)

-- ---- all records that name a consignor name the same
pub record OneConsignor (recs : List (List ℕ)) : Type 0 where
  pub same : (i j : ℕ) → Another (consignor_of (get_or recs i [])) (consignor_of (get_or recs j [])) → ⊥

-- the first consignor that is named, which suffices to know which record strays (`proofs/Consignors: first_suffices`)
abbrev pub first_of : List (List ℕ) → Option Consignor
first_of recs = first_named (consignors_of recs)

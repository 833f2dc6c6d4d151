-- What one record brings to the totals, and that totals of a file stay small.
-- Assumes nothing.
use Rattle.std.specs.Prelude.{Option, Some, None, unwrap_or}
use Prim.Native.Nat.{ℕ, zero, suc, ◌+◌, ◌*◌, ◌^◌, ◌≤◌, ◌<◌}
use mathlib.Core.Path.{◌≡◌, refl, sym, ap, ◌∙◌}
use mathlib.Core.Bool.{Bool, true, false, cond}
use mathlib.Core.List.{List}
use native.Mathlib.Omega.{arith}
use borrow.Author.Tests.{lt-ltb, le-ltb, ltb-true}
use Rattle.layout.specs.Layout.{field_of}
use Rattle.fields.specs.declared.amounts.Hellers.{Hellers}
use Rattle.fields.specs.declared.reading.Reading.TheVariants as Money
use Rattle.fields.specs.Readings.{MoneyReading, value_in}
use Rattle.fields.specs.declared.others.StatusReading.{StatusReading}
use Rattle.fields.specs.declared.others.StatusReading.TheVariants as Status
use Rattle.fields.specs.Amounts.{read_money}
use Rattle.fields.specs.Others.{read_status}
use Rattle.fields.specs.Calls.{sum_of_hellers}
use Rattle.fields.proofs.MoneyLaws.{money_exactly}
use Rattle.posting.specs.declared.Totals.{Totals}
use Rattle.posting.specs.Bounds.{Small}
use Rattle.posting.specs.Calls.{fits, sum_of_totals}
use Rattle.posting.specs.File.{totals, no_totals, amount_in, amount_of, brought_as, brought, plus_totals, with_record, totals_over, record_at}

-- no amount has more than eleven digits
pub amount_small : (f : List ℕ) → amount_in (read_money f) < 100000000000
amount_small f = go (read_money f) refl
  where
    go : (m : MoneyReading) → read_money f ≡ m → amount_in m < 100000000000
    go Money.Absent e = omega arith
    go (Money.Value h) e = ((money_exactly f h.0).0 e).0
    go Money.Malformed e = omega arith

-- totals that start from nothing
pub no_totals_is : (t : Totals) → t.live ≡ 0 → t.cancelled ≡ 0 → t.cash.0 ≡ 0 → t.price.0 ≡ 0 → t ≡ no_totals
no_totals_is t l c d p i = totals (l i) (c i) (d i) (p i)

-- ---- a sum that fits, or not
-- n is the sum, which fits
abbrev Fits : ℕ → ℕ → Type 0
Fits n sum = (sum < 2 ^ 64) × (n ≡ sum)

fits_not : (n : ℕ) → (n < 2 ^ 64 → ⊥) → fits n ≡ false
fits_not n h = le-ltb n (2 ^ 64) (omega (arith, h))

-- of two amounts
module _ (a b : Hellers) where
  never : (x : Hellers) → None ≡ Some x → ⊥
  never x q = let z : ◌≡◌ {A = ℕ} 0 1 = cc in omega arith

  pub amounts_large : None ≡ sum_of_hellers a b → a.0 + b.0 < 2 ^ 64 → ⊥
  unfolding sum_of_hellers
  amounts_large e h = never (record { 0 = a.0 + b.0 }) (e ∙ rw (lt-ltb _ _ h))

  pub amounts_fit : (c : Hellers) → Some c ≡ sum_of_hellers a b → Fits c.0 (a.0 + b.0)
  unfolding sum_of_hellers
  amounts_fit c e = go (fits (a.0 + b.0)) refl e
    where
      go : (t : Bool) → fits (a.0 + b.0) ≡ t → Some c ≡ cond t (Some (record { 0 = a.0 + b.0 })) None → Fits c.0 (a.0 + b.0)
      go true q f = (ltb-true _ _ q, ap (λ (r : Option Hellers). (unwrap_or r c).0) f)
      go false q f = absurd (never c (sym f))

-- ---- Totals::plus: one fact more for each sum that fits
module _ (s t : Totals) where
  pub live_large : (s.live + t.live < 2 ^ 64 → ⊥) → None ≡ sum_of_totals s t
  unfolding sum_of_totals
  live_large n = rw (fits_not _ n)

  module _ (l : ℕ) (fl : Fits l (s.live + t.live)) where
    pub cancelled_large : (s.cancelled + t.cancelled < 2 ^ 64 → ⊥) → None ≡ sum_of_totals s t
    unfolding sum_of_totals
    cancelled_large n = rw (lt-ltb _ _ fl.0, fits_not _ n)

    module _ (k : ℕ) (fk : Fits k (s.cancelled + t.cancelled)) where
      pub cash_large : None ≡ sum_of_hellers s.cash t.cash → None ≡ sum_of_totals s t
      unfolding sum_of_totals
      cash_large e = rw (lt-ltb _ _ fl.0, lt-ltb _ _ fk.0, fits_not _ (amounts_large s.cash t.cash e))

      module _ (cash : Hellers) (ec : Some cash ≡ sum_of_hellers s.cash t.cash) where
        pub price_large : None ≡ sum_of_hellers s.price t.price → None ≡ sum_of_totals s t
        unfolding sum_of_totals
        price_large e =
            rw (lt-ltb _ _ fl.0, lt-ltb _ _ fk.0, lt-ltb _ _ (amounts_fit s.cash t.cash cash ec).0, fits_not _ (amounts_large s.price t.price e))

        pub all_fit : (price : Hellers) → Some price ≡ sum_of_hellers s.price t.price → Some (record { live = l; cancelled = k; cash = cash; price = price }) ≡ sum_of_totals s t
        unfolding sum_of_totals
        all_fit price e =
            let fc = amounts_fit s.cash t.cash cash ec in
            let fp = amounts_fit s.price t.price price e in
            let sum : Some (plus_totals s t) ≡ sum_of_totals s t = rw (lt-ltb _ _ fl.0, lt-ltb _ _ fk.0, lt-ltb _ _ fc.0, lt-ltb _ _ fp.0) in
            (λ i. Some (totals (fl.1 i) (fk.1 i) (fc.1 i) (fp.1 i))) ∙ sum

-- ---- amount
or_nothing : (m : MoneyReading) → unwrap_or (value_in m) (record { 0 = 0 }) ≡ record { 0 = amount_in m }
or_nothing Money.Absent = refl
or_nothing (Money.Value h) = refl
or_nothing Money.Malformed = refl

pub amount_is : (rec f : List ℕ) (n : ℕ) (m : MoneyReading) (v : Option Hellers) (h : Hellers) → f ≡ field_of rec n → m ≡ read_money f → v ≡ value_in m → h ≡ unwrap_or v (record { 0 = 0 })
    → (h ≡ amount_of rec n) × (h.0 < 100000000000)
amount_is rec f n m v h ef em ev eh =
    let read : m ≡ read_money (field_of rec n) = em ∙ ap read_money ef in
    let is : h ≡ amount_of rec n = eh ∙ ap (λ (x : Option Hellers). unwrap_or x (record { 0 = 0 })) (ev ∙ ap value_in read) ∙ or_nothing (read_money (field_of rec n)) in
    (is, rw is (amount_small (field_of rec n)))

-- ---- brought
abbrev Amount : List ℕ → ℕ → Hellers → Type 0
Amount rec n h = (h ≡ amount_of rec n) × (h.0 < 100000000000)

module _ (rec f : List ℕ) (s : StatusReading) (ef : f ≡ field_of rec 19) (es : s ≡ read_status f) where
  status_is : s ≡ read_status (field_of rec 19)
  status_is = es ∙ ap read_status ef

  pub brought_live : (cash price : Hellers) → s ≡ Status.Live → Amount rec 16 cash → Amount rec 17 price
      → record { live = 1; cancelled = 0; cash = cash; price = price } ≡ brought rec
  unfolding brought
  brought_live cash price e ec ep = let live : read_status (field_of rec 19) ≡ Status.Live = sym status_is ∙ e in rw (live, ec.0, ep.0)

  pub brought_cancelled : s ≡ Status.Cancelled → totals 0 1 0 0 ≡ brought rec
  unfolding brought
  brought_cancelled e = let struck : read_status (field_of rec 19) ≡ Status.Cancelled = sym status_is ∙ e in rw struck

  pub brought_none : (t : Totals) → s ≡ Status.Malformed → t ≡ no_totals → t ≡ brought rec
  unfolding brought
  brought_none t e et = let neither : read_status (field_of rec 19) ≡ Status.Malformed = sym status_is ∙ e in rw neither et

-- ---- totals over n records
pub record Bounded (n : ℕ) (t : Totals) : Type 0 where
  pub counts : t.live + t.cancelled ≤ n
  pub cash : t.cash.0 ≤ n * 100000000000
  pub price : t.price.0 ≤ n * 100000000000

-- what one record brings
pub record Light (t : Totals) : Type 0 where
  pub counts : t.live + t.cancelled ≤ 1
  pub cash : t.cash.0 < 100000000000
  pub price : t.price.0 < 100000000000

brought_light : (rec : List ℕ) → Light (brought rec)
unfolding brought
brought_light rec = go (read_status (field_of rec 19))
  where
    go : (s : StatusReading) → Light (brought_as s (amount_of rec 16) (amount_of rec 17))
    go Status.Live = record { counts = omega arith; cash = amount_small (field_of rec 16); price = amount_small (field_of rec 17) }
    go Status.Cancelled = record { counts = omega arith; cash = omega arith; price = omega arith }
    go Status.Malformed = record { counts = omega arith; cash = omega arith; price = omega arith }

pub totals_bounded : (file : List ℕ) (n : ℕ) → Bounded n (totals_over file n)
unfolding totals_over
totals_bounded file zero = record { counts = omega arith; cash = omega arith; price = omega arith }
totals_bounded file (suc n) =
    let b = totals_bounded file n in
    let l = brought_light (record_at file n) in
    record { counts = omega (arith, b.counts, l.counts); cash = omega (arith, b.cash, l.cash); price = omega (arith, b.price, l.price) }

-- ---- totals of fewer than 1,000 records are small, and small ones never grow too large by a record more
pub small_so_far : (file : List ℕ) (n : ℕ) → n < 1000 → Small (totals_over file n)
small_so_far file n h =
    let b = totals_bounded file n in
    record { live = omega (arith, b.counts); cancelled = omega (arith, b.counts); cash = omega (arith, b.cash); price = omega (arith, b.price) }

pub totals_small : (file : List ℕ) (n : ℕ) (t : Totals) → n < 1000 → t ≡ totals_over file n → Small t
totals_small file n t h e = rw e (small_so_far file n h)

pub small_sum : (t b r : Totals) (s : Option Totals) → Small t → Light b → s ≡ sum_of_totals t b → r ≡ unwrap_or s t → r ≡ plus_totals t b
unfolding sum_of_totals
small_sum t b r s small l es er =
    let fit : sum_of_totals t b ≡ Some (plus_totals t b) =
    rw (lt-ltb (t.live + b.live) (2 ^ 64) (omega (arith, small.live, l.counts)), lt-ltb (t.cancelled + b.cancelled) (2 ^ 64) (omega (arith, small.cancelled, l.counts)), lt-ltb (t.cash.0 + b.cash.0) (2 ^ 64) (omega (arith, small.cash, l.cash)), lt-ltb (t.price.0 + b.price.0) (2 ^ 64) (omega (arith, small.price, l.price))) in
    er ∙ ap (λ (x : Option Totals). unwrap_or x t) (es ∙ fit)

pub small_with : (t b r : Totals) (s : Option Totals) (rec : List ℕ) → Small t → b ≡ brought rec → s ≡ sum_of_totals t b → r ≡ unwrap_or s t → r ≡ with_record t rec
small_with t b r s rec small eb es er = small_sum t b r s small (rw eb (brought_light rec)) es er ∙ ap (plus_totals t) eb

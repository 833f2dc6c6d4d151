-- Amounts and counts: each way out of the functions.
-- Assumes nothing.
use Prim.Native.Nat.{ℕ, ◌+◌, ◌-◌, ◌≤◌}
use mathlib.Core.Path.{◌≡◌, sym, ap, ◌∙◌}
use mathlib.Core.List.{List, []}
use native.Mathlib.Nat.{add-zero}
use native.Mathlib.Omega.{arith}
use Rattle.std.specs.Prelude.{Option, Some, unwrap_or}
use Rattle.layout.specs.Layout.{field_of}
use Rattle.posting.specs.declared.Totals.{Totals}
use Rattle.fields.specs.declared.amounts.Hellers.{Hellers}
use Rattle.posting.specs.Bounds.{Small}
use Rattle.posting.specs.Calls.{sum_of_totals}
use Rattle.posting.specs.File.{plus_totals, record_at}
use Rattle.posting.proofs.Amounts.{Light, small_sum}
use Rattle.posting.specs.Sums.{cash_in, price_in}
use Rattle.batch.specs.declared.amounts.Amounts.{Amounts}
use Rattle.batch.specs.declared.Counts.{Counts}
use Rattle.batch.specs.Places.{number_of_place, record_number, place_of, action_held, one_live_more, one_cancelled, amounts_replaced}
use Rattle.batch.specs.Batch.{batch_of, counts_of}
use Rattle.batch.specs.Work.{action_totals}
use Rattle.batch.proofs.JournalWays.{place_is}

-- what was passed on is small, so the sum fits
pub live_more : (c : Counts) (new : Amounts) (s : Option Totals) (r : Totals)
    → (Small c.totals) × (c.held ≤ 999)
    → s ≡ sum_of_totals c.totals (record { live = 1; cancelled = 0; cash = new.cash; price = new.price }) → r ≡ unwrap_or s c.totals
    → counts_of r (c.held + 1) c.used ≡ counts_of (one_live_more c.totals new.cash.0 new.price.0) (c.held + 1) c.used
live_more c new s r pre es er =
    let one : Totals = record { live = 1; cancelled = 0; cash = new.cash; price = new.price } in
    let light : Light one = record { counts = omega arith; cash = new.cash_small; price = new.price_small } in
    let sum : r ≡ plus_totals c.totals one = small_sum c.totals one r s pre.0 light es er in
    ap (λ (t : Totals). counts_of t (c.held + 1) c.used) (sum ∙ rw (add-zero c.totals.cancelled))

pub replaced : (c : Counts) (old new : Amounts) (d p : Hellers) (s : Option Totals) (r : Totals)
    → Small c.totals → d.0 ≡ c.totals.cash.0 - old.cash.0 → p.0 ≡ c.totals.price.0 - old.price.0
    → s ≡ sum_of_totals (record { live = c.totals.live; cancelled = c.totals.cancelled; cash = d; price = p }) (record { live = 0; cancelled = 0; cash = new.cash; price = new.price })
    → r ≡ unwrap_or s (record { live = c.totals.live; cancelled = c.totals.cancelled; cash = d; price = p })
    → counts_of r c.held c.used ≡ counts_of (amounts_replaced c.totals old.cash.0 old.price.0 new.cash.0 new.price.0) c.held c.used
replaced c old new d p s r pre ed ep es er =
    let rest : Totals = record { live = c.totals.live; cancelled = c.totals.cancelled; cash = d; price = p } in
    let added : Totals = record { live = 0; cancelled = 0; cash = new.cash; price = new.price } in
    let small : Small rest = record { live = pre.live; cancelled = pre.cancelled; cash = omega (arith, ed, pre.cash); price = omega (arith, ep, pre.price) } in
    let light : Light added = record { counts = omega arith; cash = new.cash_small; price = new.price_small } in
    let sum : r ≡ plus_totals rest added = small_sum rest added r s small light es er in
    ap (λ (t : Totals). counts_of t c.held c.used) (sum ∙ rw (add-zero c.totals.live, add-zero c.totals.cancelled, ed, ep))

-- ---- the counts behind an action
abbrev pub Read : List ℕ → Amounts → Type 0
Read rec a = (a.cash.0 ≡ cash_in rec) × (a.price.0 ≡ price_in rec)

module _ (file body : List ℕ) (c out : Counts) (kind : ℕ) where
  abbrev wanted : Counts
  wanted = counts_of (action_totals (batch_of file [] c) kind body) (action_held c.held kind) c.used

  pub counted_add : (a : Amounts) → kind ≡ 1 → Read body a → out ≡ counts_of (one_live_more c.totals a.cash.0 a.price.0) (c.held + 1) c.used → out ≡ wanted
  counted_add a k ea eo = eo ∙ rw (ea.0, ea.1, k)

  module _ (id : List ℕ) (r : Option ℕ) (en : (number_of_place r ≡ record_number file id c.held) × (number_of_place r ≤ c.held)) (k : ℕ) (q : r ≡ Some k) where
    module _ (old : Amounts) (rec : List ℕ) (er : rec ≡ record_at file k) (ea : Read rec old) where
      at : rec ≡ record_at file (place_of file id c.held)
      at = er ∙ ap (record_at file) (sym (place_is file [] [] id c.held 0 r en k q))

      pub counted_amend : (new : Amounts) → kind ≡ 3 → id ≡ field_of body 1 → Read body new → out ≡ counts_of (amounts_replaced c.totals old.cash.0 old.price.0 new.cash.0 new.price.0) c.held c.used → out ≡ wanted
      counted_amend new kk ei en eo = eo ∙ rw (ea.0, ea.1, en.0, en.1, at, ei, kk)

      pub counted_cancel : kind ≡ 2 → id ≡ body → out ≡ counts_of (one_cancelled c.totals old.cash.0 old.price.0) c.held c.used → out ≡ wanted
      counted_cancel kk ei eo = eo ∙ rw (ea.0, ea.1, at, ei, kk)

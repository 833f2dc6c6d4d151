-- One step of the walk through the journal: each way out.
-- Assumes nothing.
use Prim.Native.Nat.{ℕ, ◌+◌, ◌-◌, ◌≤◌}
use mathlib.Core.Path.{◌≡◌, refl, sym, ap, ◌∙◌, subst}
use mathlib.Core.Bool.{true}
use mathlib.Core.List.{List, ◌++◌}
use native.Mathlib.Nat.{add-sub_cancel_left}
use native.Mathlib.Omega.{arith}
use borrow.Author.Tests.{eq-eqb, eqb-true}
use lib.ListN.{length, take, drop, take-append-drop}
use lib.Seq.{length-take-le}
use Rattle.psc.specs.Table.{Known}
use Rattle.ident.specs.declared.consignor.Consignor.{Consignor}
use Rattle.batch.specs.declared.entries.Kind.{Kind}
use Rattle.batch.specs.declared.test.Named.{Named}
use Rattle.batch.specs.declared.test.Reached.{Reached}
use Rattle.std.specs.Prelude.{Option, Some, None, IsSome}
use Rattle.std.proofs.lemmas.Option.{none-some, same_Some}
use Rattle.batch.specs.Actions.{Action, Addition, Amendment, Cancellation, number_of, body_of, sized, entry_of}
use Rattle.batch.specs.Places.{action_held}
use Rattle.batch.specs.Entries.{number_of_kind, number_of_found, body_length, kind_at, body_at}
use Rattle.batch.specs.Test.{StepTaken, held_after, MarkedEntry, EntryAt, Stepped, Stepping}
use Rattle.batch.proofs.Heads.{kind_some, entry_long, kind_here, body_here, EntryHere, entry_here}

-- ---- an entry that stands in the journal is read
pub size_of : (a : Action) → sized a ≡ true → length (body_of a) ≡ body_length (number_of a)
size_of (Addition rec) z = eqb-true _ _ z
size_of (Amendment rec) z = eqb-true _ _ z
size_of (Cancellation id) z = eqb-true _ _ z

module _ (journal : List ℕ) (end used : ℕ) (lim : end ≤ length journal) (a : Action) (e : EntryAt journal end used a) where
  abbrev behind : List ℕ
  behind = drop (length (entry_of a)) (drop used journal)

  split : journal ≡ take used journal ++ (entry_of a ++ behind)
  split =
      sym (take-append-drop used journal)
      ∙ ap (λ (t : List ℕ). take used journal ++ t) (sym (take-append-drop (length (entry_of a)) (drop used journal)) ∙ ap (λ (t : List ℕ). t ++ behind) e.bytes)

  front_long : length (take used journal) ≡ used
  front_long = length-take-le used journal (omega (arith, lim, e.within))

  pub kind_read : kind_at journal end used ≡ number_of a
  kind_read =
      let long = entry_long a (size_of a e.size) in
      (λ i. kind_at (split i) end (sym front_long i))
      ∙ kind_here (take used journal) behind a (size_of a e.size) end (omega (arith, front_long, e.within))

  pub body_read : body_at journal used (number_of a) ≡ body_of a
  body_read = (λ i. body_at (split i) (sym front_long i) (number_of a)) ∙ body_here (take used journal) behind a (size_of a e.size)

-- ---- the step
-- of the kind that is read
pub kind_told : (r : Option Kind) (n : ℕ) → number_of_found r ≡ n → (k : Kind) → r ≡ Some k → number_of_kind k ≡ n
kind_told r n er k q = sym (ap number_of_found q) ∙ er

pub kind_found : (r : Option Kind) → (number_of_found r ≡ 0 → ⊥) → IsSome r
kind_found None n = absurd (n refl)
kind_found (Some k) n = refl

kind_above : (kind : Kind) → number_of_kind kind ≡ 0 → ⊥
kind_above Kind.Addition e = omega (arith, e)
kind_above Kind.Cancellation e = omega (arith, e)
kind_above Kind.Amendment e = omega (arith, e)

held_same : (held : ℕ) (a : Action) → action_held held (number_of a) ≡ held_after held a
held_same held (Addition rec) = refl
held_same held (Amendment rec) = refl
held_same held (Cancellation id) = refl

sized_so : (a : Action) → length (body_of a) ≡ body_length (number_of a) → sized a ≡ true
sized_so (Addition rec) e = eq-eqb _ _ e
sized_so (Amendment rec) e = eq-eqb _ _ e
sized_so (Cancellation id) e = eq-eqb _ _ e

module _ (file journal : List ℕ) (end held used : ℕ) (marks table : List ℕ) (pre : Stepping file journal end held used marks table) (found : Option Kind) (ek : number_of_found found ≡ kind_at journal end used) where
  pub step_none : (known : Known) (seen : Option Consignor) → found ≡ None → Stepped known file journal end held seen used marks table None marks table
  step_none known seen z = record {
    if_so = λ to q. absurd (none-some to q);
    if_not = λ q a e p. kind_some a (sym (kind_read journal end used pre.within a e) ∙ sym ek ∙ ap number_of_found z);
    long = refl;
  }

  module _ (kind : Kind) (some : found ≡ Some kind) (n : ℕ) (en : (n ≡ body_length (number_of_kind kind)) × (13 ≤ n) × (n ≤ 399)) where
    here_kind : number_of_kind kind ≡ kind_at journal end used
    here_kind = sym (ap number_of_found some) ∙ ek

    here : EntryHere journal end used
    here = entry_here journal end used pre.within (λ z. kind_above kind (here_kind ∙ z))

    kind_is : number_of_kind kind ≡ number_of here.act
    kind_is = here_kind ∙ here.kind

    long_is : length (entry_of here.act) ≡ n + 4
    long_is = entry_long here.act here.sized ∙ ap (λ (k : ℕ). body_length k + 4) (sym kind_is) ∙ ap (λ (k : ℕ). k + 4) (sym en.0)

    pub step_ends : used + 4 + n ≤ length journal
    step_ends = omega (arith, long_is, here.within, pre.within)

    module _ (seen : Option Consignor) (r : Option Named) (marks' table' : List ℕ) {known : Known} (m : MarkedEntry known file held seen used (number_of_kind kind) (take (used + 4 + n - (used + 4)) (drop (used + 4) journal)) marks table r marks' table') where
      part_is : (a : Action) → number_of_kind kind ≡ number_of a → body_at journal used (number_of a) ≡ body_of a → body_of a ≡ take (used + 4 + n - (used + 4)) (drop (used + 4) journal)
      part_is a k b =
          sym b ∙ ap (λ (w : ℕ). take (body_length w) (drop (used + 4) journal)) (sym k) ∙ ap (λ (w : ℕ). take w (drop (used + 4) journal)) (sym en.0 ∙ sym (add-sub_cancel_left (used + 4) n))

      pub step_refused : r ≡ None → Stepped known file journal end held seen used marks table None marks' table'
      step_refused z = record {
        if_so = λ to q. absurd (none-some to q);
        if_not = λ q a e p.
            let k : number_of_kind kind ≡ number_of a = here_kind ∙ kind_read journal end used pre.within a e in
            (m.judges a (sym k) (part_is a k (body_read journal end used pre.within a e))).if_not z p;
        long = m.long;
      }

      pub step_judged : (named : Named) → r ≡ Some named → (h : ℕ) → h ≡ action_held held (number_of_kind kind)
          → Stepped known file journal end held seen used marks table (Some (record { held = h; seen = named.seen; used = used + 4 + n; last = used })) marks' table'
      step_judged named so h eh =
          let reached : Reached = record { held = h; seen = named.seen; used = used + 4 + n; last = used } in
          let taken : StepTaken known file journal end held seen used marks reached marks' table' = record {
            action = here.act;
            entry = record { size = sized_so here.act here.sized; bytes = here.bytes; within = here.within };
            taken = (m.judges here.act (sym kind_is) (part_is here.act kind_is here.body)).if_so named so;
            holds = eh ∙ ap (action_held held) kind_is ∙ held_same held here.act;
            moves = omega (arith, long_is);
            from = refl;
          } in
          record {
            if_so = λ to q. subst (λ (x : Reached). StepTaken known file journal end held seen used marks x marks' table') (same_Some reached to q) taken;
            if_not = λ q. absurd (none-some reached (sym q));
            long = m.long;
          }

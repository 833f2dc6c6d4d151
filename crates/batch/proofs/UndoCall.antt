-- The undo: each way out.
-- Assumes nothing.
use Prim.Native.Nat.{ℕ, ◌+◌, ◌-◌, ◌≤◌}
use mathlib.Core.Path.{◌≡◌, refl, sym, ap, ◌∙◌}
use mathlib.Core.List.{List, [], ◌∷◌, ◌++◌}
use native.Mathlib.Omega.{arith}
use lib.ListN.{length, length-append}
use Rattle.psc.specs.Search.{found}
use Rattle.text.specs.declared.Answer.{Answer}
use Rattle.text.specs.Answers.{answer, accepted}
use Rattle.text.specs.Lists.{overlay}
use Rattle.batch.specs.declared.Counts.{Counts}
use Rattle.batch.specs.declared.test.Finding.{Finding}
use Rattle.std.specs.Prelude.{Result, Ok}
use Rattle.text.specs.declared.Refusal.{Refusal}
use Rattle.batch.specs.Actions.{Action, entry_of, entries_of}
use Rattle.batch.specs.Rules.{posted}
use Rattle.batch.specs.Batch.{Batch, batch_of, Undo, state, zeros, zero_filled, made, without_latest, undo_rule, rules, after, Called}
use Rattle.batch.specs.Test.{Found}
use Rattle.batch.specs.Undoing.{Undoable, TakenBack}
use Rattle.batch.specs.Work.{Guarded}
use Rattle.batch.proofs.ZeroFilled.{filled_less}
use Rattle.batch.proofs.Reading.{entry_some}
use Rattle.batch.proofs.Verdicts.{posted_fit}
use Rattle.batch.proofs.Made.{entries_last, turns_fit, answered_by_rules, accepted_leaves}
use Rattle.batch.proofs.CallWays.{is_other, refused_as, done_as}

latest_split : (a : Action) (xs : List Action) → (l : Action) × (without_latest (a ∷ xs) ++ l ∷ [] ≡ a ∷ xs)
latest_split a [] = (a, refl)
latest_split a (b ∷ xs) = let i = latest_split b xs in (i.0, ap (λ (t : List Action). a ∷ t) i.1)

no_entries : (xs : List Action) → length (entries_of xs) ≡ 0 → xs ≡ []
no_entries [] e = refl
no_entries (a ∷ xs) e = absurd (omega (arith, e, length-append (entry_of a) (entries_of xs), entry_some a))

module _ (psc file journal : List ℕ) (c : Counts) (r : Result Finding Refusal) (eg : Guarded psc (batch_of file journal c) r) (g : Finding) (z : r ≡ Ok g) where
  abbrev this : Batch
  this = batch_of file journal c

  here : Found (found psc) this g.seen g.last
  here = (eg.if_so g z).found

  abbrev acts : List Action
  acts = here.what.actions

  used_is : c.used ≡ length (entries_of acts)
  unfolding made
  used_is = ap (λ (x : Batch). x.counts.used) here.stands.is

  journal_is : journal ≡ zero_filled (length journal) (entries_of acts)
  unfolding made
  journal_is = ap (λ (x : Batch). x.journal) here.stands.is

  pub undo_none : c.used ≡ 0 → Called psc this Undo (answer 234 0) c file journal
  unfolding rules
  undo_none e =
      refused_as psc file journal c r eg Undo (is_other Undo refl) refl g z Refusal.NoEntry
      (answered_by_rules (posted (found psc)) this here.what here.stands Undo ∙ ap undo_rule (no_entries acts (sym used_is ∙ e)))

  module _ (n : c.used ≡ 0 → ⊥) where
    pub undo_ready : Undoable file journal c g.last
    undo_ready = record { known = found psc; seen = g.seen; found = here; some = n }

    split_so : (l : Action) × (without_latest acts ++ l ∷ [] ≡ acts)
    split_so = go acts used_is
      where
        go : (xs : List Action) → c.used ≡ length (entries_of xs) → (l : Action) × (without_latest xs ++ l ∷ [] ≡ xs)
        go [] e = absurd (n e)
        go (a ∷ xs) e = latest_split a xs

    parts : entries_of acts ≡ entries_of (without_latest acts) ++ entry_of split_so.0
    parts = ap entries_of (sym split_so.1) ∙ entries_last (without_latest acts) split_so.0

    sizes : c.used ≡ g.last + length (entry_of split_so.0)
    sizes = omega (arith, used_is, ap length parts, length-append (entries_of (without_latest acts)) (entry_of split_so.0), here.latest)

    pub undo_reach : (g.last ≤ c.used) × (c.used ≤ length journal)
    undo_reach = (omega (arith, sizes), omega (arith, used_is, (turns_fit (posted (found psc)) (posted_fit (found psc)) (length file) (length journal) acts here.stands.turns).room))

    accepts : rules (posted (found psc)) (length file) (length journal) here.what Undo ≡ accepted
    unfolding rules
    accepts = go acts used_is
      where
        go : (xs : List Action) → c.used ≡ length (entries_of xs) → undo_rule xs ≡ accepted
        go [] e = absurd (n e)
        go (a ∷ xs) e = refl

    abbrev back : Batch
    back = made (length file) (length journal) (state (without_latest acts))

    journal_back : overlay journal g.last (zeros (c.used - g.last)) ≡ back.journal
    unfolding made
    journal_back =
        let size : c.used - g.last ≡ length (entry_of split_so.0) = omega (arith, sizes) in
        let room : length (entries_of (without_latest acts) ++ entry_of split_so.0) ≤ length journal = omega (arith, ap length parts, used_is, undo_reach.1) in
        (λ i. overlay ((journal_is ∙ ap (zero_filled (length journal)) parts) i) (here.latest i) (zeros (size i)))
        ∙ filled_less (length journal) (entries_of (without_latest acts)) (entry_of split_so.0) room

    pub undo_done : (k : Counts) (file' journal' : List ℕ) → TakenBack file journal c g.last k file' → journal' ≡ overlay journal g.last (zeros (c.used - g.last)) → Called psc this Undo accepted k file' journal'
    undo_done k file' journal' t ej =
        let left : after (posted (found psc)) this Undo ≡ back = accepted_leaves (posted (found psc)) this here.what here.stands Undo (ap (λ (x : Answer). x.code) accepts) in
        let made_so : batch_of file' journal' k ≡ back = λ i. batch_of (t.filed (found psc) here.what here.stands i) ((ej ∙ journal_back) i) (t.counted (found psc) here.what here.stands i) in
        done_as psc file journal c r eg Undo (is_other Undo refl) refl g z accepted k file' journal'
        (sym (answered_by_rules (posted (found psc)) this here.what here.stands Undo ∙ accepts)) (made_so ∙ sym left)

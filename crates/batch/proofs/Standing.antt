-- What stands in a batch: exactly the actions, each acceptable in its turn, that make it; so there is at most one such list. For any verdict.
-- Assumes nothing.
use Prim.Native.Nat.{ℕ, ◌-◌, ◌/◌}
use mathlib.Core.Path.{◌≡◌, refl, sym, ap, ◌∙◌, subst}
use mathlib.Core.Logic.{◌↔◌}
use mathlib.Core.Bool.{true, ◌&&◌, and-eq-true_iff}
use mathlib.Core.List.{List, [], ◌∷◌, ◌++◌}
use mathlib.Core.Option.{Option, none, some, some-injective, none-ne-some}
use native.Mathlib.Omega.{arith}
use borrow.Author.Tests.{eq-eqb, eqb-true}
use lib.Dec.{eqb}
use lib.ListN.{length, take}
use lib.Seq.{take-append_seam}
use Rattle.text.specs.declared.Answer.{Answer}
use Rattle.text.specs.Lists.{same_bytes}
use Rattle.text.proofs.Booleans.{by_cond}
use Rattle.text.proofs.Lists.{same_exactly, same_refl}
use Rattle.batch.specs.declared.Counts.{Counts}
use Rattle.batch.specs.Actions.{Action, sized, all_sized, entries_of, actions_in}
use Rattle.batch.specs.Records.{records_of}
use Rattle.batch.specs.Rules.{Verdict, entry_rule, rule_behind, in_turn_behind, in_turn}
use Rattle.batch.specs.Batch.{Batch, batch_of, counts_of, right_lengths, State, state, made, same_totals, same_counts, same_batch, file_length, journal_length, standing, stands_in, Stands}
use Rattle.batch.proofs.StateWays.{totals_same}
use Rattle.batch.proofs.Reading.{read_exactly}

-- ---- the same batch
counts_same : (c d : Counts) → same_counts c d ≡ true → c ≡ d
counts_same c d h =
    let p = (and-eq-true_iff (same_totals c.totals d.totals && eqb c.held d.held) (eqb c.used d.used)).0 h in
    let q = (and-eq-true_iff (same_totals c.totals d.totals) (eqb c.held d.held)).0 p.0 in
    let t = totals_same _ _ q.0 in
    let held = eqb-true _ _ q.1 in
    let used = eqb-true _ _ p.1 in
    λ i. counts_of (t i) (held i) (used i)

batch_same : (b e : Batch) → same_batch b e ≡ true → b ≡ e
batch_same b e h =
    let p = (and-eq-true_iff (same_bytes b.file e.file && same_bytes b.journal e.journal) (same_counts b.counts e.counts)).0 h in
    let q = (and-eq-true_iff (same_bytes b.file e.file) (same_bytes b.journal e.journal)).0 p.0 in
    let file = (same_exactly _ _).0 q.0 in
    let journal = (same_exactly _ _).0 q.1 in
    let counts = counts_same _ _ p.1 in
    λ i. batch_of (file i) (journal i) (counts i)

eqb_refl : (n : ℕ) → eqb n n ≡ true
eqb_refl n = eq-eqb n n refl

same_itself : (b : Batch) → same_batch b b ≡ true
same_itself b =
    rw (same_refl b.file, same_refl b.journal, eqb_refl b.counts.totals.live, eqb_refl b.counts.totals.cancelled, eqb_refl b.counts.totals.cash.0, eqb_refl b.counts.totals.price.0, eqb_refl b.counts.held, eqb_refl b.counts.used)

-- ---- actions that are acceptable in their turn carry as many bytes as their kinds say
sized_if : (v : Verdict) (recs : List (List ℕ)) (places room : ℕ) (a : Action) → (entry_rule v recs places room a).code ≡ 0 → sized a ≡ true
unfolding entry_rule
sized_if v recs places room a = by_cond (λ (r : Answer). r.code ≡ 0 → sized a ≡ true) (sized a) _ _ (λ e h. e) (λ e h. absurd (omega (arith, h)))

pub turns_sized : (v : Verdict) (n m : ℕ) (before xs : List Action) → in_turn_behind v n m before xs ≡ true → all_sized xs ≡ true
unfolding in_turn_behind all_sized
turns_sized v n m before [] h = refl
turns_sized v n m before (a ∷ xs) h =
    let p = (and-eq-true_iff (eqb (rule_behind v n m before a).code 0) (in_turn_behind v n m (before ++ a ∷ []) xs)).0 h in
    rw (sized_if v (records_of before) (n / 401) (m - length (entries_of before)) a (eqb-true _ 0 p.0)) (turns_sized v n m (before ++ a ∷ []) xs p.1)

-- ---- what stands
module _ (v : Verdict) (b : Batch) (s : State) where
  stands_so : (o : Option (List Action)) → standing v b o ≡ some s → Stands v b s
  unfolding standing
  stands_so none = λ h. absurd (none-ne-some s h)
  stands_so (some xs) = by_cond P (right_lengths n m && in_turn v n m xs && same_batch b (made n m (state xs))) _ _ (λ t h. subst (Stands v b) (some-injective _ _ h) (all t)) (λ t h. absurd (none-ne-some s h))
    where
      n : ℕ
      n = file_length b

      m : ℕ
      m = journal_length b

      P : Option State → Type 0
      P r = r ≡ some s → Stands v b s

      all : (right_lengths n m && in_turn v n m xs && same_batch b (made n m (state xs))) ≡ true → Stands v b (state xs)
      all t =
          let p = (and-eq-true_iff (right_lengths n m && in_turn v n m xs) (same_batch b (made n m (state xs)))).0 t in
          let q = (and-eq-true_iff (right_lengths n m) (in_turn v n m xs)).0 p.0 in
          record { lengths = q.0; turns = q.1; is = batch_same _ _ p.1 }

  -- the used bytes of the journal print it
  used_read : Stands v b s → actions_in (take b.counts.used b.journal) ≡ some s.actions
  unfolding made
  used_read st =
      let front : take b.counts.used b.journal ≡ entries_of s.actions = ap (λ (x : Batch). take x.counts.used x.journal) st.is ∙ take-append_seam (entries_of s.actions) _ in
      ap actions_in front ∙ (read_exactly (entries_of s.actions) s.actions).1 (turns_sized v _ _ [] s.actions st.turns, refl)

  so_stands : Stands v b s → stands_in v b ≡ some s
  unfolding standing
  so_stands st =
      let read = used_read st in
      let same : same_batch b (made (file_length b) (journal_length b) s) ≡ true = ap (same_batch b) (sym st.is) ∙ same_itself b in
      rw (read, st.lengths, st.turns, same)

  pub stands_exactly : (stands_in v b ≡ some s) ↔ Stands v b s
  stands_exactly = (stands_so (actions_in (take b.counts.used b.journal)), so_stands)

-- ---- once: at most one state stands in a batch, and lists acceptable in their turn that make the same batch are the same
-- and by whatever verdicts they stand there
pub stands_once : (v w : Verdict) (b : Batch) (s t : State) → Stands v b s → Stands w b t → s ≡ t
stands_once v w b s t p q = ap state (some-injective _ _ (sym (used_read v b s p) ∙ used_read w b t q))

pub made_once : (v : Verdict) (n m : ℕ) (xs ys : List Action) → in_turn v n m xs ≡ true → in_turn v n m ys ≡ true → made n m (state xs) ≡ made n m (state ys) → xs ≡ ys
unfolding made
made_once v n m xs ys t u e =
    let bytes : entries_of xs ≡ entries_of ys =
    sym (take-append_seam (entries_of xs) _) ∙ ap (λ (b : Batch). take b.counts.used b.journal) e ∙ take-append_seam (entries_of ys) _ in
    some-injective _ _ (sym ((read_exactly (entries_of ys) xs).1 (turns_sized v n m [] xs t, bytes)) ∙ (read_exactly (entries_of ys) ys).1 (turns_sized v n m [] ys u, refl))

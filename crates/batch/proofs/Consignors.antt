-- One consignor in one batch: all records of a sound batch that name a consignor name the same, and of a journal with two every call but opening says 237.
-- That an amendment and a cancellation change no consignor is `Walks: consignors_stay`.
-- Assumes nothing.
use Prim.Native.Nat.{ℕ}
use mathlib.Core.Path.{◌≡◌, ap, sym, ◌∙◌, subst}
use mathlib.Core.Bool.{Bool, true, false, cond, ◌&&◌}
use mathlib.Core.List.{List}
use mathlib.Core.Option.{none, some, some-injective}
use native.Mathlib.Omega.{arith}
use lib.ListN.{take}
use Rattle.psc.specs.Table.{Known}
use Rattle.record.specs.Consignors.{OneConsignor}
use Rattle.batch.specs.Actions.{Action, actions_in}
use Rattle.batch.specs.Records.{records_of}
use Rattle.batch.specs.Rules.{Verdict, Fit, in_turn}
use Rattle.batch.specs.Batch.{Batch, Call, Open, State, state, made, right_lengths, same_batch, file_length, journal_length, standing, Stands, answer_to}
use Rattle.batch.specs.History.{GoodBuffers}
use Rattle.batch.proofs.Standing.{stands_exactly}
use Rattle.batch.proofs.Made.{turns_fit}
use Rattle.batch.proofs.BatchCodes.{code_237_exactly}

-- ---- of a sound batch
pub standing_one : {known : Known} (v : Verdict) → Fit known v → (b : Batch) (s : State) → Stands v b s → OneConsignor (records_of s.actions)
standing_one v fit b s st = (turns_fit v fit (file_length b) (journal_length b) s.actions st.turns).sheet.one

-- ---- what the used bytes print is what stands, if something does
prints_what_stands : (v : Verdict) (b : Batch) (s : State) (xs : List Action) → Stands v b s → actions_in (take b.counts.used b.journal) ≡ some xs → xs ≡ s.actions
unfolding standing
prints_what_stands v b s xs st e =
    go (right_lengths (file_length b) (journal_length b) && in_turn v (file_length b) (journal_length b) xs && same_batch b (made (file_length b) (journal_length b) (state xs)))
    (ap (standing v b) (sym e) ∙ (stands_exactly v b s).1 st)
  where
    never : none ≡ some s → ⊥
    never q = let z : ◌≡◌ {A = ℕ} 0 1 = cc in omega arith

    go : (t : Bool) → cond t (some (state xs)) none ≡ some s → xs ≡ s.actions
    go true q = ap (λ (x : State). x.actions) (some-injective _ _ q)
    go false q = absurd (never q)

pub two_consignors_lem : {known : Known} (v : Verdict) → Fit known v → (b : Batch) (call : Call) → (call ≡ Open → ⊥) → GoodBuffers b → (xs : List Action)
    → actions_in (take b.counts.used b.journal) ≡ some xs → (OneConsignor (records_of xs) → ⊥) → (answer_to v b call).code ≡ 237
two_consignors_lem v fit b call other good xs e two =
    (code_237_exactly v fit b call).when.1
    record {
      lengths = good;
      other = other;
      nothing = λ s st. two (subst (λ (ys : List Action). OneConsignor (records_of ys)) (sym (prints_what_stands v b s xs st e)) (standing_one v fit b s st));
    }

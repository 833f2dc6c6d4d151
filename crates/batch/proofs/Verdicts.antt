-- The verdict of the record's table on a record that is to be posted is fit for a batch.
-- Assumes nothing.
use Prim.Native.Nat.{ℕ}
use mathlib.Core.Path.{◌≡◌, refl, sym, ap, ◌∙◌}
use mathlib.Core.Bool.{Bool, true, false, cond, ◌&&◌}
use mathlib.Core.List.{List, [], ◌∷◌}
use borrow.Author.Tests.{eq-eqb, eqb-true}
use lib.Dec.{eqb}
use lib.ListN.{length}
use Rattle.psc.specs.Table.{Known}
use Rattle.text.proofs.Booleans.{both}
use Rattle.record.specs.Codes.{lacks, table_codes}
use Rattle.record.specs.Rules.{to_post, table, record_answer}
use Rattle.record.proofs.Codes.{codes_in_order, lacks_other}
use Rattle.record.proofs.Order.{none_other}
use Rattle.record.proofs.Status.{posting_passes}
use Rattle.batch.specs.Rules.{posted, batch_codes, Fit}

-- of these codes none is among those
unfoldable apart : List ℕ → List ℕ → Bool
apart [] cs = true
apart (x ∷ xs) cs = lacks x cs && apart xs cs

-- so a number that can be none of the codes that those lack is none of these
none_of_lem : (k : ℕ) (xs cs : List ℕ) → apart xs cs ≡ true → ((c : ℕ) → lacks c cs ≡ true → k ≡ c → ⊥) → lacks k xs ≡ true
unfolding lacks apart
none_of_lem k [] cs a never = refl
none_of_lem k (x ∷ xs) cs a never = let p = both (lacks x cs) (apart xs cs) a in go (eqb x k) refl p.0 (none_of_lem k xs cs p.1 never)
  where
    go : (t : Bool) → eqb x k ≡ t → lacks x cs ≡ true → lacks k xs ≡ true → cond t false (lacks k xs) ≡ true
    go true e l h = absurd (never x l (sym (eqb-true x k e)))
    go false e l h = h

-- a code of the table is neither 0 nor one of the batch's own
pub table_apart : (c : ℕ) → lacks c table_codes ≡ false → lacks c (0 ∷ batch_codes) ≡ true
unfolding lacks apart
table_apart c there = none_of_lem c (0 ∷ batch_codes) table_codes refl (λ d l. lacks_other d c table_codes there l)

pub posted_fit : (known : Known) → Fit known (posted known)
unfolding lacks apart record_answer
posted_fit known = record {
  long = λ rec z. (posting_passes known rec z).0;
  blank = λ rec z. (posting_passes known rec z).1;
  passes = λ rec z. (posting_passes known rec z).2;
  others = λ rec long. rw (eq-eqb (length rec) 399 long) (none_of_lem _ batch_codes (0 ∷ table_codes) refl (λ c l. none_other c (table (to_post known) rec) (ap (λ (cs : List ℕ). lacks c (0 ∷ cs)) (codes_in_order (to_post known) rec) ∙ l)));
}

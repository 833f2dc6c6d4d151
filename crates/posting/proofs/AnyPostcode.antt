-- Which postcodes exist changes no other answer to a file than 21 and 24.
-- Assumes nothing.
use Prim.Native.Nat.{ℕ}
use mathlib.Core.Path.{◌≡◌, refl, sym, ap, ◌∙◌}
use mathlib.Core.Bool.{Bool, true, false, cond}
use mathlib.Core.List.{List}
use native.Mathlib.Omega.{arith}
use borrow.Author.Tests.{eqb-true}
use lib.Dec.{eqb}
use Rattle.text.specs.declared.Answer.{Answer}
use Rattle.text.specs.Answers.{answer, accepted, or_else}
use Rattle.psc.specs.Table.{Known}
use Rattle.record.specs.Rules.{in_file, record_answer}
use Rattle.record.specs.Consignors.{strays}
use Rattle.record.specs.Outcomes.{any_postcode}
use Rattle.record.proofs.PostcodeCodes.{others_stay}
use Rattle.posting.specs.declared.FileAnswer.{FileAnswer}
use Rattle.posting.specs.File.{record_at, records, line_ends, repeats, line_answer, file_answer}
use Rattle.posting.specs.Outcomes.{FileOutcome, no_multiple, too_many, first_break, no_break}
use Rattle.posting.proofs.FirstBreak.{file_outcome, outcome_exactly}

-- ---- one record
line_stays : (known : Known) (file : List ℕ) (i : ℕ) → ((line_answer known file i).code ≡ 21 → ⊥) → ((line_answer known file i).code ≡ 24 → ⊥) → line_answer known file i ≡ line_answer any_postcode file i
unfolding line_answer or_else
line_stays known file i n21 n24 = go (line_ends file i) n21 n24
  where
    rest : Answer
    rest = cond (repeats file i i) (answer 2 1) (cond (strays (records file i) (record_at file i)) (answer 241 1) accepted)

    judged : Answer
    judged = record_answer (in_file known) (record_at file i)

    -- where the record is accepted or refused with another code, its answer stays
    same : (t : Bool) → eqb judged.code 0 ≡ t → ((cond t rest judged).code ≡ 21 → ⊥) → ((cond t rest judged).code ≡ 24 → ⊥) → judged ≡ record_answer (in_file any_postcode) (record_at file i)
    same true e m21 m24 = let z : judged.code ≡ 0 = eqb-true _ 0 e in others_stay (in_file known) (record_at file i) (λ h. omega (arith, z, h)) (λ h. omega (arith, z, h))
    same false e m21 m24 = others_stay (in_file known) (record_at file i) m21 m24

    go : (ends : Bool) → ((cond ends (or_else judged rest) (answer 212 0)).code ≡ 21 → ⊥) → ((cond ends (or_else judged rest) (answer 212 0)).code ≡ 24 → ⊥)
        → cond ends (or_else judged rest) (answer 212 0) ≡ cond ends (or_else (record_answer (in_file any_postcode) (record_at file i)) rest) (answer 212 0)
    go true m21 m24 = ap (λ (a : Answer). or_else a rest) (same (eqb judged.code 0) refl m21 m24)
    go false m21 m24 = refl

-- ---- the whole file
pub file_stays : (known : Known) (file : List ℕ) → ((file_answer known file).code ≡ 21 → ⊥) → ((file_answer known file).code ≡ 24 → ⊥) → file_answer known file ≡ file_answer any_postcode file
file_stays known file = λ n21 n24. (outcome_exactly any_postcode file (file_answer known file)).0 (go (file_outcome known file) n21 n24)
  where
    fine : (i : ℕ) → (line_answer known file i).code ≡ 0 → (line_answer any_postcode file i).code ≡ 0
    fine i z = ap (λ (a : Answer). a.code) (sym (line_stays known file i (λ h. omega (arith, z, h)) (λ h. omega (arith, z, h)))) ∙ z

    go : {a : FileAnswer} → FileOutcome known file a → (a.code ≡ 21 → ⊥) → (a.code ≡ 24 → ⊥) → FileOutcome any_postcode file a
    go (no_multiple n e) n21 n24 = no_multiple n e
    go (too_many m h e) n21 n24 = too_many m h e
    go (first_break m l i h b x e) n21 n24 =
        let code = ap (λ (a : FileAnswer). a.code) e in
        let stays = line_stays known file i (λ h. n21 (code ∙ h)) (λ h. n24 (code ∙ h)) in
        first_break m l i h (λ j q. fine j (b j q)) (λ z. x (ap (λ (a : Answer). a.code) stays ∙ z)) (rw stays at e)
    go (no_break m l b e) n21 n24 = no_break m l (λ i h. fine i (b i h)) e

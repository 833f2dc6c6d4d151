-- A missing weight has two codes: 31 exactly under service 41, 34 exactly without it. And beside the table with one row for both, no other answer moves.
-- Assumes nothing.
use Prim.Native.Nat.{ℕ}
use mathlib.Core.Path.{◌≡◌, refl}
use mathlib.Core.Bool.{Bool, true, false}
use mathlib.Core.List.{List}
use mathlib.Core.Logic.{◌↔◌}
use native.Mathlib.Omega.{arith}
use Rattle.text.specs.declared.Answer.{Answer}
use Rattle.fields.specs.Amounts.{absent_or_zero_weight}
use Rattle.record.specs.Table.{Rule}
use Rattle.record.specs.Readings.{contact_of, goods_of, marks_of, piece_of}
use Rattle.record.specs.Rules.{Terms, asked_of, asked_in, asks_for, given_of, travel_of, service_rules, table, record_answer}
use Rattle.record.specs.Codes.{lacks}
use Rattle.record.specs.Outcomes.{ExactlyAt, before_weight, WeightMissing}
use Rattle.record.proofs.Turns.{moved}
use Rattle.record.proofs.TwoCodes as Two
use Rattle.record.proofs.TwoCodes.{one_code, one_code_answer, TwoRows, only_old_moves, new_code_exactly, old_code_exactly}

module _ (t : Terms) (rec : List ℕ) where
  abbrev behind_weight : List Rule
  behind_weight = service_rules (asked_in (goods_of rec)) (given_of (contact_of rec) (goods_of rec) (marks_of rec)) (travel_of rec (piece_of rec))

  abbrev missing : Bool
  missing = absent_or_zero_weight (goods_of rec).weight

  rows : TwoRows t rec (before_weight t rec) 31 34 15 missing (asks_for rec 41) behind_weight
  unfolding table asked_of lacks one_code
  rows = record { split = refl; first = refl; later = refl; none = refl; differ = λ e. omega arith }

  -- ---- with one row for every missing weight
  abbrev pub former_answer : Answer
  former_answer = one_code_answer rec (one_code (before_weight t rec) 34 15 missing behind_weight)

  pub only_34_moves : record_answer t rec ≡ moved 34 31 15 (asks_for rec 41) former_answer
  only_34_moves = only_old_moves rows (missing ≡ true) (λ h. h, λ h. h)

  pub moves_exactly : (record_answer t rec ≡ former_answer → ⊥) ↔ ((former_answer.code ≡ 34) × (asks_for rec 41 ≡ true))
  moves_exactly = Two.moves_exactly rows (missing ≡ true) (λ h. h, λ h. h)

  -- ---- 31 and 34, each with its place
  pub code_31_exactly : ExactlyAt 31 15 (WeightMissing t rec × (asks_for rec 41 ≡ true)) (record_answer t rec)
  code_31_exactly = new_code_exactly rows (missing ≡ true) (λ h. h, λ h. h)

  pub code_34_exactly : ExactlyAt 34 15 (WeightMissing t rec × (asks_for rec 41 ≡ false)) (record_answer t rec)
  code_34_exactly = old_code_exactly rows (missing ≡ true) (λ h. h, λ h. h)

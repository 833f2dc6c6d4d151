-- What is said of services: 210 at place 18 and 220, exactly; and that a code with letters bears on no other rule.
-- Assumes nothing.
use Prim.Native.Nat.{ℕ, suc, ◌≤◌}
use mathlib.Core.Path.{◌≡◌, refl}
use mathlib.Core.Bool.{Bool, true, false, cond, ◌&&◌, ◌||◌}
use mathlib.Core.List.{List, [], ◌∷◌}
use mathlib.Core.Logic.{◌↔◌, ◌⊎◌, inl, inr}
use native.Mathlib.Omega.{arith}
use lib.Dec.{ltb}
use lib.ListN.{drop}
use Rattle.text.specs.Answers.{answer}
use Rattle.text.proofs.Booleans.{clash}
use Rattle.layout.specs.Layout.{field_of}
use Rattle.fields.specs.Texts.{contains}
use Rattle.fields.specs.Codes.{sizes, codes, numbers_of}
use Rattle.fields.specs.declared.services.Services.{Services}
use Rattle.fields.specs.Services.{has_code, malformed_services, services_in, how_many, several_sizes}
use Rattle.fields.specs.ServiceTexts.{all_different, GoodServices, TwoOf}
use Rattle.fields.proofs.ServicesLaws.{good_services_exactly, codes_told_apart}
use Rattle.fields.proofs.HowMany.{several_exactly}
use Rattle.record.specs.Table.{Rule}
use Rattle.record.specs.Readings.{contact_of, goods_of, marks_of, piece_of}
use Rattle.record.specs.Rules.{Terms, asked_of, asked_in, asks_for, given_of, travel_of, service_rules, table, record_answer}
use Rattle.record.specs.Codes.{lacks}
use Rattle.record.specs.Outcomes.{ExactlyAt, ServicesMalformed, before_exclusion, ServicesExclude}
use Rattle.record.proofs.Turns.{bad_exactly, row_exactly, turn_exactly}

either_exactly : (a b : Bool) → ((a || b) ≡ true) ↔ ((a ≡ true) ⊎ (b ≡ true))
either_exactly true b = (λ h. inl refl, λ h. refl)
either_exactly false b = (λ h. inr h, back)
  where
    back : (◌≡◌ {A = Bool} false true) ⊎ (b ≡ true) → b ≡ true
    back (inl z) = absurd (clash z refl)
    back (inr h) = h

-- ---- letters bear on no other rule: what is asked of two sets that agree up to 99 is the same, but whether there are two sizes
pub letters_bear_on_no_other : (s t : Services) → ((n : ℕ) → n ≤ 99 → has_code s n ≡ has_code t n) → several_sizes s ≡ several_sizes t → asked_of s ≡ asked_of t
unfolding asked_of
letters_bear_on_no_other s t same several =
    rw (same 2 (omega arith), same 4 (omega arith), same 5 (omega arith), same 7 (omega arith), same 34 (omega arith), same 41 (omega arith), same 45 (omega arith), same 46 (omega arith), same 70 (omega arith), several)

module _ (t : Terms) (rec : List ℕ) where
  -- ---- 210
  wrong : (malformed_services (goods_of rec).services ≡ true) ↔ (GoodServices codes (field_of rec 18) → ⊥)
  wrong = bad_exactly (malformed_services (goods_of rec).services) (good_services_exactly codes (field_of rec 18) codes_told_apart)

  pub code_210_at_18_exactly : (record_answer t rec ≡ answer 210 18) ↔ ServicesMalformed rec
  unfolding table lacks
  code_210_at_18_exactly = turn_exactly t rec _ _ _ _ _ _ _ _ wrong refl refl refl refl refl

  -- ---- 220
  abbrev pairs : Bool → Bool → Bool → Bool
  pairs a b c = a && b || a && c || b && c

  notices : (pairs (asks_for rec 34) (asks_for rec 45) (asks_for rec 46) ≡ true) ↔ TwoOf (asks_for rec) (34 ∷ 45 ∷ 46 ∷ [])
  unfolding how_many all_different contains
  notices = rw (go (asks_for rec 34) (asks_for rec 45) (asks_for rec 46)) (several_exactly (asks_for rec) (34 ∷ 45 ∷ 46 ∷ []) refl)
    where
      go : (a b c : Bool) → pairs a b c ≡ ltb 1 (cond a (suc (cond b (suc (cond c 1 0)) (cond c 1 0))) (cond b (suc (cond c 1 0)) (cond c 1 0)))
      go true true true = refl
      go true true false = refl
      go true false true = refl
      go true false false = refl
      go false true true = refl
      go false true false = refl
      go false false true = refl
      go false false false = refl

  sizes_there : (several_sizes (services_in (goods_of rec).services) ≡ true) ↔ TwoOf (asks_for rec) (numbers_of sizes)
  unfolding several_sizes all_different contains
  sizes_there = several_exactly (asks_for rec) (numbers_of sizes) refl

  excluding : ((pairs (asks_for rec 34) (asks_for rec 45) (asks_for rec 46) || several_sizes (services_in (goods_of rec).services)) ≡ true)
      ↔ (TwoOf (asks_for rec) (34 ∷ 45 ∷ 46 ∷ []) ⊎ TwoOf (asks_for rec) (numbers_of sizes))
  excluding =
      let e = either_exactly (pairs (asks_for rec 34) (asks_for rec 45) (asks_for rec 46)) (several_sizes (services_in (goods_of rec).services)) in
      (λ h. to (e.0 h), λ w. e.1 (from w))
    where
      to : (pairs (asks_for rec 34) (asks_for rec 45) (asks_for rec 46) ≡ true) ⊎ (several_sizes (services_in (goods_of rec).services) ≡ true)
          → TwoOf (asks_for rec) (34 ∷ 45 ∷ 46 ∷ []) ⊎ TwoOf (asks_for rec) (numbers_of sizes)
      to (inl h) = inl (notices.0 h)
      to (inr h) = inr (sizes_there.0 h)

      from : TwoOf (asks_for rec) (34 ∷ 45 ∷ 46 ∷ []) ⊎ TwoOf (asks_for rec) (numbers_of sizes)
          → (pairs (asks_for rec 34) (asks_for rec 45) (asks_for rec 46) ≡ true) ⊎ (several_sizes (services_in (goods_of rec).services) ≡ true)
      from (inl w) = inl (notices.1 w)
      from (inr w) = inr (sizes_there.1 w)

  abbrev behind_exclusion : List Rule
  behind_exclusion = drop 5 (service_rules (asked_in (goods_of rec)) (given_of (contact_of rec) (goods_of rec) (marks_of rec)) (travel_of rec (piece_of rec)))

  pub code_220_exactly : ExactlyAt 220 18 (ServicesExclude t rec) (record_answer t rec)
  unfolding record_answer table asked_of lacks
  code_220_exactly = row_exactly rec (before_exclusion t rec) 220 18 _ behind_exclusion _ excluding refl refl

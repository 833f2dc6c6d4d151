-- The table of refusals: each code of it is given exactly under the condition that the paper names, earlier codes not met, and at its place; in any batch
-- and under any verdict that is fit. Those of an action are said of the call of any action, be it an addition, an amendment or a cancellation.
-- Assumes nothing.
use Prim.Native.Nat.{ℕ, ◌≤◌}
use mathlib.Core.Path.{◌≡◌, refl, sym, ap, ◌∙◌, subst}
use mathlib.Core.Bool.{Bool, true, false, cond}
use mathlib.Core.List.{List, [], ◌∷◌}
use mathlib.Core.Logic.{◌⊎◌, inl, inr}
use native.Mathlib.Omega.{arith}
use borrow.Author.Tests.{eq-eqb, ne_eqb, eqb-true, eqb-false, ltb-false, le-ltb, leb-false, le-leb, lt-leb}
use lib.Dec.{eqb, ltb, leb}
use lib.ListN.{length}
use Rattle.psc.specs.Table.{Known}
use Rattle.text.specs.declared.Answer.{Answer}
use Rattle.text.specs.Answers.{answer, accepted, or_else, wrong_length}
use Rattle.text.proofs.Booleans.{clash, by_cond}
use Rattle.ident.specs.Identifier.{right_id}
use Rattle.record.specs.Codes.{table_codes, lacks}
use Rattle.record.specs.Consignors.{strays}
use Rattle.record.proofs.Consignors.{strays_exactly, strays_not}
use Rattle.record.specs.Outcomes.{ExactlyAt}
use Rattle.record.proofs.Codes.{lacks_other}
use Rattle.record.proofs.Turns.{never_given}
use Rattle.batch.specs.Actions.{Action, Addition, Amendment, Cancellation, kind_of, body_of, sized, entry_length}
use Rattle.batch.specs.Records.{records_of}
use Rattle.batch.specs.Rules.{Verdict, posted, Fit, batch_codes, is_present, is_cancelled_there, live_rule, action_rule, entry_rule, rule_behind}
use Rattle.batch.specs.Batch.{Batch, Call, Open, Add, Amend, Cancel, Undo, right_lengths, State, undo_rule, rules, file_length, journal_length, answer_to}
use Rattle.batch.specs.History.{call_of, GoodBuffers, NothingStands, SomeStands, WrongSize, body_answer, BodyMeets, id_in, is_addition, AddedTwice, NamesAnother, NotPresent, IsCancelled, NoPlaceLeft, NoRoomLeft, KeepsAll, WrongIdentifier, NoAction, SomeAction}
use Rattle.batch.proofs.Standing.{stands_once}
use Rattle.batch.proofs.Made.{accepted_if}
use Rattle.batch.proofs.CallsMet.{lengths_exactly, open_answers, Meets, wrong_lengths, nothing, by_rules, meets, undo_is_none, opening_or_other}
use Rattle.batch.proofs.Verdicts.{posted_fit, table_apart}
use Rattle.batch.proofs.CodesInTurn.{in_words, Never, never_or, at_yes, at_no, past_yes, past_no, second_gives, first_gives, says_itself}
use Rattle.batch.proofs.History.{call_rules, no_opening, zero_accepted}

-- ---- an action: the answer to its body, then what the records that stand say
abbrev place_rule : List (List ℕ) → ℕ → Answer
place_rule recs places = cond (ltb (length recs) places) accepted (answer 230 0)

abbrev consignor_rule : List (List ℕ) → ℕ → List ℕ → Answer
consignor_rule recs places rec = cond (strays recs rec) (answer 241 1) (place_rule recs places)

abbrev add_rule : List (List ℕ) → ℕ → List ℕ → List ℕ → Answer
add_rule recs places id rec = cond (is_present recs id) (answer 2 1) (consignor_rule recs places rec)

abbrev records_rule : List (List ℕ) → ℕ → Action → Answer
records_rule recs places a = cond (is_addition a) (add_rule recs places (id_in a) (body_of a)) (live_rule recs (id_in a))

action_is : (v : Verdict) (recs : List (List ℕ)) (places : ℕ) (a : Action) → action_rule v recs places a ≡ or_else (body_answer v a) (records_rule recs places a)
unfolding action_rule or_else
action_is v recs places (Addition rec) = refl
action_is v recs places (Amendment rec) = refl
action_is v recs places (Cancellation id) = go (right_id id)
  where
    go : (t : Bool) → cond t (live_rule recs id) (answer 1 1) ≡ cond (eqb (cond t accepted (answer 1 1)).code 0) (live_rule recs id) (cond t accepted (answer 1 1))
    go true = refl
    go false = refl

-- the answer to a body of its length has no code of the batch's own
body_apart : {known : Known} (v : Verdict) → Fit known v → (a : Action) → sized a ≡ true → lacks (body_answer v a).code batch_codes ≡ true
unfolding lacks
body_apart v fit (Addition rec) z = fit.others rec (eqb-true _ 399 z)
body_apart v fit (Amendment rec) z = fit.others rec (eqb-true _ 399 z)
body_apart v fit (Cancellation id) z = by_cond (λ (r : Answer). lacks r.code batch_codes ≡ true) (right_id id) accepted (answer 1 1) (λ e. refl) (λ e. refl)

-- the codes of the rules behind it
abbrev add_codes : List ℕ
add_codes = 0 ∷ 2 ∷ 241 ∷ 230 ∷ []

abbrev live_codes : List ℕ
live_codes = 0 ∷ 232 ∷ 233 ∷ []

abbrev room_codes : List ℕ
room_codes = 0 ∷ 231 ∷ []

never_add : (c : ℕ) → lacks c add_codes ≡ true → (recs : List (List ℕ)) (places : ℕ) (id rec : List ℕ) → Never c (add_rule recs places id rec)
unfolding lacks
never_add c l recs places id rec = go (is_present recs id) (strays recs rec) (ltb (length recs) places)
  where
    go : (p w r : Bool) → Never c (cond p (answer 2 1) (cond w (answer 241 1) (cond r accepted (answer 230 0))))
    go true w r = lacks_other c 2 add_codes refl l
    go false true r = lacks_other c 241 add_codes refl l
    go false false true = lacks_other c 0 add_codes refl l
    go false false false = lacks_other c 230 add_codes refl l

never_live : (c : ℕ) → lacks c live_codes ≡ true → (recs : List (List ℕ)) (id : List ℕ) → Never c (live_rule recs id)
unfolding lacks
never_live c l recs id = go (is_present recs id) (is_cancelled_there recs id)
  where
    go : (p q : Bool) → Never c (cond p (cond q (answer 233 0) accepted) (answer 232 0))
    go true true = lacks_other c 233 live_codes refl l
    go true false = lacks_other c 0 live_codes refl l
    go false q = lacks_other c 232 live_codes refl l

abbrev room_rule : ℕ → Action → Answer
room_rule room a = cond (leb (entry_length (kind_of a)) room) accepted (answer 231 0)

never_room : (c : ℕ) → lacks c room_codes ≡ true → (room : ℕ) (a : Action) → Never c (room_rule room a)
unfolding lacks
never_room c l room a = by_cond (Never c) (leb (entry_length (kind_of a)) room) accepted (answer 231 0) (λ e. lacks_other c 0 room_codes refl l) (λ e. lacks_other c 231 room_codes refl l)

-- ---- each code, of an action among these records
module _ {known : Known} (v : Verdict) (fit : Fit known v) (recs : List (List ℕ)) (places room : ℕ) (a : Action) where
  never_body : (c : ℕ) → lacks c batch_codes ≡ false → sized a ≡ true → Never c (body_answer v a)
  never_body c own z e = lacks_other (body_answer v a).code c batch_codes own (body_apart v fit a z) (sym e)

  never_records : (c : ℕ) → lacks c add_codes ≡ true → lacks c live_codes ≡ true → Never c (records_rule recs places a)
  never_records c l k = by_cond (Never c) (is_addition a) _ _ (λ e. never_add c l recs places (id_in a) (body_of a)) (λ e. never_live c k recs (id_in a))

  never_action : (c : ℕ) → lacks c batch_codes ≡ false → lacks c add_codes ≡ true → lacks c live_codes ≡ true → sized a ≡ true → Never c (action_rule v recs places a)
  never_action c own l k z = rw (action_is v recs places a) (never_or c (body_answer v a) _ (never_body c own z) (never_records c l k))

  never_entry : (c : ℕ) → lacks c batch_codes ≡ false → lacks c add_codes ≡ true → lacks c live_codes ≡ true → lacks c room_codes ≡ true → (236 ≡ c → ⊥) → Never c (entry_rule v recs places room a)
  unfolding entry_rule
  never_entry c own l k r other =
      by_cond (Never c) (sized a) _ wrong_length (λ z. never_or c (action_rule v recs places a) _ (never_action c own l k z) (never_room c r room a)) (λ z. other)

  -- 236
  wrong_size_exactly : ExactlyAt 236 0 (WrongSize a) (entry_rule v recs places room a)
  unfolding entry_rule lacks
  wrong_size_exactly =
      in_words (eqb-false _ _) (ne_eqb _ _)
      (at_no (sized a) _ wrong_length (λ z. never_or 236 (action_rule v recs places a) _ (never_action 236 refl refl refl z) (never_room 236 refl room a)) refl)

  -- a code of the answer to its body
  body_exactly : (c : ℕ) → lacks c (0 ∷ batch_codes) ≡ true → ExactlyAt c (body_answer v a).place (BodyMeets v a c) (entry_rule v recs places room a)
  unfolding entry_rule lacks
  body_exactly c other =
      let no : (x : ℕ) → lacks x (0 ∷ batch_codes) ≡ false → x ≡ c → ⊥ = λ x there. lacks_other c x (0 ∷ batch_codes) there other in
      let adds : lacks c add_codes ≡ true = rw (ne_eqb 0 c (no 0 refl), ne_eqb 2 c (no 2 refl), ne_eqb 241 c (no 241 refl), ne_eqb 230 c (no 230 refl)) in
      let lives : lacks c live_codes ≡ true = rw (ne_eqb 0 c (no 0 refl), ne_eqb 232 c (no 232 refl), ne_eqb 233 c (no 233 refl)) in
      let room_left : lacks c room_codes ≡ true = rw (ne_eqb 0 c (no 0 refl), ne_eqb 231 c (no 231 refl)) in
      in_words (λ k. record { size = eqb-true _ _ k.0; says = k.1 }) (λ k. (eq-eqb _ _ k.size, k.says))
      (past_yes (sized a) _ wrong_length
      (λ z. first_gives (action_rule v recs places a) (room_rule room a) (λ e. no 0 refl (sym e))
      (rw (action_is v recs places a) (first_gives (body_answer v a) (records_rule recs places a) (λ e. no 0 refl (sym e)) (says_itself c (body_answer v a)) (never_records c adds lives)))
      (never_room c room_left room a)) (no 236 refl))

  -- a code that the records give: its body is good
  module _ (c p : ℕ) (own : lacks c batch_codes ≡ false) (l : lacks c (0 ∷ 231 ∷ 236 ∷ []) ≡ true) where
    of_records : {K : Type 0} → ExactlyAt c p K (records_rule recs places a) → ExactlyAt c p (BodyMeets v a 0 × K) (entry_rule v recs places room a)
    unfolding entry_rule lacks
    of_records {K} e =
        let no : (x : ℕ) → lacks x (0 ∷ 231 ∷ 236 ∷ []) ≡ false → x ≡ c → ⊥ = λ x there. lacks_other c x (0 ∷ 231 ∷ 236 ∷ []) there l in
        let room_left : lacks c room_codes ≡ true = rw (ne_eqb 0 c (no 0 refl), ne_eqb 231 c (no 231 refl)) in
        in_words (λ (k : (sized a ≡ true) × (((body_answer v a).code ≡ 0) × K)). (record { size = eqb-true _ _ k.0; says = k.1.0 }, k.1.1)) (λ k. (eq-eqb _ _ k.0.size, (k.0.says, k.1)))
        (past_yes (sized a) _ wrong_length
        (λ z. first_gives (action_rule v recs places a) (room_rule room a) (λ e. no 0 refl (sym e))
        (rw (action_is v recs places a) (second_gives (body_answer v a) (records_rule recs places a) (never_body c own z) e)) (never_room c room_left room a)) (no 236 refl))

  abbrev there : Bool
  there = is_present recs (id_in a)

  abbrev stray : Bool
  stray = strays recs (body_of a)

  -- 2
  twice_exactly : ExactlyAt 2 1 (BodyMeets v a 0 × ((is_addition a ≡ true) × (there ≡ true))) (entry_rule v recs places room a)
  unfolding lacks
  twice_exactly =
      of_records 2 1 refl refl
      (past_yes (is_addition a) _ (live_rule recs (id_in a))
      (λ t. at_yes there (answer 2 1) (consignor_rule recs places (body_of a)) refl
      (λ f. by_cond (Never 2) stray _ _ (λ y e. omega (arith, e)) (λ y. by_cond (Never 2) (ltb (length recs) places) _ _ (λ x e. omega (arith, e)) (λ x e. omega (arith, e)))))
      (never_live 2 refl recs (id_in a)))

  -- 241
  another_exactly : ExactlyAt 241 1 (BodyMeets v a 0 × ((is_addition a ≡ true) × ((there ≡ false) × (stray ≡ true)))) (entry_rule v recs places room a)
  unfolding lacks
  another_exactly =
      of_records 241 1 refl refl
      (past_yes (is_addition a) _ (live_rule recs (id_in a))
      (λ t. past_no there (answer 2 1) (consignor_rule recs places (body_of a)) (λ e. omega (arith, e))
      (λ f. at_yes stray (answer 241 1) (place_rule recs places) refl (λ y. by_cond (Never 241) (ltb (length recs) places) _ _ (λ x e. omega (arith, e)) (λ x e. omega (arith, e)))))
      (never_live 241 refl recs (id_in a)))

  -- 230
  full_exactly : ExactlyAt 230 0 (BodyMeets v a 0 × ((is_addition a ≡ true) × ((there ≡ false) × ((stray ≡ false) × (ltb (length recs) places ≡ false))))) (entry_rule v recs places room a)
  unfolding lacks
  full_exactly =
      of_records 230 0 refl refl
      (past_yes (is_addition a) _ (live_rule recs (id_in a))
      (λ t. past_no there (answer 2 1) (consignor_rule recs places (body_of a)) (λ e. omega (arith, e))
      (λ f. past_no stray (answer 241 1) (place_rule recs places) (λ e. omega (arith, e)) (λ g. at_no (ltb (length recs) places) accepted (answer 230 0) (λ y e. omega (arith, e)) refl)))
      (never_live 230 refl recs (id_in a)))

  -- 232
  absent_exactly : ExactlyAt 232 0 (BodyMeets v a 0 × ((is_addition a ≡ false) × (there ≡ false))) (entry_rule v recs places room a)
  unfolding lacks
  absent_exactly =
      of_records 232 0 refl refl
      (past_no (is_addition a) _ (live_rule recs (id_in a)) (never_add 232 refl recs places (id_in a) (body_of a))
      (λ f. at_no there _ (answer 232 0) (λ y. by_cond (Never 232) (is_cancelled_there recs (id_in a)) _ _ (λ q e. omega (arith, e)) (λ q e. omega (arith, e))) refl))

  -- 233
  cancelled_exactly : ExactlyAt 233 0 (BodyMeets v a 0 × ((is_addition a ≡ false) × ((there ≡ true) × (is_cancelled_there recs (id_in a) ≡ true)))) (entry_rule v recs places room a)
  unfolding lacks
  cancelled_exactly =
      of_records 233 0 refl refl
      (past_no (is_addition a) _ (live_rule recs (id_in a)) (never_add 233 refl recs places (id_in a) (body_of a))
      (λ f. past_yes there _ (answer 232 0) (λ y. at_yes (is_cancelled_there recs (id_in a)) (answer 233 0) accepted refl (λ q e. omega (arith, e))) (λ e. omega (arith, e))))

  -- 231
  room_exactly : ExactlyAt 231 0 ((sized a ≡ true) × (((action_rule v recs places a).code ≡ 0) × (leb (entry_length (kind_of a)) room ≡ false))) (entry_rule v recs places room a)
  unfolding entry_rule lacks
  room_exactly =
      past_yes (sized a) _ wrong_length
      (λ z. second_gives (action_rule v recs places a) (room_rule room a) (never_action 231 refl refl refl z) (at_no (leb (entry_length (kind_of a)) room) accepted (answer 231 0) (λ y e. omega (arith, e)) refl))
      (λ e. omega (arith, e))

-- 0
accepts : (v : Verdict) (recs : List (List ℕ)) (places room : ℕ) (a : Action) → length (body_of a) ≡ (kind_of a).carries → (action_rule v recs places a).code ≡ 0 → entry_length (kind_of a) ≤ room → (entry_rule v recs places room a).code ≡ 0
unfolding entry_rule or_else
accepts v recs places room a size rule fits = rw (eq-eqb _ _ size, rule, le-leb _ _ fits)

-- ---- any call but opening, on any batch: a code that comes behind 237 is given exactly if a state stands of which its condition holds
where_stands : (v : Verdict) (b : Batch) (call : Call) → (call ≡ Open → ⊥) → {c p : ℕ} {K : State → Type 0} → lacks c (235 ∷ 237 ∷ []) ≡ true
    → ((s : State) → ExactlyAt c p (K s) (rules v (file_length b) (journal_length b) s call)) → ExactlyAt c p (SomeStands v b K) (answer_to v b call)
unfolding lacks
where_stands v b call other {c} {p} {K} l e = go (meets v b call other)
  where
    go : {a : Answer} → Meets v b call a → ExactlyAt c p (SomeStands v b K) a
    go (wrong_lengths w) = never_given (lacks_other c 235 (235 ∷ 237 ∷ []) refl l) (λ k. clash k.stands.lengths w)
    go (nothing w n) = never_given (lacks_other c 237 (235 ∷ 237 ∷ []) refl l) (λ k. n k.standing k.stands)
    go (by_rules s st) =
        in_words (λ k. record { standing = s; stands = st; meets = k }) (λ k. subst K (stands_once v v b k.standing s k.stands st) k.meets) (e s)

-- ---- acceptance, undo and opening: of any verdict
module _ (v : Verdict) (b : Batch) where
  module _ (a : Action) where
    behind : {c p : ℕ} {K : State → Type 0} → lacks c (235 ∷ 237 ∷ []) ≡ true → ((s : State) → ExactlyAt c p (K s) (rule_behind v (file_length b) (journal_length b) s.actions a)) → ExactlyAt c p (SomeStands v b K) (answer_to v b (call_of a))
    behind {c} {p} {K} l e = where_stands v b (call_of a) (no_opening a) l (λ s. subst (ExactlyAt c p (K s)) (sym (call_rules v (file_length b) (journal_length b) s a)) (e s))

    -- no code is met
    pub accepted_exactly : ExactlyAt 0 0 (SomeStands v b (KeepsAll v (file_length b) (journal_length b) a)) (answer_to v b (call_of a))
    unfolding lacks
    accepted_exactly = behind refl (λ s. keeps_all s)
      where
        keeps_all : (s : State) → ExactlyAt 0 0 (KeepsAll v (file_length b) (journal_length b) a s) (rule_behind v (file_length b) (journal_length b) s.actions a)
        keeps_all s = record {
          when = (
            λ z. let ok = accepted_if v _ _ _ a z in record { earlier = record { size = eqb-true _ _ ok.size; rules = ok.rule }; room = ok.fits },
            λ k. accepts v _ _ _ a k.earlier.size k.earlier.rules k.room,
          );
          there = λ z. ap (λ (r : Answer). r.place) (zero_accepted v (file_length b) (journal_length b) s.actions a z);
        }

  -- ---- an undo
  pub code_234_exactly : ExactlyAt 234 0 (SomeStands v b NoAction) (answer_to v b Undo)
  unfolding lacks rules
  code_234_exactly = where_stands v b Undo undo_is_none refl (λ s. go s.actions)
    where
      go : (xs : List Action) → ExactlyAt 234 0 (xs ≡ []) (undo_rule xs)
      go [] = record { when = (λ z. refl, λ e. refl); there = λ z. refl }
      go (a ∷ xs) = never_given (λ e. omega (arith, e)) (λ e. let z : ◌≡◌ {A = ℕ} 0 1 = cc in omega arith)

  pub undo_accepted_exactly : ExactlyAt 0 0 (SomeStands v b SomeAction) (answer_to v b Undo)
  unfolding lacks rules
  undo_accepted_exactly = where_stands v b Undo undo_is_none refl (λ s. go s.actions)
    where
      go : (xs : List Action) → ExactlyAt 0 0 (xs ≡ [] → ⊥) (undo_rule xs)
      go [] = never_given (λ e. omega (arith, e)) (λ e. e refl)
      go (a ∷ xs) = record { when = (λ z e. let z : ◌≡◌ {A = ℕ} 0 1 = cc in omega arith, λ e. refl); there = λ z. refl }

  -- and no other code than these and those before them
  pub undo_codes : lacks (answer_to v b Undo).code (0 ∷ 234 ∷ 235 ∷ 237 ∷ []) ≡ false
  unfolding lacks rules
  undo_codes = go (meets v b Undo undo_is_none)
    where
      ruled : (xs : List Action) → lacks (undo_rule xs).code (0 ∷ 234 ∷ 235 ∷ 237 ∷ []) ≡ false
      ruled [] = refl
      ruled (a ∷ xs) = refl

      go : {a : Answer} → Meets v b Undo a → lacks a.code (0 ∷ 234 ∷ 235 ∷ 237 ∷ []) ≡ false
      go (wrong_lengths w) = refl
      go (nothing w x) = refl
      go (by_rules s st) = ruled s.actions

  -- ---- an opening: 0 or 235
  pub opening_codes : lacks (answer_to v b Open).code (0 ∷ 235 ∷ []) ≡ false
  unfolding lacks
  opening_codes = rw (open_answers v b) (by_cond (λ (a : Answer). lacks a.code (0 ∷ 235 ∷ []) ≡ false) (right_lengths (file_length b) (journal_length b)) accepted (answer 235 0) (λ e. refl) (λ e. refl))

  pub open_accepted_exactly : ExactlyAt 0 0 (GoodBuffers b) (answer_to v b Open)
  open_accepted_exactly =
      rw (open_answers v b)
      (in_words (lengths_exactly _ _).0 (lengths_exactly _ _).1 (at_yes (right_lengths (file_length b) (journal_length b)) accepted (answer 235 0) refl (λ f e. omega (arith, e))))

-- ---- the other codes: of a verdict that is fit
module _ {known : Known} (v : Verdict) (fit : Fit known v) (b : Batch) where
  abbrev n : ℕ
  n = file_length b

  abbrev m : ℕ
  m = journal_length b

  -- of an action
  module _ (a : Action) where
    pub code_236_exactly : ExactlyAt 236 0 (SomeStands v b (λ s. WrongSize a)) (answer_to v b (call_of a))
    unfolding lacks
    code_236_exactly = behind v b a refl (λ s. wrong_size_exactly v fit _ _ _ a)

    -- 1 to 223, and any other code of the verdict, at the verdict's own place
    pub body_code_exactly : (c : ℕ) → lacks c (0 ∷ batch_codes) ≡ true → ExactlyAt c (body_answer v a).place (SomeStands v b (λ s. BodyMeets v a c)) (answer_to v b (call_of a))
    unfolding lacks
    body_code_exactly c l =
        let no : (x : ℕ) → lacks x (0 ∷ batch_codes) ≡ false → x ≡ c → ⊥ = λ x there. lacks_other c x (0 ∷ batch_codes) there l in
        behind v b a (rw (ne_eqb 235 c (no 235 refl), ne_eqb 237 c (no 237 refl))) (λ s. body_exactly v fit _ _ _ a c l)

    pub code_2_exactly : ExactlyAt 2 1 (SomeStands v b (AddedTwice v a)) (answer_to v b (call_of a))
    unfolding lacks
    code_2_exactly =
        behind v b a refl
        (λ s. in_words (λ k. record { good = k.0; adds = k.1.0; present = k.1.1 }) (λ k. (k.good, (k.adds, k.present))) (twice_exactly v fit _ _ _ a))

    pub code_241_exactly : ExactlyAt 241 1 (SomeStands v b (NamesAnother v a)) (answer_to v b (call_of a))
    unfolding lacks
    code_241_exactly =
        behind v b a refl
        (λ s.
        let other = strays_exactly (records_of s.actions) (body_of a) in
        in_words (λ k. record { good = k.0; adds = k.1.0; absent = k.1.1.0; strays = other.0 k.1.1.1 }) (λ k. (k.good, (k.adds, (k.absent, other.1 k.strays)))) (another_exactly v fit _ _ _ a))

    pub code_232_exactly : ExactlyAt 232 0 (SomeStands v b (NotPresent v a)) (answer_to v b (call_of a))
    unfolding lacks
    code_232_exactly =
        behind v b a refl
        (λ s. in_words (λ k. record { good = k.0; other = k.1.0; absent = k.1.1 }) (λ k. (k.good, (k.other, k.absent))) (absent_exactly v fit _ _ _ a))

    pub code_233_exactly : ExactlyAt 233 0 (SomeStands v b (IsCancelled v a)) (answer_to v b (call_of a))
    unfolding lacks
    code_233_exactly =
        behind v b a refl
        (λ s. in_words (λ k. record { good = k.0; other = k.1.0; present = k.1.1.0; cancelled = k.1.1.1 }) (λ k. (k.good, (k.other, (k.present, k.cancelled)))) (cancelled_exactly v fit _ _ _ a))

    pub code_230_exactly : ExactlyAt 230 0 (SomeStands v b (NoPlaceLeft v n a)) (answer_to v b (call_of a))
    unfolding lacks
    code_230_exactly =
        behind v b a refl
        (λ s.
        let recs = records_of s.actions in
        in_words
        (λ k. record { good = k.0; adds = k.1.0; absent = k.1.1.0; same = λ x. clash ((strays_exactly recs (body_of a)).1 x) k.1.1.1.0; full = ltb-false _ _ k.1.1.1.1 })
        (λ k. (k.good, (k.adds, (k.absent, (strays_not recs (body_of a) k.same, le-ltb _ _ k.full)))))
        (full_exactly v fit _ _ _ a))

    pub code_231_exactly : ExactlyAt 231 0 (SomeStands v b (NoRoomLeft v n m a)) (answer_to v b (call_of a))
    unfolding lacks
    code_231_exactly =
        behind v b a refl
        (λ s. in_words (λ k. record { earlier = record { size = eqb-true _ _ k.0; rules = k.1.0 }; short = leb-false _ _ k.1.1 }) (λ k. (eq-eqb _ _ k.earlier.size, (k.earlier.rules, lt-leb _ _ k.short))) (room_exactly v fit _ _ _ a))

  -- 1 in cancel: the identifier is not right
  pub code_1_in_cancel_exactly : (id : List ℕ) → ExactlyAt 1 1 (SomeStands v b (λ s. WrongIdentifier id)) (answer_to v b (Cancel id))
  unfolding lacks
  code_1_in_cancel_exactly id =
      let e = body_code_exactly (Cancellation id) 1 refl in
      record {
        when = (
          λ z. let k = e.when.0 z in record { standing = k.standing; stands = k.stands; meets = record { size = k.meets.size; wrong = not_right (right_id id) k.meets.says } },
          λ k. e.when.1 record { standing = k.standing; stands = k.stands; meets = record { size = k.meets.size; says = rw k.meets.wrong } },
        );
        there = λ z. e.there z ∙ rw (not_right (right_id id) (e.when.0 z).meets.says);
      }
    where
      not_right : (t : Bool) → (cond t accepted (answer 1 1)).code ≡ 1 → t ≡ false
      not_right true z = absurd (omega (arith, z))
      not_right false z = refl

  -- 235 and 237: no rule gives them
  module _ (c : ℕ) (own : lacks c batch_codes ≡ false) (l : lacks c add_codes ≡ true) (k : lacks c live_codes ≡ true) (r : lacks c room_codes ≡ true) (q : lacks c (234 ∷ 236 ∷ []) ≡ true) where
    never_rules : (s : State) (call : Call) → Never c (rules v n m s call)
    unfolding rules lacks
    never_rules s Open = lacks_other c 0 add_codes refl l
    never_rules s (Add rec) = never_entry v fit _ _ _ (Addition rec) c own l k r (lacks_other c 236 (234 ∷ 236 ∷ []) refl q)
    never_rules s (Amend rec) = never_entry v fit _ _ _ (Amendment rec) c own l k r (lacks_other c 236 (234 ∷ 236 ∷ []) refl q)
    never_rules s (Cancel id) = never_entry v fit _ _ _ (Cancellation id) c own l k r (lacks_other c 236 (234 ∷ 236 ∷ []) refl q)
    never_rules s Undo = go s.actions
      where
        go : (xs : List Action) → Never c (undo_rule xs)
        go [] = lacks_other c 234 (234 ∷ 236 ∷ []) refl q
        go (a ∷ xs) = lacks_other c 0 add_codes refl l

  pub code_235_exactly : (call : Call) → ExactlyAt 235 0 (GoodBuffers b → ⊥) (answer_to v b call)
  unfolding lacks
  code_235_exactly call = by (opening_or_other call)
    where
      not_good : right_lengths n m ≡ false → GoodBuffers b → ⊥
      not_good f g = clash ((lengths_exactly n m).1 g) f

      go : {a : Answer} → Meets v b call a → ExactlyAt 235 0 (GoodBuffers b → ⊥) a
      go (wrong_lengths w) = record { when = (λ z. not_good w, λ g. refl); there = λ z. refl }
      go (nothing w x) = never_given (λ e. omega (arith, e)) (λ g. g ((lengths_exactly n m).0 w))
      go (by_rules s st) = never_given (never_rules 235 refl refl refl refl refl s call) (λ g. g ((lengths_exactly n m).0 st.lengths))

      of_opening : (t : Bool) → right_lengths n m ≡ t → ExactlyAt 235 0 (GoodBuffers b → ⊥) (cond t accepted (answer 235 0))
      of_opening true e = never_given (λ z. omega (arith, z)) (λ g. g ((lengths_exactly n m).0 e))
      of_opening false e = record { when = (λ z. not_good e, λ g. refl); there = λ z. refl }

      by : (call ≡ Open) ⊎ (call ≡ Open → ⊥) → ExactlyAt 235 0 (GoodBuffers b → ⊥) (answer_to v b call)
      by (inl e) = rw (e, open_answers v b) (of_opening (right_lengths n m) refl)
      by (inr other) = go (meets v b call other)

  pub code_237_exactly : (call : Call) → ExactlyAt 237 0 (NothingStands v b call) (answer_to v b call)
  unfolding lacks
  code_237_exactly call = by (opening_or_other call)
    where
      go : {a : Answer} → (call ≡ Open → ⊥) → Meets v b call a → ExactlyAt 237 0 (NothingStands v b call) a
      go other (wrong_lengths w) = never_given (λ e. omega (arith, e)) (λ k. clash ((lengths_exactly n m).1 k.lengths) w)
      go other (nothing w x) = record { when = (λ z. record { lengths = (lengths_exactly n m).0 w; other = other; nothing = x }, λ k. refl); there = λ z. refl }
      go other (by_rules s st) = never_given (never_rules 237 refl refl refl refl refl s call) (λ k. k.nothing s st)

      of_opening : Never 237 (answer_to v b Open)
      of_opening = rw (open_answers v b) (by_cond (Never 237) (right_lengths n m) accepted (answer 235 0) (λ t e. omega (arith, e)) (λ t e. omega (arith, e)))

      by : (call ≡ Open) ⊎ (call ≡ Open → ⊥) → ExactlyAt 237 0 (NothingStands v b call) (answer_to v b call)
      by (inl e) = never_given (rw e of_opening) (λ k. k.other e)
      by (inr other) = go other (meets v b call other)

  -- 238 is the lent table's alone
  pub never_238 : (call : Call) → Never 238 (answer_to v b call)
  unfolding lacks
  never_238 call = by (opening_or_other call)
    where
      go : {a : Answer} → Meets v b call a → Never 238 a
      go (wrong_lengths w) = λ e. omega (arith, e)
      go (nothing w x) = λ e. omega (arith, e)
      go (by_rules s st) = never_rules 238 refl refl refl refl refl s call

      by : (call ≡ Open) ⊎ (call ≡ Open → ⊥) → Never 238 (answer_to v b call)
      by (inl e) = rw (e, open_answers v b) (by_cond (Never 238) (right_lengths n m) accepted (answer 235 0) (λ t e. omega (arith, e)) (λ t e. omega (arith, e)))
      by (inr other) = go (meets v b call other)

-- ---- under the record's own verdict: each code of its table
pub table_code_exactly : (known : Known) (b : Batch) (a : Action) (c : ℕ) → lacks c table_codes ≡ false
    → ExactlyAt c (body_answer (posted known) a).place (SomeStands (posted known) b (λ s. BodyMeets (posted known) a c)) (answer_to (posted known) b (call_of a))
table_code_exactly known b a c there = body_code_exactly (posted known) (posted_fit known) b a c (table_apart c there)

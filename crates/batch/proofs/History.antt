-- The history of a batch, under any verdict that is fit: calls by the rules on what a state makes, lists of actions performed, and an undo after an
-- accepted action.
-- Assumes nothing.
use Prim.Native.Nat.{ℕ, ◌-◌, ◌/◌}
use mathlib.Core.Path.{◌≡◌, refl, sym, ap, ◌∙◌, subst}
use mathlib.Core.Bool.{Bool, true, false, cond, and-eq-true_iff}
use mathlib.Core.List.{List, [], ◌∷◌, ◌++◌, map, append_assoc, append-nil}
use native.Mathlib.Omega.{arith}
use borrow.Author.Tests.{eqb-true, eqb-false}
use lib.Dec.{eqb, leb}
use lib.ListN.{length}
use Rattle.psc.specs.Table.{Known}
use Rattle.text.specs.declared.Answer.{Answer}
use Rattle.text.specs.Answers.{accepted, or_else}
use Rattle.text.proofs.Booleans.{by_cond}
use Rattle.batch.specs.Actions.{Action, Addition, Amendment, Cancellation, kind_of, sized, entry_length, entries_of}
use Rattle.batch.specs.Records.{records_of}
use Rattle.batch.specs.Rules.{Verdict, Fit, action_rule, entry_rule, rule_behind, in_turn_behind, in_turn}
use Rattle.batch.specs.Batch.{Batch, Call, Open, Add, Amend, Cancel, Undo, right_lengths, State, state, made, undo_rule, rules, without_latest, with, next, file_length, journal_length, Stands, answer_to, unchanged, after}
use Rattle.batch.specs.History.{call_of, standing_by_rule, standing_behind, answers_behind, Performed, Undoes}
use Rattle.batch.proofs.Made.{made_file_long, made_journal_long, turns_fit, turns_next, made_stands, answered_by_rules, accepted_leaves}
use Rattle.batch.proofs.CallsMet.{accepted_by}

-- ---- the call of an action
pub call_next : (s : State) (a : Action) → next s (call_of a) ≡ with s a
call_next s (Addition rec) = refl
call_next s (Amendment rec) = refl
call_next s (Cancellation id) = refl

pub call_rules : (v : Verdict) (n m : ℕ) (s : State) (a : Action) → rules v n m s (call_of a) ≡ rule_behind v n m s.actions a
unfolding rules
call_rules v n m s (Addition rec) = refl
call_rules v n m s (Amendment rec) = refl
call_rules v n m s (Cancellation id) = refl

pub no_opening : (a : Action) → call_of a ≡ Open → ⊥
no_opening (Addition rec) e = let z : ◌≡◌ {A = ℕ} 0 1 = cc in omega arith
no_opening (Amendment rec) e = let z : ◌≡◌ {A = ℕ} 0 1 = cc in omega arith
no_opening (Cancellation id) e = let z : ◌≡◌ {A = ℕ} 0 1 = cc in omega arith

-- an action with code 0 is accepted, at no place
pub zero_accepted : (v : Verdict) (n m : ℕ) (before : List Action) (a : Action) → (rule_behind v n m before a).code ≡ 0 → rule_behind v n m before a ≡ accepted
unfolding entry_rule or_else
zero_accepted v n m before a =
    by_cond P (sized a) _ _
    (λ e. by_cond P (eqb (action_rule v (records_of before) (n / 401) a).code 0) _ _
    (λ z. by_cond P (leb (entry_length (kind_of a)) (m - length (entries_of before))) _ _ (λ l h. refl) (λ l h. absurd (omega (arith, h))))
    (λ z h. absurd (eqb-false _ 0 z h)))
    (λ e h. absurd (omega (arith, h)))
  where
    P : Answer → Type 0
    P r = r.code ≡ 0 → r ≡ accepted

-- ---- a list performed by the rules
record PerformedBehind (v : Verdict) (n m : ℕ) (before xs : List Action) : Type 0 where
  answers : answers_behind v n m (state before) (map call_of xs) ≡ map (λ a. accepted) xs
  stands : standing_behind v n m (state before) (map call_of xs) ≡ state (before ++ xs)

perform : (v : Verdict) (n m : ℕ) (before xs : List Action) → in_turn_behind v n m before xs ≡ true → PerformedBehind v n m before xs
unfolding in_turn_behind
perform v n m before [] t = record { answers = refl; stands = ap state (sym (append-nil before)) }
perform v n m before (a ∷ xs) t =
    let p = (and-eq-true_iff (eqb (rule_behind v n m before a).code 0) (in_turn_behind v n m (before ++ a ∷ []) xs)).0 t in
    let met : rules v n m (state before) (call_of a) ≡ accepted = call_rules v n m (state before) a ∙ zero_accepted v n m before a (eqb-true _ 0 p.0) in
    let on : standing_by_rule v n m (state before) (call_of a) ≡ state (before ++ a ∷ []) = rw met (call_next (state before) a) in
    let i = perform v n m (before ++ a ∷ []) xs p.1 in
    record {
      answers = λ j. met j ∷ (ap (λ (s : State). answers_behind v n m s (map call_of xs)) on ∙ i.answers) j;
      stands = ap (λ (s : State). standing_behind v n m s (map call_of xs)) on ∙ i.stands ∙ ap state (append_assoc before (a ∷ []) xs);
    }

pub performed : (v : Verdict) (n m : ℕ) (xs : List Action) → in_turn v n m xs ≡ true → Performed v n m xs
performed v n m xs t = let p = perform v n m [] xs t in record { answers = p.answers; stands = p.stands }

-- ---- one call on what a state makes, by the rules
module _ {known : Known} (v : Verdict) (fit : Fit known v) (n m : ℕ) (good : right_lengths n m ≡ true) (s : State) (t : in_turn v n m s.actions ≡ true) where
  pub stands_here : Stands v (made n m s) s
  stands_here = made_stands v fit n m good s t

  file_here : file_length (made n m s) ≡ n
  file_here = made_file_long n m s.actions (turns_fit v fit n m s.actions t)

  journal_here : journal_length (made n m s) ≡ m
  journal_here = made_journal_long n m s.actions (turns_fit v fit n m s.actions t)

  rules_here : (call : Call) → rules v (file_length (made n m s)) (journal_length (made n m s)) s call ≡ rules v n m s call
  rules_here call = λ i. rules v (file_here i) (journal_here i) s call

  pub answer_here : (call : Call) → answer_to v (made n m s) call ≡ rules v n m s call
  answer_here call = answered_by_rules v (made n m s) s stands_here call ∙ rules_here call

  -- an opening is never refused
  stays : (call : Call) → ((rules v n m s call).code ≡ 0 → ⊥) → unchanged (made n m s) call ≡ made n m s
  unfolding rules
  stays Open refused = absurd (refused refl)
  stays (Add rec) refused = refl
  stays (Amend rec) refused = refl
  stays (Cancel id) refused = refl
  stays Undo refused = refl

  pub after_here : (call : Call) → after v (made n m s) call ≡ made n m (standing_by_rule v n m s call)
  unfolding after
  after_here call = go (eqb (rules v n m s call).code 0) refl
    where
      go : (q : Bool) → eqb (rules v n m s call).code 0 ≡ q → after v (made n m s) call ≡ made n m (cond q (next s call) s)
      go true e =
          accepted_leaves v (made n m s) s stands_here call (ap (λ (r : Answer). r.code) (rules_here call) ∙ eqb-true _ 0 e) ∙ (λ i. made (file_here i) (journal_here i) (next s call))
      go false e = rw (answer_here call, e) (stays call (eqb-false _ 0 e))

  pub turns_here : (call : Call) → in_turn v n m (standing_by_rule v n m s call).actions ≡ true
  turns_here call = by_cond (λ (x : State). in_turn v n m x.actions ≡ true) (eqb (rules v n m s call).code 0) _ _ (λ e. turns_next v n m s call t (eqb-true _ 0 e)) (λ e. t)

-- ---- an undo after an accepted action gives back the batch before it
without_latest_lem : (xs : List Action) (a : Action) → without_latest (xs ++ a ∷ []) ≡ xs
without_latest_lem [] a = refl
without_latest_lem (x ∷ []) a = refl
without_latest_lem (x ∷ y ∷ xs) a = ap (λ (t : List Action). x ∷ t) (without_latest_lem (y ∷ xs) a)

some_stands : (xs : List Action) (a : Action) → undo_rule (xs ++ a ∷ []) ≡ accepted
some_stands [] a = refl
some_stands (x ∷ xs) a = refl

module _ {known : Known} (v : Verdict) (fit : Fit known v) (b : Batch) (a : Action) (z : (answer_to v b (call_of a)).code ≡ 0) where
  pub undo_gives_back : Undoes v b (after v b (call_of a))
  unfolding rules
  undo_gives_back =
      let p = accepted_by v b (call_of a) (no_opening a) z in
      let s = p.standing in
      let n = file_length b in
      let m = journal_length b in
      let t = subst (λ (x : State). in_turn v n m x.actions ≡ true) (call_next s a) (turns_next v n m s (call_of a) p.stands.turns p.rule) in
      let left : after v b (call_of a) ≡ made n m (with s a) = accepted_leaves v b s p.stands (call_of a) p.rule ∙ ap (made n m) (call_next s a) in
      let ruled : rules v n m (with s a) Undo ≡ accepted = some_stands s.actions a in
      let back : standing_by_rule v n m (with s a) Undo ≡ s = rw ruled (ap state (without_latest_lem s.actions a)) in
      record {
        answers = ap (λ (x : Batch). answer_to v x Undo) left ∙ answer_here v fit n m p.stands.lengths (with s a) t Undo ∙ ruled;
        back = ap (λ (x : Batch). after v x Undo) left ∙ after_here v fit n m p.stands.lengths (with s a) t Undo ∙ ap (made n m) back ∙ sym p.stands.is;
      }

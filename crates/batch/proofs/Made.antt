-- What a list of actions makes, each acceptable in its turn, is a batch in which the list stands; and one call on such a batch leaves another.
-- Under any verdict that is fit.
-- Assumes nothing.
use Prim.Native.Nat.{ℕ, ◌-◌, ◌*◌, ◌/◌, ◌≤◌}
use mathlib.Core.Path.{◌≡◌, refl, sym, ap, ◌∙◌, subst}
use mathlib.Core.Bool.{true, and-eq-true_iff}
use mathlib.Core.List.{List, [], ◌∷◌, ◌++◌, append_assoc, append-nil}
use native.Mathlib.Omega.{arith}
use borrow.Author.Tests.{eq-eqb, eqb-true, eqb-false, leb-true}
use lib.Dec.{eqb, leb}
use lib.ListN.{length, length-append}
use Rattle.psc.specs.Table.{Known}
use Rattle.text.specs.declared.Answer.{Answer}
use Rattle.text.specs.Answers.{or_else}
use Rattle.text.proofs.Booleans.{by_cond}
use Rattle.posting.specs.Records.{lines_of}
use Rattle.posting.proofs.PrintedLines.{all_lines_long}
use Rattle.batch.specs.Actions.{Action, Addition, Amendment, Cancellation, kind_of, body_of, sized, entry_length, head_of, entry_of, entries_of}
use Rattle.batch.specs.Records.{records_after, records_from, records_of}
use Rattle.batch.specs.Rules.{Verdict, Fit, action_rule, entry_rule, rule_behind, in_turn_behind, in_turn}
use Rattle.batch.specs.Batch.{Batch, Call, Open, Add, Amend, Cancel, Undo, right_lengths, State, state, zero_filled, made, rules, without_latest, next, file_length, journal_length, Stands, answer_to, after}
use Rattle.batch.proofs.ZeroFilled.{filled_long}
use Rattle.batch.proofs.Sheets.{Sheet, sheet_none, sheet_step, fits_step}
use Rattle.batch.proofs.Standing.{stands_exactly}

-- ---- one action more
pub records_last : (recs : List (List ℕ)) (xs : List Action) (a : Action) → records_from recs (xs ++ a ∷ []) ≡ records_after (records_from recs xs) a
records_last recs [] a = refl
records_last recs (x ∷ xs) a = records_last (records_after recs x) xs a

pub entries_last : (xs : List Action) (a : Action) → entries_of (xs ++ a ∷ []) ≡ entries_of xs ++ entry_of a
entries_last [] a = append-nil (entry_of a)
entries_last (x ∷ xs) a = ap (λ (t : List ℕ). entry_of x ++ t) (entries_last xs a) ∙ sym (append_assoc (entry_of x) (entries_of xs) (entry_of a))

pub entry_long : (a : Action) → sized a ≡ true → length (entry_of a) ≡ entry_length (kind_of a)
entry_long a z = omega (arith, length-append (head_of (kind_of a)) (body_of a), eqb-true (length (body_of a)) (kind_of a).carries z)

-- ---- an action that is acceptable
pub record Accepted (v : Verdict) (recs : List (List ℕ)) (places room : ℕ) (a : Action) : Type 0 where
  pub size : sized a ≡ true
  pub rule : (action_rule v recs places a).code ≡ 0
  pub fits : entry_length (kind_of a) ≤ room

pub accepted_if : (v : Verdict) (recs : List (List ℕ)) (places room : ℕ) (a : Action) → (entry_rule v recs places room a).code ≡ 0 → Accepted v recs places room a
unfolding entry_rule or_else
accepted_if v recs places room a =
    by_cond P (sized a) _ _
    (λ e. by_cond P (eqb (action_rule v recs places a).code 0) _ _
    (λ z. by_cond P (leb (entry_length (kind_of a)) room) _ _ (λ l h. record { size = e; rule = eqb-true _ 0 z; fits = leb-true _ _ l }) (λ l h. absurd (omega (arith, h))))
    (λ z h. absurd (eqb-false _ 0 z h)))
    (λ e h. absurd (omega (arith, h)))
  where
    P : Answer → Type 0
    P r = r.code ≡ 0 → Accepted v recs places room a

-- ---- along a list
-- what a list makes fits its buffers, and its records may stand in a batch
pub record Fits (known : Known) (n m : ℕ) (xs : List Action) : Type 0 where
  pub sheet : Sheet known (records_of xs)
  pub places : length (records_of xs) * 401 ≤ n
  pub room : length (entries_of xs) ≤ m

pub none_fits : {known : Known} (n m : ℕ) → Fits known n m []
none_fits n m = record { sheet = sheet_none; places = omega arith; room = omega arith }

module _ {known : Known} (v : Verdict) (fit : Fit known v) (n m : ℕ) where
  pub fits_last : (xs : List Action) (a : Action) → Fits known n m xs → (rule_behind v n m xs a).code ≡ 0 → Fits known n m (xs ++ a ∷ [])
  fits_last xs a f z =
      let ok = accepted_if v (records_of xs) (n / 401) (m - length (entries_of xs)) a z in
      let recs = sym (records_last [] xs a) in
      let long = ap length (entries_last xs a) ∙ length-append (entries_of xs) (entry_of a) in
      record {
        sheet = subst (Sheet known) recs (sheet_step v fit (records_of xs) (n / 401) a f.sheet ok.rule);
        places = subst (λ (r : List (List ℕ)). length r * 401 ≤ n) recs (fits_step v n (records_of xs) a f.places ok.rule);
        room = omega (arith, long, entry_long a ok.size, ok.fits, f.room);
      }

  fits_behind : (before xs : List Action) → Fits known n m before → in_turn_behind v n m before xs ≡ true → Fits known n m (before ++ xs)
  unfolding in_turn_behind
  fits_behind before [] f t = subst (Fits known n m) (sym (append-nil before)) f
  fits_behind before (a ∷ xs) f t =
      let p = (and-eq-true_iff (eqb (rule_behind v n m before a).code 0) (in_turn_behind v n m (before ++ a ∷ []) xs)).0 t in
      subst (Fits known n m) (append_assoc before (a ∷ []) xs)
      (fits_behind (before ++ a ∷ []) xs (fits_last before a f (eqb-true _ 0 p.0)) p.1)

  pub turns_fit : (xs : List Action) → in_turn v n m xs ≡ true → Fits known n m xs
  turns_fit xs t = fits_behind [] xs (none_fits n m) t

-- ---- acceptable in its turn, one action more and one less
module _ (v : Verdict) (n m : ℕ) where
  turns_last_behind : (before xs : List Action) (a : Action) → in_turn_behind v n m before xs ≡ true → (rule_behind v n m (before ++ xs) a).code ≡ 0 → in_turn_behind v n m before (xs ++ a ∷ []) ≡ true
  unfolding in_turn_behind
  turns_last_behind before [] a t z = rw (ap (λ (ys : List Action). (rule_behind v n m ys a).code) (sym (append-nil before)) ∙ z)
  turns_last_behind before (x ∷ xs) a t z =
      let p = (and-eq-true_iff (eqb (rule_behind v n m before x).code 0) (in_turn_behind v n m (before ++ x ∷ []) xs)).0 t in
      rw p.0 (turns_last_behind (before ++ x ∷ []) xs a p.1 (ap (λ (ys : List Action). (rule_behind v n m ys a).code) (append_assoc before (x ∷ []) xs) ∙ z))

  pub turns_last : (xs : List Action) (a : Action) → in_turn v n m xs ≡ true → (rule_behind v n m xs a).code ≡ 0 → in_turn v n m (xs ++ a ∷ []) ≡ true
  turns_last xs a t z = turns_last_behind [] xs a t z

  pub turns_front_behind : (before xs : List Action) → in_turn_behind v n m before xs ≡ true → in_turn_behind v n m before (without_latest xs) ≡ true
  unfolding in_turn_behind
  turns_front_behind before [] t = refl
  turns_front_behind before (a ∷ []) t = refl
  turns_front_behind before (a ∷ b ∷ xs) t =
      let p = (and-eq-true_iff (eqb (rule_behind v n m before a).code 0) (in_turn_behind v n m (before ++ a ∷ []) (b ∷ xs))).0 t in
      rw p.0 (turns_front_behind (before ++ a ∷ []) (b ∷ xs) p.1)

  pub turns_next : (s : State) (call : Call) → in_turn v n m s.actions ≡ true → (rules v n m s call).code ≡ 0 → in_turn v n m (next s call).actions ≡ true
  unfolding rules in_turn_behind
  turns_next s Open t z = refl
  turns_next s (Add rec) t z = turns_last s.actions (Addition rec) t z
  turns_next s (Amend rec) t z = turns_last s.actions (Amendment rec) t z
  turns_next s (Cancel id) t z = turns_last s.actions (Cancellation id) t z
  turns_next s Undo t z = turns_front_behind [] s.actions t

-- ---- what a list makes has the lengths of its buffers
module _ {known : Known} (n m : ℕ) (xs : List Action) (f : Fits known n m xs) where
  pub lines_long : length (lines_of (records_of xs)) ≡ length (records_of xs) * 401
  lines_long = all_lines_long (records_of xs) (λ i h. (f.sheet.each i h).long)

  pub file_long : length (zero_filled n (lines_of (records_of xs))) ≡ n
  file_long = filled_long n (lines_of (records_of xs)) (omega (arith, lines_long, f.places))

  pub journal_long : length (zero_filled m (entries_of xs)) ≡ m
  journal_long = filled_long m (entries_of xs) f.room

  pub made_file_long : file_length (made n m (state xs)) ≡ n
  unfolding made
  made_file_long = file_long

  pub made_journal_long : journal_length (made n m (state xs)) ≡ m
  unfolding made
  made_journal_long = journal_long

-- ---- the list stands in what it makes
module _ {known : Known} (v : Verdict) (fit : Fit known v) (n m : ℕ) (good : right_lengths n m ≡ true) (s : State) (t : in_turn v n m s.actions ≡ true) where
  pub made_stands : Stands v (made n m s) s
  made_stands =
      let f = turns_fit v fit n m s.actions t in
      let file = made_file_long n m s.actions f in
      let journal = made_journal_long n m s.actions f in
      record {
        lengths = rw (file, journal) good;
        turns = rw (file, journal) t;
        is = λ i. made (sym file i) (sym journal i) s;
      }

-- ---- one call on a batch in which a state stands
module _ (v : Verdict) (b : Batch) (s : State) (st : Stands v b s) where
  abbrev n : ℕ
  n = file_length b

  abbrev m : ℕ
  m = journal_length b

  pub answered_by_rules : (call : Call) → answer_to v b call ≡ rules v n m s call
  unfolding answer_to
  answered_by_rules call = rw (st.lengths, (stands_exactly v b s).1 st)

  pub accepted_leaves : (call : Call) → (rules v n m s call).code ≡ 0 → after v b call ≡ made n m (next s call)
  unfolding after
  accepted_leaves call z = rw (answered_by_rules call, eq-eqb (rules v n m s call).code 0 z, (stands_exactly v b s).1 st)

  -- with the lengths of its buffers, and the next state standing
  pub accepted_stands : {known : Known} → Fit known v → (call : Call) → (rules v n m s call).code ≡ 0 → Stands v (after v b call) (next s call)
  accepted_stands fit call z =
      subst (λ (x : Batch). Stands v x (next s call)) (sym (accepted_leaves call z))
      (made_stands v fit n m st.lengths (next s call) (turns_next v n m s call st.turns z))

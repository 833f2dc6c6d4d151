-- A call writes, in the file, only the 401 bytes of one place: an addition, an amendment, a cancellation, and an undo of them. Under any verdict that is fit.
-- Assumes nothing.
use Prim.Native.Nat.{ℕ, suc, ◌+◌, ◌-◌, ◌*◌, ◌/◌, ◌≤◌, ◌<◌}
use mathlib.Core.Path.{◌≡◌, refl, sym, ap, ◌∙◌, subst}
use mathlib.Core.Bool.{Bool, true, false, ◌||◌, and-eq-true_iff}
use mathlib.Core.List.{List, [], ◌∷◌, ◌++◌, map, append_assoc, append-nil}
use native.Mathlib.Omega.{arith}
use borrow.Author.Tests.{eqb-true}
use lib.Dec.{eqb}
use lib.ListN.{length, get_or, take, drop, set, length-append, length-set}
use lib.Seq.{take_at, drop_at, take-append_seam, length-take-le}
use Rattle.psc.specs.Table.{Known}
use Rattle.text.specs.declared.Answer.{Answer}
use Rattle.text.specs.Lists.{overlay}
use Rattle.text.proofs.Booleans.{clash}
use Rattle.text.proofs.Lists.{same_exactly}
use Rattle.record.specs.Readings.{cancelled_rec}
use Rattle.record.proofs.Status.{cancelled_rec_long}
use Rattle.posting.specs.File.{line_of}
use Rattle.posting.specs.Records.{lines_of}
use Rattle.posting.proofs.PrintedLines.{all_lines_long, lines_last, line_replaced, id_there}
use Rattle.batch.specs.Actions.{Action, Addition, Amendment, Cancellation, entries_of}
use Rattle.batch.specs.Records.{id_of, has_id, replaced_by, cancelled_for, records_after, records_of, some}
use Rattle.batch.specs.Rules.{Verdict, Fit, action_rule, rule_behind, in_turn_behind, in_turn}
use Rattle.batch.specs.Batch.{Batch, Call, Open, Add, Amend, Cancel, Undo, state, zeros, zero_filled, made, undo_rule, rules, without_latest, file_length, journal_length, answer_to, after}
use Rattle.batch.specs.History.{call_of, WritesOnePlace, AmendsOnePlace}
use Rattle.batch.proofs.Rows.{length_last, changed, map_one}
use Rattle.batch.proofs.ZeroFilled.{filled_more}
use Rattle.batch.proofs.Sheets.{Sheet, adds, amends, cancels}
use Rattle.batch.proofs.Made.{records_last, accepted_if, Fits, fits_last, turns_fit, file_long, accepted_leaves}
use Rattle.batch.proofs.CallsMet.{undo_is_none, accepted_by}
use Rattle.batch.proofs.History.{call_next, call_rules, no_opening}

-- ---- a part of a list changed
module _ (s p : List ℕ) (a : ℕ) (h : a ≤ length s) where
  front_long : length (take a s) ≡ a
  front_long = length-take-le a s h

  front_stays : take a (overlay s a p) ≡ take a s
  front_stays = take_at (take a s) (p ++ drop (a + length p) s) a front_long

  middle_there : take (length p) (drop a (overlay s a p)) ≡ p
  middle_there = ap (take (length p)) (drop_at (take a s) (p ++ drop (a + length p) s) a front_long) ∙ take-append_seam p (drop (a + length p) s)

  rest_stays : drop (a + length p) (overlay s a p) ≡ drop (a + length p) s
  rest_stays =
      let whole : overlay s a p ≡ (take a s ++ p) ++ drop (a + length p) s = sym (append_assoc (take a s) p (drop (a + length p) s)) in
      ap (drop (a + length p)) whole ∙ drop_at (take a s ++ p) (drop (a + length p) s) (a + length p) (length-append (take a s) p ∙ ap (λ (k : ℕ). k + length p) front_long)

-- ---- the first that passes a test
record FirstPasses (test : List ℕ → Bool) (recs : List (List ℕ)) : Type 0 where
  place : ℕ
  within : place < length recs
  its : test (get_or recs place []) ≡ true

first_passes : (test : List ℕ → Bool) (recs : List (List ℕ)) → some test recs ≡ true → FirstPasses test recs
unfolding some
first_passes test [] p = absurd (clash p refl)
first_passes test (x ∷ recs) p = go (test x) refl (first_passes test recs) p
  where
    go : (t : Bool) → test x ≡ t → (some test recs ≡ true → FirstPasses test recs) → (t || some test recs) ≡ true → FirstPasses test (x ∷ recs)
    go true e further q = record { place = 0; within = omega arith; its = e }
    go false e further q = let f = further q in record { place = suc f.place; within = omega (arith, f.within); its = f.its }

-- ---- what an accepted action writes: one line over what stood in its place
record Writes (n : ℕ) (recs others : List (List ℕ)) : Type 0 where
  place : ℕ
  line : List ℕ
  long : length line ≡ 399
  fits : place * 401 + 401 ≤ n
  is : zero_filled n (lines_of others) ≡ overlay (zero_filled n (lines_of recs)) (place * 401) (line_of line)

sheet_long : {known : Known} (recs : List (List ℕ)) → Sheet known recs → length (lines_of recs) ≡ length recs * 401
sheet_long recs s = all_lines_long recs (λ i h. (s.each i h).long)

module _ {known : Known} (n : ℕ) (recs : List (List ℕ)) (s : Sheet known recs) (fits : length recs * 401 ≤ n) where
  abbrev behind : List ℕ
  behind = zeros (n - length (lines_of recs))

  -- a record more
  added : (rec : List ℕ) → length rec ≡ 399 → length (recs ++ rec ∷ []) * 401 ≤ n → Writes n recs (recs ++ rec ∷ [])
  added rec long more = record {
    place = length recs;
    line = rec;
    long = long;
    fits = omega (arith, length_last recs rec);
    is = ap (zero_filled n) (lines_last recs rec)
        ∙ sym (filled_more n (lines_of recs) (line_of rec))
        ∙ ap (λ (k : ℕ). overlay (zero_filled n (lines_of recs)) k (line_of rec)) (sheet_long recs s);
  }

  -- the one with this identifier changed
  module _ (id : List ℕ) (f : FirstPasses (has_id id) recs) where
    changed_there : (new : List ℕ → List ℕ) → map (changed (has_id id) new) recs ≡ set recs f.place (new (get_or recs f.place []))
    changed_there new =
        map_one (has_id id) new recs f.place [] f.within f.its
        (λ i l q. s.apart i f.place l f.within ((same_exactly _ _).0 q ∙ sym ((same_exactly _ _).0 f.its)))

    replaced : (rec : List ℕ) (others : List (List ℕ)) → length rec ≡ 399 → Sheet known others → others ≡ set recs f.place rec → Writes n recs others
    replaced rec others long o e =
        let many : length others ≡ length recs = ap length e ∙ length-set recs f.place rec in
        let z : n - length (lines_of recs) ≡ n - length (lines_of others) = omega (arith, sheet_long recs s, sheet_long others o) in
        record {
          place = f.place;
          line = rec;
          long = long;
          fits = omega (arith, f.within);
          is = ap (λ (k : ℕ). lines_of others ++ zeros k) (sym z)
              ∙ ap (λ (l : List (List ℕ)). lines_of l ++ behind) e
              ∙ sym (line_replaced recs behind f.place (λ i h. (s.each i h).long) f.within rec long);
        }

-- ---- an action that is acceptable behind others
module _ {known : Known} (v : Verdict) (fit : Fit known v) (n m : ℕ) (xs : List Action) (t : in_turn v n m xs ≡ true) where
  abbrev recs : List (List ℕ)
  recs = records_of xs

  abbrev held_fits : Fits known n m xs
  held_fits = turns_fit v fit n m xs t

  action_writes : (a : Action) → (action_rule v recs (n / 401) a).code ≡ 0 → Sheet known (records_after recs a) → length (records_after recs a) * 401 ≤ n → Writes n recs (records_after recs a)
  action_writes (Addition rec) z o more = added n recs held_fits.sheet held_fits.places rec (fit.long rec (adds v recs (n / 401) rec z).passes) more
  action_writes (Amendment rec) z o more =
      let p = amends v recs (n / 401) rec z in
      let f = first_passes (has_id (id_of rec)) recs p.1 in
      replaced n recs held_fits.sheet held_fits.places (id_of rec) f rec (map (replaced_by rec) recs) (fit.long rec p.0) o
      (changed_there n recs held_fits.sheet held_fits.places (id_of rec) f (λ r. rec))
  action_writes (Cancellation id) z o more =
      let p = cancels v recs (n / 401) id z in
      let f = first_passes (has_id id) recs p.0 in
      let old = get_or recs f.place [] in
      replaced n recs held_fits.sheet held_fits.places id f (cancelled_rec old) (map (cancelled_for id) recs) (cancelled_rec_long old ∙ (held_fits.sheet.each f.place f.within).long) o
      (changed_there n recs held_fits.sheet held_fits.places id f cancelled_rec)

  module _ (a : Action) (z : (rule_behind v n m xs a).code ≡ 0) where
    abbrev next_fits : Fits known n m (xs ++ a ∷ [])
    next_fits = fits_last v fit n m xs a held_fits z

    writes : Writes n recs (records_of (xs ++ a ∷ []))
    writes =
        let e = records_last [] xs a in
        subst (Writes n recs) (sym e)
        (action_writes a (accepted_if v recs (n / 401) (m - length (entries_of xs)) a z).rule (subst (Sheet known) e next_fits.sheet) (subst (λ (l : List (List ℕ)). length l * 401 ≤ n) e next_fits.places))

-- ---- the file before and the file after
module _ {known : Known} (n m : ℕ) (xs : List Action) (f : Fits known n m xs) (others : List (List ℕ)) (g : length (zero_filled n (lines_of others)) ≡ n) (w : Writes n (records_of xs) others) where
  abbrev file : List ℕ
  file = zero_filled n (lines_of (records_of xs))

  line_long : length (line_of w.line) ≡ 401
  line_long = omega (arith, length-append w.line (13 ∷ 10 ∷ []), w.long)

  inside : w.place * 401 ≤ length file
  inside = omega (arith, w.fits, file_long n m xs f)

  front_same : take (w.place * 401) (zero_filled n (lines_of others)) ≡ take (w.place * 401) file
  front_same = ap (take (w.place * 401)) w.is ∙ front_stays file (line_of w.line) (w.place * 401) inside

  line_there : take 401 (drop (w.place * 401) (zero_filled n (lines_of others))) ≡ line_of w.line
  line_there =
      ap (λ (l : List ℕ). take 401 (drop (w.place * 401) l)) w.is
      ∙ ap (λ (k : ℕ). take k (drop (w.place * 401) (overlay file (w.place * 401) (line_of w.line)))) (sym line_long)
      ∙ middle_there file (line_of w.line) (w.place * 401) inside

  rest_same : drop (w.place * 401 + 401) (zero_filled n (lines_of others)) ≡ drop (w.place * 401 + 401) file
  rest_same =
      ap (drop (w.place * 401 + 401)) w.is
      ∙ ap (λ (k : ℕ). drop (w.place * 401 + k) (overlay file (w.place * 401) (line_of w.line))) (sym line_long)
      ∙ rest_stays file (line_of w.line) (w.place * 401) inside
      ∙ ap (λ (k : ℕ). drop (w.place * 401 + k) file) line_long

  forth : WritesOnePlace (made n m (state xs)) (zero_filled n (lines_of others))
  unfolding made
  forth = record {
    place = w.place;
    within = omega (arith, w.fits, file_long n m xs f);
    long = g ∙ sym (file_long n m xs f);
    before = front_same;
    behind = rest_same;
  }

one_more_lem : {known : Known} (v : Verdict) → Fit known v → (n m : ℕ) (xs : List Action) → in_turn v n m xs ≡ true → (a : Action) → (rule_behind v n m xs a).code ≡ 0 → WritesOnePlace (made n m (state xs)) (made n m (state (xs ++ a ∷ []))).file
unfolding made
one_more_lem v fit n m xs t a z =
    forth n m xs (turns_fit v fit n m xs t) (records_of (xs ++ a ∷ [])) (file_long n m (xs ++ a ∷ []) (next_fits v fit n m xs t a z)) (writes v fit n m xs t a z)

-- an amendment, whose place it is and what it writes there
one_amended : {known : Known} (v : Verdict) → Fit known v → (n m : ℕ) (xs : List Action) → in_turn v n m xs ≡ true → (rec : List ℕ) → (rule_behind v n m xs (Amendment rec)).code ≡ 0
    → AmendsOnePlace (made n m (state xs)) rec (made n m (state (xs ++ Amendment rec ∷ []))).file
unfolding made forth replaced
one_amended {known} v fit n m xs t rec z =
    let recs = records_of xs in
    let fits = turns_fit v fit n m xs t in
    let p = amends v recs (n / 401) rec (accepted_if v recs (n / 401) (m - length (entries_of xs)) (Amendment rec) z).rule in
    let f = first_passes (has_id (id_of rec)) recs p.1 in
    let e = records_last [] xs (Amendment rec) in
    let g = fits_last v fit n m xs (Amendment rec) fits z in
    let others = map (replaced_by rec) recs in
    let long : length (zero_filled n (lines_of others)) ≡ n = ap (λ (l : List (List ℕ)). length (zero_filled n (lines_of l))) (sym e) ∙ file_long n m (xs ++ Amendment rec ∷ []) g in
    let w = replaced n recs fits.sheet fits.places (id_of rec) f rec others (fit.long rec p.0) (subst (Sheet known) e g.sheet) (changed_there n recs fits.sheet fits.places (id_of rec) f (λ r. rec)) in
    subst (λ (l : List (List ℕ)). AmendsOnePlace (made n m (state xs)) rec (zero_filled n (lines_of l))) (sym e)
    record {
      writes = forth n m xs fits others long w;
      held = f.within;
      own = id_there recs (zeros (n - length (lines_of recs))) f.place (λ i h. (fits.sheet.each i h).long) f.within ∙ (same_exactly _ _).0 f.its;
      line = line_there n m xs fits others long w;
    }

turned_round : (b e : Batch) → WritesOnePlace b e.file → WritesOnePlace e b.file
turned_round b e w = record { place = w.place; within = omega (arith, w.within, w.long); long = sym w.long; before = sym w.before; behind = sym w.behind }

-- ---- an undo: the latest action taken off again
record LatestOf (v : Verdict) (n m : ℕ) (xs : List Action) : Type 0 where
  action : Action
  is : xs ≡ without_latest xs ++ action ∷ []
  turns : in_turn v n m (without_latest xs) ≡ true
  rule : (rule_behind v n m (without_latest xs) action).code ≡ 0

-- behind those before
record LatestBehind (v : Verdict) (n m : ℕ) (before : List Action) (x : Action) (xs : List Action) : Type 0 where
  action : Action
  is : x ∷ xs ≡ without_latest (x ∷ xs) ++ action ∷ []
  turns : in_turn_behind v n m before (without_latest (x ∷ xs)) ≡ true
  rule : (rule_behind v n m (before ++ without_latest (x ∷ xs)) action).code ≡ 0

latest_behind : (v : Verdict) (n m : ℕ) (before : List Action) (x : Action) (xs : List Action) → in_turn_behind v n m before (x ∷ xs) ≡ true → LatestBehind v n m before x xs
unfolding in_turn_behind
latest_behind v n m before x [] t =
    let p = (and-eq-true_iff (eqb (rule_behind v n m before x).code 0) true).0 t in
    record { action = x; is = refl; turns = refl; rule = ap (λ (ys : List Action). (rule_behind v n m ys x).code) (append-nil before) ∙ eqb-true _ 0 p.0 }
latest_behind v n m before x (y ∷ xs) t =
    let p = (and-eq-true_iff (eqb (rule_behind v n m before x).code 0) (in_turn_behind v n m (before ++ x ∷ []) (y ∷ xs))).0 t in
    let l = latest_behind v n m (before ++ x ∷ []) y xs p.1 in
    record {
      action = l.action;
      is = ap (λ (ys : List Action). x ∷ ys) l.is;
      turns = rw p.0 l.turns;
      rule = ap (λ (ys : List Action). (rule_behind v n m ys l.action).code) (sym (append_assoc before (x ∷ []) (without_latest (y ∷ xs)))) ∙ l.rule;
    }

latest_of : (v : Verdict) (n m : ℕ) (xs : List Action) → in_turn v n m xs ≡ true → (undo_rule xs).code ≡ 0 → LatestOf v n m xs
latest_of v n m [] t z = absurd (omega (arith, z))
latest_of v n m (x ∷ xs) t z = let l = latest_behind v n m [] x xs t in record { action = l.action; is = l.is; turns = l.turns; rule = l.rule }

-- ---- any call but opening
module _ {known : Known} (v : Verdict) (fit : Fit known v) (b : Batch) where
  abbrev n : ℕ
  n = file_length b

  abbrev m : ℕ
  m = journal_length b

  action_writes_one : (a : Action) → (answer_to v b (call_of a)).code ≡ 0 → WritesOnePlace b (after v b (call_of a)).file
  action_writes_one a z =
      let p = accepted_by v b (call_of a) (no_opening a) z in
      let s = p.standing in
      let t = p.stands.turns in
      let rule = ap (λ (r : Answer). r.code) (sym (call_rules v n m s a)) ∙ p.rule in
      let left = accepted_leaves v b s p.stands (call_of a) p.rule ∙ ap (made n m) (call_next s a) in
      subst (λ (x : Batch). WritesOnePlace x (after v b (call_of a)).file) (sym p.stands.is)
      (subst (λ (x : Batch). WritesOnePlace (made n m s) x.file) (sym left)
      (one_more_lem v fit n m s.actions t a rule))

  undo_writes_one : (answer_to v b Undo).code ≡ 0 → WritesOnePlace b (after v b Undo).file
  unfolding rules
  undo_writes_one z =
      let p = accepted_by v b Undo undo_is_none z in
      let xs = p.standing.actions in
      let l = latest_of v n m xs p.stands.turns p.rule in
      let front = without_latest xs in
      let is : b ≡ made n m (state (front ++ l.action ∷ [])) = p.stands.is ∙ ap (λ (ys : List Action). made n m (state ys)) l.is in
      subst (λ (x : Batch). WritesOnePlace b x.file) (sym (accepted_leaves v b p.standing p.stands Undo p.rule))
      (turned_round (made n m (state front)) b
      (subst (λ (x : Batch). WritesOnePlace (made n m (state front)) x.file) (sym is)
      (one_more_lem v fit n m front l.turns l.action l.rule)))

  pub writes_one_place : (call : Call) → (call ≡ Open → ⊥) → (answer_to v b call).code ≡ 0 → WritesOnePlace b (after v b call).file
  writes_one_place Open other z = absurd (other refl)
  writes_one_place (Add rec) other z = action_writes_one (Addition rec) z
  writes_one_place (Amend rec) other z = action_writes_one (Amendment rec) z
  writes_one_place (Cancel id) other z = action_writes_one (Cancellation id) z
  writes_one_place Undo other z = undo_writes_one z

  pub amends_one_place : (rec : List ℕ) → (answer_to v b (Amend rec)).code ≡ 0 → AmendsOnePlace b rec (after v b (Amend rec)).file
  unfolding rules
  amends_one_place rec z =
      let p = accepted_by v b (Amend rec) (no_opening (Amendment rec)) z in
      let s = p.standing in
      subst (λ (x : Batch). AmendsOnePlace x rec (after v b (Amend rec)).file) (sym p.stands.is)
      (subst (λ (x : Batch). AmendsOnePlace (made n m s) rec x.file) (sym (accepted_leaves v b s p.stands (Amend rec) p.rule))
      (one_amended v fit n m s.actions p.stands.turns rec p.rule))

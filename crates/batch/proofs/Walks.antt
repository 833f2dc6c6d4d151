-- The walk through the journal: a step that an action takes leads on, and where none can be taken nothing stands.
-- Assumes nothing.
use Prim.Native.Nat.{ℕ, zero, suc, ◌+◌, ◌-◌, ◌*◌, ◌/◌, ◌%◌, ◌≤◌, ◌<◌}
use mathlib.Core.Path.{◌≡◌, refl, sym, ap, ◌∙◌, subst}
use mathlib.Core.Bool.{Bool, true, false, cond, and-eq-true_iff}
use mathlib.Core.List.{List, [], ◌∷◌, ◌++◌, map, append_assoc, append-nil}
use native.Mathlib.Nat.{add-zero}
use native.Mathlib.Omega.{arith}
use borrow.Author.Tests.{eq-eqb, ne_eqb, eqb-true, eqb-false, lt-ltb, ltb-true, ltb-false, le-leb}
use lib.Dec.{eqb, ltb}
use lib.ListN.{length, get_or, set, take, drop, length-append, length-drop, length-set, take-append-drop}
use lib.Seq.{get_or-set_same, get_or-set_other, get_or-append_seam, take-append_seam, take-add, length-take-le}
use Rattle.psc.specs.Table.{Known}
use Rattle.text.specs.Answers.{answer, accepted, or_else}
use Rattle.text.specs.Lists.{same_bytes}
use Rattle.text.proofs.Booleans.{clash}
use Rattle.text.proofs.Lists.{same_exactly}
use Rattle.ident.specs.Identifier.{right_id}
use Rattle.ident.specs.declared.consignor.Consignor.{Consignor}
use Rattle.ident.specs.Consignor.{consignor_in, another, first_named}
use Rattle.index.specs.Index.{key_at, seek}
use Rattle.record.specs.Readings.{cancelled_rec}
use Rattle.record.specs.Consignors.{consignor_of, consignors_of, strays, first_of}
use Rattle.record.proofs.Consignors.{first_suffices, first_more}
use Rattle.record.proofs.Status.{cancelled_rec_others, cancelled_rec_status}
use Rattle.batch.specs.declared.Counts.{Counts}
use Rattle.std.specs.Prelude.{Option, Some, None}
use Rattle.std.proofs.lemmas.Option.{none-some, same_Some}
use mathlib.Core.Option.{some-injective}
use Rattle.batch.specs.Actions.{Action, Addition, Amendment, Cancellation, kinds, kind_of, number_of, body_of, sized, all_sized, entry_length, entry_of, entries_of, Entry, first_entry}
use Rattle.batch.specs.Records.{id_of, has_id, is_cancelled_rec, replaced_by, cancelled_for, records_after, records_from, records_of}
use Rattle.batch.specs.Rules.{Verdict, posted, is_present, is_cancelled_there, live_rule, action_rule, entry_rule, rule_behind, in_turn_behind, in_turn}
use Rattle.posting.specs.Records.{lines_of}
use Rattle.batch.specs.History.{is_addition}
use Rattle.batch.specs.Batch.{Batch, batch_of, State, zeros, zero_filled, made, without_latest, Stands}
use Rattle.posting.proofs.PrintedLines.{id_there}
use Rattle.batch.proofs.Standing.{turns_sized}
use Rattle.batch.specs.Test.{odd, record_from, marked_record, live_from, live_in, Meets, marks_after, held_after, seen_after, Taken, EntryAt, Walked}
use Rattle.batch.proofs.Rows.{length_last, PlaceIn, earlier, last, place_in, length_map, map_nth, none_at, none_passes}
use Rattle.batch.proofs.Sheets.{adds, amends, cancels}
use Rattle.batch.proofs.PlaceLaws.{cancelled_there, is_present_lem, changed_there}
use Rattle.batch.proofs.Reading.{entry_first, entry_some}
use Rattle.batch.proofs.Verdicts.{posted_fit}
use Rattle.batch.proofs.Made.{records_last, entries_last, entry_long, Accepted, accepted_if, Fits, turns_fit, turns_last}
use Rattle.batch.specs.Entries.{body_at}
use Rattle.batch.proofs.StepWays.{body_read}

-- ---- a key that is sought among the first n records of the file
data Sought (file key : List ℕ) (n : ℕ) : Type 0 where
  nowhere : seek file 0 key n ≡ 0 → ((i : ℕ) → i < n → key_at file 0 i ≡ key → ⊥) → Sought file key n
  there : (k : ℕ) → seek file 0 key n ≡ suc k → k < n → key_at file 0 k ≡ key → Sought file key n

sought : (file key : List ℕ) (n : ℕ) → Sought file key n
unfolding seek
sought file key zero = nowhere refl (λ i h. absurd (omega arith))
sought file key (suc n) = go (same_bytes (key_at file 0 n) key) refl (sought file key n)
  where
    go : (t : Bool) → same_bytes (key_at file 0 n) key ≡ t → Sought file key n → Sought file key (suc n)
    go true e s = there n (rw e) (omega arith) ((same_exactly _ _).0 e)
    go false e (there k z h q) = there k (rw e z) (omega arith) q
    go false e (nowhere z none) = nowhere (rw e z) (λ i h q. on (eqb i n) i refl h q)
      where
        on : (b : Bool) → (i : ℕ) → eqb i n ≡ b → i < suc n → key_at file 0 i ≡ key → ⊥
        on true i d h q = clash ((same_exactly _ _).1 (ap (key_at file 0) (sym (eqb-true i n d)) ∙ q)) e
        on false i d h q = let other = eqb-false i n d in none i (omega (arith, other)) q

-- ---- the identifier of a place stays
ids_after : (recs : List (List ℕ)) (a : Action) (i : ℕ) → i < length recs → id_of (get_or (records_after recs a) i []) ≡ id_of (get_or recs i [])
ids_after recs (Addition rec) i h = go (place_in recs rec [] i (omega (arith, length_last recs rec)))
  where
    go : PlaceIn recs rec [] i → id_of (get_or (recs ++ rec ∷ []) i []) ≡ id_of (get_or recs i [])
    go (earlier g e) = ap id_of e
    go (last g e) = absurd (omega (arith, g, h))
ids_after recs (Amendment rec) i h = rw (map_nth (replaced_by rec) recs i [] [] h) (go (has_id (id_of rec) (get_or recs i [])) refl)
  where
    go : (t : Bool) → has_id (id_of rec) (get_or recs i []) ≡ t → id_of (cond t rec (get_or recs i [])) ≡ id_of (get_or recs i [])
    go true e = sym ((same_exactly _ _).0 e)
    go false e = refl
ids_after recs (Cancellation id) i h = rw (map_nth (cancelled_for id) recs i [] [] h) (go (has_id id (get_or recs i [])))
  where
    go : (t : Bool) → id_of (cond t (cancelled_rec (get_or recs i [])) (get_or recs i [])) ≡ id_of (get_or recs i [])
    go true = cancelled_rec_others (get_or recs i []) 1 (λ e. omega (arith, e))
    go false = refl

length_after : (recs : List (List ℕ)) (a : Action) → length (records_after recs a) ≡ held_after (length recs) a
length_after recs (Addition rec) = length_last recs rec
length_after recs (Amendment rec) = length_map (replaced_by rec) recs
length_after recs (Cancellation id) = length_map (cancelled_for id) recs

-- and so its consignor: an amendment and a cancellation change none, and the first that is named changes by an addition alone
consignors_kept : (xs ys : List (List ℕ)) → length xs ≡ length ys → ((i : ℕ) → i < length ys → id_of (get_or xs i []) ≡ id_of (get_or ys i [])) → consignors_of xs ≡ consignors_of ys
consignors_kept [] [] e same = refl
consignors_kept [] (y ∷ ys) e same = absurd (omega (arith, e))
consignors_kept (x ∷ xs) [] e same = absurd (omega (arith, e))
consignors_kept (x ∷ xs) (y ∷ ys) e same =
    (λ i. consignor_in (same 0 (omega arith) i) ∷ consignors_kept xs ys (omega (arith, e)) (λ k h. same (suc k) (omega (arith, h))) i)

pub consignors_stay : (recs : List (List ℕ)) (a : Action) → is_addition a ≡ false → consignors_of (records_after recs a) ≡ consignors_of recs
consignors_stay recs (Addition rec) n = absurd (clash refl n)
consignors_stay recs (Amendment rec) n = consignors_kept (map (replaced_by rec) recs) recs (length_map (replaced_by rec) recs) (λ i h. ids_after recs (Amendment rec) i h)
consignors_stay recs (Cancellation id) n = consignors_kept (map (cancelled_for id) recs) recs (length_map (cancelled_for id) recs) (λ i h. ids_after recs (Cancellation id) i h)

first_after : (recs : List (List ℕ)) (a : Action) → first_of (records_after recs a) ≡ seen_after (first_of recs) a
first_after recs (Addition rec) = first_more recs rec
first_after recs (Amendment rec) = ap first_named (consignors_stay recs (Amendment rec) refl)
first_after recs (Cancellation id) = ap first_named (consignors_stay recs (Cancellation id) refl)

not_fewer : (held : ℕ) (a : Action) → held ≤ held_after held a
not_fewer held (Addition rec) = omega arith
not_fewer held (Amendment rec) = omega arith
not_fewer held (Cancellation id) = omega arith

not_shorter : (recs : List (List ℕ)) (xs : List Action) → length recs ≤ length (records_from recs xs)
not_shorter recs [] = omega arith
not_shorter recs (a ∷ xs) = omega (arith, not_shorter (records_after recs a) xs, length_after recs a, not_fewer (length recs) a)

ids_from : (recs : List (List ℕ)) (xs : List Action) (i : ℕ) → i < length recs → id_of (get_or (records_from recs xs) i []) ≡ id_of (get_or recs i [])
ids_from recs [] i h = refl
ids_from recs (a ∷ xs) i h = ids_from (records_after recs a) xs i (omega (arith, h, length_after recs a, not_fewer (length recs) a)) ∙ ids_after recs a i h

-- ---- marks
even_mark : (u : ℕ) → odd (u * 2) ≡ false
even_mark u = ne_eqb (u * 2 % 2) 1 (λ e. omega (arith, e))

half_mark : (u : ℕ) → u * 2 / 2 ≡ u
half_mark u = omega arith

fresh_record : (journal : List ℕ) (u : ℕ) → marked_record journal (u * 2) ≡ record_from journal u
fresh_record journal u = rw (even_mark u, half_mark u)

odd_mark : (k : ℕ) → odd k ≡ false → odd (k + 1) ≡ true
odd_mark k e = eq-eqb ((k + 1) % 2) 1 (omega (arith, eqb-false (k % 2) 1 e))

same_half : (k : ℕ) → odd k ≡ false → (k + 1) / 2 ≡ k / 2
same_half k e = omega (arith, eqb-false (k % 2) 1 e)

struck_record : (journal : List ℕ) (k : ℕ) → odd k ≡ false → marked_record journal (k + 1) ≡ cancelled_rec (marked_record journal k)
struck_record journal k e = rw (odd_mark k e, e, same_half k e)

pub is_struck : (rec : List ℕ) → length rec ≡ 399 → is_cancelled_rec (cancelled_rec rec) ≡ true
unfolding same_bytes
is_struck rec long = rw (cancelled_rec_status rec long)

pub not_struck : (known : Known) (rec : List ℕ) → (posted known rec).code ≡ 0 → is_cancelled_rec rec ≡ false
unfolding same_bytes
not_struck known rec z = rw ((posted_fit known).blank rec z)

-- what is kept of place i
record Right (file journal : List ℕ) (recs : List (List ℕ)) (marks : List ℕ) (i : ℕ) : Type 0 where
  named : get_or recs i [] ≡ marked_record journal (get_or marks i 0)
  struck : is_cancelled_rec (get_or recs i []) ≡ odd (get_or marks i 0)
  own : key_at file 0 i ≡ id_of (get_or recs i [])

-- one record, and its mark, set anew
right_set : (file journal : List ℕ) (recs : List (List ℕ)) (marks new : List ℕ) (k mark : ℕ) → k < length recs → k < length marks → new ≡ marked_record journal mark → is_cancelled_rec new ≡ odd mark → id_of new ≡ id_of (get_or recs k [])
    → (i : ℕ) → Right file journal recs marks i → Right file journal (set recs k new) (set marks k mark) i
right_set file journal recs marks new k mark h l en es ei i r = go (eqb i k) refl
  where
    go : (t : Bool) → eqb i k ≡ t → Right file journal (set recs k new) (set marks k mark) i
    go true e =
        let is = eqb-true i k e in
        let rec-here : get_or (set recs k new) i [] ≡ new = ap (λ (j : ℕ). get_or (set recs k new) j []) is ∙ get_or-set_same recs k new [] h in
        let mark-here : get_or (set marks k mark) i 0 ≡ mark = ap (λ (j : ℕ). get_or (set marks k mark) j 0) is ∙ get_or-set_same marks k mark 0 l in
        record {
          named = rec-here ∙ en ∙ ap (marked_record journal) (sym mark-here);
          struck = ap is_cancelled_rec rec-here ∙ es ∙ ap odd (sym mark-here);
          own = r.own ∙ ap (λ (j : ℕ). id_of (get_or recs j [])) is ∙ sym ei ∙ ap id_of (sym rec-here);
        }
    go false e =
        let other = eqb-false i k e in
        let rec-here : get_or (set recs k new) i [] ≡ get_or recs i [] = get_or-set_other recs k i new [] other in
        let mark-here : get_or (set marks k mark) i 0 ≡ get_or marks i 0 = get_or-set_other marks k i mark 0 other in
        record {
          named = rec-here ∙ r.named ∙ ap (marked_record journal) (sym mark-here);
          struck = ap is_cancelled_rec rec-here ∙ r.struck ∙ ap odd (sym mark-here);
          own = r.own ∙ ap id_of (sym rec-here);
        }

-- one record more, with its mark
right_last : (file journal : List ℕ) (recs : List (List ℕ)) (marks new : List ℕ) (mark : ℕ) → length recs < length marks → new ≡ marked_record journal mark → is_cancelled_rec new ≡ odd mark → key_at file 0 (length recs) ≡ id_of new
    → ((i : ℕ) → i < length recs → Right file journal recs marks i) → (i : ℕ) → i < length recs + 1 → Right file journal (recs ++ new ∷ []) (set marks (length recs) mark) i
right_last file journal recs marks new mark l en es ei each i h = go (place_in recs new [] i (omega (arith, h, length_last recs new)))
  where
    go : PlaceIn recs new [] i → Right file journal (recs ++ new ∷ []) (set marks (length recs) mark) i
    go (earlier g e) =
        let r = each i g in
        let mark-here : get_or (set marks (length recs) mark) i 0 ≡ get_or marks i 0 = get_or-set_other marks (length recs) i mark 0 (λ q. omega (arith, q, g)) in
        record {
          named = e ∙ r.named ∙ ap (marked_record journal) (sym mark-here);
          struck = ap is_cancelled_rec e ∙ r.struck ∙ ap odd (sym mark-here);
          own = r.own ∙ ap id_of (sym e);
        }
    go (last g e) =
        let mark-here : get_or (set marks (length recs) mark) i 0 ≡ mark = ap (λ (j : ℕ). get_or (set marks (length recs) mark) j 0) g ∙ get_or-set_same marks (length recs) mark 0 l in
        record {
          named = e ∙ en ∙ ap (marked_record journal) (sym mark-here);
          struck = ap is_cancelled_rec e ∙ es ∙ ap odd (sym mark-here);
          own = ap (key_at file 0) g ∙ ei ∙ ap id_of (sym e);
        }

get_d_past : (l : List ℕ) (i : ℕ) → length l ≤ i → get_or l i 0 ≡ 0
get_d_past [] zero h = refl
get_d_past [] (suc i) h = refl
get_d_past (x ∷ l) zero h = absurd (omega arith)
get_d_past (x ∷ l) (suc i) h = get_d_past l i (omega arith)

pub without_latest_lem : (xs : List Action) (a : Action) → without_latest (xs ++ a ∷ []) ≡ xs
without_latest_lem [] a = refl
without_latest_lem (x ∷ []) a = refl
without_latest_lem (x ∷ y ∷ xs) a = ap (λ (t : List Action). x ∷ t) (without_latest_lem (y ∷ xs) a)

-- ---- the walk so far
module _ {known : Known} (file journal : List ℕ) (held : ℕ) (seen : Option Consignor) (used last : ℕ) (marks table : List ℕ) (w : Walked known file journal held seen used last marks table) where
  abbrev n : ℕ
  n = length file

  abbrev m : ℕ
  m = length journal

  abbrev recs : List (List ℕ)
  recs = records_of w.acts

  fit_so : Fits known n m w.acts
  fit_so = turns_fit (posted known) (posted_fit known) n m w.acts w.turns

  used_is : used ≤ m → length (entries_of w.acts) ≡ used
  used_is h = ap length (sym w.front) ∙ length-take-le used journal h

  id_at_lem : (i : ℕ) → i < held → key_at file 0 i ≡ id_of (get_or recs i [])
  id_at_lem = w.ids

  -- an identifier that no noted record has is not present; one that a record has is
  absent_if : (id : List ℕ) → seek file 0 id held ≡ 0 → is_present recs id ≡ false
  absent_if id z = go (sought file id held)
    where
      go : Sought file id held → is_present recs id ≡ false
      go (there k e h q) = absurd (omega (arith, z, e))
      go (nowhere e none) =
          none_passes (has_id id) recs (λ i h. off i h (has_id id (get_or recs i [])) refl)
        where
          off : (i : ℕ) → i < length recs → (t : Bool) → has_id id (get_or recs i []) ≡ t → t ≡ false
          off i h true q = absurd (none i (omega (arith, h, w.many)) (id_at_lem i (omega (arith, h, w.many)) ∙ (same_exactly _ _).0 q))
          off i h false q = refl

  -- where the record with an identifier stands
  record Here (id : List ℕ) (k : ℕ) : Type 0 where
    within : k < held
    sits : k < length recs
    its : has_id id (get_or recs k []) ≡ true
    found : seek file 0 id held ≡ suc k

  here_if : (id : List ℕ) (k : ℕ) → k < held → key_at file 0 k ≡ id → seek file 0 id held ≡ suc k → Here id k
  here_if id k h q e = record { within = h; sits = omega (arith, h, w.many); its = (same_exactly _ _).1 (sym (id_at_lem k h) ∙ q); found = e }

  live_here : (id : List ℕ) (k : ℕ) → live_in file held marks id ≡ Some k → Here id k × (odd (get_or marks k 0) ≡ false)
  unfolding live_from
  live_here id k l = go (sought file id held)
    where
      go : Sought file id held → Here id k × (odd (get_or marks k 0) ≡ false)
      go (nowhere e none) = absurd (none-some k (sym (ap (live_from marks) e) ∙ l))
      go (there j e h q) = on (odd (get_or marks j 0)) refl (sym (ap (live_from marks) e) ∙ l)
        where
          on : (t : Bool) → odd (get_or marks j 0) ≡ t → cond t None (Some j) ≡ Some k → Here id k × (odd (get_or marks k 0) ≡ false)
          on true d x = absurd (none-some k x)
          on false d x = subst (λ (i : ℕ). Here id i × (odd (get_or marks i 0) ≡ false)) (same_Some j k x) (here_if id j h q e, d)

  -- so an amendment and a cancellation meet a live consignment by the rules
  live_rules : (id : List ℕ) (k : ℕ) → live_in file held marks id ≡ Some k → live_rule recs id ≡ accepted
  live_rules id k l =
      let p = live_here id k l in
      let h = p.0 in
      let struck : is_cancelled_there recs id ≡ false = cancelled_there recs fit_so.sheet id k h.sits h.its ∙ w.struck k h.within ∙ p.1 in
      rw (is_present_lem recs fit_so.sheet id k h.sits h.its, struck)

  -- and the other way round
  rules_live : (id : List ℕ) → is_present recs id ≡ true → is_cancelled_there recs id ≡ false → (k : ℕ) × (live_in file held marks id ≡ Some k)
  unfolding live_from
  rules_live id p c = go (sought file id held)
    where
      go : Sought file id held → (k : ℕ) × (live_in file held marks id ≡ Some k)
      go (nowhere e none) = absurd (clash p (absent_if id e))
      go (there k e h q) =
          let at = here_if id k h q e in
          let even : odd (get_or marks k 0) ≡ false = sym (w.struck k h) ∙ sym (cancelled_there recs fit_so.sheet id k at.sits at.its) ∙ c in
          (k, ap (live_from marks) e ∙ rw even)

  -- ---- what meets the file is acceptable by the rules
  module _ (end : ℕ) (before : used ≤ end) (within : end ≤ m) (a : Action) (e : EntryAt journal end used a) where
    room_so : entry_length (kind_of a) ≤ m - length (entries_of w.acts)
    room_so = omega (arith, e.within, entry_long a e.size, used_is (omega (arith, before, within)))

    -- the first consignor named suffices
    no_other_named : (rec : List ℕ) → another seen (consignor_of rec) ≡ false → strays recs rec ≡ false
    no_other_named rec q = first_suffices recs rec fit_so.sheet.one ∙ ap (λ (c : Option Consignor). another c (consignor_of rec)) (sym w.first) ∙ q

    meets_rule : (b : Action) → Meets known file held seen marks b → (action_rule (posted known) recs (n / 401) b).code ≡ 0
    unfolding action_rule or_else
    meets_rule (Addition rec) p =
        let few : length recs < n / 401 = omega (arith, p.room, w.many) in
        rw (eq-eqb (posted known rec).code 0 p.good, absent_if (id_of rec) p.new, no_other_named rec p.same, lt-ltb (length recs) (n / 401) few)
    meets_rule (Amendment rec) p = rw (eq-eqb (posted known rec).code 0 p.1.good, live_rules (id_of rec) p.0 p.1.there)
    meets_rule (Cancellation id) p = rw (p.1.right, live_rules id p.0 p.1.there)

    pub acceptable : Meets known file held seen marks a → (rule_behind (posted known) n m w.acts a).code ≡ 0
    unfolding entry_rule or_else
    acceptable p = rw (e.size, eq-eqb (action_rule (posted known) recs (n / 401) a).code 0 (meets_rule a p), le-leb (entry_length (kind_of a)) (m - length (entries_of w.acts)) room_so)

    -- ---- and it leads on
    body_so : (b : Action) → EntryAt journal end used b → body_at journal used (number_of b) ≡ body_of b
    body_so b x = body_read journal end used within b x

    right_at : (i : ℕ) → i < held → Right file journal recs marks i
    right_at i h = record { named = w.named i h; struck = w.struck i h; own = w.ids i h }

    mark_there : (k : ℕ) → k < held → k < length marks
    mark_there k h = omega (arith, h, w.marking.marked, w.marking.places)

    rights : (b : Action) → EntryAt journal end used b → (p : Meets known file held seen marks b) → (i : ℕ) → i < held_after held b
        → Right file journal (records_after recs b) (marks_after known file held seen used marks b p) i
    rights (Addition rec) x p i h =
        subst (λ (t : ℕ). Right file journal (recs ++ rec ∷ []) (set marks t (used * 2)) i) w.many
        (right_last file journal recs marks rec (used * 2) (omega (arith, p.room, w.many, w.marking.marked))
        (sym (body_so (Addition rec) x) ∙ sym (fresh_record journal used))
        (not_struck known rec p.good ∙ sym (even_mark used))
        (ap (key_at file 0) w.many ∙ p.own)
        (λ j g. right_at j (omega (arith, g, w.many))) i (omega (arith, h, w.many)))
    rights (Amendment rec) x p i h =
        let at = (live_here (id_of rec) p.0 p.1.there).0 in
        subst (λ (r : List (List ℕ)). Right file journal r (set marks p.0 (used * 2)) i) (sym (changed_there recs fit_so.sheet (id_of rec) p.0 at.sits at.its (λ old. rec)))
        (right_set file journal recs marks rec p.0 (used * 2) at.sits (mark_there p.0 at.within)
        (sym (body_so (Amendment rec) x) ∙ sym (fresh_record journal used))
        (not_struck known rec p.1.good ∙ sym (even_mark used))
        (sym ((same_exactly _ _).0 at.its)) i (right_at i h))
    rights (Cancellation id) x p i h =
        let both = live_here id p.0 p.1.there in
        let at = both.0 in
        let old = get_or recs p.0 [] in
        let mark = get_or marks p.0 0 in
        subst (λ (r : List (List ℕ)). Right file journal r (set marks p.0 (mark + 1)) i) (sym (changed_there recs fit_so.sheet id p.0 at.sits at.its cancelled_rec))
        (right_set file journal recs marks (cancelled_rec old) p.0 (mark + 1) at.sits (mark_there p.0 at.within)
        (ap cancelled_rec (w.named p.0 at.within) ∙ sym (struck_record journal mark both.1))
        (is_struck old (fit_so.sheet.each p.0 at.sits).long ∙ sym (odd_mark mark both.1))
        (cancelled_rec_others old 1 (λ q. omega (arith, q))) i (right_at i h))

    marks_long_lem : (b : Action) (p : Meets known file held seen marks b) → length (marks_after known file held seen used marks b p) ≡ length marks
    marks_long_lem (Addition rec) p = length-set marks held (used * 2)
    marks_long_lem (Amendment rec) p = length-set marks p.0 (used * 2)
    marks_long_lem (Cancellation id) p = length-set marks p.0 (get_or marks p.0 0 + 1)

    set_small : (k mark : ℕ) → mark / 2 ≤ 1048576 → get_or (set marks k mark) k 0 / 2 ≤ 1048576
    set_small k mark h = go (ltb k (length marks)) refl
      where
        go : (t : Bool) → ltb k (length marks) ≡ t → get_or (set marks k mark) k 0 / 2 ≤ 1048576
        go true q = rw (get_or-set_same marks k mark 0 (ltb-true k (length marks) q)) h
        go false q = rw (get_d_past (set marks k mark) k (omega (arith, ltb-false k (length marks) q, length-set marks k mark))) (omega arith)

    small_set : (k mark : ℕ) → mark / 2 ≤ 1048576 → (i : ℕ) → get_or (set marks k mark) i 0 / 2 ≤ 1048576
    small_set k mark h i = go (eqb i k) refl
      where
        go : (t : Bool) → eqb i k ≡ t → get_or (set marks k mark) i 0 / 2 ≤ 1048576
        go true q = subst (λ (j : ℕ). get_or (set marks k mark) j 0 / 2 ≤ 1048576) (sym (eqb-true i k q)) (set_small k mark h)
        go false q = rw (get_or-set_other marks k i mark 0 (eqb-false i k q)) (w.marking.small i)

    small_after : (b : Action) (p : Meets known file held seen marks b) → used ≤ 1048576 → (i : ℕ) → get_or (marks_after known file held seen used marks b p) i 0 / 2 ≤ 1048576
    small_after (Addition rec) p u i = small_set held (used * 2) (omega (arith, u)) i
    small_after (Amendment rec) p u i = small_set p.0 (used * 2) (omega (arith, u)) i
    small_after (Cancellation id) p u i =
        let even = (live_here id p.0 p.1.there).1 in
        small_set p.0 (get_or marks p.0 0 + 1) (subst (λ (h : ℕ). h ≤ 1048576) (sym (same_half (get_or marks p.0 0) even)) (w.marking.small p.0)) i

    pub walk_on : length journal ≤ 1048576 → (seen' : Option Consignor) (marks' table' : List ℕ) → length table' ≡ length table → Taken known file held seen used marks a seen' marks' table'
        → Walked known file journal (held_after held a) seen' (used + length (entry_of a)) used marks' table'
    walk_on bounded seen' marks' table' long t =
        let p = t.meets in
        let after : records_of (w.acts ++ a ∷ []) ≡ records_after recs a = records_last [] w.acts a in
        let right : (i : ℕ) → i < held_after held a → Right file journal (records_of (w.acts ++ a ∷ [])) marks' i =
        λ i h. subst (λ (r : List (List ℕ)). Right file journal r marks' i) (sym after) (subst (λ (ms : List ℕ). Right file journal (records_after recs a) ms i) (sym t.left) (rights a e p i h)) in
        let turns = turns_last (posted known) n m w.acts a w.turns (acceptable p) in
        let fits = turns_fit (posted known) (posted_fit known) n m (w.acts ++ a ∷ []) turns in
        let many : length (records_of (w.acts ++ a ∷ [])) ≡ held_after held a = ap length after ∙ length_after recs a ∙ ap (λ (h : ℕ). held_after h a) w.many in
        record {
          acts = w.acts ++ a ∷ [];
          front = take-add used (length (entry_of a)) journal ∙ (λ i. w.front i ++ e.bytes i) ∙ sym (entries_last w.acts a);
          turns = turns;
          many = many;
          first = t.sees ∙ ap (λ (c : Option Consignor). seen_after c a) w.first ∙ sym (first_after recs a) ∙ ap first_of (sym after);
          named = λ i h. (right i h).named;
          struck = λ i h. (right i h).struck;
          ids = λ i h. (right i h).own;
          latest = sym (used_is (omega (arith, before, within))) ∙ ap (λ (xs : List Action). length (entries_of xs)) (sym (without_latest_lem w.acts a));
          marking = record {
            few = omega (arith, many, fits.places, w.marking.bounds);
            places = subst (λ (h : ℕ). h * 401 ≤ n) many fits.places;
            marked = omega (arith, w.marking.marked, ap length t.left, marks_long_lem a p);
            noted = t.noted;
            room = omega (arith, w.marking.room, long);
            small = λ i. subst (λ (ms : List ℕ). get_or ms i 0 / 2 ≤ 1048576) (sym t.left) (small_after a p (omega (arith, before, within, bounded)) i);
            bounds = w.marking.bounds;
          };
        }

-- ---- where no action at the next entry meets the file, nothing stands
first_once : (z x : Action) (r t : List ℕ) → sized z ≡ true → sized x ≡ true → entry_of z ++ r ≡ entry_of x ++ t → (z ≡ x) × (r ≡ t)
first_once z x r t sz sx e =
    let same = some-injective _ _ (sym (entry_first z r sz) ∙ ap (first_entry kinds) e ∙ entry_first x t sx) in
    (ap (λ (y : Entry). y.action) same, ap (λ (y : Entry). y.behind) same)

-- a list whose entries go on behind those of xs begins with xs
record Goes (xs zs : List Action) (rest : List ℕ) : Type 0 where
  others : List Action
  is : zs ≡ xs ++ others
  bytes : entries_of others ≡ rest

goes_on : (xs zs : List Action) (rest : List ℕ) → all_sized xs ≡ true → all_sized zs ≡ true → entries_of zs ≡ entries_of xs ++ rest → Goes xs zs rest
unfolding all_sized
goes_on [] zs rest sx sz e = record { others = zs; is = refl; bytes = e }
goes_on (x ∷ xs) [] rest sx sz e =
    absurd (omega (arith, ap length e, length-append (entry_of x ++ entries_of xs) rest, length-append (entry_of x) (entries_of xs), entry_some x))
goes_on (x ∷ xs) (z ∷ zs) rest sx sz e =
    let px = (and-eq-true_iff (sized x) (all_sized xs)).0 sx in
    let pz = (and-eq-true_iff (sized z) (all_sized zs)).0 sz in
    let same : entry_of z ++ entries_of zs ≡ entry_of x ++ (entries_of xs ++ rest) = e ∙ append_assoc (entry_of x) (entries_of xs) rest in
    let first = first_once z x (entries_of zs) (entries_of xs ++ rest) pz.0 px.0 same in
    let i = goes_on xs zs rest px.1 pz.1 first.1 in
    record { others = i.others; is = λ j. first.0 j ∷ i.is j; bytes = i.bytes }

sized_at : (xs : List Action) (a : Action) (ys : List Action) → all_sized (xs ++ a ∷ ys) ≡ true → sized a ≡ true
unfolding all_sized
sized_at [] a ys h = ((and-eq-true_iff (sized a) (all_sized ys)).0 h).0
sized_at (x ∷ xs) a ys h = sized_at xs a ys ((and-eq-true_iff (sized x) (all_sized (xs ++ a ∷ ys))).0 h).1

-- an action within a list is acceptable in its turn
pub turn_at : (v : Verdict) (n m : ℕ) (before xs : List Action) (a : Action) (ys : List Action) → in_turn_behind v n m before (xs ++ a ∷ ys) ≡ true → (rule_behind v n m (before ++ xs) a).code ≡ 0
unfolding in_turn_behind
turn_at v n m before [] a ys t =
    let p = (and-eq-true_iff (eqb (rule_behind v n m before a).code 0) (in_turn_behind v n m (before ++ a ∷ []) ys)).0 t in
    ap (λ (b : List Action). (rule_behind v n m b a).code) (append-nil before) ∙ eqb-true _ 0 p.0
turn_at v n m before (x ∷ xs) a ys t =
    let p = (and-eq-true_iff (eqb (rule_behind v n m before x).code 0) (in_turn_behind v n m (before ++ x ∷ []) (xs ++ a ∷ ys))).0 t in
    ap (λ (b : List Action). (rule_behind v n m b a).code) (sym (append_assoc before (x ∷ []) xs)) ∙ turn_at v n m (before ++ x ∷ []) xs a ys p.1

records_split : (recs : List (List ℕ)) (xs ys : List Action) → records_from recs (xs ++ ys) ≡ records_from (records_from recs xs) ys
records_split recs [] ys = refl
records_split recs (x ∷ xs) ys = records_split (records_after recs x) xs ys

right_id_lem : (v : Verdict) (recs : List (List ℕ)) (places : ℕ) (id : List ℕ) → (action_rule v recs places (Cancellation id)).code ≡ 0 → right_id id ≡ true
unfolding action_rule
right_id_lem v recs places id z = go (right_id id) z
  where
    go : (t : Bool) → (cond t (live_rule recs id) (answer 1 1)).code ≡ 0 → t ≡ true
    go true h = refl
    go false h = absurd (omega (arith, h))

-- the used bytes of a batch in which a list stands
pub used_bytes : {v : Verdict} (file journal : List ℕ) (c : Counts) (s : State) → Stands v (batch_of file journal c) s → take c.used journal ≡ entries_of s.actions
unfolding made
used_bytes file journal c s st = ap (λ (x : Batch). take x.counts.used x.journal) st.is ∙ take-append_seam (entries_of s.actions) _

pub used_long : {v : Verdict} (file journal : List ℕ) (c : Counts) (s : State) → Stands v (batch_of file journal c) s → c.used ≡ length (entries_of s.actions)
unfolding made
used_long file journal c s st = ap (λ (x : Batch). x.counts.used) st.is

pub made_file : {v : Verdict} (file journal : List ℕ) (c : Counts) (s : State) → Stands v (batch_of file journal c) s → file ≡ zero_filled (length file) (lines_of (records_of s.actions))
unfolding made
made_file file journal c s st = ap (λ (x : Batch). x.file) st.is

module _ {known : Known} (file journal : List ℕ) (held : ℕ) (seen : Option Consignor) (used last end : ℕ) (marks table : List ℕ) (w : Walked known file journal held seen used last marks table) (before : used < end) (within : end ≤ length journal)
    (c : Counts) (ec : c.used ≡ end) (s : State) (st : Stands (posted known) (batch_of file journal c) s) where
  abbrev all_acts : List Action
  all_acts = s.actions

  abbrev tail : List ℕ
  tail = take (end - used) (drop used journal)

  split_tail : entries_of all_acts ≡ entries_of w.acts ++ tail
  split_tail =
      let ends : c.used ≡ used + (end - used) = omega (arith, ec, before) in
      sym (used_bytes file journal c s st) ∙ ap (λ (k : ℕ). take k journal) ends ∙ take-add used (end - used) journal ∙ ap (λ (t : List ℕ). t ++ tail) w.front

  goes : Goes w.acts all_acts tail
  goes = goes_on w.acts all_acts tail (turns_sized (posted known) (length file) (length journal) [] w.acts w.turns) (turns_sized (posted known) (length file) (length journal) [] all_acts st.turns) split_tail

  tail_long : length tail ≡ end - used
  tail_long = length-take-le (end - used) (drop used journal) (rw length-drop (omega (arith, within)))

  -- the action that stands there
  module _ (a : Action) (ys : List Action) (is : all_acts ≡ w.acts ++ a ∷ ys) (bytes : entry_of a ++ entries_of ys ≡ tail) where
    entry_there : EntryAt journal end used a
    entry_there =
        let sizes = turns_sized (posted known) (length file) (length journal) [] all_acts st.turns in
        record {
          size = sized_at w.acts a ys (subst (λ (zs : List Action). all_sized zs ≡ true) is sizes);
          bytes = ap (take (length (entry_of a))) (sym (take-append-drop (end - used) (drop used journal)) ∙ ap (λ (t : List ℕ). t ++ drop (end - used) (drop used journal)) (sym bytes) ∙ append_assoc (entry_of a) (entries_of ys) _)
              ∙ take-append_seam (entry_of a) _;
          within = omega (arith, tail_long, ap length bytes, length-append (entry_of a) (entries_of ys), before);
        }

    accepted_there : Accepted (posted known) (recs file journal held seen used last marks table w) (length file / 401) (length journal - length (entries_of w.acts)) a
    accepted_there = accepted_if (posted known) _ _ _ a (turn_at (posted known) (length file) (length journal) [] w.acts a ys (subst (λ (zs : List Action). in_turn (posted known) (length file) (length journal) zs ≡ true) is st.turns))

    abbrev now : List (List ℕ)
    now = recs file journal held seen used last marks table w

    -- the lent file has the identifier of an addition at its place
    own_there : (rec : List ℕ) → a ≡ Addition rec → key_at file 0 held ≡ id_of rec
    own_there rec added =
        let many = w.many in
        let f = turns_fit (posted known) (posted_fit known) (length file) (length journal) all_acts st.turns in
        let whole : records_of all_acts ≡ records_from (now ++ rec ∷ []) ys = ap records_of is ∙ records_split [] w.acts (a ∷ ys) ∙ ap (λ (x : Action). records_from (records_after now x) ys) added in
        let long : length (now ++ rec ∷ []) ≡ length now + 1 = length_last now rec in
        let there : length now < length (records_of all_acts) = omega (arith, long, ap length whole, not_shorter (now ++ rec ∷ []) ys) in
        let last-id : id_of (get_or (records_of all_acts) (length now) []) ≡ id_of rec =
        ap (λ (r : List (List ℕ)). id_of (get_or r (length now) [])) whole ∙ ids_from (now ++ rec ∷ []) ys (length now) (omega (arith, long)) ∙ ap id_of (get_or-append_seam now rec [] []) in
        ap (λ (k : ℕ). take 13 (drop k file)) (add-zero (held * 401))
        ∙ ap (λ (k : ℕ). take 13 (drop (k * 401) file)) (sym many)
        ∙ ap (λ (t : List ℕ). take 13 (drop (length now * 401) t)) (made_file file journal c s st)
        ∙ id_there (records_of all_acts) (zeros (length file - length (lines_of (records_of all_acts)))) (length now) (λ i h. (f.sheet.each i h).long) there
        ∙ last-id

    new_there : (id : List ℕ) → is_present now id ≡ false → seek file 0 id held ≡ 0
    new_there id none = go (sought file id held)
      where
        go : Sought file id held → seek file 0 id held ≡ 0
        go (nowhere e off) = e
        go (there k e h q) = absurd (none_at (has_id id) now k none (omega (arith, h, w.many)) ((same_exactly _ _).1 (sym (w.ids k h) ∙ q)))

    meets_there : (b : Action) → a ≡ b → (action_rule (posted known) now (length file / 401) b).code ≡ 0 → Meets known file held seen marks b
    meets_there (Addition rec) same z =
        let p = adds (posted known) now (length file / 401) rec z in
        record {
          room = omega (arith, p.room, w.many);
          good = p.passes;
          same = ap (λ (x : Option Consignor). another x (consignor_of rec)) w.first ∙ sym (first_suffices now rec (turns_fit (posted known) (posted_fit known) (length file) (length journal) w.acts w.turns).sheet.one) ∙ p.same;
          own = own_there rec same;
          new = new_there (id_of rec) p.new;
        }
    meets_there (Amendment rec) same z =
        let p = amends (posted known) now (length file / 401) rec z in
        let l = rules_live file journal held seen used last marks table w (id_of rec) p.1 p.2 in
        (l.0, record { good = p.0; there = l.1 })
    meets_there (Cancellation id) same z =
        let p = cancels (posted known) now (length file / 401) id z in
        let l = rules_live file journal held seen used last marks table w id p.0 p.1 in
        (l.0, record { right = right_id_lem (posted known) now (length file / 401) id z; there = l.1 })

  pub walk_stuck : ((a : Action) → EntryAt journal end used a → Meets known file held seen marks a → ⊥) → ⊥
  walk_stuck none = go goes.others goes.is goes.bytes
    where
      go : (ys : List Action) → all_acts ≡ w.acts ++ ys → entries_of ys ≡ tail → ⊥
      go [] is bytes = omega (arith, tail_long, ap length bytes, before)
      go (a ∷ ys) is bytes = none a (entry_there a ys is bytes) (meets_there a ys is bytes a refl (accepted_there a ys is bytes).rule)

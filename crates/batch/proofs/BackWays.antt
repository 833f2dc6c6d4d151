-- The way back as a whole: what is known of the latest action, and each way out of `take_back`.
-- Assumes nothing.
use Prim.Native.Nat.{ℕ, ◌+◌, ◌-◌, ◌*◌, ◌/◌, ◌≤◌, ◌<◌}
use mathlib.Core.Path.{◌≡◌, refl, sym, ap, ◌∙◌, subst}
use mathlib.Core.Bool.{true, false, not}
use mathlib.Core.List.{List, [], ◌∷◌, ◌++◌, map}
use mathlib.Core.Option.{some-injective}
use native.Mathlib.Nat.{add-sub_cancel_left}
use native.Mathlib.Omega.{arith}
use borrow.Author.Tests.{eq-eqb, eqb-true}
use mir.Syntax.{w64}
use mir.Val.{Fits}
use lib.Dec.{eqb}
use lib.ListN.{length, take, drop, length-append}
use lib.Seq.{take-append_seam, drop-append_seam, take-take, take-add}
use Rattle.std.specs.Prelude.{Option, IsSome}
use Rattle.batch.specs.declared.entries.Kind.{Kind}
use Rattle.psc.specs.Table.{Known}
use Rattle.text.proofs.Booleans.{clash}
use Rattle.posting.specs.Bounds.{Small}
use Rattle.posting.specs.File.{record_at}
use Rattle.posting.specs.Records.{lines_of}
use Rattle.posting.specs.Sums.{cash_in, price_in, totals_of}
use Rattle.posting.proofs.Amounts.{small_so_far}
use Rattle.batch.specs.declared.Counts.{Counts}
use Rattle.batch.specs.Actions.{Action, Addition, Amendment, Cancellation, all_sized, entry_of, entries_of}
use Rattle.batch.specs.Records.{id_of, replaced_by, cancelled_for, records_after, records_of}
use Rattle.batch.specs.Rules.{posted, is_present, action_rule, in_turn}
use Rattle.batch.specs.Batch.{Batch, batch_of, counts_of, State, zero_filled, made, without_latest, Stands}
use Rattle.batch.specs.Places.{record_number, place_of, with_line, amounts_replaced}
use Rattle.batch.specs.Entries.{number_of_found, kind_at}
use Rattle.batch.specs.Test.{record_from, EntryAt}
use Rattle.batch.specs.Undoing.{without_line, with_blank, one_live_less, one_revived, carried_from, Entries, RecordBefore, Holding, Added, AdditionOff, Sought, CancellationOff, Amended, AmendmentOff, Undoable, TakenBack}
use Rattle.batch.proofs.Rows.{length_last, length_map}
use Rattle.batch.proofs.Sheets.{Sheet, sheet_step}
use Rattle.batch.proofs.Verdicts.{posted_fit}
use Rattle.batch.proofs.PlaceLaws.{present_view}
use Rattle.batch.proofs.Totals.{totals_view}
use Rattle.batch.proofs.Standing.{turns_sized, stands_once}
use Rattle.batch.proofs.Reading.{read_exactly}
use Rattle.batch.proofs.StateWays.{lengths_bounded}
use Rattle.batch.proofs.Made.{records_last, entries_last, entry_long, accepted_if, Fits as Holds, turns_fit, turns_front_behind}
use Rattle.batch.proofs.Walks.{without_latest_lem, turn_at, used_bytes, used_long, made_file}
use Rattle.batch.proofs.StepWays.{kind_read, body_read, kind_found}
use Rattle.batch.proofs.Heads.{kind_some}
use Rattle.batch.proofs.UndoWays.{entry_wide, id_is}
use Rattle.batch.proofs.TakingBack.{line_off, live_off, struck_there, status_off, revived_off, Carried, before_there, before_long, line_back, amounts_back, carried_all}

-- ---- the latest of some actions, behind the others
record Ended (xs : List Action) : Type 0 where
  front : List Action
  act : Action
  is : xs ≡ front ++ act ∷ []

ended : (xs : List Action) → 0 < length xs → Ended xs
ended [] h = absurd (omega arith)
ended (a ∷ []) h = record { front = []; act = a; is = refl }
ended (a ∷ b ∷ xs) h = let e = ended (b ∷ xs) (omega arith) in record { front = a ∷ e.front; act = e.act; is = ap (λ (ys : List Action). a ∷ ys) e.is }

-- ---- what is known of it
pub record Latest (known : Known) (file journal : List ℕ) (c : Counts) (last : ℕ) (front : List Action) (a : Action) : Type 0 where
  turns : in_turn (posted known) (length file) (length journal) front ≡ true
  sheet : Sheet known (records_of front)
  places : length (records_of front) * 401 ≤ length file
  rule : (action_rule (posted known) (records_of front) (length file / 401) a).code ≡ 0
  entry : EntryAt journal c.used last a
  filed : file ≡ zero_filled (length file) (lines_of (records_after (records_of front) a))
  held : c.held ≡ length (records_after (records_of front) a)
  totals : c.totals ≡ totals_of (records_after (records_of front) a)
  bytes : take last journal ≡ entries_of front
  starts : last ≡ length (entries_of front)
  only : (k : Known) (s : State) → Stands (posted k) (batch_of file journal c) s → without_latest s.actions ≡ front
  within : c.used ≤ length journal
  bounded : length journal ≤ 1048576
  holding : Holding file c

record LatestOf (known : Known) (file journal : List ℕ) (c : Counts) (last : ℕ) : Type 0 where
  front : List Action
  act : Action
  latest : Latest known file journal c last front act

module _ (file journal : List ℕ) (c : Counts) (last : ℕ) (pre : Undoable file journal c last) where
  abbrev known : Known
  known = pre.known

  abbrev s : State
  s = pre.found.what

  abbrev st : Stands (posted known) (batch_of file journal c) s
  st = pre.found.stands

  some_act : 0 < length s.actions
  some_act = go s.actions (used_long file journal c s st)
    where
      go : (xs : List Action) → c.used ≡ length (entries_of xs) → 0 < length xs
      go [] e = absurd (pre.some e)
      go (a ∷ xs) e = omega arith

  module _ (front : List Action) (a : Action) (is : s.actions ≡ front ++ a ∷ []) where
    front_is : without_latest s.actions ≡ front
    front_is = ap without_latest is ∙ without_latest_lem front a

    turns_so : in_turn (posted known) (length file) (length journal) front ≡ true
    turns_so = subst (λ (xs : List Action). in_turn (posted known) (length file) (length journal) xs ≡ true) front_is (turns_front_behind (posted known) (length file) (length journal) [] s.actions st.turns)

    fit : Holds known (length file) (length journal) front
    fit = turns_fit (posted known) (posted_fit known) (length file) (length journal) front turns_so

    fit_all : Holds known (length file) (length journal) s.actions
    fit_all = turns_fit (posted known) (posted_fit known) (length file) (length journal) s.actions st.turns

    starts_so : last ≡ length (entries_of front)
    starts_so = pre.found.latest ∙ ap (λ (xs : List Action). length (entries_of xs)) front_is

    recs_so : records_of s.actions ≡ records_after (records_of front) a
    recs_so = ap records_of is ∙ records_last [] front a

    entries_so : take c.used journal ≡ entries_of front ++ entry_of a
    entries_so = used_bytes file journal c s st ∙ ap entries_of is ∙ entries_last front a

    used_so : c.used ≡ last + length (entry_of a)
    used_so = used_long file journal c s st ∙ ap (λ (xs : List Action). length (entries_of xs)) is ∙ ap length (entries_last front a) ∙ length-append (entries_of front) (entry_of a) ∙ ap (λ (k : ℕ). k + length (entry_of a)) (sym starts_so)

    bytes_so : take last journal ≡ entries_of front
    bytes_so =
        sym (take-take last c.used journal (omega (arith, used_so)))
        ∙ (λ i. take (starts_so i) (entries_so i))
        ∙ take-append_seam (entries_of front) (entry_of a)

    entry_bytes : take (length (entry_of a)) (drop last journal) ≡ entry_of a
    entry_bytes =
        let part = take (length (entry_of a)) (drop last journal) in
        let both : entries_of front ++ part ≡ entries_of front ++ entry_of a =
        ap (λ (t : List ℕ). t ++ part) (sym bytes_so) ∙ sym (take-add last (length (entry_of a)) journal) ∙ ap (λ (k : ℕ). take k journal) (sym used_so) ∙ entries_so in
        sym (drop-append_seam (entries_of front) part) ∙ ap (drop (length (entries_of front))) both ∙ drop-append_seam (entries_of front) (entry_of a)

    held_so : c.held ≡ length (records_after (records_of front) a)
    unfolding made
    held_so = ap (λ (b : Batch). b.counts.held) st.is ∙ ap length recs_so

    totals_so : c.totals ≡ totals_of (records_after (records_of front) a)
    unfolding made
    totals_so = ap (λ (b : Batch). b.counts.totals) st.is ∙ ap totals_of recs_so

    filed_so : file ≡ zero_filled (length file) (lines_of (records_after (records_of front) a))
    filed_so = made_file file journal c s st ∙ ap (λ (r : List (List ℕ)). zero_filled (length file) (lines_of r)) recs_so

    bounds : (length file ≤ 400599) × (length journal ≤ 1048576)
    bounds = lengths_bounded (length file) (length journal) st.lengths

    places_so : c.held * 401 ≤ length file
    places_so = omega (arith, held_so, ap length recs_so, fit_all.places)

    small_so : Small c.totals
    small_so =
        let over = totals_view (length file) (records_of s.actions) fit_all.sheet in
        subst Small (over ∙ ap totals_of recs_so ∙ sym totals_so)
        (small_so_far _ (length (records_of s.actions)) (omega (arith, fit_all.places, bounds.0)))

    latest_so : Latest known file journal c last front a
    latest_so =
        let ok = accepted_if (posted known) _ _ _ a (turn_at (posted known) (length file) (length journal) [] front a [] (subst (λ (xs : List Action). in_turn (posted known) (length file) (length journal) xs ≡ true) is st.turns)) in
        record {
          turns = turns_so;
          sheet = fit.sheet;
          places = fit.places;
          rule = ok.rule;
          entry = record { size = ok.size; bytes = entry_bytes; within = omega (arith, used_so) };
          filed = filed_so;
          held = held_so;
          totals = totals_so;
          bytes = bytes_so;
          starts = starts_so;
          only = λ k t u. ap (λ (x : State). without_latest x.actions) (stands_once (posted k) (posted known) (batch_of file journal c) t s u st) ∙ front_is;
          within = omega (arith, used_long file journal c s st, fit_all.room);
          bounded = bounds.1;
          holding = record { few = omega (arith, places_so, bounds.0); places = places_so; small = small_so };
        }

  latest_of : LatestOf known file journal c last
  latest_of = let e = ended s.actions some_act in record { front = e.front; act = e.act; latest = latest_so e.front e.act e.is }

-- ---- by the kind of its entry
data Which (known : Known) (file journal : List ℕ) (c : Counts) (last kind : ℕ) : Type 0 where
  added : kind ≡ 1 → (front : List Action) (rec : List ℕ) → Latest known file journal c last front (Addition rec) → Which known file journal c last kind
  cancelled : kind ≡ 2 → (front : List Action) (id : List ℕ) → Latest known file journal c last front (Cancellation id) → Which known file journal c last kind
  amended : kind ≡ 3 → (front : List Action) (rec : List ℕ) → Latest known file journal c last front (Amendment rec) → Which known file journal c last kind

-- the file and the counts of those before it
done : {known : Known} (file journal : List ℕ) (c : Counts) (last : ℕ) (front : List Action) (a : Action) → Latest known file journal c last front a → (r : Counts) (file' : List ℕ)
    → file' ≡ zero_filled (length file) (lines_of (records_of front)) → r ≡ counts_of (totals_of (records_of front)) (length (records_of front)) last → TakenBack file journal c last r file'
unfolding made
done file journal c last front a l r file' ef er =
    let filled : (xs : List Action) → front ≡ xs → file' ≡ zero_filled (length file) (lines_of (records_of xs)) = λ xs e. ef ∙ ap (λ (ys : List Action). zero_filled (length file) (lines_of (records_of ys))) e in
    let counts : (xs : List Action) → front ≡ xs → r ≡ counts_of (totals_of (records_of xs)) (length (records_of xs)) (length (entries_of xs)) =
    λ xs e. er ∙ ap (counts_of (totals_of (records_of front)) (length (records_of front))) l.starts ∙ ap (λ (ys : List Action). counts_of (totals_of (records_of ys)) (length (records_of ys)) (length (entries_of ys))) e in
    record { filed = λ k s u. filled (without_latest s.actions) (sym (l.only k s u)); counted = λ k s u. counts (without_latest s.actions) (sym (l.only k s u)) }

-- an identifier that is present is found
found_there : {known : Known} (n : ℕ) (recs : List (List ℕ)) → Sheet known recs → (id : List ℕ) → is_present recs id ≡ true → record_number (zero_filled n (lines_of recs)) id (length recs) ≡ 0 → ⊥
found_there n recs s id p z =
    let none : not (eqb (record_number (zero_filled n (lines_of recs)) id (length recs)) 0) ≡ false = rw (eq-eqb _ 0 z) in
    clash p (sym (present_view recs s _ id) ∙ none)

-- ---- each kind taken off
module _ (file journal : List ℕ) (c : Counts) (last : ℕ) where
  abbrev n : ℕ
  n = length file

  -- the body of an entry with so many bytes, as it is lent
  abbrev lent : ℕ → List ℕ
  lent w = take (last + 4 + w - (last + 4)) (drop (last + 4) journal)

  lent_is : (w : ℕ) → lent w ≡ take w (drop (last + 4) journal)
  lent_is w = ap (λ (k : ℕ). take k (drop (last + 4) journal)) (add-sub_cancel_left (last + 4) w)

  module _ {known : Known} (front : List Action) (rec : List ℕ) (l : Latest known file journal c last front (Addition rec)) where
    added_body : lent 399 ≡ rec
    added_body = lent_is 399 ∙ body_read journal c.used last l.within (Addition rec) l.entry

    added_back : (r : Counts) (file' : List ℕ) → AdditionOff file c last (lent 399) r file' → TakenBack file journal c last r file'
    added_back r file' o =
        let fewer : length (records_of front ++ rec ∷ []) - 1 ≡ length (records_of front) = omega (arith, length_last (records_of front) rec) in
        done file journal c last front (Addition rec) l r file'
        (o.filed ∙ (λ i. without_line (l.filed i) (l.held i - 1)) ∙ line_off n (records_of front) l.sheet rec l.rule)
        (o.counted
        ∙ (λ i. counts_of (one_live_less (l.totals i) (cash_in (added_body i)) (price_in (added_body i))) (l.held i - 1) last)
        ∙ (λ i. counts_of (live_off n (records_of front) l.sheet rec l.rule i) (fewer i) last))

  module _ {known : Known} (front : List Action) (id : List ℕ) (l : Latest known file journal c last front (Cancellation id)) where
    abbrev recs : List (List ℕ)
    recs = map (cancelled_for id) (records_of front)

    cancelled_body : lent 13 ≡ id
    cancelled_body = lent_is 13 ∙ body_read journal c.used last l.within (Cancellation id) l.entry

    cancelled_same : record_number file (lent 13) c.held ≡ record_number (zero_filled n (lines_of recs)) id (length recs)
    cancelled_same = λ i. record_number (l.filed i) (cancelled_body i) (l.held i)

    cancelled_sought : Sought file c (lent 13)
    cancelled_sought = record {
      holding = l.holding;
      there = λ z. found_there n recs (sheet_step (posted known) (posted_fit known) (records_of front) (n / 401) (Cancellation id) l.sheet l.rule) id
          (struck_there n (records_of front) l.sheet id l.rule) (sym cancelled_same ∙ z);
    }

    cancelled_back : (r : Counts) (file' : List ℕ) → CancellationOff file c last (lent 13) r file' → TakenBack file journal c last r file'
    cancelled_back r file' o =
        let many : length recs ≡ length (records_of front) = length_map (cancelled_for id) (records_of front) in
        done file journal c last front (Cancellation id) l r file'
        (o.filed ∙ (λ i. with_blank (l.filed i) (place_of (l.filed i) (cancelled_body i) (l.held i))) ∙ status_off n (records_of front) l.sheet id l.rule)
        (o.counted
        ∙ (λ i. counts_of (one_revived (l.totals i) (cash_in (record_at (l.filed i) (place_of (l.filed i) (cancelled_body i) (l.held i)))) (price_in (record_at (l.filed i) (place_of (l.filed i) (cancelled_body i) (l.held i))))) (l.held i) last)
        ∙ (λ i. counts_of (revived_off n (records_of front) l.sheet id l.rule i) (many i) last))

  module _ {known : Known} (front : List Action) (rec : List ℕ) (l : Latest known file journal c last front (Amendment rec)) where
    abbrev now : List (List ℕ)
    now = map (replaced_by rec) (records_of front)

    wide : last + 403 ≤ length journal
    wide = omega (arith, l.entry.within, entry_long (Amendment rec) l.entry.size, l.within)

    sizes : all_sized front ≡ true
    sizes = turns_sized (posted known) n (length journal) [] front l.turns

    front_entries : Entries journal last
    front_entries = record { acts = front; sizes = sizes; bytes = l.bytes; within = omega (arith, wide); room = omega (arith, wide); bounded = l.bounded }

    amended_id : lent 13 ≡ id_of rec
    amended_id =
        lent_is 13 ∙ sym (take-take 13 399 (drop (last + 4) journal) (omega arith)) ∙ ap (take 13) (body_read journal c.used last l.within (Amendment rec) l.entry)
        ∙ sym (id_is rec (eqb-true _ _ l.entry.size))

    module _ (at : ℕ) (b : RecordBefore journal last (lent 13) at) where
      -- the record before, as it is lent
      abbrev old : List ℕ
      old = take (at + 4 + 399 - (at + 4)) (drop (at + 4) journal)

      same_acts : b.all.acts ≡ front
      same_acts =
          some-injective _ _
          (sym ((read_exactly (take last journal) b.all.acts).1 (b.all.sizes, sym b.all.bytes)) ∙ (read_exactly (take last journal) front).1 (sizes, sym l.bytes))

      old_is : old ≡ carried_from (id_of rec) (record_from journal 0) front
      old_is = ap (λ (k : ℕ). take k (drop (at + 4) journal)) (add-sub_cancel_left (at + 4) 399) ∙ b.is ∙ (λ i. carried_from (amended_id i) (record_from journal 0) (same_acts i))

      was : Carried known (id_of rec) (records_of front) old
      was = subst (Carried known (id_of rec) (records_of front)) (sym old_is) (carried_all known (id_of rec) n (length journal) front (record_from journal 0) l.turns)

      amended_same : record_number file (id_of old) c.held ≡ record_number (zero_filled n (lines_of now)) (id_of old) (length now)
      amended_same = λ i. record_number (l.filed i) (id_of old) (l.held i)

      amended_sought : Amended file c old
      amended_sought = record {
        sought = record {
          holding = l.holding;
          there = λ z. found_there n now (sheet_step (posted known) (posted_fit known) (records_of front) (n / 401) (Amendment rec) l.sheet l.rule) (id_of old)
              (before_there n (records_of front) l.sheet l.places rec l.rule old was) (sym amended_same ∙ z);
        };
        long = before_long n (records_of front) l.sheet l.places rec l.rule old was;
      }

      amended_back : (r : Counts) (file' : List ℕ) → AmendmentOff file c last old r file' → TakenBack file journal c last r file'
      amended_back r file' o =
          let many : length now ≡ length (records_of front) = length_map (replaced_by rec) (records_of front) in
          done file journal c last front (Amendment rec) l r file'
          (o.filed ∙ (λ i. with_line (l.filed i) (place_of (l.filed i) (id_of old) (l.held i)) old) ∙ line_back n (records_of front) l.sheet l.places rec l.rule old was)
          (o.counted
          ∙ (λ i. counts_of (amounts_replaced (l.totals i) (cash_in (record_at (l.filed i) (place_of (l.filed i) (id_of old) (l.held i)))) (price_in (record_at (l.filed i) (place_of (l.filed i) (id_of old) (l.held i)))) (cash_in old) (price_in old)) (l.held i) last)
          ∙ (λ i. counts_of (amounts_back n (records_of front) l.sheet l.places rec l.rule old was i) (many i) last))

-- ---- the ways out
module _ (file journal : List ℕ) (c : Counts) (last : ℕ) (pre : Undoable file journal c last) where
  pub back_within : (last ≤ c.used) × (c.used ≤ length journal)
  back_within = let l = (latest_of file journal c last pre).latest in (omega (arith, l.entry.within), l.within)

  near : last < 2000000
  near = let l = (latest_of file journal c last pre).latest in omega (arith, l.entry.within, l.within, l.bounded)

  pub body_fits : Fits w64 (last + 4)
  body_fits = record { fits = omega (arith, near) }

  pub record_fits : Fits w64 (last + 4 + 399)
  record_fits = record { fits = omega (arith, near) }

  pub id_fits : Fits w64 (last + 4 + 13)
  id_fits = record { fits = omega (arith, near) }

  pub back_id : last + 4 + 13 ≤ length journal
  back_id =
      let k = latest_of file journal c last pre in
      let l = k.latest in
      omega (arith, l.entry.within, entry_wide k.act l.entry.size, l.within)

  pub back_kind : (r : Option Kind) → number_of_found r ≡ kind_at journal c.used last → IsSome r
  back_kind r er =
      let k = latest_of file journal c last pre in
      kind_found r (λ z. kind_some k.act (sym (kind_read journal c.used last k.latest.within k.act k.latest.entry) ∙ sym er ∙ z))

  module _ (kind : ℕ) (ek : kind ≡ kind_at journal c.used last) where
    which : Which pre.known file journal c last kind
    which = let k = latest_of file journal c last pre in go k.act k.latest
      where
        go : (a : Action) → Latest pre.known file journal c last (latest_of file journal c last pre).front a → Which pre.known file journal c last kind
        go (Addition rec) l = added (ek ∙ kind_read journal c.used last l.within (Addition rec) l.entry) _ rec l
        go (Cancellation id) l = cancelled (ek ∙ kind_read journal c.used last l.within (Cancellation id) l.entry) _ id l
        go (Amendment rec) l = amended (ek ∙ kind_read journal c.used last l.within (Amendment rec) l.entry) _ rec l

    pub addition_part : kind ≡ 1 → last + 4 + 399 ≤ length journal
    addition_part k = go which
      where
        go : Which pre.known file journal c last kind → last + 4 + 399 ≤ length journal
        go (added e front rec l) = omega (arith, l.entry.within, entry_long (Addition rec) l.entry.size, l.within)
        go (cancelled e front id l) = absurd (omega (arith, k, e))
        go (amended e front rec l) = absurd (omega (arith, k, e))

    pub addition_asks : kind ≡ 1 → Added file c
    addition_asks k = go which
      where
        go : Which pre.known file journal c last kind → Added file c
        go (added e front rec l) = record { holding = l.holding; some = omega (arith, l.held, length_last (records_of front) rec) }
        go (cancelled e front id l) = absurd (omega (arith, k, e))
        go (amended e front rec l) = absurd (omega (arith, k, e))

    pub addition_done : kind ≡ 1 → (r : Counts) (file' : List ℕ) → AdditionOff file c last (take (last + 4 + 399 - (last + 4)) (drop (last + 4) journal)) r file' → TakenBack file journal c last r file'
    addition_done k r file' o = go which
      where
        go : Which pre.known file journal c last kind → TakenBack file journal c last r file'
        go (added e front rec l) = added_back file journal c last front rec l r file' o
        go (cancelled e front id l) = absurd (omega (arith, k, e))
        go (amended e front rec l) = absurd (omega (arith, k, e))

    pub cancellation_asks : kind ≡ 2 → Sought file c (take (last + 4 + 13 - (last + 4)) (drop (last + 4) journal))
    cancellation_asks k = go which
      where
        go : Which pre.known file journal c last kind → Sought file c (take (last + 4 + 13 - (last + 4)) (drop (last + 4) journal))
        go (added e front rec l) = absurd (omega (arith, k, e))
        go (cancelled e front id l) = cancelled_sought file journal c last front id l
        go (amended e front rec l) = absurd (omega (arith, k, e))

    pub cancellation_done : kind ≡ 2 → (r : Counts) (file' : List ℕ) → CancellationOff file c last (take (last + 4 + 13 - (last + 4)) (drop (last + 4) journal)) r file' → TakenBack file journal c last r file'
    cancellation_done k r file' o = go which
      where
        go : Which pre.known file journal c last kind → TakenBack file journal c last r file'
        go (added e front rec l) = absurd (omega (arith, k, e))
        go (cancelled e front id l) = cancelled_back file journal c last front id l r file' o
        go (amended e front rec l) = absurd (omega (arith, k, e))

    module _ (k3 : kind ≡ 3) where
      pub before_asks : Entries journal last
      before_asks = go which
        where
          go : Which pre.known file journal c last kind → Entries journal last
          go (added e front rec l) = absurd (omega (arith, k3, e))
          go (cancelled e front id l) = absurd (omega (arith, k3, e))
          go (amended e front rec l) = front_entries file journal c last front rec l

      module _ (at : ℕ) (b : RecordBefore journal last (take (last + 4 + 13 - (last + 4)) (drop (last + 4) journal)) at) where
        abbrev before : List ℕ
        before = take (at + 4 + 399 - (at + 4)) (drop (at + 4) journal)

        pub amendment_asks : Amended file c before
        amendment_asks = go which
          where
            go : Which pre.known file journal c last kind → Amended file c before
            go (added e front rec l) = absurd (omega (arith, k3, e))
            go (cancelled e front id l) = absurd (omega (arith, k3, e))
            go (amended e front rec l) = amended_sought file journal c last front rec l at b

        pub amendment_done : (r : Counts) (file' : List ℕ) → AmendmentOff file c last before r file' → TakenBack file journal c last r file'
        amendment_done r file' o = go which
          where
            go : Which pre.known file journal c last kind → TakenBack file journal c last r file'
            go (added e front rec l) = absurd (omega (arith, k3, e))
            go (cancelled e front id l) = absurd (omega (arith, k3, e))
            go (amended e front rec l) = amended_back file journal c last front rec l at b r file' o

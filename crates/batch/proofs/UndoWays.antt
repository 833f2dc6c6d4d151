-- The way back: each way out of its functions.
-- Assumes nothing.
use Prim.Native.Nat.{ℕ, ◌+◌, ◌-◌, ◌*◌, ◌≤◌, ◌<◌}
use mathlib.Core.Path.{◌≡◌, refl, sym, ap, ◌∙◌, subst}
use mathlib.Core.Bool.{Bool, true, false, cond, and-eq-true_iff}
use mathlib.Core.List.{List, [], ◌∷◌, ◌++◌}
use native.Mathlib.Nat.{add-zero, sub-zero}
use native.Mathlib.Omega.{arith}
use borrow.Author.Tests.{eqb-true}
use lib.ListN.{length, take, drop, length-append, length-drop}
use lib.Seq.{take-append_seam, drop-append_seam, take-take, take-add, drop-drop, length-take-le}
use Rattle.std.specs.Prelude.{Option, Some, IsSome}
use Rattle.batch.specs.declared.entries.Kind.{Kind}
use Rattle.text.specs.Lists.{same_bytes, overlay}
use Rattle.layout.specs.Layout.{field_of}
use Rattle.posting.specs.File.{record_at}
use Rattle.batch.specs.declared.Counts.{Counts}
use Rattle.batch.specs.Actions.{Action, Addition, Amendment, Cancellation, number_of, sized, all_sized, entry_of, entries_of}
use Rattle.batch.specs.Records.{id_of, has_id}
use Rattle.batch.specs.Places.{number_of_place, record_number, place_of, with_line, amounts_replaced}
use Rattle.batch.specs.Entries.{number_of_kind, number_of_found, body_length, kind_at}
use Rattle.batch.specs.Batch.{counts_of, zeros}
use Rattle.batch.specs.Test.{record_from, EntryAt}
use Rattle.batch.specs.Undoing.{without_line, with_blank, one_revived, carried_by, carried_from, found_at, Entries, RecordBefore, CancellationOff, AmendmentOff}
use Rattle.batch.specs.declared.amounts.Amounts.{Amounts}
use Rattle.batch.proofs.CountWays.{Read}
use Rattle.batch.proofs.Made.{entry_long}
use Rattle.batch.proofs.Reading.{entry_some}
use Rattle.batch.proofs.StepWays.{kind_read, body_read, kind_told, kind_found}
use Rattle.batch.proofs.Heads.{kind_some}
use Rattle.batch.proofs.ActionWays.{status_put}
use Rattle.batch.proofs.JournalWays.{place_is, place_within}

-- ---- the walk: what the entries that are left carry
pub record Looking (journal : List ℕ) (end : ℕ) (id : List ℕ) (found at : ℕ) : Type 0 where
  pub all : Entries journal end
  pub rest : List Action
  pub sizes : all_sized rest ≡ true
  pub bytes : take (end - at) (drop at journal) ≡ entries_of rest
  pub same : carried_from id (record_from journal found) rest ≡ carried_from id (record_from journal 0) all.acts
  pub before : at ≤ end
  pub room : found + 403 ≤ length journal

pub look_starts : (journal : List ℕ) (end : ℕ) (id : List ℕ) → Entries journal end → Looking journal end id 0 0
look_starts journal end id all = record { all = all; rest = all.acts; sizes = all.sizes; bytes = ap (λ (k : ℕ). take k journal) (sub-zero end) ∙ all.bytes; same = refl; before = omega arith; room = all.room }

pub look_ends : (journal : List ℕ) (end : ℕ) (id : List ℕ) (found at : ℕ) → Looking journal end id found at → end ≤ at → RecordBefore journal end id found
look_ends journal end id found at g h = record { all = g.all; is = go g.rest g.bytes g.same; within = g.room }
  where
    go : (xs : List Action) → take (end - at) (drop at journal) ≡ entries_of xs → carried_from id (record_from journal found) xs ≡ carried_from id (record_from journal 0) g.all.acts
        → record_from journal found ≡ carried_from id (record_from journal 0) g.all.acts
    go [] e s = s
    go (a ∷ xs) e s =
        let none : end - at ≡ 0 = omega (arith, h) in
        let empty : [] ≡ entry_of a ++ entries_of xs = ap (λ (k : ℕ). take k (drop at journal)) (sym none) ∙ e in
        absurd (omega (arith, ap length empty, length-append (entry_of a) (entries_of xs), entry_some a))

-- an entry, and those behind it
module _ (journal : List ℕ) (end at : ℕ) (within : end ≤ length journal) (before : at ≤ end) (a : Action) (ys : List Action) (size : sized a ≡ true)
    (bytes : take (end - at) (drop at journal) ≡ entry_of a ++ entries_of ys) where
  abbrev long : ℕ
  long = length (entry_of a)

  ends : at + long ≤ end
  ends =
      let wide : length (take (end - at) (drop at journal)) ≡ end - at = length-take-le (end - at) (drop at journal) (rw length-drop (omega (arith, within))) in
      omega (arith, wide, ap length bytes, length-append (entry_of a) (entries_of ys), before)

  front_bytes : take long (drop at journal) ≡ entry_of a
  front_bytes = sym (take-take long (end - at) (drop at journal) (omega (arith, ends))) ∙ ap (take long) bytes ∙ take-append_seam (entry_of a) (entries_of ys)

  entry_here : EntryAt journal end at a
  entry_here = record { size = size; bytes = front_bytes; within = ends }

  rest_here : take (end - (at + long)) (drop (at + long) journal) ≡ entries_of ys
  rest_here =
      let r = end - (at + long) in
      let whole : end - at ≡ long + r = omega (arith, ends) in
      let split : entry_of a ++ entries_of ys ≡ entry_of a ++ take r (drop long (drop at journal)) =
      sym bytes ∙ ap (λ (k : ℕ). take k (drop at journal)) whole ∙ take-add long r (drop at journal) ∙ ap (λ (t : List ℕ). t ++ take r (drop long (drop at journal))) front_bytes in
      ap (take r) (sym (drop-drop long at journal))
      ∙ sym (drop-append_seam (entry_of a) (take r (drop long (drop at journal))))
      ∙ ap (drop long) (sym split)
      ∙ drop-append_seam (entry_of a) (entries_of ys)

-- the record that it carries is found there
pub id_is : (rec : List ℕ) → length rec ≡ 399 → id_of rec ≡ take 13 rec
unfolding field_of
id_is rec long = rw long

module _ (journal : List ℕ) (end at : ℕ) (within : end ≤ length journal) (id : List ℕ) (found : ℕ) where
  hit_or_not : (rec : List ℕ) → length rec ≡ 399 → record_from journal at ≡ rec
      → record_from journal (cond (same_bytes (take 13 (drop (at + 4) journal)) id) at found) ≡ cond (has_id id rec) rec (record_from journal found)
  hit_or_not rec long here =
      let its : take 13 (drop (at + 4) journal) ≡ id_of rec = sym (take-take 13 399 (drop (at + 4) journal) (omega arith)) ∙ ap (take 13) here ∙ sym (id_is rec long) in
      ap (λ (x : List ℕ). record_from journal (cond (same_bytes x id) at found)) its ∙ go (has_id id rec)
    where
      go : (t : Bool) → record_from journal (cond t at found) ≡ cond t rec (record_from journal found)
      go true = here
      go false = refl

  found_is : (a : Action) → EntryAt journal end at a → record_from journal (found_at journal at (number_of a) id found) ≡ carried_by id (record_from journal found) a
  found_is (Addition rec) e = hit_or_not rec (eqb-true _ _ e.size) (body_read journal end at within (Addition rec) e)
  found_is (Amendment rec) e = hit_or_not rec (eqb-true _ _ e.size) (body_read journal end at within (Amendment rec) e)
  found_is (Cancellation other) e = refl

  found_room : (a : Action) → EntryAt journal end at a → found + 403 ≤ length journal → found_at journal at (number_of a) id found + 403 ≤ length journal
  found_room (Addition rec) e h = go (same_bytes (take 13 (drop (at + 4) journal)) id)
    where
      go : (t : Bool) → cond t at found + 403 ≤ length journal
      go true = omega (arith, e.within, entry_long (Addition rec) e.size, within)
      go false = h
  found_room (Amendment rec) e h = go (same_bytes (take 13 (drop (at + 4) journal)) id)
    where
      go : (t : Bool) → cond t at found + 403 ≤ length journal
      go true = omega (arith, e.within, entry_long (Amendment rec) e.size, within)
      go false = h
  found_room (Cancellation other) e h = h

-- ---- one entry further
pub entry_wide : (a : Action) → sized a ≡ true → 17 ≤ length (entry_of a)
entry_wide (Addition rec) z = omega (arith, entry_long (Addition rec) z)
entry_wide (Amendment rec) z = omega (arith, entry_long (Amendment rec) z)
entry_wide (Cancellation id) z = omega (arith, entry_long (Cancellation id) z)

entry_by_kind : (a : Action) → sized a ≡ true → length (entry_of a) ≡ body_length (number_of a) + 4
entry_by_kind (Addition rec) z = entry_long (Addition rec) z
entry_by_kind (Amendment rec) z = entry_long (Amendment rec) z
entry_by_kind (Cancellation id) z = entry_long (Cancellation id) z

module _ (journal : List ℕ) (end : ℕ) (id : List ℕ) (found at : ℕ) (g : Looking journal end id found at) (more : at < end) where
  record Ahead : Type 0 where
    act : Action
    others : List Action
    entry : EntryAt journal end at act
    sizes : all_sized others ≡ true
    bytes : take (end - (at + length (entry_of act))) (drop (at + length (entry_of act)) journal) ≡ entries_of others
    same : carried_from id (carried_by id (record_from journal found) act) others ≡ carried_from id (record_from journal 0) g.all.acts

  ahead : Ahead
  unfolding all_sized
  ahead = go g.rest g.sizes g.bytes g.same
    where
      go : (xs : List Action) → all_sized xs ≡ true → take (end - at) (drop at journal) ≡ entries_of xs
          → carried_from id (record_from journal found) xs ≡ carried_from id (record_from journal 0) g.all.acts → Ahead
      go [] z e s =
          let wide : length (take (end - at) (drop at journal)) ≡ end - at = length-take-le (end - at) (drop at journal) (rw length-drop (omega (arith, g.all.within))) in
          absurd (omega (arith, wide, ap length e, more))
      go (a ∷ xs) z e s =
          let p = (and-eq-true_iff (sized a) (all_sized xs)).0 z in
          record {
            act = a;
            others = xs;
            entry = entry_here journal end at g.all.within g.before a xs p.0 e;
            sizes = p.1;
            bytes = rest_here journal end at g.all.within g.before a xs p.0 e;
            same = s;
          }

  pub look_entry : (at + 17 ≤ length journal) × (at < 2000000)
  look_entry =
      let x = ahead in
      (omega (arith, x.entry.within, entry_wide x.act x.entry.size, g.all.within), omega (arith, more, g.all.within, g.all.bounded))

  pub look_kind : (r : Option Kind) → number_of_found r ≡ kind_at journal end at → IsSome r
  look_kind r er = kind_found r (λ z. kind_some ahead.act (sym (kind_read journal end at g.all.within ahead.act ahead.entry) ∙ sym er ∙ z))

  module _ (r : Option Kind) (er : number_of_found r ≡ kind_at journal end at) (k : Kind) (q : r ≡ Some k) (n : ℕ) (en : (n ≡ body_length (number_of_kind k)) × (13 ≤ n) × (n ≤ 399)) where
    abbrev kind : ℕ
    kind = number_of_kind k

    ek : kind ≡ kind_at journal end at
    ek = kind_told r _ er k q

    wide_so : length (entry_of ahead.act) ≡ n + 4
    wide_so =
        let x = ahead in
        entry_by_kind x.act x.entry.size ∙ ap (λ (k : ℕ). body_length k + 4) (sym (kind_read journal end at g.all.within x.act x.entry) ∙ sym ek) ∙ ap (λ (k : ℕ). k + 4) (sym en.0)

    pub look_on : (f : ℕ) → f ≡ found_at journal at kind id found → Looking journal end id f (at + (n + 4))
    look_on f ef =
        let x = ahead in
        let kind-so : kind ≡ number_of x.act = ek ∙ kind_read journal end at g.all.within x.act x.entry in
        let is : f ≡ found_at journal at (number_of x.act) id found = ef ∙ ap (λ (k : ℕ). found_at journal at k id found) kind-so in
        record {
          all = g.all;
          rest = x.others;
          sizes = x.sizes;
          bytes = ap (λ (w : ℕ). take (end - (at + w)) (drop (at + w) journal)) (sym wide_so) ∙ x.bytes;
          same = ap (λ (r : List ℕ). carried_from id r x.others) (ap (record_from journal) is ∙ found_is journal end at g.all.within id found x.act x.entry) ∙ x.same;
          before = omega (arith, x.entry.within, wide_so);
          room = subst (λ (r : ℕ). r + 403 ≤ length journal) (sym is) (found_room journal end at g.all.within id found x.act x.entry g.room);
        }

-- ---- one action taken off
-- a place that is found
module _ (file id : List ℕ) (c : Counts) (r : Option ℕ) (en : (number_of_place r ≡ record_number file id c.held) × (number_of_place r ≤ c.held)) (k : ℕ) (q : r ≡ Some k) where
  place : k ≡ place_of file id c.held
  place = sym (place_is file [] [] id c.held 0 r en k q)

  module _ (standing : Amounts) (rec : List ℕ) (er : rec ≡ record_at file k) (ea : Read rec standing) where
    pub cancellation_off : c.held * 401 ≤ length file → (last : ℕ) (m : Counts) (file' : List ℕ) → m ≡ counts_of (one_revived c.totals standing.cash.0 standing.price.0) c.held c.used
        → file' ≡ overlay file (k * 401 + 340) (32 ∷ 32 ∷ []) → CancellationOff file c last id (counts_of m.totals m.held last) file'
    cancellation_off fits last m file' em ef = record {
      filed = ef ∙ status_put file k 32 32 (place_within file [] [] id c.held 0 r en k q fits) ∙ ap (with_blank file) place;
      counted = rw (em, ea.0, ea.1, er, place);
    }

    pub amendment_off : (old : List ℕ) → id ≡ field_of old 1 → (back : Amounts) → Read old back → (last : ℕ) (m : Counts) (file' : List ℕ)
        → m ≡ counts_of (amounts_replaced c.totals standing.cash.0 standing.price.0 back.cash.0 back.price.0) c.held c.used → file' ≡ with_line file k old
        → AmendmentOff file c last old (counts_of m.totals m.held last) file'
    amendment_off old ei back eb last m file' em ef =
        let at : k ≡ place_of file (id_of old) c.held = place ∙ ap (λ (x : List ℕ). place_of file x c.held) ei in
        record {
          filed = ef ∙ ap (λ (x : ℕ). with_line file x old) at;
          counted = rw (em, ea.0, ea.1, eb.0, eb.1, er, at);
        }

-- the last place becomes zero
pub place_cleared : (file file' : List ℕ) (k : ℕ) → file' ≡ overlay file (k * 401 + 0) (zeros 401) → file' ≡ without_line file k
place_cleared file file' k e = e ∙ ap (λ (a : ℕ). overlay file a (zeros 401)) (add-zero (k * 401))

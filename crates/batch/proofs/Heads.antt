-- How the code reads an entry of the journal, against the action that prints it, both ways.
-- Assumes nothing.
use Prim.Native.Nat.{ℕ, ◌+◌, ◌-◌, ◌≤◌}
use mathlib.Core.Path.{◌≡◌, refl, sym, ap, ◌∙◌}
use mathlib.Core.Bool.{Bool, true, false, cond, ◌&&◌, and-eq-true_iff}
use mathlib.Core.List.{List, [], ◌∷◌, ◌++◌}
use native.Mathlib.Nat.{add-zero}
use native.Mathlib.Omega.{arith}
use borrow.Author.Tests.{le-leb, leb-true, eqb-true}
use lib.Dec.{eqb, leb}
use lib.ListN.{length, get_or, take, drop, length-drop}
use lib.Seq.{get_or-append-add, drop-append-add, drop-drop, take-add, take_at, length-take-le}
use Rattle.text.proofs.Booleans.{clash, by_cond}
use Rattle.text.proofs.Lists.{step}
use Rattle.batch.specs.Actions.{Action, Addition, Amendment, Cancellation, number_of, body_of, entry_of}
use Rattle.batch.specs.Entries.{body_length, entry_length, head, entry, head_stands, starts_entry, kind_at, body_at}

-- ---- the action's entry, and the code's
pub entry_same : (a : Action) → entry (number_of a) (body_of a) ≡ entry_of a
entry_same (Addition rec) = refl
entry_same (Amendment rec) = refl
entry_same (Cancellation id) = refl

pub entry_long : (a : Action) → length (body_of a) ≡ body_length (number_of a) → length (entry_of a) ≡ entry_length (number_of a)
entry_long (Addition rec) e = omega (arith, e)
entry_long (Amendment rec) e = omega (arith, e)
entry_long (Cancellation id) e = omega (arith, e)

pub kind_some : (a : Action) → number_of a ≡ 0 → ⊥
kind_some (Addition rec) = λ e. omega (arith, e)
kind_some (Amendment rec) = λ e. omega (arith, e)
kind_some (Cancellation id) = λ e. omega (arith, e)

-- the head of an entry tells its kind
head_kind : (a : Action) (rest j : List ℕ) (end at : ℕ) → entry_length (number_of a) ≤ end - at
    → ((i : ℕ) → get_or j (at + i) 0 ≡ get_or (entry_of a ++ rest) i 0) → get_or j at 0 ≡ get_or (entry_of a ++ rest) 0 0 → kind_at j end at ≡ number_of a
unfolding kind_at
head_kind (Addition rec) rest j end at h b z = rw (z, b 1, b 2, b 3, le-leb 403 (end - at) h)
head_kind (Amendment rec) rest j end at h b z = rw (z, b 1, b 2, b 3, le-leb 403 (end - at) h, le-leb 17 (end - at) (omega arith))
head_kind (Cancellation id) rest j end at h b z = rw (z, b 1, b 2, b 3, le-leb 17 (end - at) h) (go (leb 403 (end - at)))
  where
    go : (t : Bool) → ◌≡◌ {A = ℕ} (cond (cond t false false) 1 2) 2
    go true = refl
    go false = refl

body_taken : (a : Action) (rest : List ℕ) → length (body_of a) ≡ body_length (number_of a) → take (body_length (number_of a)) (drop 4 (entry_of a ++ rest)) ≡ body_of a
body_taken (Addition rec) rest e = take_at rec rest 399 e
body_taken (Amendment rec) rest e = take_at rec rest 399 e
body_taken (Cancellation id) rest e = take_at id rest 13 e

module _ (pre rest : List ℕ) (a : Action) (e : length (body_of a) ≡ body_length (number_of a)) where
  byte : (i : ℕ) → get_or (pre ++ (entry_of a ++ rest)) (length pre + i) 0 ≡ get_or (entry_of a ++ rest) i 0
  byte i = get_or-append-add pre (entry_of a ++ rest) i 0

  pub kind_here : (end : ℕ) → length pre + entry_length (number_of a) ≤ end → kind_at (pre ++ (entry_of a ++ rest)) end (length pre) ≡ number_of a
  kind_here end h =
      head_kind a rest (pre ++ (entry_of a ++ rest)) end (length pre) (omega arith) byte
      (ap (λ (k : ℕ). get_or (pre ++ (entry_of a ++ rest)) k 0) (sym (add-zero (length pre))) ∙ byte 0)

  pub body_here : body_at (pre ++ (entry_of a ++ rest)) (length pre) (number_of a) ≡ body_of a
  body_here = ap (take (body_length (number_of a))) (drop-append-add pre (entry_of a ++ rest) 4) ∙ body_taken a rest e

-- ---- the entry that stands at u
pub record EntryHere (j : List ℕ) (end u : ℕ) : Type 0 where
  pub act : Action
  pub kind : kind_at j end u ≡ number_of act
  pub body : body_at j u (number_of act) ≡ body_of act
  pub sized : length (body_of act) ≡ body_length (number_of act)
  pub bytes : take (length (entry_of act)) (drop u j) ≡ entry_of act
  pub within : u + length (entry_of act) ≤ end

four : (j : List ℕ) (u : ℕ) → u + 4 ≤ length j → take 4 (drop u j) ≡ get_or j u 0 ∷ get_or j (u + 1) 0 ∷ get_or j (u + 2) 0 ∷ get_or j (u + 3) 0 ∷ []
four j u h =
    let two : u + 1 + 1 ≡ u + 2 = omega arith in
    let three : u + 2 + 1 ≡ u + 3 = omega arith in
    rw (step j u (omega arith), step j (u + 1) (omega arith), two, step j (u + 2) (omega arith), three, step j (u + 3) (omega arith))

-- the four bytes of a head, and room for the entry
pub record Headed (j : List ℕ) (end u size low high kind : ℕ) : Type 0 where
  pub room : size ≤ end - u
  pub bytes : u + 4 ≤ length j → take 4 (drop u j) ≡ low ∷ high ∷ kind ∷ 0 ∷ []

headed : (j : List ℕ) (end u size low high kind : ℕ) → head_stands j end u size low high kind ≡ true → Headed j end u size low high kind
headed j end u size low high kind = by_cond P (leb size (end - u)) _ false (λ r h. there r h) (λ r h. absurd (clash h refl))
  where
    P : Bool → Type 0
    P b = b ≡ true → Headed j end u size low high kind

    there : leb size (end - u) ≡ true
        → (eqb (get_or j u 0) low && eqb (get_or j (u + 1) 0) high && eqb (get_or j (u + 2) 0) kind && eqb (get_or j (u + 3) 0) 0) ≡ true → Headed j end u size low high kind
    there r h =
        let p = (and-eq-true_iff (eqb (get_or j u 0) low && eqb (get_or j (u + 1) 0) high && eqb (get_or j (u + 2) 0) kind) (eqb (get_or j (u + 3) 0) 0)).0 h in
        let q = (and-eq-true_iff (eqb (get_or j u 0) low && eqb (get_or j (u + 1) 0) high) (eqb (get_or j (u + 2) 0) kind)).0 p.0 in
        let t = (and-eq-true_iff (eqb (get_or j u 0) low) (eqb (get_or j (u + 1) 0) high)).0 q.0 in
        record {
          room = leb-true size (end - u) r;
          bytes = λ l. four j u l ∙ rw (eqb-true (get_or j u 0) low t.0, eqb-true (get_or j (u + 1) 0) high t.1, eqb-true (get_or j (u + 2) 0) kind q.1, eqb-true (get_or j (u + 3) 0) 0 p.1);
        }

module _ (j : List ℕ) (end u : ℕ) (lim : end ≤ length j) where
  body_long : (size : ℕ) → size + 4 ≤ end - u → length (take size (drop (u + 4) j)) ≡ size
  body_long size h = length-take-le size (drop (u + 4) j) (rw length-drop (omega arith))

  entry_bytes : (size : ℕ) (h : List ℕ) → length h ≡ 4 → take 4 (drop u j) ≡ h → take (4 + size) (drop u j) ≡ h ++ take size (drop (u + 4) j)
  entry_bytes size h l e = take-add 4 size (drop u j) ∙ rw (e, drop-drop 4 u j)

  entry_as_lem : (a : Action) → kind_at j end u ≡ number_of a → body_at j u (number_of a) ≡ body_of a → head_stands j end u (entry_length (number_of a)) (get_or (head (number_of a)) 0 0) (get_or (head (number_of a)) 1 0) (number_of a) ≡ true
      → length (head (number_of a)) ≡ 4 → (get_or (head (number_of a)) 0 0 ∷ get_or (head (number_of a)) 1 0 ∷ number_of a ∷ 0 ∷ []) ≡ head (number_of a) → EntryHere j end u
  entry_as_lem a ek eb h four-long is-head =
      let g = headed j end u (entry_length (number_of a)) (get_or (head (number_of a)) 0 0) (get_or (head (number_of a)) 1 0) (number_of a) h in
      let sized : length (body_of a) ≡ body_length (number_of a) = ap length (sym eb) ∙ body_long (body_length (number_of a)) g.room in
      let long = entry_long a sized in
      let four-here : u + 4 ≤ length j = omega (arith, g.room) in
      let split : length (entry_of a) ≡ 4 + body_length (number_of a) = omega arith in
      record {
        act = a;
        kind = ek;
        body = eb;
        sized = sized;
        bytes = ap (λ (k : ℕ). take k (drop u j)) split ∙ entry_bytes (body_length (number_of a)) (head (number_of a)) four-long (g.bytes four-here ∙ is-head) ∙ ap (λ (t : List ℕ). head (number_of a) ++ t) eb ∙ entry_same a;
        within = omega (arith, g.room);
      }

  pub entry_here : (kind_at j end u ≡ 0 → ⊥) → EntryHere j end u
  unfolding kind_at
  entry_here n = go (starts_entry j end u 1) (starts_entry j end u 2) (starts_entry j end u 3) refl refl refl
    where
      go : (x y z : Bool) → starts_entry j end u 1 ≡ x → starts_entry j end u 2 ≡ y → starts_entry j end u 3 ≡ z → EntryHere j end u
      go true y z ex ey ez = entry_as_lem (Addition (body_at j u 1)) (rw ex) refl ex refl refl
      go false true z ex ey ez = entry_as_lem (Cancellation (body_at j u 2)) (rw (ex, ey)) refl ey refl refl
      go false false true ex ey ez = entry_as_lem (Amendment (body_at j u 3)) (rw (ex, ey, ez)) refl ez refl refl
      go false false false ex ey ez = absurd (n (rw (ex, ey, ez)))

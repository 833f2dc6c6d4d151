-- Reading what actions printed gives the list back, and only what prints so is read. The laws on heads go over any table of kinds that can be told
-- apart by their numbers.
-- Assumes nothing.
use Prim.Native.Nat.{ℕ, zero, suc, ◌/◌, ◌%◌, ◌≤◌}
use mathlib.Core.Path.{◌≡◌, refl, sym, ap, ◌∙◌, subst}
use mathlib.Core.Logic.{◌⊎◌, inl, inr}
use mathlib.Core.Bool.{Bool, true, false, ◌&&◌, and-eq-true_iff}
use mathlib.Core.List.{List, [], ◌∷◌, ◌++◌, append_assoc}
use mathlib.Core.Option.{Option, none, some, Option-elim, some-injective, none-ne-some}
use native.Mathlib.Nat.{add_comm}
use native.Mathlib.Omega.{arith}
use borrow.Author.Tests.{eq-eqb, ne_eqb, eqb-true, leb-true, le-leb}
use lib.Dec.{eqb, leb}
use lib.ListN.{length, get_or, take, drop, length-append, length-drop, take-append-drop}
use lib.Seq.{take_at, drop-append-add, drop-append_seam, drop-drop, length-take-le}
use Rattle.text.specs.Lists.{same_bytes}
use Rattle.text.proofs.Booleans.{by_cond}
use Rattle.text.proofs.Lists.{same_exactly, same_refl}
use Rattle.batch.specs.Actions.{Action, Addition, Amendment, Cancellation, Kind, kinds, kind_of, body_of, sized, all_sized, little_endian, entry_length, head_of, entry_of, entries_of, Entry, starts_as, entry_as, first_entry, behind_first, entries_in, actions_in, ReadExactly}

-- two numbers with the same writing are the same
number_once_lem : (a b : ℕ) → little_endian a ≡ little_endian b → a ≡ b
number_once_lem a b e =
    let low : a % 256 ≡ b % 256 = ap (λ (s : List ℕ). get_or s 0 0) e in
    let high : a / 256 ≡ b / 256 = ap (λ (s : List ℕ). get_or s 1 0) e in
    omega (arith, low, high)

-- ---- an entry of one kind
module _ (k : Kind) (body rest : List ℕ) (e : length body ≡ k.carries) where
  starts_here : starts_as k (head_of k ++ (body ++ rest)) ≡ true
  starts_here =
      rw (same_refl (head_of k), le-leb (entry_length k) (length (head_of k ++ (body ++ rest))) (omega (arith, length-append body rest)))

  behind_here : drop (entry_length k) (head_of k ++ (body ++ rest)) ≡ rest
  behind_here =
      ap (λ (n : ℕ). drop n (head_of k ++ (body ++ rest))) (add_comm k.carries 4)
      ∙ drop-append-add (head_of k) (body ++ rest) k.carries
      ∙ ap (λ (n : ℕ). drop n (body ++ rest)) (sym e)
      ∙ drop-append_seam body rest

  entry_here : entry_as k (head_of k ++ (body ++ rest)) ≡ record { action = k.action body; behind = rest }
  entry_here = rw (take_at body rest k.carries e, behind_here)

  -- the head of another kind is another
  other_head : (j : Kind) → (j.number ≡ k.number → ⊥) → starts_as j (head_of k ++ (body ++ rest)) ≡ false
  other_head j other = go (same_bytes (head_of k) (head_of j)) refl
    where
      go : (t : Bool) → same_bytes (head_of k) (head_of j) ≡ t → (t && leb (entry_length j) (length (head_of k ++ (body ++ rest)))) ≡ false
      go true s = absurd (other (number_once_lem j.number k.number (ap (drop 2) (sym ((same_exactly _ _).0 s)))))
      go false s = refl

-- ---- the first entry
-- k is a row of this table
abbrev IsRow : Kind → List Kind → Type 0
IsRow k [] = ⊥
IsRow k (j ∷ js) = (k ≡ j) ⊎ IsRow k js

-- k is a row of this table, and each row before it has another number
abbrev FirstRow : Kind → List Kind → Type 0
FirstRow k [] = ⊥
FirstRow k (j ∷ js) = (j ≡ k) ⊎ ((j.number ≡ k.number → ⊥) × FirstRow k js)

first_printed : (ks : List Kind) (k : Kind) (body rest : List ℕ) → length body ≡ k.carries → FirstRow k ks → first_entry ks (head_of k ++ (body ++ rest)) ≡ some (record { action = k.action body; behind = rest })
unfolding first_entry
first_printed [] k body rest e r = absurd r
first_printed (j ∷ js) k body rest e (inl is) = rw (is, starts_here k body rest e, entry_here k body rest e)
first_printed (j ∷ js) k body rest e (inr o) = rw (other_head k body rest e j o.0) (first_printed js k body rest e o.1)

-- what is read as the first entry stands at the front
record FirstRead (ks : List Kind) (s : List ℕ) (e : Entry) : Type 0 where
  row : Kind
  listed : IsRow row ks
  body : List ℕ
  long : length body ≡ row.carries
  action : e.action ≡ row.action body
  bytes : s ≡ head_of row ++ (body ++ e.behind)

first_read : (ks : List Kind) (s : List ℕ) (e : Entry) → first_entry ks s ≡ some e → FirstRead ks s e
unfolding first_entry
first_read [] s e = λ h. absurd (none-ne-some e h)
first_read (k ∷ ks) s e = by_cond P (starts_as k s) _ _ (λ b h. here b (some-injective _ _ h)) (λ b h. further (first_read ks s e h))
  where
    P : Option Entry → Type 0
    P r = r ≡ some e → FirstRead (k ∷ ks) s e

    here : starts_as k s ≡ true → entry_as k s ≡ e → FirstRead (k ∷ ks) s e
    here b is =
        let p = (and-eq-true_iff (same_bytes (take 4 s) (head_of k)) (leb (entry_length k) (length s))).0 b in
        let front = (same_exactly (take 4 s) (head_of k)).0 p.0 in
        let wide = leb-true (entry_length k) (length s) p.1 in
        let long : length (take k.carries (drop 4 s)) ≡ k.carries = length-take-le k.carries (drop 4 s) (rw length-drop (omega (arith, wide))) in
        let rest : drop k.carries (drop 4 s) ≡ e.behind = drop-drop k.carries 4 s ∙ ap (λ (n : ℕ). drop n s) (add_comm 4 k.carries) ∙ ap (λ (x : Entry). x.behind) is in
        record {
          row = k;
          listed = inl refl;
          body = take k.carries (drop 4 s);
          long = long;
          action = ap (λ (x : Entry). x.action) (sym is);
          bytes = sym (take-append-drop 4 s)
              ∙ ap (λ (t : List ℕ). t ++ drop 4 s) front
              ∙ ap (λ (t : List ℕ). head_of k ++ t) (sym (take-append-drop k.carries (drop 4 s)) ∙ ap (λ (t : List ℕ). take k.carries (drop 4 s) ++ t) rest);
        }

    further : FirstRead ks s e → FirstRead (k ∷ ks) s e
    further f = record { row = f.row; listed = inr f.listed; body = f.body; long = f.long; action = f.action; bytes = f.bytes }

-- ---- the table of kinds: the row of each action is the first with its number, and each row prints as its action
row_of : (a : Action) → FirstRow (kind_of a) kinds
row_of (Addition rec) = inl refl
row_of (Amendment rec) = inr ((λ e. omega (arith, e)), inr ((λ e. omega (arith, e)), inl refl))
row_of (Cancellation id) = inr ((λ e. omega (arith, e)), inl refl)

of_row : (a : Action) → (kind_of a).action (body_of a) ≡ a
of_row (Addition rec) = refl
of_row (Amendment rec) = refl
of_row (Cancellation id) = refl

record PrintsAs (k : Kind) (body : List ℕ) : Type 0 where
  entry : entry_of (k.action body) ≡ head_of k ++ body
  size : length body ≡ k.carries → sized (k.action body) ≡ true

prints_as : (k : Kind) → IsRow k kinds → (body : List ℕ) → PrintsAs k body
prints_as k (inl e) body = subst (λ (j : Kind). PrintsAs j body) (sym e) record { entry = refl; size = eq-eqb (length body) 399 }
prints_as k (inr (inl e)) body = subst (λ (j : Kind). PrintsAs j body) (sym e) record { entry = refl; size = eq-eqb (length body) 13 }
prints_as k (inr (inr (inl e))) body = subst (λ (j : Kind). PrintsAs j body) (sym e) record { entry = refl; size = eq-eqb (length body) 399 }
prints_as k (inr (inr (inr e))) body = absurd e

-- ---- a list of entries
pub entry_first : (a : Action) (rest : List ℕ) → sized a ≡ true → first_entry kinds (entry_of a ++ rest) ≡ some (record { action = a; behind = rest })
entry_first a rest z =
    ap (first_entry kinds) (append_assoc (head_of (kind_of a)) (body_of a) rest)
    ∙ first_printed kinds (kind_of a) (body_of a) rest (eqb-true _ _ z) (row_of a)
    ∙ ap (λ (x : Action). some (record { action = x; behind = rest })) (of_row a)

pub entry_some : (a : Action) → 4 ≤ length (entry_of a)
entry_some a = omega (arith, length-append (head_of (kind_of a)) (body_of a))

pub read_printed : (n : ℕ) (xs : List Action) → length (entries_of xs) ≤ n → all_sized xs ≡ true → entries_in n (entries_of xs) ≡ some xs
unfolding entries_in all_sized Option-elim
read_printed zero [] h z = refl
read_printed zero (a ∷ xs) h z = absurd (omega (arith, h, entry_some a, length-append (entry_of a) (entries_of xs)))
read_printed (suc n) [] h z = refl
read_printed (suc n) (a ∷ xs) h z =
    let p = (and-eq-true_iff (sized a) (all_sized xs)).0 z in
    let l = length-append (entry_of a) (entries_of xs) in
    let some_bytes = entry_some a in
    rw (ne_eqb (length (entry_of a ++ entries_of xs)) 0 (λ e. omega (arith, e)), entry_first a (entries_of xs) p.0, read_printed n xs (omega (arith, h)) p.1)

pub record Printed (s : List ℕ) (xs : List Action) : Type 0 where
  pub sizes : all_sized xs ≡ true
  pub bytes : entries_of xs ≡ s

all_read : (s : List ℕ) (xs : List Action) → length s ≡ 0 → [] ≡ xs → Printed s xs
unfolding all_sized
all_read [] xs e is = subst (Printed []) is record { sizes = refl; bytes = refl }
all_read (b ∷ s) xs e is = absurd (omega (arith, e))

one_more_lem : (s : List ℕ) (e : Entry) (ys : List Action) → FirstRead kinds s e → Printed e.behind ys → Printed s (e.action ∷ ys)
unfolding all_sized
one_more_lem s e ys f p =
    let row-prints = prints_as f.row f.listed f.body in
    record {
      sizes = rw (f.action, row-prints.size f.long) p.sizes;
      bytes = (λ i. entry_of (f.action i) ++ p.bytes i) ∙ ap (λ (t : List ℕ). t ++ e.behind) row-prints.entry ∙ append_assoc (head_of f.row) f.body e.behind ∙ sym f.bytes;
    }

pub printed_read : (n : ℕ) (s : List ℕ) (xs : List Action) → entries_in n s ≡ some xs → Printed s xs
unfolding entries_in Option-elim
printed_read zero s xs = by_cond P (eqb (length s) 0) _ _ (λ e h. all_read s xs (eqb-true _ 0 e) (some-injective _ _ h)) (λ e h. absurd (none-ne-some xs h))
  where
    P : Option (List Action) → Type 0
    P r = r ≡ some xs → Printed s xs
printed_read (suc n) s xs =
    by_cond P (eqb (length s) 0) _ _ (λ e h. all_read s xs (eqb-true _ 0 e) (some-injective _ _ h))
    (λ e. go (printed_read n) (first_entry kinds s) refl)
  where
    P : Option (List Action) → Type 0
    P r = r ≡ some xs → Printed s xs

    behind : ((t : List ℕ) (ys : List Action) → entries_in n t ≡ some ys → Printed t ys) → (e : Entry) → first_entry kinds s ≡ some e → (o : Option (List Action)) → entries_in n e.behind ≡ o → behind_first e.action o ≡ some xs → Printed s xs
    behind further e f none b h = absurd (none-ne-some xs h)
    behind further e f (some ys) b h =
        subst (Printed s) (some-injective _ _ h) (one_more_lem s e ys (first_read kinds s e f) (further e.behind ys b))

    go : ((t : List ℕ) (ys : List Action) → entries_in n t ≡ some ys → Printed t ys) → (o : Option Entry) → first_entry kinds s ≡ o → Option-elim o none (λ e. behind_first e.action (entries_in n e.behind)) ≡ some xs → Printed s xs
    go further none f h = absurd (none-ne-some xs h)
    go further (some e) f h = behind further e f (entries_in n e.behind) refl h

pub read_exactly : (s : List ℕ) (xs : List Action) → ReadExactly s xs
read_exactly s xs = (
  λ h. let p = printed_read (length s) s xs h in (p.sizes, p.bytes),
  λ p. subst (λ (t : List ℕ). actions_in t ≡ some xs) p.1 (read_printed (length (entries_of xs)) xs (omega arith) p.0),
)

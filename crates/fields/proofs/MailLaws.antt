-- Field 13: exactly which bytes are an e-mail.
-- Assumes nothing.
use Prim.Native.Nat.{ℕ, zero, suc, ◌+◌, ◌-◌, ◌≤◌, ◌<◌}
use mathlib.Core.Path.{◌≡◌, refl, sym, ◌∙◌}
use mathlib.Core.Bool.{Bool, true, false, not, ◌&&◌, ◌||◌, or-true}
use mathlib.Core.Logic.{◌↔◌, ◌⊎◌}
use mathlib.Core.List.{List, [], ◌∷◌, ◌++◌}
use native.Mathlib.Numerals.{add-one}
use native.Mathlib.Omega.{arith}
use borrow.Author.Tests.{eqb-true, eq-eqb, eqb-false, ne_eqb, ltb-true, lt-ltb, not-true}
use lib.Dec.{eqb, leb, ltb}
use lib.ListN.{length, get_or, take, drop, replicate, length-append, length-take, length-drop, length-replicate, take-append-drop, get_or-append}
use lib.Seq.{split_at, get_or-take, get_or-drop, drop_at, get_or_at, length-take-le, drop-append-add}
use Rattle.text.specs.Bytes.{every, run}
use Rattle.text.specs.Lists.{part}
use Rattle.fields.specs.Texts.{is_plain, contains, at_in, behind_at, is_host, is_mail, mail_end, read_mail}
use Rattle.fields.specs.declared.reading.Reading.TheVariants.{Absent, Value}
use Rattle.text.proofs.Booleans.{clash}
use Rattle.text.proofs.Runs.{run_passes}
use Rattle.fields.specs.Meanings.{IsHostOf, IsMailOf}
use Rattle.fields.proofs.ByteLaws.{class_exactly, both_left, both_right, blank_exactly, not_blank, run_within, run_append}
use Rattle.fields.proofs.FrameLaws.{GoodPart, reads_exactly, reads_absent}

-- ---- a byte of the e-mail beside the "@": 21h to 7Eh or 80h to FFh
pub plain_byte_exactly : (b : ℕ) → b < 256 → (is_plain b ≡ true) ↔ ((((33 ≤ b) × (b ≤ 126)) ⊎ ((128 ≤ b) × (b ≤ 255))) × (b ≡ 64 → ⊥))
plain_byte_exactly b byte =
    let c = class_exactly 33 b byte in
    let class : Bool = leb 33 b && leb b 126 || leb 128 b in (
      λ h. (c.0 (both_left class (not (eqb b 64)) h), eqb-false b 64 (not-true (eqb b 64) (both_right class (not (eqb b 64)) h))),
      λ p. rw (c.1 p.0, ne_eqb b 64 p.1),
    )

-- ---- a byte that stands somewhere in a list
pub record Place (x : ℕ) (s : List ℕ) : Type 0 where
  pub at : ℕ
  pub within : at < length s
  pub there : get_or s at 0 ≡ x

contains_place : (x : ℕ) (s : List ℕ) → contains x s ≡ true → Place x s
unfolding contains
contains_place x [] h = absurd (clash h refl)
contains_place x (b ∷ s) h = go (eqb b x) refl h (contains_place x s)
  where
    go : (t : Bool) → eqb b x ≡ t → (t || contains x s) ≡ true → (contains x s ≡ true → Place x s) → Place x (b ∷ s)
    go true e c later = record { at = 0; within = omega arith; there = eqb-true b x e }
    go false e c later =
        let p = later c in
        record { at = suc p.at; within = omega (arith, p.within); there = p.there }

place_contains : (x : ℕ) (s : List ℕ) (i : ℕ) → i < length s → get_or s i 0 ≡ x → contains x s ≡ true
unfolding contains
place_contains x [] i l e = absurd (omega arith)
place_contains x (b ∷ s) zero l e = rw (eq-eqb b x e)
place_contains x (b ∷ s) (suc i) l e = rw (place_contains x s i (omega arith) e) (or-true (eqb b x))

-- `contains` says that the byte stands somewhere
pub contains_exactly : (x : ℕ) (s : List ℕ) → (contains x s ≡ true) ↔ Place x s
contains_exactly x s = (contains_place x s, λ p. place_contains x s p.at p.within p.there)

host_is : (h : List ℕ) → is_host h ≡ true → IsHostOf h (take (run is_plain h) h)
unfolding is_host
host_is h t =
    let r : ℕ = run is_plain h in
    let fits : r ≤ length h = run_within is_plain h in
    let long : length (take r h) ≡ r = length-take-le r h fits in
    let p = (contains_exactly 46 (part h 1 (r - 1))).0 (both_left (contains 46 (part h 1 (r - 1))) _ t) in
    let few : p.at < r - 1 - 1 = omega (arith, simp length-take at p.within) in
    let rest = (blank_exactly (length h - r) (drop r h)).0 (length-drop r h, both_right (contains 46 (part h 1 (r - 1))) _ t) in
    record {
      bytes = rw (long, ← rest) (sym (take-append-drop r h));
      plain = run_passes is_plain h;
      dot = 1 + p.at;
      is_dot = get_or-take r h (1 + p.at) 0 (omega arith) ∙ sym (get_or-drop 1 h p.at 0) ∙ sym (get_or-take (r - 1 - 1) (drop 1 h) p.at 0 few) ∙ p.there;
      behind = omega arith;
      before = omega arith;
    }

run_spaces : (k : ℕ) → run is_plain (replicate k 32) ≡ 0
run_spaces zero = refl
run_spaces (suc k) = refl

run_sign : (s : List ℕ) → run is_plain (64 ∷ s) ≡ 0
run_sign s = refl

module _ (host : List ℕ) (k : ℕ) (plain : every is_plain host ≡ true) where
  host_run : run is_plain (host ++ replicate k 32) ≡ length host
  host_run = rw (run_append is_plain host (replicate k 32) plain, run_spaces k) (omega arith)

  is_host_lem : (dot : ℕ) → get_or host dot 0 ≡ 46 → 0 < dot → dot + 1 < length host → is_host (host ++ replicate k 32) ≡ true
  unfolding is_host
  is_host_lem dot e behind before =
      let h : List ℕ = host ++ replicate k 32 in
      let l : ℕ = length host in
      let long : length h ≡ l + k = rw (length-append host (replicate k 32), length-replicate {A = ℕ} k 32) in
      let within : dot - 1 < length (part h 1 (l - 1)) = simp (length-take, length-drop) (omega arith) in
      let one : 1 + (dot - 1) ≡ dot = omega arith in
      let there : get_or (part h 1 (l - 1)) (dot - 1) 0 ≡ 46 =
      get_or-take (l - 1 - 1) (drop 1 h) (dot - 1) 0 (omega arith) ∙ get_or-drop 1 h (dot - 1) 0 ∙ rw one (get_or-append host (replicate k 32) 0 dot (omega arith) ∙ e) in
      rw (host_run, place_contains 46 (part h 1 (l - 1)) (dot - 1) within there, drop_at host (replicate k 32) l refl)
      ((blank_exactly k (replicate k 32)).1 refl).1

-- a byte that isn't what stands behind a list stands in it
there_within : (s : List ℕ) (i x : ℕ) → get_or s i 0 ≡ x → 0 < x → i < length s
there_within [] i x e p = absurd (omega arith)
there_within (b ∷ s) zero x e p = omega arith
there_within (b ∷ s) (suc i) x e p = omega (arith, there_within s i x e p)

mail_split : (f : List ℕ) (a x : ℕ) → a < length f → get_or f a 0 ≡ x → f ≡ take a f ++ x ∷ drop (a + 1) f
mail_split f a x l e = rw (← e, add-one) (split_at f a 0 l)

mail_is : (f : List ℕ) (n : ℕ) → length f ≡ 50 → is_mail f ≡ true → mail_end f ≡ n → IsMailOf f n
unfolding is_mail
mail_is f n l t e =
    let a : ℕ = at_in f in
    let some : ltb 0 a ≡ true = search (both_left, both_right) in
    let sign : get_or f a 0 ≡ 64 = eqb-true (get_or f a 0) 64 (search (both_left, both_right)) in
    let there : is_host (behind_at f) ≡ true = search (both_left, both_right) in
    let fits : a < length f = there_within f a 64 sign (omega arith) in
    let h : List ℕ = behind_at f in
    let r : ℕ = run is_plain h in
    let k = host_is h there in
    let r-long : length (take r h) ≡ r = length-take-le r h (run_within is_plain h) in
    let a-long : length (take a f) ≡ a = length-take-le a f (omega arith) in
    let width : length h - length (take r h) ≡ 50 - n = omega (arith, length-drop (a + 1) f) in
    record {
      local = take a f;
      host = take r h;
      long = l;
      end = omega arith;
      bytes = rw (← width, ← k.bytes) (mail_split f a 64 fits sign);
      local_bytes = run_passes is_plain f;
      host_bytes = k.plain;
      not_first = omega (arith, ltb-true 0 a some);
      dot = k.dot;
      is_dot = k.is_dot;
      not_behind = k.behind;
      not_last = k.before;
    }

is_mail_lem : (f : List ℕ) (n : ℕ) → IsMailOf f n → GoodPart 50 f (is_mail f) × (mail_end f ≡ n)
unfolding is_mail
is_mail_lem f n i =
    let a : ℕ = length i.local in
    let rest : List ℕ = i.host ++ replicate (50 - n) 32 in
    let at-is : at_in f ≡ a =
    rw (i.bytes, run_append is_plain i.local (64 ∷ rest) i.local_bytes, run_sign rest) (omega arith) in
    let sign : get_or f a 0 ≡ 64 = rw i.bytes (get_or_at i.local 64 rest 0 a refl) in
    let behind : drop (a + 1) f ≡ rest = rw i.bytes (drop-append-add i.local (64 ∷ rest) 1) in
    let good : is_host rest ≡ true = is_host_lem i.host (50 - n) i.host_bytes i.dot i.is_dot i.not_behind i.not_last in
    let run_is : run is_plain rest ≡ length i.host = host_run i.host (50 - n) i.host_bytes in (
      record {
        long = i.long;
        filled = not_blank f a (there_within f a 64 sign (omega arith)) (λ e. omega arith);
        fine = rw (at-is, lt-ltb 0 a i.not_first, eq-eqb (get_or f a 0) 64 sign, behind) good;
      },
      rw (at-is, behind, run_is) (sym i.end),
    )

pub mail_exactly : (f : List ℕ) (n : ℕ) → (read_mail f ≡ Value n) ↔ IsMailOf f n
mail_exactly f n =
    let c = reads_exactly 50 f (is_mail f) (mail_end f) n in (
      λ h. let p = c.0 h in mail_is f n p.0.long p.0.fine p.1,
      λ i. c.1 (is_mail_lem f n i),
    )

pub mail_absent : (f : List ℕ) → (read_mail f ≡ Absent) ↔ (f ≡ replicate 50 32)
mail_absent f = reads_absent 50 f (is_mail f) (mail_end f)

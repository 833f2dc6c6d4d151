-- Services: the set of codes, the scan one byte on, and each way out.
-- Assumes nothing.
use Prim.Native.Nat.{ℕ, suc, ◌+◌, ◌-◌, ◌*◌, ◌%◌, ◌^◌, ◌≤◌, ◌<◌}
use mathlib.Core.Path.{◌≡◌, refl, sym, ap, ◌∙◌}
use mathlib.Core.Bool.{Bool, true, false, cond, not, ◌&&◌, and-eq-true_iff}
use mathlib.Core.List.{List, [], ◌∷◌, ◌++◌, map, append-nil}
use native.Mathlib.Omega.{arith}
use borrow.Author.Tests.{ne_eqb, le-ltb, le-leb, lt-leb, leb-true, leb-false, eqb-true}
use lib.Dec.{eqb, leb, ltb}
use lib.ListN.{length, get_or, take, drop, length-drop}
use lib.Seq.{take_all, append_snoc}
use Rattle.text.specs.Bytes.{is_blank}
use Rattle.text.specs.Numbers.{digits, decimal_places_up_to}
use Rattle.text.proofs.Lists.{step, ended}
use Rattle.fields.specs.declared.services.Scan.{Scan}
use Rattle.fields.specs.declared.services.Services.{Services}
use Rattle.fields.specs.declared.reading.Reading.TheVariants.{Absent, Value, Malformed}
use Rattle.fields.specs.Readings.{ServicesReading}
use Rattle.fields.specs.Codes.{numbers_from, codes, number_for, is_code}
use Rattle.fields.specs.Services.{in_front, words, numbers_in, has_code, no_services, with_code, added, read_by, read_services, how_many}
use Rattle.fields.specs.Frame.{framed, or_malformed, IsFramed}
use Rattle.std.specs.List.{filter}
use Rattle.std.specs.Prelude.{Option, Some, None, is_some, option_map}
use Rattle.fields.specs.Scans.{with_byte, key_from, key_of, number_at, codes_from, scan_of, added_one, behind_byte, finished}
use Rattle.fields.proofs.Bits.{with_fits, bit_past}
use Rattle.fields.proofs.CodeWays.{key_stuck, code_by_key}

-- ---- Services::has
pub has_not : (s : Services) (c : ℕ) → s.bits < 2 ^ 128 → 128 ≤ c → ltb c 128 ≡ has_code s c
unfolding has_code
has_not s c l h = le-ltb c 128 h ∙ sym (bit_past 128 c s.bits l h)

-- ---- Services::has_several_sizes
pub filter_counts : (test : ℕ → Bool) (ns : List ℕ) → length (filter test ns) ≡ how_many test ns
unfolding how_many
filter_counts test [] = refl
filter_counts test (n ∷ ns) = go (test n) (filter_counts test ns)
  where
    go : (t : Bool) → length (filter test ns) ≡ how_many test ns → length (cond t (n ∷ filter test ns) (filter test ns)) ≡ cond t (suc (how_many test ns)) (how_many test ns)
    go true e = ap suc e
    go false e = e

-- ---- with_code
pub code_below : (c : ℕ) → is_code c ≡ true → c < 128
code_below c h = omega (arith, leb-true c 127 ((and-eq-true_iff (leb 1 c) (leb c 127)).0 h).1)

pub with_code_fits : (s : Services) (c : ℕ) → s.bits < 2 ^ 128 → is_code c ≡ true → has_code s c ≡ false → s.bits + 2 ^ c < 2 ^ 128
unfolding has_code
with_code_fits s c l i e = with_fits 128 c s.bits l (code_below c i) e

power_fits : (k : ℕ) → k < 128 → 2 ^ k < 2 ^ 128
power_fits k h = let e : 0 + 2 ^ k < 2 ^ 128 = with_fits 128 k 0 (omega arith) h (bit_past 0 k 0 (omega arith) (omega arith)) in omega arith

-- what a shift of 1 gives
pub shifted : (k : ℕ) → k < 128 → 1 * 2 ^ k % 2 ^ 128 ≡ 2 ^ k
shifted k h = let l = power_fits k h in omega arith

-- ---- the scan: what it gives for the bytes that are left
unfoldable pub scanned : Scan → List ℕ → ServicesReading
scanned s bs = added s.services (codes_from s.word bs)

one_of : (t : Bool) (x : Services) → cond t (Value x) Malformed ≡ or_malformed (cond t (Some x) None)
one_of true x = refl
one_of false x = refl

-- where the words end
scan_end : (s : Scan) (bs : List ℕ) → codes_from s.word bs ≡ cond (is_blank bs) (number_at codes s.word) 0 ∷ [] → scanned s bs ≡ or_malformed (finished s bs)
unfolding scanned finished added added_one
scan_end s bs e = rw e (go (number_at codes s.word) (is_blank bs))
  where
    go : (c : ℕ) (q : Bool) → cond (is_code (cond q c 0) && not (has_code s.services (cond q c 0))) (Value (with_code s.services (cond q c 0))) Malformed
        ≡ or_malformed (cond q (cond (is_code c && not (has_code s.services c)) (Some (with_code s.services c)) None) None)
    go c true = one_of (is_code c && not (has_code s.services c)) (with_code s.services c)
    go c false = refl

-- one byte on
abbrev scanned_or : Option Scan → List ℕ → ServicesReading
scanned_or None bs = Malformed
scanned_or (Some t) bs = scanned t bs

scan_step : (s : Scan) (b : ℕ) (bs : List ℕ) → 32 < b → scanned_or (behind_byte s b) bs ≡ scanned s (b ∷ bs)
unfolding scanned behind_byte codes_from added added_one
scan_step s b bs h = rw (lt-leb b 32 h) (go (eqb b 43))
  where
    joined : (t : Bool) (x : Services) → scanned_or (option_map (λ t. scan_of t 0) (cond t (Some x) None)) bs ≡ cond t (added x (codes_from 0 bs)) Malformed
    joined true x = refl
    joined false x = refl

    go : (q : Bool) → scanned_or (cond q (option_map (λ t. scan_of t 0) (added_one s.services (number_at codes s.word))) (Some (scan_of s.services (with_byte s.word b)))) bs
        ≡ added s.services (cond q (number_at codes s.word ∷ codes_from 0 bs) (codes_from (with_byte s.word b) bs))
    go true = joined (is_code (number_at codes s.word) && not (has_code s.services (number_at codes s.word))) (with_code s.services (number_at codes s.word))
    go false = refl

module _ (f : List ℕ) (s : Scan) (i : ℕ) (r : ServicesReading) (known : scanned s (drop i f) ≡ r) where
  here : (o : Option Scan) → i < length f → 32 < get_or f i 0 → o ≡ behind_byte s (get_or f i 0) → scanned_or o (drop (i + 1) f) ≡ r
  here o h n g = rw g (scan_step s (get_or f i 0) (drop (i + 1) f) n ∙ rw (← step f i h) known)

  pub scan_on : (o : Option Scan) (t : Scan) → i < length f → 32 < get_or f i 0 → o ≡ behind_byte s (get_or f i 0) → o ≡ Some t → scanned t (drop (i + 1) f) ≡ r
  scan_on o t h n g e = rw e at (here o h n g)

  pub scan_fails : (o : Option Scan) → i < length f → 32 < get_or f i 0 → o ≡ behind_byte s (get_or f i 0) → o ≡ None → Malformed ≡ r
  scan_fails o h n g e = rw e at (here o h n g)

  pub scan_stops : (out : Option Services) → i < length f → get_or f i 0 ≤ 32 → out ≡ finished s (take (length f - i) (drop i f)) → or_malformed out ≡ r
  unfolding codes_from
  scan_stops out h n g =
      let rest : take (length f - i) (drop i f) ≡ drop i f = take_all (length f - i) (drop i f) (rw length-drop (omega arith)) in
      rw (g, rest) (sym (scan_end s (drop i f) (rw (step f i h, le-leb (get_or f i 0) 32 n)))) ∙ known

  pub scan_ends : (out : Option Services) → length f ≤ i → out ≡ added_one s.services (number_at codes s.word) → or_malformed out ≡ r
  unfolding codes_from finished
  scan_ends out h g =
      let none : drop i f ≡ [] = ended f i h in
      rw g (sym (scan_end s [] refl)) ∙ ap (scanned s) (sym none) ∙ known

-- ---- what the scan reads are the numbers of the words
abbrev ahead : List ℕ → List (List ℕ) → List (List ℕ)
ahead w [] = w ∷ []
ahead w (v ∷ vs) = (w ++ v) ∷ vs

ahead_none : (f : List ℕ) → ahead [] (words f) ≡ words f
unfolding words
ahead_none [] = refl
ahead_none (b ∷ f) = go (is_blank (b ∷ f)) (eqb b 43) (words f)
  where
    go : (s p : Bool) (ws : List (List ℕ)) → ahead [] (cond s ([] ∷ []) (cond p ([] ∷ ws) (in_front b ws))) ≡ cond s ([] ∷ []) (cond p ([] ∷ ws) (in_front b ws))
    go true p ws = refl
    go false true ws = refl
    go false false [] = refl
    go false false (w ∷ ws) = refl

ahead_byte : (w : List ℕ) (b : ℕ) (ws : List (List ℕ)) → ahead w (in_front b ws) ≡ ahead (w ++ b ∷ []) ws
ahead_byte w b [] = refl
ahead_byte w b (v ∷ vs) = ap (λ (u : List ℕ). u ∷ vs) (sym (append_snoc w b v))

key_snoc : (k : ℕ) (w : List ℕ) (b : ℕ) → key_from k (w ++ b ∷ []) ≡ with_byte (key_from k w) b
unfolding key_from
key_snoc k [] b = refl
key_snoc k (x ∷ w) b = key_snoc (with_byte k x) w b

-- a word with a space in it, or a byte below, is no code
byte_broken : (k b : ℕ) → b ≤ 32 → with_byte k b ≡ 65536
byte_broken k b h = rw (lt-leb 33 b (omega arith)) (go (ltb k 256))
  where
    go : (t : Bool) → cond (t && false) (k * 256 + b) 65536 ≡ 65536
    go true = refl
    go false = refl

key_broken : (k : ℕ) (w : List ℕ) (b : ℕ) (v : List ℕ) → b ≤ 32 → key_from k (w ++ b ∷ v) ≡ 65536
unfolding key_from
key_broken k [] b v h = ap (λ (n : ℕ). key_from n v) (byte_broken k b h) ∙ key_stuck v
key_broken k (x ∷ w) b v h = key_broken (with_byte k x) w b v h

no_code : number_at codes 65536 ≡ 0
unfolding codes numbers_from number_at key_from digits decimal_places_up_to
no_code = refl

broken_word : (w : List ℕ) (b : ℕ) (v : List ℕ) → b ≤ 32 → number_for codes (w ++ b ∷ v) ≡ 0
broken_word w b v h = sym (code_by_key (w ++ b ∷ v)) ∙ ap (number_at codes) (key_broken 0 w b v h) ∙ no_code

-- what is read behind the bytes of a word
abbrev AsWords : List ℕ → Type 0
AsWords bs = (s : Services) (w : List ℕ) → added s (codes_from (key_of w) bs) ≡ added s (map (number_for codes) (ahead w (words bs)))

module _ (b : ℕ) (bs : List ℕ) (s : Services) (w : List ℕ) where
  as_blank : is_blank (b ∷ bs) ≡ true → added s (codes_from (key_of w) (b ∷ bs)) ≡ added s (map (number_for codes) (ahead w (words (b ∷ bs))))
  unfolding codes_from words
  as_blank e =
      let space = eqb-true b 32 ((and-eq-true_iff (eqb b 32) (is_blank bs)).0 e).0 in
      rw (e, le-leb b 32 (omega arith), append-nil w, code_by_key w)

  as_broken : is_blank (b ∷ bs) ≡ false → b ≤ 32 → added s (codes_from (key_of w) (b ∷ bs)) ≡ added s (map (number_for codes) (ahead w (words (b ∷ bs))))
  unfolding codes_from words added
  as_broken e h = rw (e, le-leb b 32 h, ne_eqb b 43 (λ z. omega arith)) (go (words bs))
    where
      go : (ws : List (List ℕ)) → Malformed ≡ added s (map (number_for codes) (ahead w (in_front b ws)))
      go [] = rw (broken_word w b [] h)
      go (v ∷ vs) = rw (broken_word w b v h)

  as_plus : is_blank (b ∷ bs) ≡ false → 32 < b → eqb b 43 ≡ true → AsWords bs → added s (codes_from (key_of w) (b ∷ bs)) ≡ added s (map (number_for codes) (ahead w (words (b ∷ bs))))
  unfolding codes_from words added key_from
  as_plus e h p rest =
      let on : (t : Services) → added t (codes_from 0 bs) ≡ added t (map (number_for codes) (words bs)) = λ t. rest t [] ∙ ap (λ (ws : List (List ℕ)). added t (map (number_for codes) ws)) (ahead_none bs) in
      rw (e, lt-leb b 32 h, p, append-nil w, code_by_key w, on (with_code s (number_for codes w)))

  as_byte : is_blank (b ∷ bs) ≡ false → 32 < b → eqb b 43 ≡ false → AsWords bs → added s (codes_from (key_of w) (b ∷ bs)) ≡ added s (map (number_for codes) (ahead w (words (b ∷ bs))))
  unfolding codes_from words
  as_byte e h p rest = rw (e, lt-leb b 32 h, p, ← key_snoc 0 w b, ahead_byte w b (words bs)) (rest s (w ++ b ∷ []))

as_words : (bs : List ℕ) → AsWords bs
unfolding codes_from words
as_words [] s w = rw (append-nil w, code_by_key w)
as_words (b ∷ bs) s w = go (is_blank (b ∷ bs)) (leb b 32) (eqb b 43) refl refl refl (as_words bs)
  where
    go : (e l p : Bool) → is_blank (b ∷ bs) ≡ e → leb b 32 ≡ l → eqb b 43 ≡ p → AsWords bs → added s (codes_from (key_of w) (b ∷ bs)) ≡ added s (map (number_for codes) (ahead w (words (b ∷ bs))))
    go true l p ee el ep rest = as_blank b bs s w ee
    go false true p ee el ep rest = as_broken b bs s w ee (leb-true b 32 el)
    go false false true ee el ep rest = as_plus b bs s w ee (leb-false b 32 el) ep rest
    go false false false ee el ep rest = as_byte b bs s w ee (leb-false b 32 el) ep rest

pub scan_start : (f : List ℕ) → scanned (scan_of no_services 0) (drop 0 f) ≡ added no_services (numbers_in codes f)
unfolding scanned key_from
scan_start f = as_words f no_services [] ∙ ap (λ (ws : List (List ℕ)). added no_services (map (number_for codes) ws)) (ahead_none f)

-- ---- read_services
pub services_are : (f : List ℕ) (P : Option Services → Type 0) (r : ServicesReading) → IsFramed 30 f P r → ((o : Option Services) → P o → or_malformed o ≡ added no_services (numbers_in codes f))
    → r ≡ read_services f
unfolding IsFramed framed read_by
services_are f P r is each = is.2 ∙ go (eqb (length f) 30) (is_blank f) refl refl
  where
    told : (o : Option Services) → cond (is_some o) (or_malformed o) Malformed ≡ or_malformed o
    told None = refl
    told (Some s) = refl

    go : (l b : Bool) → eqb (length f) 30 ≡ l → is_blank f ≡ b → cond l (cond b Absent (cond (is_some is.0) (or_malformed is.0) Malformed)) Malformed ≡ cond l (cond b Absent (added no_services (numbers_in codes f))) Malformed
    go false b el eb = refl
    go true true el eb = refl
    go true false el eb = told is.0 ∙ each is.0 (is.1 (eqb-true (length f) 30 el) eb)

-- Fields at their offsets: reading returns a value if and only if the bytes encode it.
use Rattle.std.proofs.Common.{◌≡◌, ℕ, ◌+◌, ◌^◌, ◌<◌, ◌≤◌, Bool, true, false, cond, leb, ltb, List, ◌++◌, length, take, drop}
use Rattle.std.proofs.Common.{Result, Ok, Err, refl, sym, ap, subst, ◌∙◌, append_assoc, arith}
use Rattle.std.specs.Int.{Width, w16, byte_len, from_be_bytes, to_be_bytes}
use Rattle.std.proofs.lemmas.Bool.{le-ltb, leb-true, le-leb}
use Rattle.std.proofs.lemmas.List.{take_at, drop_at, drop-drop, length-drop, length-append}
use Rattle.lgm_gossip.specs.Fields.{Joined, fixed, number, counted}
use Rattle.lgm_gossip.specs.Places.{part, number_in}
use Rattle.lgm_gossip.specs.declared.fault.DecodeFault.{DecodeFault}
use Rattle.lgm_gossip.specs.declared.fault.DecodeFault.TheVariants.{Cut}
use Rattle.lgm_gossip.specs.reading.FieldReading.{laid_out}
use Rattle.lgm_gossip.proofs.WireLaws.{IsWide, wide16, IsBytes, IsBytes-drop}
use Rattle.lgm_gossip.proofs.FieldLaws.{IsField, IsText, fixed_field, number_field, counted_field}

-- n bytes at offset i are x, and after them, from offset j on, the bytes are a text of G
pub record IsAt (n i j : ℕ) (raw : List ℕ) (x : List ℕ) (G : List ℕ → Type 0) : Type 0 where
  pub is : part i n raw ≡ x
  pub long : 0 < n → j ≤ length raw
  pub behind : G (drop j raw)

-- the front of what is at an offset
front_is : {G : List ℕ → Type 0} (n i j : ℕ) (raw front back : List ℕ) → i + n ≡ j → length front ≡ n
    → drop i raw ≡ front ++ back → G back → IsAt n i j raw front G
front_is {G} n i j raw front back next len whole text =
    record {
      is = ap (take n) whole ∙ take_at front back n len;
      long = λ some. omega (arith, next, some, len, ap length whole, length-append front back, length-drop i raw);
      behind =
          subst (λ (left : List ℕ). G left) (sym (drop_at front back n len) ∙ sym (ap (drop n) whole)
          ∙ drop-drop n i raw ∙ ap (λ (k : ℕ). drop k raw) next) text;
    }

pub fixed_is : {G : List ℕ → Type 0} (n i j : ℕ) (raw x : List ℕ) → i + n ≡ j → Joined (fixed n x).Is G (drop i raw) → IsAt n i j raw x G
fixed_is {G} n i j raw x next joined =
    let len : length joined.front ≡ n = ap length joined.front_is.0 ∙ joined.front_is.1 in
    let at = front_is {G = G} n i j raw joined.front joined.back next len joined.whole joined.back_is in
    record { is = at.is ∙ joined.front_is.0; long = at.long; behind = at.behind }

-- the same for a number
pub record IsNumberAt (w : Width) (i j : ℕ) (raw : List ℕ) (x : ℕ) (G : List ℕ → Type 0) : Type 0 where
  pub is : number_in w i raw ≡ x
  pub long : 0 < byte_len w → j ≤ length raw
  pub behind : G (drop j raw)

pub number_is : {G : List ℕ → Type 0} (w : Width) (i j : ℕ) (raw : List ℕ) (x : ℕ) → IsWide w
    (256 ^ byte_len w) → i + byte_len w ≡ j → Joined (number w x).Is G (drop i raw) → IsNumberAt w i j raw x G
number_is {G} w i j raw x wide next joined =
    let len : length joined.front ≡ byte_len w = ap length joined.front_is.0 ∙ wide.len x in
    let at = front_is {G = G} (byte_len w) i j raw joined.front joined.back next len joined.whole joined.back_is in
    record { is = ap (from_be_bytes w) (at.is ∙ joined.front_is.0) ∙ wide.again x joined.front_is.1; long = at.long; behind = at.behind }

-- the same for bytes after their length
pub record IsCountedAt (i h j : ℕ) (raw x : List ℕ) (G : List ℕ → Type 0) : Type 0 where
  pub len : number_in w16 i raw ≡ length x
  pub is : part h (length x) raw ≡ x
  pub long : j ≤ length raw
  pub behind : G (drop j raw)

pub counted_is : {G : List ℕ → Type 0} (i h j : ℕ) (raw x : List ℕ) → i + 2 ≡ h → h + length x ≡ j
    → Joined (counted x).Is G (drop i raw) → IsCountedAt i h j raw x G
counted_is {G} i h j raw x first next joined =
    let prefix = to_be_bytes w16 (length x) in
    let whole : drop i raw ≡ prefix ++ (x ++ joined.back) =
    joined.whole ∙ ap (λ (s : List ℕ). s ++ joined.back) joined.front_is.0
    ∙ append_assoc prefix x joined.back in
    let a = front_is {G = λ (s : List ℕ). s ≡ x ++ joined.back} 2 i h raw prefix (x ++ joined.back) first (wide16.len (length x)) whole refl in
    let b = front_is {G = G} (length x) h j raw x joined.back next refl a.behind joined.back_is in
    record {
      len = ap (from_be_bytes w16) a.is ∙ wide16.again (length x) joined.front_is.1;
      is = b.is;
      long =
          omega (
            arith,
            a.long (omega arith),
            next,
            ap length a.behind,
            length-append x joined.back,
            length-drop h raw,
          );
      behind = b.behind;
    }

-- ---- what is at offsets encodes the fields

-- a field that is read at offset i, and after it, from offset j on, a text of G
pub joined_at : {A : Type 0} {at : List ℕ → Result (A × List ℕ) DecodeFault} {F : A → List ℕ → Type 0} {G : List ℕ → Type 0}
    → IsField at F → (x : A) (i j : ℕ) (raw : List ℕ) → IsBytes raw → at (drop i raw) ≡ Ok (x, drop j raw) → G (drop j raw)
    → Joined (F x) G (drop i raw)
joined_at {A} {at} {F} {G} field x i j raw fits e text =
    let t = field.takes (drop i raw) (x, drop j raw) (IsBytes-drop i raw fits) e in
    record { front = t.text; back = drop j raw; whole = t.parts; front_is = t.is; back_is = text }

pub is_fixed : {G : List ℕ → Type 0} (n i j : ℕ) (raw : List ℕ) → IsBytes raw → i + n ≡ j → j ≤ length raw → G (drop j raw)
    → Joined (fixed n (part i n raw)).Is G (drop i raw)
is_fixed {G} n i j raw fits next long text =
    let enough : ltb (length (drop i raw)) n ≡ false = le-ltb _ _ (omega (arith, next, long, length-drop i raw)) in
    joined_at {G = G} (fixed_field n) (part i n raw) i j raw fits
    (rw enough (ap (λ (left : List ℕ). Ok (part i n raw, left)) (drop-drop n i raw ∙ ap (λ (k : ℕ). drop k raw) next))) text

pub is_number : {G : List ℕ → Type 0} (w : Width) (i j : ℕ) (raw : List ℕ) → IsWide w (256 ^ byte_len w) → IsBytes raw
    → i + byte_len w ≡ j → j ≤ length raw → G (drop j raw) → Joined (number w (number_in w i raw)).Is G (drop i raw)
is_number {G} w i j raw wide fits next long text =
    let enough : ltb (length (drop i raw)) (byte_len w) ≡ false = le-ltb _ _ (omega (arith, next, long, length-drop i raw)) in
    joined_at {G = G} (number_field w wide) (number_in w i raw) i j raw fits
    (rw enough (ap (λ (left : List ℕ). Ok (number_in w i raw, left)) (drop-drop (byte_len w) i raw ∙ ap (λ (k : ℕ). drop k raw) next))) text

pub is_counted : {G : List ℕ → Type 0} (i h j : ℕ) (raw : List ℕ) → IsBytes raw → i + 2 ≡ h → h + number_in w16 i raw ≡ j
    → j ≤ length raw → G (drop j raw) → Joined (counted (part h (number_in w16 i raw) raw)).Is G (drop i raw)
is_counted {G} i h j raw fits first next long text =
    let n = number_in w16 i raw in
    let prefix : ltb (length (drop i raw)) 2 ≡ false = le-ltb _ _ (omega (arith, first, next, long, length-drop i raw)) in
    let behind : drop 2 (drop i raw) ≡ drop h raw = drop-drop 2 i raw ∙ ap (λ (k : ℕ). drop k raw) first in
    let enough : ltb (length (drop h raw)) n ≡ false = le-ltb _ _ (omega (arith, next, long, length-drop h raw)) in
    joined_at {G = G} counted_field (part h n raw) i j raw fits
    (rw (prefix, behind, enough) (ap (λ (left : List ℕ). Ok (part h n raw, left)) (drop-drop n h raw ∙ ap (λ (k : ℕ). drop k raw) next))) text

-- ---- whole messages

-- fields at their offsets in a message that is as long as all of them, or a message of these fields
pub record IsRead {M : Type 0} (len : List ℕ → ℕ) (at : List ℕ → M) (m : M) (raw : List ℕ) : Type 0 where
  pub long : len raw ≤ length raw
  pub is : at raw ≡ m

pub laid_out_text : {M : Type 0} {F : M → List ℕ → Type 0} (len : List ℕ → ℕ) (at : List ℕ → M)
    → ((raw : List ℕ) → IsBytes raw → len raw ≤ length raw → F (at raw) raw)
    → ((m : M) (raw : List ℕ) → F m raw → IsRead len at m raw)
    → IsText (λ raw. laid_out (len raw) (at raw) raw) F
laid_out_text {M} {F} len at spells read = record {
  takes = λ raw m fits e.
      let g = cut_or (leb (len raw) (length raw)) (at raw) m e in
      subst (λ (x : M). F x raw) g.1 (spells raw fits (leb-true _ _ g.0));
  again = λ m raw text.
      let r = read m raw text in
      rw (le-leb _ _ r.long) (ap (λ (x : M). Ok x) r.is);
}
  where
    cut_or : (b : Bool) (x y : M) → cond b (Ok x) (Err Cut) ≡ Ok y → (b ≡ true) × (x ≡ y)
    cut_or true x y e = (refl, cc)
    cut_or false x y e = absurd cc

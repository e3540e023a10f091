-- BigSize: bytes that are read encode the value, an encoding is read as its value, and which fault it is otherwise.
use Rattle.std.proofs.Common.{◌≡◌, ℕ, suc, ◌^◌, ◌<◌, ◌≤◌, false, cond, ltb, List, [], ◌∷◌, ◌++◌}
use Rattle.std.proofs.Common.{length, take, drop, Ok, Err, refl, sym, ap, ◌∙◌, arith, inl, inr}
use Rattle.std.specs.Int.{Width, w16, w32, w64, byte_len, from_be_bytes, to_be_bytes}
use Rattle.std.proofs.lemmas.Bool.{cases_lt, cases_eq, ltb-false, lt-ltb, le-ltb}
use Rattle.std.proofs.lemmas.List.{take_at, drop_at, length-append}
use Rattle.lgm_wire.proofs.ReadingLaws.{chosen, ok_is}
use Rattle.lgm_wire.specs.declared.fault.WireFault.TheVariants.{Cut, NotMinimal}
use Rattle.lgm_wire.specs.BigSize.{bigsize_bytes, form_len, form_value}
use Rattle.lgm_wire.specs.reading.BigSizeReading.{long_form_at, bigsize_at}
use Rattle.lgm_wire.proofs.Bytes.{IsBytes, IsBytes-rest, IsBytes-take, IsBytes-drop, IsWide, wide16, wide32, wide64, front_is}

-- ---- after the first byte of a long form

-- the bytes begin with a number of this width, of at least this value
pub record LongFormSpelled (w : Width) (least limit : ℕ) (bytes : List ℕ) (v : ℕ) (rest : List ℕ) : Type 0 where
  pub parts : bytes ≡ to_be_bytes w v ++ rest
  pub least_is : least ≤ v
  pub limit_is : v < limit
  pub rest_fits : IsBytes rest

-- reading returns a value if and only if the bytes encode it
pub long_form_spelled : (w : Width) (least limit : ℕ) (wide : IsWide w limit) (bytes : List ℕ) (v : ℕ)
    (rest : List ℕ) → IsBytes bytes → long_form_at w least bytes ≡ Ok (v, rest)
    → LongFormSpelled w least limit bytes v rest
long_form_spelled w least limit wide bytes v rest fits e =
    let n : ℕ = from_be_bytes w (take (byte_len w) bytes) in
    elim (chosen (ltb (length bytes) (byte_len w)) (Err Cut)
    (cond (ltb n least) (Err NotMinimal) (Ok (n, drop (byte_len w) bytes))) (Ok (v, rest)) e) [
      | inl short ↦ absurd cc
      | inr long ↦ elim (chosen (ltb n least) (Err NotMinimal) (Ok (n, drop (byte_len w) bytes)) (Ok (v, rest)) long.1) [
        | inl small ↦ absurd cc
        | inr large ↦
            let same = ok_is (n, drop (byte_len w) bytes) (v, rest) large.1 in
            let v-is : n ≡ v = ap (λ (p : ℕ × List ℕ). p.0) same in
            let rest-is : drop (byte_len w) bytes ≡ rest = ap (λ (p : ℕ × List ℕ). p.1) same in
            let least_le : least ≤ n = ltb-false _ _ large.0 in
            let below : n < limit = wide.below (take (byte_len w) bytes) (IsBytes-take (byte_len w) bytes fits) in
            record {
              parts = rw (← v-is, ← rest-is) (sym (front_is w limit wide bytes fits (ltb-false _ _ long.0)));
              least_is = omega arith;
              limit_is = omega arith;
              rest_fits = rw (← rest-is) (IsBytes-drop (byte_len w) bytes fits);
            }
      ]
    ]

pub long_form_at-to_be_bytes : (w : Width) (least limit : ℕ) (wide : IsWide w limit) (v : ℕ) (rest : List ℕ)
    → least ≤ v → v < limit → long_form_at w least (to_be_bytes w v ++ rest) ≡ Ok (v, rest)
long_form_at-to_be_bytes w least limit wide v rest le lt =
    let len = wide.len v in
    let long : ltb (length (to_be_bytes w v ++ rest)) (byte_len w) ≡ false = le-ltb _ _ (omega (arith, length-append (to_be_bytes w v) rest)) in
    rw (
      long,
      take_at (to_be_bytes w v) rest (byte_len w) len,
      drop_at (to_be_bytes w v) rest (byte_len w) len,
      wide.again v lt,
      le-ltb v least le,
    ) refl

-- the two faults, and the rest
pub long_form_at-cut : (w : Width) (least : ℕ) (bytes : List ℕ) → length bytes < byte_len w → long_form_at w least bytes ≡ Err Cut
long_form_at-cut w least bytes lt = rw (lt-ltb (length bytes) (byte_len w) lt) refl

pub long_form_at-not_minimal : (w : Width) (least : ℕ) (bytes : List ℕ) → byte_len w ≤ length bytes
    → from_be_bytes w (take (byte_len w) bytes) < least → long_form_at w least bytes ≡ Err NotMinimal
long_form_at-not_minimal w least bytes le lt = rw (le-ltb (length bytes) (byte_len w) le, lt-ltb _ least lt) refl

pub long_form_at-ok : (w : Width) (least : ℕ) (bytes : List ℕ) → byte_len w ≤ length bytes
    → least ≤ from_be_bytes w (take (byte_len w) bytes)
    → long_form_at w least bytes ≡ Ok (from_be_bytes w (take (byte_len w) bytes), drop (byte_len w) bytes)
long_form_at-ok w least bytes le ge = rw (le-ltb (length bytes) (byte_len w) le, le-ltb _ least ge) refl

-- ---- the encoding, form by form

pub bigsize_bytes-one_byte : (v : ℕ) → v < 0xfd → bigsize_bytes v ≡ v ∷ []
bigsize_bytes-one_byte v lt = rw (lt-ltb v 0xfd lt) refl

pub bigsize_bytes-three_bytes : (v : ℕ) → 0xfd ≤ v → v < 0x10000 → bigsize_bytes v ≡ 0xfd ∷ to_be_bytes w16 v
bigsize_bytes-three_bytes v le lt = rw (le-ltb v 0xfd le, lt-ltb v 0x10000 lt) refl

pub bigsize_bytes-five_bytes : (v : ℕ) → 0x10000 ≤ v → v < 0x100000000 → bigsize_bytes v ≡ 0xfe ∷ to_be_bytes w32 v
bigsize_bytes-five_bytes v le lt =
    let a : 0xfd ≤ v = omega arith in
    rw (le-ltb v 0xfd a, le-ltb v 0x10000 le, lt-ltb v 0x100000000 lt) refl

pub bigsize_bytes-nine_bytes : (v : ℕ) → 0x100000000 ≤ v → bigsize_bytes v ≡ 0xff ∷ to_be_bytes w64 v
bigsize_bytes-nine_bytes v le =
    let a : 0xfd ≤ v = omega arith in
    let b : 0x10000 ≤ v = omega arith in
    rw (le-ltb v 0xfd a, le-ltb v 0x10000 b, le-ltb v 0x100000000 le) refl

-- no encoding is empty
pub length-bigsize_bytes : (v : ℕ) → 0 < length (bigsize_bytes v)
length-bigsize_bytes v =
    elim (cases_lt v 0xfd) [
      | inl a ↦ rw (bigsize_bytes-one_byte v a) (omega arith)
      | inr a ↦ elim (cases_lt v 0x10000) [
        | inl b ↦ rw (bigsize_bytes-three_bytes v a b) (omega arith)
        | inr b ↦ elim (cases_lt v 0x100000000) [
          | inl c ↦ rw (bigsize_bytes-five_bytes v b c) (omega arith)
          | inr c ↦ rw (bigsize_bytes-nine_bytes v c) (omega arith)
        ]
      ]
    ]

-- a form longer than one byte, after its first byte
pub record IsForm (first : ℕ) (w : Width) (least limit : ℕ) : Type 0 where
  pub wide : IsWide w limit
  pub at : (rest : List ℕ) → bigsize_at (first ∷ rest) ≡ long_form_at w least rest
  pub len : (rest : List ℕ) → form_len (first ∷ rest) ≡ suc (byte_len w)
  pub value : (rest : List ℕ) → form_value (first ∷ rest) ≡ from_be_bytes w (take (byte_len w) rest)
  pub spelled : (v : ℕ) → least ≤ v → v < limit → bigsize_bytes v ≡ first ∷ to_be_bytes w v
  pub shorter : (v : ℕ) → v < least → length (bigsize_bytes v) < suc (byte_len w)
  pub fits : limit ≤ 2 ^ 64

-- the three of them
pub form16 : IsForm 0xfd w16 0xfd (2 ^ 16)
unfolding bigsize_at
form16 = record {
  wide = wide16;
  at = λ rest. refl;
  len = λ rest. refl;
  value = λ rest. refl;
  spelled = bigsize_bytes-three_bytes;
  shorter = λ v lt. rw (bigsize_bytes-one_byte v lt) (omega arith);
  fits = omega arith;
}

pub form32 : IsForm 0xfe w32 0x10000 (2 ^ 32)
unfolding bigsize_at
form32 = record {
  wide = wide32;
  at = λ rest. refl;
  len = λ rest. refl;
  value = λ rest. refl;
  spelled = bigsize_bytes-five_bytes;
  shorter = λ v lt. elim (cases_lt v 0xfd) [
    | inl a ↦ rw (bigsize_bytes-one_byte v a) (omega arith)
    | inr a ↦ rw (bigsize_bytes-three_bytes v a lt) (omega arith)
  ];
  fits = omega arith;
}

pub form64 : IsForm 0xff w64 0x100000000 (2 ^ 64)
unfolding bigsize_at
form64 = record {
  wide = wide64;
  at = λ rest. refl;
  len = λ rest. refl;
  value = λ rest. refl;
  spelled = λ v le lt. bigsize_bytes-nine_bytes v le;
  shorter = λ v lt. elim (cases_lt v 0xfd) [
    | inl a ↦ rw (bigsize_bytes-one_byte v a) (omega arith)
    | inr a ↦ elim (cases_lt v 0x10000) [
      | inl b ↦ rw (bigsize_bytes-three_bytes v a b) (omega arith)
      | inr b ↦ rw (bigsize_bytes-five_bytes v b lt) (omega arith)
    ]
  ];
  fits = omega arith;
}

-- the first byte calls for one of the four forms
pub data Form : ℕ → Type 0 where
  one : {b : ℕ} → b < 0xfd → Form b
  more : {b : ℕ} (w : Width) (least limit : ℕ) → IsForm b w least limit → Form b

pub form_of : (b : ℕ) → b < 256 → Form b
form_of b lt =
    elim (cases_lt b 0xfd) [
      | inl a ↦ one a
      | inr a ↦ elim (cases_eq b 0xfd) [
        | inl e ↦ rw e (more w16 0xfd (2 ^ 16) form16)
        | inr n ↦ elim (cases_eq b 0xfe) [
          | inl e ↦ rw e (more w32 0x10000 (2 ^ 32) form32)
          | inr m ↦ let e : b ≡ 0xff = omega arith in rw e (more w64 0x100000000 (2 ^ 64) form64)
        ]
      ]
    ]

-- ---- reading returns a value if and only if the bytes encode it

-- the bytes begin with the encoding of a number
pub record BigSizeSpelled (bytes : List ℕ) (v : ℕ) (rest : List ℕ) : Type 0 where
  pub parts : bytes ≡ bigsize_bytes v ++ rest
  pub fits : v < 2 ^ 64
  pub rest_fits : IsBytes rest

-- reading one byte, and none
bigsize_at-one_byte : (b : ℕ) (rest : List ℕ) → b < 0xfd → bigsize_at (b ∷ rest) ≡ Ok (b, rest)
unfolding bigsize_at
bigsize_at-one_byte b rest lt = rw (lt-ltb b 0xfd lt) refl

bigsize_at-nil : bigsize_at [] ≡ Err Cut
unfolding bigsize_at
bigsize_at-nil = refl

-- bytes that are read encode the value
pub bigsize_spelled : (bytes : List ℕ) (v : ℕ) (rest : List ℕ) → IsBytes bytes → bigsize_at bytes ≡ Ok (v, rest) → BigSizeSpelled bytes v rest
bigsize_spelled [] v rest fits e = let bad = sym bigsize_at-nil ∙ e in absurd cc
bigsize_spelled (b ∷ bs) v rest fits e =
    elim (form_of b (fits 0)) [
      | one lt ↦
          let same = ok_is (b, bs) (v, rest) (sym (bigsize_at-one_byte b bs lt) ∙ e) in
          let v-is : b ≡ v = ap (λ (p : ℕ × List ℕ). p.0) same in
          let rest-is : bs ≡ rest = ap (λ (p : ℕ × List ℕ). p.1) same in
          record {
            parts = rw (← v-is, ← rest-is, bigsize_bytes-one_byte b lt) refl;
            fits = omega arith;
            rest_fits = rw (← rest-is) (IsBytes-rest b bs fits);
          }
      | more w least limit form ↦
          let t = long_form_spelled w least limit form.wide bs v rest (IsBytes-rest b bs fits) (sym (form.at bs) ∙ e) in
          record {
            parts = rw (form.spelled v t.least_is t.limit_is) (ap (λ (s : List ℕ). b ∷ s) t.parts);
            fits = let le = form.fits in let lt = t.limit_is in omega arith;
            rest_fits = t.rest_fits;
          }
    ]

-- an encoding is read as its value
pub bigsize_at-bigsize_bytes : (v : ℕ) (rest : List ℕ) → v < 2 ^ 64 → bigsize_at (bigsize_bytes v ++ rest) ≡ Ok (v, rest)
bigsize_at-bigsize_bytes v rest lt =
    elim (cases_lt v 0xfd) [
      | inl a ↦ ap (λ (s : List ℕ). bigsize_at (s ++ rest)) (bigsize_bytes-one_byte v a) ∙ bigsize_at-one_byte v rest a
      | inr a ↦ elim (cases_lt v 0x10000) [
        | inl b ↦ ap (λ (s : List ℕ). bigsize_at (s ++ rest)) (bigsize_bytes-three_bytes v a b) ∙ form16.at
            (to_be_bytes w16 v ++ rest) ∙ long_form_at-to_be_bytes w16 0xfd (2 ^ 16) wide16 v rest a b
        | inr b ↦ elim (cases_lt v 0x100000000) [
          | inl c ↦ ap (λ (s : List ℕ). bigsize_at (s ++ rest)) (bigsize_bytes-five_bytes v b c) ∙ form32.at
              (to_be_bytes w32 v ++ rest) ∙ long_form_at-to_be_bytes w32 0x10000 (2 ^ 32) wide32 v rest b c
          | inr c ↦ ap (λ (s : List ℕ). bigsize_at (s ++ rest)) (bigsize_bytes-nine_bytes v c)
              ∙ form64.at (to_be_bytes w64 v ++ rest)
              ∙ long_form_at-to_be_bytes w64 0x100000000 (2 ^ 64) wide64 v rest c lt
        ]
      ]
    ]

-- ---- which fault it is

-- the result of reading, by the length of the form and the shortest encoding of its number
pub data Outcome : List ℕ → Type 0 where
  cut : {bytes : List ℕ} → length bytes < form_len bytes → bigsize_at bytes ≡ Err Cut → Outcome bytes
  small : {bytes : List ℕ} → form_len bytes ≤ length bytes → length (bigsize_bytes (form_value bytes))
      < form_len bytes → bigsize_at bytes ≡ Err NotMinimal → Outcome bytes
  found : {bytes : List ℕ} → form_len bytes ≤ length bytes → form_len bytes
      ≤ length (bigsize_bytes (form_value bytes)) → (x : ℕ × List ℕ) → bigsize_at bytes ≡ Ok x → Outcome bytes

-- and it is one of the three
pub outcome : (bytes : List ℕ) → IsBytes bytes → Outcome bytes
outcome [] fits = cut (omega arith) bigsize_at-nil
outcome (b ∷ bs) fits =
    elim (form_of b (fits 0)) [
      | one lt ↦
          let len : form_len (b ∷ bs) ≡ 1 = rw (lt-ltb b 0xfd lt) refl in
          let value : form_value (b ∷ bs) ≡ b = rw (lt-ltb b 0xfd lt) refl in
          let size : length (bigsize_bytes (form_value (b ∷ bs))) ≡ 1 =
          ap (λ (k : ℕ). length (bigsize_bytes k)) value ∙ ap length (bigsize_bytes-one_byte b lt) in
          found (omega (arith, len)) (omega (arith, len, size)) (b, bs) (bigsize_at-one_byte b bs lt)
      | more w least limit form ↦
          let len = form.len bs in
          let value = form.value bs in
          let n : ℕ = from_be_bytes w (take (byte_len w) bs) in
          let size : length (bigsize_bytes (form_value (b ∷ bs))) ≡ length (bigsize_bytes n) = ap (λ (k : ℕ). length (bigsize_bytes k)) value in
          elim (cases_lt (length bs) (byte_len w)) [
            | inl short ↦ cut (rw len (omega arith)) (form.at bs ∙ long_form_at-cut w least bs short)
            | inr long ↦ elim (cases_lt n least) [
              | inl lt ↦ small (rw len (omega arith)) (rw (len, size) (form.shorter n lt)) (form.at bs ∙ long_form_at-not_minimal w least bs long lt)
              | inr ge ↦
                  let below : n < limit = form.wide.below (take (byte_len w) bs) (IsBytes-take (byte_len w) bs (IsBytes-rest b bs fits)) in
                  let spelt : length (bigsize_bytes n) ≡ suc (byte_len w) = ap length (form.spelled n ge below) ∙ ap suc (form.wide.len n) in
                  found (rw len (omega arith)) (rw (len, size, spelt) (omega arith)) (n, drop (byte_len w) bs)
                  (form.at bs ∙ long_form_at-ok w least bs long ge)
            ]
          ]
    ]

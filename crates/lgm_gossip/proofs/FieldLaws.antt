-- Fields: reading returns a value if and only if the bytes encode it.
use Rattle.std.proofs.Common.{◌≡◌, ℕ, ◌%◌, ◌^◌, ◌<◌, ◌≤◌, Bool, true, false, cond, ltb, List, [], ◌∷◌, ◌++◌, length}
use Rattle.std.proofs.Common.{get_or, take, drop, Result, Ok, Err, refl, sym, ap, subst, ◌∙◌, append_assoc, arith}
use Rattle.std.specs.Int.{Width, w8, w16, byte_len, from_be_bytes, to_be_bytes}
use Rattle.std.proofs.lemmas.Bool.{ltb-false, le-ltb}
use Rattle.std.proofs.lemmas.List.{take_at, drop_at, take-append-drop, length-append, length-take}
use Rattle.lgm_wire.specs.reading.Reading.{◌>>=◌}
use Rattle.lgm_gossip.proofs.WireLaws.{bind_ok, ok_is, IsBytes, IsBytes-take, IsBytes-drop, IsBytes-front, IsBytes-back, IsWide, wide16}
use Rattle.lgm_gossip.specs.declared.fault.DecodeFault.{DecodeFault}
use Rattle.lgm_gossip.specs.declared.fault.DecodeFault.TheVariants.{Cut}
use Rattle.lgm_gossip.specs.Fields.{fixed, number, counted, rest, Encloses}
use Rattle.lgm_gossip.specs.reading.FieldReading.{fixed_at, number_at, counted_at, enclosed_at, rest_at}

-- a text of F was read from the front
pub record Takes (F : List ℕ → Type 0) (bytes left : List ℕ) : Type 0 where
  pub text : List ℕ
  pub parts : bytes ≡ text ++ left
  pub is : F text
  pub left_fits : IsBytes left

-- a field: reading returns a value if and only if the bytes encode it
pub record IsField {A : Type 0} (at : List ℕ → Result (A × List ℕ) DecodeFault) (F : A → List ℕ → Type 0) : Type 0 where
  pub takes : (bytes : List ℕ) (x : A × List ℕ) → IsBytes bytes → at bytes ≡ Ok x → Takes (F x.0) bytes x.1
  pub again : (x : A) (text left : List ℕ) → F x text → at (text ++ left) ≡ Ok (x, left)

-- a field that is all that is left
pub record IsLast {A : Type 0} (at : List ℕ → Result (A × List ℕ) DecodeFault) (F : A → List ℕ → Type 0) : Type 0 where
  pub takes : (bytes : List ℕ) (x : A × List ℕ) → IsBytes bytes → at bytes ≡ Ok x → F x.0 bytes
  pub again : (x : A) (bytes : List ℕ) → F x bytes → at bytes ≡ Ok (x, [])

-- a test that let the reading continue
pub guard_ok : {A : Type 0} (b : Bool) (d : DecodeFault) (x y : A) → cond b (Err d) (Ok x) ≡ Ok y → (b ≡ false) × (x ≡ y)
guard_ok true d x y e = absurd cc
guard_ok false d x y e = (refl, cc)

pub fixed_field : (n : ℕ) → IsField (fixed_at n) (λ x. (fixed n x).Is)
fixed_field n = record {
  takes = λ bytes x fits e.
      let g = guard_ok (ltb (length bytes) n) Cut (take n bytes, drop n bytes) x e in
      let long : n ≤ length bytes = ltb-false _ _ g.0 in
      subst (λ (y : List ℕ × List ℕ). Takes (fixed n y.0).Is bytes y.1) g.1 (record {
        text = take n bytes;
        parts = sym (take-append-drop n bytes);
        is = (refl, omega (arith, length-take n bytes));
        left_fits = IsBytes-drop n bytes fits;
      });
  again = λ x text left is.
      let len : length text ≡ n = ap length is.0 ∙ is.1 in
      let long : ltb (length (text ++ left)) n ≡ false = le-ltb _ _ (omega (arith, length-append text left)) in
      rw (long, take_at text left n len, drop_at text left n len, is.0) refl;
}

pub number_field : (w : Width) → IsWide w (256 ^ byte_len w) → IsField (number_at w) (λ x. (number w x).Is)
number_field w wide = record {
  takes = λ bytes x fits e.
      let front = take (byte_len w) bytes in
      let g = guard_ok (ltb (length bytes) (byte_len w)) Cut (from_be_bytes w front, drop (byte_len w) bytes) x e in
      let long : byte_len w ≤ length bytes = ltb-false _ _ g.0 in
      subst (λ (y : ℕ × List ℕ). Takes (number w y.0).Is bytes y.1) g.1 (record {
        text = front;
        parts = sym (take-append-drop (byte_len w) bytes);
        is = (
          sym (wide.back front (omega (arith, length-take (byte_len w) bytes))
              (IsBytes-take (byte_len w) bytes fits)),
          wide.below front (IsBytes-take (byte_len w) bytes fits),
        );
        left_fits = IsBytes-drop (byte_len w) bytes fits;
      });
  again = λ x text left is.
      let len : length text ≡ byte_len w = ap length is.0 ∙ wide.len x in
      let long : ltb (length (text ++ left)) (byte_len w) ≡ false = le-ltb _ _ (omega (arith, length-append text left)) in
      rw (long, take_at text left (byte_len w) len, drop_at text left (byte_len w) len, is.0, wide.again x is.1) refl;
}

pub wide8 : IsWide w8 (2 ^ 8)
wide8 = record {
  len = λ n. refl;
  back = λ bytes len fits. one bytes len (fits 0);
  again = λ n lt. grind arith;
  below = λ bytes fits. omega (arith, fits 0);
}
  where
    one : (bytes : List ℕ) → length bytes ≡ 1 → get_or bytes 0 0 < 256 → to_be_bytes w8 (from_be_bytes w8 bytes) ≡ bytes
    one [] len lt = absurd (omega arith)
    one (b ∷ []) len lt = let same : b % 256 ≡ b = omega arith in ap (λ (k : ℕ). k ∷ []) same
    one (b ∷ c ∷ bs) len lt = absurd (omega arith)

pub counted_field : IsField counted_at (λ x. (counted x).Is)
counted_field =
    let prefix = number_field w16 wide16 in
    record {
      takes = λ bytes x fits e.
          let a = bind_ok (number_at w16 bytes) (λ n. fixed_at n.0 n.1) x e in
          let t = prefix.takes bytes a.0 fits a.1 in
          let field = fixed_field a.0.0 in
          let u = field.takes a.0.1 x t.left_fits a.2 in
          record {
            text = t.text ++ u.text;
            parts = t.parts ∙ ap (λ (s : List ℕ). t.text ++ s) u.parts ∙ sym (append_assoc t.text u.text x.1);
            is = (
              ap (λ (s : List ℕ). s ++ u.text) t.is.0 ∙ ap (λ (s : List ℕ). to_be_bytes w16 a.0.0
                  ++ s) u.is.0 ∙ ap (λ (k : ℕ). to_be_bytes w16 k ++ x.0) (sym u.is.1),
              omega (arith, u.is.1, t.is.1),
            );
            left_fits = u.left_fits;
          };
      again = λ x text left is.
          let field = fixed_field (length x) in
          ap (λ (s : List ℕ). counted_at (s ++ left)) is.0
          ∙ ap counted_at (append_assoc (to_be_bytes w16 (length x)) x left) ∙ rw (prefix.again (length x)
          (to_be_bytes w16 (length x)) (x ++ left) (refl, is.1)) (field.again x x left (refl, refl));
    }

pub rest_field : IsLast rest_at (λ x. (rest x).Is)
rest_field = record {
  takes = λ bytes x fits e. subst (λ (y : List ℕ × List ℕ). bytes ≡ y.0) (ok_is (bytes, []) x e) refl;
  again = λ x bytes is. ap rest_at is;
}

-- all of the bytes as one value: reading returns a value if and only if the bytes encode it
pub record IsText {M : Type 0} (at : List ℕ → Result M DecodeFault) (Fields : M → List ℕ → Type 0) : Type 0 where
  pub takes : (bytes : List ℕ) (m : M) → IsBytes bytes → at bytes ≡ Ok m → Fields m bytes
  pub again : (m : M) (bytes : List ℕ) → Fields m bytes → at bytes ≡ Ok m

-- a value after two bytes of its length
pub enclosed_field : {A : Type 0} {read : List ℕ → Result A DecodeFault} {F : A → List ℕ → Type 0}
    → IsText read F → IsField (enclosed_at read) (λ x. Encloses (F x))
enclosed_field {A} {read} {F} law = record {
  takes = λ bytes x fits e.
      let a = bind_ok (counted_at bytes) (λ text. read text.0 >>= λ y. Ok (y, text.1)) x e in
      let b = bind_ok (read a.0.0) (λ y. Ok (y, a.0.1)) x a.2 in
      let t = counted_field.takes bytes a.0 fits a.1 in
      let inner = IsBytes-back t.text (to_be_bytes w16 (length a.0.0)) a.0.0 t.is.0 (IsBytes-front bytes t.text a.0.1 t.parts fits) in
      subst (λ (y : A × List ℕ). Takes (Encloses (F y.0)) bytes y.1) (ok_is (b.0, a.0.1) x b.2) (record {
        text = t.text;
        parts = t.parts;
        is = record { text = a.0.0; whole = t.is; is = law.takes a.0.0 b.0 inner b.1 };
        left_fits = t.left_fits;
      });
  again = λ x text left is. rw (counted_field.again is.text text left is.whole, law.again x is.text is.is) refl;
}

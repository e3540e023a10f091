-- Timestamps: reading returns a value if and only if the bytes encode it.
use Rattle.std.proofs.Common.{◌≡◌, ℕ, ◌*◌, ◌/◌, ◌%◌, true, cond, eqb, not, List, [], ◌∷◌, ◌++◌, length}
use Rattle.std.proofs.Common.{map, take, drop, Ok, Err, refl, sym, ap, subst, ◌∙◌, arith, inl, inr}
use Rattle.std.specs.List.{flat_map}
use Rattle.std.specs.Int.{w32, from_be_bytes, to_be_bytes}
use Rattle.std.specs.Simd.{first_chunks}
use Rattle.std.proofs.lemmas.Bool.{eqb-true, eq-eqb, not-false}
use Rattle.std.proofs.lemmas.List.{take-append-drop, length-take, length-drop}
use Rattle.lgm_gossip.specs.declared.fault.DecodeFault.TheVariants.{Encoding, TlvKind}
use Rattle.lgm_gossip.specs.declared.timestamps.Timestamps.{Timestamps}
use Rattle.lgm_gossip.specs.TimestampList.{pair_bytes, PairFits, IsTimestampList}
use Rattle.lgm_gossip.specs.reading.TimestampListReading.{pair_of, timestamps_at}
use Rattle.lgm_gossip.proofs.WireLaws.{chosen, ok_is, IsBytes, IsBytes-rest, IsBytes-take, IsBytes-drop, wide32}
use Rattle.lgm_gossip.proofs.FieldLaws.{IsText}
use Rattle.lgm_gossip.proofs.FixedWidthLaws.{IsCell, cells_take, cells_again, cells_len}

pub pair_cell : IsCell pair_of pair_bytes PairFits
pair_cell = record {
  len = λ t. refl;
  back = λ bytes len fits.
      let first = wide32.back (take 4 bytes) (omega (arith, length-take 4 bytes, len)) (IsBytes-take 4 bytes fits) in
      let second = wide32.back (drop 4 bytes) (omega (arith, length-drop 4 bytes, len)) (IsBytes-drop 4 bytes fits) in
      ap (λ (s : List ℕ). s ++ to_be_bytes w32 (from_be_bytes w32 (drop 4 bytes))) first
      ∙ ap (λ (s : List ℕ). take 4 bytes ++ s) second ∙ take-append-drop 4 bytes;
  fits = λ bytes len fits. record {
    node_1 = wide32.below (take 4 bytes) (IsBytes-take 4 bytes fits);
    node_2 = wide32.below (drop 4 bytes) (IsBytes-drop 4 bytes fits);
  };
  again = λ t fits.
      let first : from_be_bytes w32 (to_be_bytes w32 t.node_1) ≡ t.node_1 = wide32.again t.node_1 fits.node_1 in
      let second : from_be_bytes w32 (to_be_bytes w32 t.node_2) ≡ t.node_2 = wide32.again t.node_2 fits.node_2 in
      pair_is (from_be_bytes w32 (to_be_bytes w32 t.node_1)) t.node_1 (from_be_bytes w32 (to_be_bytes w32 t.node_2)) t.node_2 first second;
}
  where
    pair : ℕ → ℕ → Timestamps
    pair a b = record { node_1 = a; node_2 = b }

    pair_is : (a b c d : ℕ) → a ≡ b → c ≡ d → pair a c ≡ pair b d
    pair_is a b c d p q = ap (λ (x : ℕ). pair x c) p ∙ ap (λ (x : ℕ). pair b x) q

abbrev pairs_in : List ℕ → List Timestamps
pairs_in left = map pair_of (first_chunks 8 (length left / 8) left)

timestamps_take : (count : ℕ) (bytes : List ℕ) (pairs : List Timestamps) → IsBytes bytes
    → timestamps_at count bytes ≡ Ok pairs → IsTimestampList count pairs bytes
timestamps_take count [] pairs fits e = absurd cc
timestamps_take count (first ∷ left) pairs fits e =
    elim (chosen (not (eqb first 0)) (Err (Encoding first)) (cond (not (eqb (length left / 8) count))
    (Err (TlvKind 1)) (cond (not (eqb (length left % 8) 0)) (Err (TlvKind 1)) (Ok (pairs_in left))))
    (Ok pairs) e) [
      | inl bad ↦ absurd cc
      | inr zeroed ↦ elim (chosen (not (eqb (length left / 8) count)) (Err (TlvKind 1))
          (cond (not (eqb (length left % 8) 0)) (Err (TlvKind 1)) (Ok (pairs_in left))) (Ok pairs) zeroed.1) [
            | inl bad ↦ absurd cc
            | inr counted ↦ elim (chosen (not (eqb (length left % 8) 0)) (Err (TlvKind 1)) (Ok (pairs_in left)) (Ok pairs) counted.1) [
              | inl bad ↦ absurd cc
              | inr whole ↦
                  let zero_is : first ≡ 0 = eqb-true first 0 (not-false (eqb first 0) zeroed.0) in
                  let count_is : length left / 8 ≡ count = eqb-true (length left / 8) count (not-false (eqb (length left / 8) count) counted.0) in
                  let even : length left % 8 ≡ 0 = eqb-true (length left % 8) 0 (not-false (eqb (length left % 8) 0) whole.0) in
                  let decode_all = cells_take pair_cell (length left / 8) left (omega arith) (IsBytes-rest first left fits) in
                  subst (λ (xs : List Timestamps). IsTimestampList count xs (first ∷ left)) (ok_is (pairs_in left) pairs whole.1) (record {
                    fits = decode_all.fits;
                    one_each = decode_all.count_is ∙ count_is;
                    spelled = ap (λ (b : ℕ). b ∷ left) zero_is ∙ ap (λ (s : List ℕ). 0 ∷ s) decode_all.whole;
                  })
            ]
          ]
    ]

some_again : (count : ℕ) (left : List ℕ) → length left ≡ count * 8 → timestamps_at count (0 ∷ left) ≡ Ok (map pair_of (first_chunks 8 count left))
some_again count left len =
    let even : eqb (length left % 8) 0 ≡ true = eq-eqb (length left % 8) 0 (omega arith) in
    let count_is : length left / 8 ≡ count = omega arith in
    let counted : eqb count count ≡ true = eq-eqb count count refl in
    rw (count_is, counted, even) refl

pub timestamps_text : (count : ℕ) → IsText (timestamps_at count) (IsTimestampList count)
timestamps_text count = record {
  takes = timestamps_take count;
  again = λ pairs bytes is.
      let len : length (flat_map pair_bytes pairs) ≡ count * 8 = cells_len pair_cell pairs ∙ ap (λ (n : ℕ). n * 8) is.one_each in
      ap (timestamps_at count) is.spelled ∙ some_again count (flat_map pair_bytes pairs) len
      ∙ ap (λ (n : ℕ). Ok (map pair_of (first_chunks 8 n (flat_map pair_bytes pairs)))) (sym is.one_each)
      ∙ ap (λ (xs : List Timestamps). Ok xs) (cells_again pair_cell pairs is.fits);
}

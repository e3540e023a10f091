-- Encoded channel ids: reading returns a value if and only if the bytes encode it.
use Rattle.std.proofs.Common.{◌≡◌, ℕ, ◌*◌, ◌/◌, ◌%◌, ◌^◌, ◌<◌, true, cond, eqb, not, List, [], ◌∷◌}
use Rattle.std.proofs.Common.{length, map, Ok, Err, refl, sym, ap, subst, ◌∙◌, arith, inl, inr}
use Rattle.std.specs.List.{flat_map}
use Rattle.std.specs.Int.{w64, from_be_bytes, to_be_bytes}
use Rattle.std.specs.Simd.{first_chunks}
use Rattle.std.proofs.lemmas.Bool.{eqb-true, eq-eqb, not-false}
use Rattle.lgm_gossip.specs.declared.fault.DecodeFault.TheVariants.{Encoding, Ids}
use Rattle.lgm_gossip.specs.EncodedIds.{IsEncodedIds}
use Rattle.lgm_gossip.specs.reading.EncodedIdsReading.{ids_of}
use Rattle.lgm_gossip.proofs.WireLaws.{chosen, ok_is, IsBytes, IsBytes-rest, wide64}
use Rattle.lgm_gossip.proofs.FieldLaws.{IsText}
use Rattle.lgm_gossip.proofs.FixedWidthLaws.{IsCell, cells_take, cells_again, cells_len}

pub id_cell : IsCell (from_be_bytes w64) (to_be_bytes w64) (λ id. id < 2 ^ 64)
id_cell = record {
  len = λ id. refl;
  back = wide64.back;
  fits = λ bytes len fits. wide64.below bytes fits;
  again = wide64.again;
}

abbrev ids_in : List ℕ → List ℕ
ids_in left = map (from_be_bytes w64) (first_chunks 8 (length left / 8) left)

-- the tests after a first byte
some_takes : (first : ℕ) (left ids : List ℕ) → IsBytes left → ids_of (first ∷ left) ≡ Ok ids → IsEncodedIds ids (first ∷ left)
some_takes first left ids fits e =
    elim (chosen (not (eqb first 0)) (Err (Encoding first)) (cond (not (eqb (length left % 8) 0)) (Err Ids) (Ok (ids_in left))) (Ok ids) e) [
      | inl bad ↦ absurd cc
      | inr zeroed ↦ elim (chosen (not (eqb (length left % 8) 0)) (Err Ids) (Ok (ids_in left)) (Ok ids) zeroed.1) [
        | inl bad ↦ absurd cc
        | inr whole ↦
            let zero_is : first ≡ 0 = eqb-true first 0 (not-false (eqb first 0) zeroed.0) in
            let even : length left % 8 ≡ 0 = eqb-true (length left % 8) 0 (not-false (eqb (length left % 8) 0) whole.0) in
            let decode_all = cells_take id_cell (length left / 8) left (omega arith) fits in
            subst (λ (xs : List ℕ). IsEncodedIds xs (first ∷ left)) (ok_is (ids_in left) ids whole.1) (record {
              fits = decode_all.fits;
              spelled = inl (ap (λ (b : ℕ). b ∷ left) zero_is ∙ ap (λ (s : List ℕ). 0 ∷ s) decode_all.whole);
            })
      ]
    ]

ids_take : (bytes ids : List ℕ) → IsBytes bytes → ids_of bytes ≡ Ok ids → IsEncodedIds ids bytes
ids_take [] ids fits e = subst (λ (xs : List ℕ). IsEncodedIds xs []) (ok_is [] ids e) (record { fits = tt; spelled = inr (refl, refl) })
ids_take (first ∷ left) ids fits e = some_takes first left ids (IsBytes-rest first left fits) e

some_again : (left : List ℕ) (n : ℕ) → length left ≡ n * 8 → ids_of (0 ∷ left) ≡ Ok (map (from_be_bytes w64) (first_chunks 8 n left))
some_again left n len =
    let even : eqb (length left % 8) 0 ≡ true = eq-eqb (length left % 8) 0 (omega arith) in
    let count : length left / 8 ≡ n = omega arith in
    rw (even, count) refl

pub ids_text : IsText ids_of IsEncodedIds
ids_text = record {
  takes = ids_take;
  again = λ ids bytes is. elim is.spelled [
    | inl spelled ↦
        let read = some_again (flat_map (to_be_bytes w64) ids) (length ids) (cells_len id_cell ids) in
        ap ids_of spelled ∙ read ∙ ap (λ (xs : List ℕ). Ok xs) (cells_again id_cell ids is.fits)
    | inr none ↦ ap ids_of none.1 ∙ ap (λ (xs : List ℕ). Ok xs) (sym none.0)
  ];
}

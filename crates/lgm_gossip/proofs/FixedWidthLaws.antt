-- Values of eight bytes each, one after the other: reading returns a value if and only if the bytes encode it.
use Rattle.std.proofs.Common.{◌≡◌, ℕ, zero, suc, ◌*◌, ◌≤◌, List, [], ◌∷◌, ◌++◌, length, map, take, drop, refl, sym, ap, ◌∙◌, arith}
use Rattle.std.specs.List.{flat_map, AllByRecursion}
use Rattle.std.specs.Simd.{first_chunks}
use Rattle.std.proofs.lemmas.List.{take_at, drop_at, take-append-drop, length-append, length-take, length-drop, nil_from_length}
use Rattle.std.proofs.lemmas.List.Concat.{flat_map-cons}
use Rattle.lgm_gossip.proofs.WireLaws.{IsBytes, IsBytes-take, IsBytes-drop}

-- a value of eight bytes
pub record IsCell {A : Type 0} (read : List ℕ → A) (spell : A → List ℕ) (Fits : A → Type 0) : Type 0 where
  pub len : (x : A) → length (spell x) ≡ 8
  pub back : (bytes : List ℕ) → length bytes ≡ 8 → IsBytes bytes → spell (read bytes) ≡ bytes
  pub fits : (bytes : List ℕ) → length bytes ≡ 8 → IsBytes bytes → Fits (read bytes)
  pub again : (x : A) → Fits x → read (spell x) ≡ x

-- values that were read, and the bytes of them
pub record AreCells {A : Type 0} (spell : A → List ℕ) (Fits : A → Type 0) (count : ℕ) (bytes : List ℕ) (xs : List A) : Type 0 where
  pub fits : AllByRecursion Fits xs
  pub count_is : length xs ≡ count
  pub whole : bytes ≡ flat_map spell xs

pub cells_take : {A : Type 0} {read : List ℕ → A} {spell : A → List ℕ} {Fits : A → Type 0}
    → IsCell read spell Fits → (count : ℕ) (bytes : List ℕ) → length bytes ≡ count * 8 → IsBytes bytes
    → AreCells spell Fits count bytes (map read (first_chunks 8 count bytes))
cells_take {A} {read} {spell} {Fits} cell zero bytes len fits =
    record { fits = tt; count_is = refl; whole = nil_from_length bytes (omega (arith, len)) }
cells_take {A} {read} {spell} {Fits} cell (suc count) bytes len fits =
    let enough : 8 ≤ length bytes = omega (arith, len) in
    let first_len : length (take 8 bytes) ≡ 8 = omega (arith, length-take 8 bytes) in
    let others = cells_take cell count (drop 8 bytes) (omega (arith, length-drop 8 bytes, len)) (IsBytes-drop 8 bytes fits) in
    let first = cell.back (take 8 bytes) first_len (IsBytes-take 8 bytes fits) in
    let xs = map read (first_chunks 8 count (drop 8 bytes)) in
    record {
      fits = (cell.fits (take 8 bytes) first_len (IsBytes-take 8 bytes fits), others.fits);
      count_is = ap suc others.count_is;
      whole =
          sym (take-append-drop 8 bytes) ∙ ap (λ (s : List ℕ). s ++ drop 8 bytes) (sym first)
          ∙ ap (λ (s : List ℕ). spell (read (take 8 bytes)) ++ s) others.whole
          ∙ sym (flat_map-cons spell (read (take 8 bytes)) xs);
    }

pub cells_again : {A : Type 0} {read : List ℕ → A} {spell : A → List ℕ} {Fits : A → Type 0}
    → IsCell read spell Fits → (xs : List A) → AllByRecursion Fits xs
    → map read (first_chunks 8 (length xs) (flat_map spell xs)) ≡ xs
cells_again {A} {read} {spell} {Fits} cell [] fits = refl
cells_again {A} {read} {spell} {Fits} cell (x ∷ xs) fits =
    let parts = flat_map-cons spell x xs in
    let first : take 8 (flat_map spell (x ∷ xs)) ≡ spell x = ap (take 8) parts ∙ take_at (spell x) (flat_map spell xs) 8 (cell.len x) in
    let left : drop 8 (flat_map spell (x ∷ xs)) ≡ flat_map spell xs = ap (drop 8) parts ∙ drop_at (spell x) (flat_map spell xs) 8 (cell.len x) in
    ap (λ (s : List ℕ). read s ∷ map read (first_chunks 8 (length xs) (drop 8 (flat_map spell (x ∷ xs)))))
    first ∙ ap (λ (s : List ℕ). read (spell x) ∷ map read (first_chunks 8 (length xs) s)) left
    ∙ ap (λ (y : A). y ∷ map read (first_chunks 8 (length xs) (flat_map spell xs))) (cell.again x fits.0)
    ∙ ap (λ (ys : List A). x ∷ ys) (cells_again cell xs fits.1)

pub cells_len : {A : Type 0} {read : List ℕ → A} {spell : A → List ℕ} {Fits : A → Type 0}
    → IsCell read spell Fits → (xs : List A) → length (flat_map spell xs) ≡ length xs * 8
cells_len {A} {read} {spell} {Fits} cell [] = refl
cells_len {A} {read} {spell} {Fits} cell (x ∷ xs) =
    omega (arith, ap length (flat_map-cons spell x xs), length-append (spell x) (flat_map spell xs), cell.len x, cells_len cell xs)

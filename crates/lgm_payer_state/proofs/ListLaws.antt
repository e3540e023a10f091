-- Lists are read back.
use Rattle.std.proofs.Common.{◌≡◌, ℕ, suc, ◌+◌, ◌-◌, ◌<◌, ◌≤◌, List, [], ◌∷◌, ◌++◌, length, map, Result, Ok, Err, refl, sym, ap, ◌∙◌, append_assoc, append-nil, arith}
use Rattle.std.specs.Int.{w64}
use Rattle.std.specs.List.{flat_map, All}
use Rattle.std.proofs.lemmas.List.{flat_map_more, length-map}
use Rattle.std.proofs.lemmas.List.Folds.{flat_map-map}
use Rattle.std.proofs.lemmas.List.Concat.{flat_map-cons}
use Rattle.lgm_wire.specs.reading.Reading.{◌>>=◌}
use Rattle.lgm_payer_state.specs.declared.state_fault.StateFault.{StateFault}
use Rattle.lgm_payer_state.specs.Written.{IsBack, IsWritten, number_bytes, list_bytes}
use Rattle.lgm_payer_state.specs.reading.Reading.{Reader, number_at, times_at, list_at}

-- values that are read back one by one are so together
pub times_back : {A : Type 0} (bytes_of : A → List ℕ) (read : Reader A) (xs : List A) → All (IsBack bytes_of read) xs
    → IsBack (flat_map bytes_of) (times_at read (length xs)) xs
times_back {A} bytes_of read [] all rest = refl
times_back {A} bytes_of read (x ∷ xs) all rest =
    let first = all 0 x (omega arith) (flat_map bytes_of xs ++ rest) in
    let others = times_back bytes_of read xs (λ k d lt. all (suc k) d (omega arith)) rest in
    let parts : flat_map bytes_of (x ∷ xs) ++ rest ≡ bytes_of x ++ (flat_map bytes_of xs ++ rest) =
    rw (flat_map-cons bytes_of x xs) (append_assoc (bytes_of x) (flat_map bytes_of xs) rest) in
    rw (parts, first, others) refl

-- values before others that are read
abbrev pub onto : {A : Type 0} → List A → Result (List A × List ℕ) StateFault → Result (List A × List ℕ) StateFault
onto xs read = read >>= λ ys. Ok (xs ++ ys.0, ys.1)

-- a list is written
pub list_written : {A : Type 0} (bytes_of : A → List ℕ) (read : Reader A) (xs : List A) (old counted new : List ℕ)
    → IsWritten (number_bytes w64) (number_at w64) (length xs) old counted → new ≡ counted ++ flat_map bytes_of xs
    → All (IsBack bytes_of read) xs → IsWritten (list_bytes bytes_of) (list_at read) xs old new
unfolding list_bytes list_at
list_written {A} bytes_of read xs old counted new count items all = record {
  written = items ∙ ap (λ (s : List ℕ). s ++ flat_map bytes_of xs) count.written
      ∙ append_assoc old (number_bytes w64 (length xs)) (flat_map bytes_of xs);
  back = λ rest.
      let others = times_back bytes_of read xs all rest in
      let first = count.back (flat_map bytes_of xs ++ rest) in
      rw (append_assoc (number_bytes w64 (length xs)) (flat_map bytes_of xs) rest, first, others) refl;
}

-- a value is read before the others
pub onto_more : {A : Type 0} (read : Reader A) (n count i : ℕ) (bytes rest after : List ℕ) (xs : List A) (x : A)
    → i < count → times_at read n bytes ≡ onto xs (times_at read (count - i) rest) → read rest ≡ Ok (x, after)
    → times_at read n bytes ≡ onto (xs ++ x ∷ []) (times_at read (count - (i + 1)) after)
onto_more {A} read n count i bytes rest after xs x lt same one =
    let left : count - i ≡ suc (count - (i + 1)) = omega arith in
    let e = rw (left, one) at same in
    e ∙ onto_one (times_at read (count - (i + 1)) after)
  where
    onto_one : (r : Result (List A × List ℕ) StateFault) → onto xs (r >>= λ ys. Ok (x ∷ ys.0, ys.1)) ≡ onto (xs ++ x ∷ []) r
    onto_one (Ok ys) = rw (append_assoc xs (x ∷ []) ys.0) refl
    onto_one (Err e) = refl

-- a value isn't read
pub onto_none : {A : Type 0} (read : Reader A) (n count i : ℕ) (bytes rest : List ℕ) (xs : List A) (fault : StateFault)
    → i < count → times_at read n bytes ≡ onto xs (times_at read (count - i) rest) → read rest ≡ Err fault
    → times_at read n bytes ≡ Err fault
onto_none {A} read n count i bytes rest xs fault lt same one =
    let left : count - i ≡ suc (count - (i + 1)) = omega arith in
    rw (left, one) at same

-- nothing is left to read
pub onto_all : {A : Type 0} (read : Reader A) (n count i : ℕ) (bytes rest : List ℕ) (xs : List A)
    → count ≤ i → times_at read n bytes ≡ onto xs (times_at read (count - i) rest) → times_at read n bytes ≡ Ok (xs, rest)
onto_all {A} read n count i bytes rest xs le same =
    let left : count - i ≡ 0 = omega arith in
    let e = rw left at same in
    e ∙ rw (append-nil xs) refl

-- the bytes before one more value
pub more_exact : {A : Type 0} (bytes_of : A → List ℕ) (bytes rest after : List ℕ) (xs : List A) (x : A)
    → bytes ≡ flat_map bytes_of xs ++ rest → rest ≡ bytes_of x ++ after → bytes ≡ flat_map bytes_of (xs ++ x ∷ []) ++ after
more_exact {A} bytes_of bytes rest after xs x those one =
    those ∙ ap (λ (s : List ℕ). flat_map bytes_of xs ++ s) one
    ∙ sym (append_assoc (flat_map bytes_of xs) (bytes_of x) after)
    ∙ ap (λ (s : List ℕ). s ++ after) (flat_map_more bytes_of [] xs x)

-- the bytes of a list of images
pub list_mapped : {A B : Type 0} (f : A → B) (bytes_of : B → List ℕ) (xs : List A)
    → list_bytes bytes_of (map f xs) ≡ list_bytes (λ x. bytes_of (f x)) xs
unfolding list_bytes
list_mapped {A} {B} f bytes_of xs = rw (length-map xs f, flat_map-map bytes_of f xs) refl

-- Numbers of a fixed width, and lists that are cut.
use Rattle.std.proofs.Common.{◌≡◌, ℕ, ◌+◌, ◌^◌, ◌<◌, ◌↔◌, Bool, true, false, IsTrue, List, ◌++◌, length, take, drop, refl, sym, ap, ◌∙◌, arith}
use Rattle.std.specs.Prelude.{nat_eq}
use Rattle.std.specs.Cmp.Lexicographic.{pointwise, bytes_decides}
use Rattle.std.proofs.lemmas.List.{take-append-drop, length-take}
use Rattle.std.specs.Int.{w16, w64, from_be_bytes}
use Rattle.std.proofs.Math.Seq.{take-append_seam, drop-append_seam}
use Rattle.lgm_wire.proofs.Bytes.{IsBytes, IsBytes-take, wide16, wide64}
use Rattle.lgm_save.specs.Numbers.{in_two, in_eight}

pub length-in_eight : (n : ℕ) → length (in_eight n) ≡ 8
unfolding in_eight
length-in_eight n = wide64.len n

pub length-in_two : (n : ℕ) → length (in_two n) ≡ 2
unfolding in_two
length-in_two n = wide16.len n

pub in_eight-same : (m n : ℕ) → m < 2 ^ 64 → n < 2 ^ 64 → in_eight m ≡ in_eight n → m ≡ n
unfolding in_eight
in_eight-same m n small small' e = sym (wide64.again m small) ∙ ap (from_be_bytes w64) e ∙ wide64.again n small'

pub in_two-same : (m n : ℕ) → m < 2 ^ 16 → n < 2 ^ 16 → in_two m ≡ in_two n → m ≡ n
unfolding in_two
in_two-same m n small small' e = sym (wide16.again m small) ∙ ap (from_be_bytes w16) e ∙ wide16.again n small'

pub in_eight-from : (bytes : List ℕ) → length bytes ≡ 8 → IsBytes bytes → in_eight (from_be_bytes w64 bytes) ≡ bytes
unfolding in_eight
in_eight-from bytes len fits = wide64.back bytes len fits

pub in_two-from : (bytes : List ℕ) → length bytes ≡ 2 → IsBytes bytes → in_two (from_be_bytes w16 bytes) ≡ bytes
unfolding in_two
in_two-from bytes len fits = wide16.back bytes len fits

-- two lists that are cut at the same place
pub front_same : (xs xs' ys ys' : List ℕ) → length xs ≡ length xs' → xs ++ ys ≡ xs' ++ ys' → xs ≡ xs'
front_same xs xs' ys ys' len e =
    sym (take-append_seam xs ys) ∙ ap (take (length xs)) e ∙ ap (λ (n : ℕ). take n (xs' ++ ys')) len ∙ take-append_seam xs' ys'

pub rest_same : (xs xs' ys ys' : List ℕ) → length xs ≡ length xs' → xs ++ ys ≡ xs' ++ ys' → ys ≡ ys'
rest_same xs xs' ys ys' len e =
    sym (drop-append_seam xs ys) ∙ ap (drop (length xs)) e ∙ ap (λ (n : ℕ). drop n (xs' ++ ys')) len ∙ drop-append_seam xs' ys'

-- a number is read from the bytes in front
pub eight_cut : (bytes digits rest : List ℕ) (n : ℕ) → IsBytes bytes → digits ≡ take 8 bytes → rest ≡ drop 8 bytes
    → length rest + 8 ≡ length bytes → n ≡ from_be_bytes w64 digits → bytes ≡ in_eight n ++ rest
eight_cut bytes digits rest n fits front behind len is =
    let whole : length (take 8 bytes) ≡ 8 = omega (arith, length-take 8 bytes) in
    sym (take-append-drop 8 bytes) ∙ ap (λ (s : List ℕ). s ++ drop 8 bytes) (sym (in_eight-from (take 8 bytes) whole (IsBytes-take 8 bytes fits)))
    ∙ ap (λ (s : List ℕ). in_eight (from_be_bytes w64 s) ++ drop 8 bytes) (sym front)
    ∙ ap (λ (m : ℕ). in_eight m ++ drop 8 bytes) (sym is) ∙ ap (λ (s : List ℕ). in_eight n ++ s) (sym behind)

pub two_cut : (bytes digits rest : List ℕ) (n : ℕ) → IsBytes bytes → digits ≡ take 2 bytes → rest ≡ drop 2 bytes
    → length rest + 2 ≡ length bytes → n ≡ from_be_bytes w16 digits → bytes ≡ in_two n ++ rest
two_cut bytes digits rest n fits front behind len is =
    let whole : length (take 2 bytes) ≡ 2 = omega (arith, length-take 2 bytes) in
    sym (take-append-drop 2 bytes) ∙ ap (λ (s : List ℕ). s ++ drop 2 bytes) (sym (in_two-from (take 2 bytes) whole (IsBytes-take 2 bytes fits)))
    ∙ ap (λ (s : List ℕ). in_two (from_be_bytes w16 s) ++ drop 2 bytes) (sym front)
    ∙ ap (λ (m : ℕ). in_two m ++ drop 2 bytes) (sym is) ∙ ap (λ (s : List ℕ). in_two n ++ s) (sym behind)

-- other bytes are in front
pub front_not : (bytes start front behind rest : List ℕ) → bytes ≡ start ++ behind → length start ≡ length front
    → pointwise nat_eq start front ≡ false → bytes ≡ front ++ rest → ⊥
front_not bytes start front behind rest parts len differ e =
    let same = front_same start front behind rest len (sym parts ∙ e) in
    let equal : pointwise nat_eq start front ≡ true = (bytes_decides start front).1 same in
    let bad : false ≡ true = sym differ ∙ equal in absurd cc

-- bytes behind others are compared
pub behind_is : (bytes a b rest : List ℕ) (r : Bool) → bytes ≡ a ++ rest → r ≡ pointwise nat_eq rest b → IsTrue r ↔ (bytes ≡ a ++ b)
behind_is bytes a b rest r parts is = (there, back)
  where
    there : IsTrue r → bytes ≡ a ++ b
    there held = parts ∙ ap (λ (s : List ℕ). a ++ s) ((bytes_decides rest b).0 (sym is ∙ held))

    back : bytes ≡ a ++ b → IsTrue r
    back e = is ∙ (bytes_decides rest b).1 (rest_same a a rest b refl (sym parts ∙ e))

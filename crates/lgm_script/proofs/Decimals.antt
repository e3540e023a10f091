-- The number that a field is the text of.
use Rattle.std.proofs.Common.{◌≡◌, ℕ, zero, suc, ◌^◌, ◌<◌, ◌≤◌, Bool, true, false, eqb, ltb, List, length, get_or}
use Rattle.std.proofs.Common.{Some, None, inl, inr, refl, sym, ap, subst, ◌∙◌, arith, drop, drop-cons, rules, [], ◌∷◌}
use Rattle.std.specs.Cmp.Lexicographic.{pointwise, same_text, other_text}
use Rattle.std.specs.Fmt.{decimal}
use Rattle.std.specs.Str.Parse.{AllDigits, digits_value}
use Rattle.std.proofs.lemmas.Bool.{cases_Bool, false_from_ne_true, true_from_ne_false, ltb-true, lt-ltb, ltb-false, le-ltb}
use Rattle.std.proofs.lemmas.Fmt.{digits_value-decimal, digits_decimal, decimal-digits_value, first_decimal, decimal_digit, decimal_nonempty}
use Rattle.std.proofs.lemmas.Str.Parse.{IsNumeralModel, numerals_by_value, tells_digits, numerals_by_fold}
use Rattle.lgm_script.specs.inner.Digits.{is_digit, with_digit, with_digits, further, value_at}
use Rattle.lgm_script.specs.Field.{number_of}
use Rattle.std.specs.List.{list_all}
use Rattle.std.specs.Prelude.{◌&&◌}
use Rattle.std.proofs.lemmas.List.{drop_all}

-- std's digits and their value
own : IsNumeralModel (AllDigits 10) (digits_value 10)
own = numerals_by_value _ tells_digits

-- a text is the same as itself
is_itself : (text : List ℕ) → pointwise eqb text text ≡ true
is_itself text = true_from_ne_false (pointwise eqb text text) (λ e. other_text text text (sym e) refl)

-- the text of a number encodes it
pub number_spelled : (n : ℕ) (digits : List ℕ) → n < 2 ^ 64 → decimal n ≡ digits → number_of digits ≡ Some n
number_spelled n digits small is =
    let value : digits_value 10 digits ≡ n = ap (digits_value 10) (sym is) ∙ digits_value-decimal own n small in
    rw (value, lt-ltb n (2 ^ 64) small, is, is_itself digits) refl

-- what is no number's text encodes none
pub number_none : (digits : List ℕ) → ((n : ℕ) → n < 2 ^ 64 → decimal n ≡ digits → ⊥) → number_of digits ≡ None
number_none digits none = elim (cases_Bool (ltb (digits_value 10 digits) (2 ^ 64))) [
  | inl e ↦ rw (
    e,
    false_from_ne_true (pointwise eqb (decimal (digits_value 10 digits)) digits)
        (λ f. none (digits_value 10 digits) (ltb-true _ _ e) (same_text _ _ (sym f))),
  ) refl
  | inr e ↦ rw e refl
]

-- no number's text is empty
pub empty_none : (digits : List ℕ) → length digits ≤ 0 → number_of digits ≡ None
empty_none digits empty = number_none digits (λ n small is. omega (arith, decimal_nonempty n small, ap length is))

-- none but that of 0 begins with 0
pub zero_none : (digits : List ℕ) → 1 < length digits → get_or digits 0 0 ≡ 48 → number_of digits ≡ None
zero_none digits more first = number_none digits none
  where
    none : (n : ℕ) → n < 2 ^ 64 → decimal n ≡ digits → ⊥
    none zero small is = omega (arith, ap length (sym is ∙ decimal_digit 0 (omega arith)))
    none (suc n) small is = omega (arith, first_decimal (suc n) (omega arith) small, ap (λ (s : List ℕ). get_or s 0 0) is)

-- ---- digits one after the other

-- a number doesn't get less by further digits
grows : (n : ℕ) (digits : List ℕ) → n ≤ with_digits n digits
grows n [] = omega arith
grows n (d ∷ ds) = let h = grows (with_digit n d) ds in omega arith

and_false : (b : Bool) → (b && false) ≡ false
and_false true = refl
and_false false = refl

-- a digit that can't be added
pub value_at-none : (n d : ℕ) (ds : List ℕ) → further n d ≡ None → value_at n (d ∷ ds) ≡ None
value_at-none n d ds none = by (is_digit d) (ltb (with_digit n d) (2 ^ 64)) refl refl
  where
    past : ltb (with_digit n d) (2 ^ 64) ≡ false → ltb (with_digits (with_digit n d) ds) (2 ^ 64) ≡ false
    past f =
        let much = grows (with_digit n d) ds in
        let large : 2 ^ 64 ≤ with_digit n d = ltb-false _ _ f in
        le-ltb _ _ (omega arith)

    by : (digit small : Bool) → is_digit d ≡ digit → ltb (with_digit n d) (2 ^ 64) ≡ small → value_at n (d ∷ ds) ≡ None
    by false small e f = rw e refl
    by true true e f = let h : further n d ≡ Some (with_digit n d) = rw (e, f) refl in absurd cc
    by true false e f = rw (past f, and_false) refl

-- the first byte of what is left
pub value_at-drop : (n i : ℕ) (digits : List ℕ) → i < length digits → further n (get_or digits i 0) ≡ None → value_at n (drop i digits) ≡ None
value_at-drop n i digits lt none = rw (drop-cons digits i 0) (value_at-none n (get_or digits i 0) (drop (suc i) digits) none)

-- no digit is left
pub value_at-end : (n i : ℕ) (digits : List ℕ) → length digits ≤ i → n < 2 ^ 64 → value_at n (drop i digits) ≡ Some n
value_at-end n i digits past small = rw (drop_all i digits past, lt-ltb n (2 ^ 64) small) refl

-- what reads digits from the left is std's value of them
digits_read : IsNumeralModel (λ ds. list_all is_digit ds ≡ true) (with_digits 0)
digits_read = numerals_by_fold _ (search rules) with_digits (search rules)

-- digits that are not empty, and have no leading zero, are read as the number that they encode
pub value_is : (digits : List ℕ) → 0 < length digits → (get_or digits 0 0 ≡ 48 → length digits ≡ 1) → value_at 0 digits ≡ number_of digits
value_is digits some alone = by (list_all is_digit digits) (ltb (with_digits 0 digits) (2 ^ 64)) refl refl
  where
    by : (all small : Bool) → list_all is_digit digits ≡ all → ltb (with_digits 0 digits) (2 ^ 64) ≡ small → value_at 0 digits ≡ number_of digits
    by false small e f =
        let no_number : number_of digits ≡ None =
        number_none digits (λ n less is. let all : list_all is_digit digits ≡ true = subst (λ (s : List ℕ).
        list_all is_digit s ≡ true) is (digits_decimal digits_read n less) in absurd cc) in
        rw e (sym no_number)
    by true false e f =
        let no_number : number_of digits ≡ None = number_none digits (λ n less is.
        let same : with_digits 0 digits ≡ n = ap (with_digits 0) (sym is) ∙ digits_value-decimal digits_read n less in
        let large : 2 ^ 64 ≤ with_digits 0 digits = ltb-false _ _ f in omega (arith, same, large, less)) in
        rw (e, f) (sym no_number)
    by true true e f =
        let less = ltb-true _ _ f in
        let text : decimal (with_digits 0 digits) ≡ digits = decimal-digits_value digits_read digits e some alone less in
        rw (e, f) (sym (number_spelled (with_digits 0 digits) digits less text))

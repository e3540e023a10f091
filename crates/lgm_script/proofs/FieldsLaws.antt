-- The fields of a text, found one after the other.
use Rattle.std.proofs.Common.{◌≡◌, ℕ, ◌+◌, inl, inr, eqb, List, [], ◌∷◌, ◌++◌, get_or, take, drop, Some, None, refl, sym, ap, ◌∙◌, arith}
use Rattle.std.specs.List.{position_or_len, onto_first}
use Rattle.std.proofs.lemmas.Bool.{cases_Bool, false_from_ne_true, eqb-true, eq-eqb}
use Rattle.std.proofs.lemmas.List.{get_or_default, take-append-drop, drop_more, get_or-drop, length-drop}
use Rattle.std.proofs.lemmas.List.Sums.{position_or_len_is}
use Rattle.std.proofs.lemmas.List.Splits.{slice_split_none, slice_split_first, slice_split-cons_yes, slice_split-cons_no}
use Rattle.memchr.specs.Find.{IsFirstByte, IsLastByte, is_byte}
use Rattle.lgm_script.specs.Field.{fields_of}

-- a text without a separator is one field
pub one_field : (c : ℕ) (text : List ℕ) → IsFirstByte (is_byte c) text None → fields_of c text ≡ text ∷ []
one_field c text nowhere =
    slice_split_none (λ byte. eqb byte c) text
    (λ j d less. ap (λ (b : ℕ). eqb b c) (get_or_default text j d 0 less) ∙ false_from_ne_true (eqb (get_or text j 0) c) (nowhere j (omega arith) less))

-- the field before the first separator, and those after it
pub first_field : (c : ℕ) (text : List ℕ) (k : ℕ) → IsFirstByte (is_byte c) text (Some k)
    → fields_of c text ≡ take k text ∷ fields_of c (drop (k + 1) text)
first_field c text k first =
    let front = first.0 in
    let high = front.high in
    let here : position_or_len (λ byte. eqb byte c) text ≡ k =
    position_or_len_is (λ byte. eqb byte c) text k 0 (omega arith)
    (λ j lt. false_from_ne_true (eqb (get_or text j 0) c) (front.before j (omega arith) lt)) (λ lt. first.1) in
    slice_split_first (λ byte. eqb byte c) text 0 (omega arith) ∙ rw here refl

-- there is a field
pub some_field : (c : ℕ) (text : List ℕ) → fields_of c text ≡ [] → ⊥
some_field c [] none = cc
some_field c (byte ∷ bytes) none = elim (cases_Bool (eqb byte c)) [
  | inl e ↦ let h = rw e at none in cc
  | inr e ↦ onto (fields_of c bytes) (rw e at none)
]
  where
    onto : (parts : List (List ℕ)) → onto_first byte parts ≡ [] → ⊥
    onto [] e = cc
    onto (part ∷ parts) e = cc

-- a byte before the first of several fields, with another one after them
onto_front : (byte : ℕ) (parts : List (List ℕ)) (last : List ℕ) → (parts ≡ [] → ⊥)
    → onto_first byte (parts ++ last ∷ []) ≡ onto_first byte parts ++ last ∷ []
onto_front byte [] last some = absurd (some refl)
onto_front byte (part ∷ parts) last some = refl

-- the fields before a separator, and the one after it
fields_and_last : (c : ℕ) (front last : List ℕ) → fields_of c last ≡ last ∷ [] → fields_of c (front ++ c ∷ last) ≡ fields_of c front ++ last ∷ []
fields_and_last c [] last one = slice_split-cons_yes (λ byte. eqb byte c) c last (eq-eqb c c refl) ∙ ap (λ (parts : List (List ℕ)). [] ∷ parts) one
fields_and_last c (byte ∷ front) last one = elim (cases_Bool (eqb byte c)) [
  | inl e ↦
      slice_split-cons_yes (λ b. eqb b c) byte (front ++ c ∷ last) e
      ∙ ap (λ (parts : List (List ℕ)). [] ∷ parts) (fields_and_last c front last one)
      ∙ ap (λ (parts : List (List ℕ)). parts ++ last ∷ []) (sym (slice_split-cons_yes (λ b. eqb b c) byte front e))
  | inr e ↦
      slice_split-cons_no (λ b. eqb b c) byte (front ++ c ∷ last) e ∙ ap (onto_first byte) (fields_and_last c front last one)
      ∙ onto_front byte (fields_of c front) last (some_field c front)
      ∙ ap (λ (parts : List (List ℕ)). parts ++ last ∷ []) (sym (slice_split-cons_no (λ b. eqb b c) byte front e))
]

-- the fields before the last separator, and the one after it
pub last_field : (c : ℕ) (text : List ℕ) (k : ℕ) → IsLastByte (is_byte c) text (Some k)
    → fields_of c text ≡ fields_of c (take k text) ++ drop (k + 1) text ∷ []
last_field c text k last =
    let found = last.0 in
    let high = found.high in
    let here : get_or text k 0 ≡ c = eqb-true (get_or text k 0) c last.1 in
    let whole : text ≡ take k text ++ c ∷ drop (k + 1) text =
    sym (take-append-drop k text) ∙ ap (λ (s : List ℕ). take k text ++ s) (drop_more text k 0 high ∙ ap (λ (b : ℕ). b ∷ drop (k + 1) text) here) in
    let none : IsFirstByte (is_byte c) (drop (k + 1) text) None = λ j low less is.
    found.after (k + 1 + j) (omega arith) (omega (arith, length-drop (k + 1) text))
    (ap (λ (b : ℕ). eqb b c) (sym (get_or-drop (k + 1) text j 0)) ∙ is) in
    ap (fields_of c) whole ∙ fields_and_last c (take k text) (drop (k + 1) text) (one_field c (drop (k + 1) text) none)

-- Lines of items: a message's fields, found from the end.
use Rattle.std.proofs.Common.{◌≡◌, ℕ, ◌+◌, ◌*◌, ◌%◌, eqb, List, [], ◌∷◌, ◌++◌, length}
use Rattle.std.proofs.Common.{Option, Some, None, Result, Ok, Err, refl, sym, ap, ◌∙◌, inl, inr}
use Rattle.std.specs.List.{join_with_byte}
use Rattle.std.proofs.lemmas.Bool.{cases_Bool}
use Rattle.std.proofs.lemmas.List.Splits.{join_with_byte-slice_split}
use Rattle.hex.specs.Hex.{value_at, pair_value, decode_pairs}
use Rattle.hex.specs.Hex.{◌>>=◌ as ◌>>=ᵣ◌}
use Rattle.hex.specs.declared.error.FromHexError.{FromHexError}
use Rattle.lgm_check.specs.declared.evidence.Evidence.{Evidence}
use Rattle.lgm_script.specs.declared.grammar.item.Item.{Item}
use Rattle.lgm_script.specs.declared.grammar.item.Item.TheVariants.{Gossip}
use Rattle.lgm_script.specs.Field.{◌>>=◌, fields_of}
use Rattle.lgm_script.specs.Item.{bytes_of, evidence_of, gossip_of}
use Rattle.lgm_script.proofs.FieldsLaws.{some_field}

-- ---- digits with a space among them

-- it is refused
record IsRefused (decoded : Result (List ℕ) FromHexError) : Type 0 where
  pub error : FromHexError
  pub is : decoded ≡ Err error

refused_pair : (byte : Result ℕ FromHexError) (rest : Result (List ℕ) FromHexError) → IsRefused rest
    → IsRefused (byte >>=ᵣ λ b. rest >>=ᵣ λ bytes. Ok (b ∷ bytes))
refused_pair (Ok b) rest refused = record { error = refused.error; is = rw (refused.is) refl }
refused_pair (Err e) rest refused = record { error = e; is = refl }

refused_low : (high : Result ℕ FromHexError) (i : ℕ) (rest : Result (List ℕ) FromHexError)
    → IsRefused ((high >>=ᵣ λ h. value_at 32 i >>=ᵣ λ l. Ok (h * 16 + l)) >>=ᵣ λ b. rest >>=ᵣ λ bytes. Ok (b ∷ bytes))
refused_low (Ok h) i rest = record { error = _; is = refl }
refused_low (Err e) i rest = record { error = e; is = refl }

space_refused : (i : ℕ) (front back : List ℕ) → IsRefused (decode_pairs i (front ++ 32 ∷ back))
unfolding decode_pairs
space_refused i [] [] = record { error = _; is = refl }
space_refused i [] (low ∷ back) = record { error = _; is = refl }
space_refused i (high ∷ []) back = refused_low (value_at high i) (i + 1) (decode_pairs (i + 2) back)
space_refused i (high ∷ low ∷ front) back =
    refused_pair (pair_value high low i) (decode_pairs (i + 2) (front ++ 32 ∷ back))
    (space_refused (i + 2) front back)

no_bytes : (text : List ℕ) → IsRefused (decode_pairs 0 text) → bytes_of text ≡ None
no_bytes [] refused = refl
no_bytes (byte ∷ text) refused = elim (cases_Bool (eqb (length (byte ∷ text) % 2) 1)) [
  | inl is ↦ rw is refl
  | inr is ↦ rw (is, refused.is) refl
]

-- digits with a space among them encode no bytes
space_spells_none : (front back : List ℕ) → bytes_of (front ++ 32 ∷ back) ≡ None
space_spells_none front back = no_bytes (front ++ 32 ∷ back) (space_refused 0 front back)

-- ---- a message's fields

abbrev pub Taken : Type 0
Taken = Option (List ℕ)

-- a message with its evidence
abbrev pub message : Taken → Option Evidence → Option Item
message bytes evidence = bytes >>= λ b. evidence >>= λ e. Some (Gossip b e)

pub no_message : (bytes : Taken) → message bytes None ≡ None
no_message None = refl
no_message (Some b) = refl

-- if there are more, there is none either
too_many : (hex more : List ℕ) (others : List (List ℕ)) (signer output : List ℕ)
    → gossip_of ((hex ∷ more ∷ others ++ signer ∷ []) ++ output ∷ []) ≡ None
too_many hex more [] signer output = no_message (bytes_of hex)
too_many hex more (other ∷ []) signer output = no_message (bytes_of hex)
too_many hex more (other ∷ further ∷ others) signer output = no_message (bytes_of hex)

-- the message that a text encodes, cut twice from its end
pub cut_twice : (text front digits signer output : List ℕ) → fields_of 32 text
    ≡ fields_of 32 front ++ output ∷ [] → fields_of 32 front ≡ fields_of 32 digits ++ signer ∷ []
    → gossip_of (fields_of 32 text) ≡ gossip_of (digits ∷ signer ∷ output ∷ [])
cut_twice text front digits signer output cut again =
    ap gossip_of (cut ∙ ap (λ (fields : List (List ℕ)). fields ++ output ∷ []) again)
    ∙ by (fields_of 32 digits) refl (join_with_byte-slice_split 32 digits)
  where
    by : (fields : List (List ℕ)) → fields_of 32 digits ≡ fields
        → join_with_byte 32 (fields_of 32 digits) ≡ digits
        → gossip_of ((fields ++ signer ∷ []) ++ output ∷ []) ≡ gossip_of (digits ∷ signer ∷ output ∷ [])
    by [] is whole = absurd (some_field 32 digits is)
    by (hex ∷ []) is whole = let same : hex ≡ digits = rw is at whole in ap (λ (d : List ℕ). gossip_of (d ∷ signer ∷ output ∷ [])) same
    by (hex ∷ more ∷ others) is whole =
        let spaced : hex ++ 32 ∷ join_with_byte 32 (more ∷ others) ≡ digits = rw is at whole in
        let none : bytes_of digits ≡ None = ap bytes_of (sym spaced) ∙ space_spells_none hex (join_with_byte 32 (more ∷ others)) in
        too_many hex more others signer output ∙ sym (ap (λ (bytes : Taken). message bytes (evidence_of (signer ∷ output ∷ []))) none)

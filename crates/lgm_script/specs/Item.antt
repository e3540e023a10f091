-- Items, as lines encode them.
use Rattle.std.specs.Prelude.{ℕ, ◌+◌, ◌*◌, ◌^◌, List, [], ◌∷◌, Option, Some, None}
use Rattle.std.specs.Prelude.{true, false, codes, nat_eq, if◌then◌else◌}
use Rattle.std.specs.Option.{option_map}
use Rattle.std.specs.Result.{result_ok}
use Rattle.std.specs.Cmp.Lexicographic.{pointwise}
use Rattle.hex.specs.Hex.{decode_of}
use Rattle.lgm_check.specs.declared.evidence.Evidence.{Evidence}
use Rattle.lgm_check.specs.declared.evidence.Sig.{Sig}
use Rattle.lgm_check.specs.declared.evidence.Sig.TheVariants as sigs
use Rattle.lgm_check.specs.declared.evidence.Funding.{Funding}
use Rattle.lgm_check.specs.declared.evidence.Funding.TheVariants as fundings
use Rattle.lgm_script.specs.declared.grammar.item.Item.{Item}
use Rattle.lgm_script.specs.declared.grammar.item.Item.TheVariants.{Gossip, Close}
use Rattle.lgm_script.specs.declared.grammar.item.ItemForm.{ItemForm}
use Rattle.lgm_script.specs.declared.grammar.item.ItemForm.TheVariants as forms
use Rattle.lgm_script.specs.Field.{◌>>=◌, fields_of, number_of, number_below, point_of}

-- an even number of hexadecimal digits, at least two
abbrev pub bytes_of : List ℕ → Option (List ℕ)
bytes_of [] = None
bytes_of (digit ∷ digits) = result_ok (decode_of (digit ∷ digits))

-- SIG
abbrev pub sig_of : List ℕ → Option Sig
sig_of word =
    if pointwise nat_eq word (codes "all") then Some (sigs.AllFour true)
    else if pointwise nat_eq word (codes "not-all") then Some (sigs.AllFour false)
    else if pointwise nat_eq word (codes "nobody") then Some sigs.Nobody
    else option_map (λ point. sigs.By point) (point_of word)

-- FUNDING
abbrev pub funding_of : List ℕ → Option Funding
funding_of word =
    if pointwise nat_eq word (codes "spent") then Some fundings.Spent
    else if pointwise nat_eq word (codes "wrong") then Some fundings.Wrong
    else if pointwise nat_eq word (codes "-") then Some fundings.NotAsked
    else option_map (λ sat. fundings.Unspent sat) (number_of word)

-- SIG FUNDING
abbrev pub evidence_of : List (List ℕ) → Option Evidence
evidence_of (sig ∷ funding ∷ []) = do
  sig ← sig_of sig
  funding ← funding_of funding
  Some (record { sig = sig; funding = funding })
evidence_of _ = None

-- HEX SIG FUNDING
abbrev pub gossip_of : List (List ℕ) → Option Item
gossip_of (hex ∷ verdicts) = do
  bytes ← bytes_of hex
  evidence ← evidence_of verdicts
  Some (Gossip bytes evidence)
gossip_of [] = None

-- BLOCK, INDEX and OUTPUT
abbrev pub scid_of : List (List ℕ) → Option ℕ
scid_of (block ∷ index ∷ output ∷ []) = do
  block ← number_below (2 ^ 24) block
  index ← number_below (2 ^ 24) index
  output ← number_below (2 ^ 16) output
  Some ((block * 2 ^ 24 + index) * 2 ^ 16 + output)
scid_of _ = None

-- SCID: BLOCKxINDEXxOUTPUT
abbrev pub close_of : List (List ℕ) → Option Item
close_of (scid ∷ []) = do
  id ← scid_of (fields_of 120 scid)
  Some (Close id)
close_of _ = None

-- the message of these digits, if they are an even number of hexadecimal digits, at least two
abbrev pub message_of : List ℕ → Evidence → Option Item
message_of digits evidence = do
  bytes ← bytes_of digits
  Some (Gossip bytes evidence)

-- the item of a form, if its digits are those of bytes
abbrev pub item_of : ItemForm → Option Item
item_of (forms.Message digits evidence) = message_of digits.now evidence
item_of (forms.Close id) = Some (Close id)

-- the item that is spelled, if one is
abbrev pub item_spelled : Option ItemForm → Option Item
item_spelled None = None
item_spelled (Some form) = item_of form

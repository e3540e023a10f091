-- Writing a slice in several writes.
use Rattle.std.proofs.Common.{◌≡◌, ℕ, ◌+◌, ◌-◌, ◌<◌, ◌≤◌, List, [], ◌∷◌, ◌++◌, length, take}
use Rattle.std.proofs.Common.{drop, take-add, Option, Result, Ok, refl, sym, ap, ◌∙◌, arith}
use Rattle.std.proofs.lemmas.List.{drop-drop, length-drop, length-take, take_rest, take_all}
use Rattle.std.specs.Option.{option_map}
use Rattle.std.proofs.lemmas.Bool.{ne_eqb}
use Rattle.lgm_script.specs.declared.devices.device.Failed.{Failed}
use Rattle.lgm_script.proofs.AppendedBytesLaws.{appends_nothing, appends_both}
use Rattle.lgm_script.specs.Device.{write_failures, Appends, AppendsSome}

abbrev pub took : ℕ → Result ℕ Failed
took n = Ok n

-- the bytes before the rest were accepted
pub record Sent (old new : Option (List ℕ)) (bytes rest : List ℕ) : Type 0 where
  pub count : ℕ
  pub rest_is : rest ≡ drop count bytes
  pub taken : Appends old new (take count bytes)

-- nothing was written yet
pub sent_first : (old : Option (List ℕ)) (bytes : List ℕ) → Sent old old bytes bytes
sent_first old bytes = record { count = 0; rest_is = refl; taken = appends_nothing old }

-- a write accepted more
pub sent_more : (old mid new : Option (List ℕ)) (bytes rest : List ℕ) (n : ℕ) → Sent old mid bytes rest
    → Appends mid new (take n rest) → Sent old new bytes (drop n rest)
sent_more old mid new bytes rest n sent writes = record {
  count = sent.count + n;
  rest_is = ap (drop n) sent.rest_is ∙ drop-drop n sent.count bytes;
  taken =
      let text : take sent.count bytes ++ take n rest ≡ take (sent.count + n) bytes =
      ap (λ (s : List ℕ). take sent.count bytes ++ take n s) sent.rest_is
      ∙ sym (take-add sent.count n bytes) in
      appends_both old mid new (take sent.count bytes) (take n rest) sent.taken writes
      ∙ ap (λ (s : List ℕ). option_map (λ taken. taken ++ s) old) text;
}

-- what was accepted is a prefix
pub sent_some : (old mid new : Option (List ℕ)) (bytes rest : List ℕ) → Sent old mid bytes rest → new ≡ mid → AppendsSome old new bytes
sent_some old mid new bytes rest sent same = (sent.count, same ∙ sent.taken)

pub sent_all : (old new : Option (List ℕ)) (bytes rest : List ℕ) → Sent old new bytes rest → length rest ≡ 0 → Appends old new bytes
sent_all old new bytes rest sent ended =
    let past : length bytes ≤ sent.count = omega (arith, ap length sent.rest_is, length-drop sent.count bytes) in
    sent.taken ∙ ap (λ (s : List ℕ). option_map (λ taken. taken ++ s) old) (take_all sent.count bytes past)

-- the same, as a range of a slice
pub sent_range : (old mid new : Option (List ℕ)) (bytes rest : List ℕ) (n : ℕ) → Sent old mid bytes rest
    → Appends mid new (take n rest) → Sent old new bytes (take (length rest - n) (drop n rest))
sent_range old mid new bytes rest n sent writes = rw take_rest (sent_more old mid new bytes rest n sent writes)

pub range_shrinks : (rest : List ℕ) (n : ℕ) → n ≤ length rest → (n ≡ 0 → ⊥) → length (take (length rest - n) (drop n rest)) < length rest
range_shrinks rest n le some = omega (arith, length-take (length rest - n) (drop n rest), length-drop n rest)

pub no_failure : (n : ℕ) (bytes : List ℕ) → (n ≡ 0 → ⊥) → write_failures (took n) bytes ≡ 0
no_failure n [] some = refl
no_failure n (b ∷ bs) some = rw (ne_eqb n 0 some) refl

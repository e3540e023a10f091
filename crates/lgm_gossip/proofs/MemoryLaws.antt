-- Readings that allocate only if they are allowed to.
use Rattle.std.proofs.Common.{◌≡◌, ℕ, ◌+◌, ◌<◌, ◌≤◌, ◌⊎◌, ltb, List, [], ◌∷◌, length, take, drop, Result, Ok, Err, ap, arith, inl, inr}
use Rattle.std.specs.Int.{Width, w16, w32, byte_len, from_be_bytes}
use Rattle.std.specs.List.{flat_map}
use Rattle.std.proofs.lemmas.Bool.{ltb-false}
use Rattle.std.proofs.lemmas.List.{length-drop}
use Rattle.std.proofs.lemmas.List.Concat.{flat_map-cons}
use Rattle.lgm_wire.specs.declared.fault.WireFault.TheVariants as wire_faults
use Rattle.lgm_wire.specs.reading.Reading.{◌>>=◌, Sees, Gives}
use Rattle.lgm_wire.specs.Tlv.{TlvRecord, record_bytes, IsTlvStream}
use Rattle.lgm_wire.specs.reading.BigSizeReading.{bigsize_at}
use Rattle.lgm_wire.specs.reading.TlvReading.{record_at, tlvs_at, tlvs_of}
use Rattle.lgm_gossip.specs.declared.fault.DecodeFault.{DecodeFault}
use Rattle.lgm_gossip.specs.declared.fault.DecodeFault.TheVariants.{Cut}
use Rattle.lgm_gossip.specs.reading.FieldReading.{fixed_at, number_at, counted_at, enclosed_at}
use Rattle.lgm_gossip.specs.Memory.{GivesIf}
use Rattle.lgm_gossip.proofs.WireLaws.{chosen, bind_ok, ok_is, two_bytes}

-- apart from the allocation
pub gives : {X Y E : Type 0} (asks : Type 0) (no_memory : E) (view : X → Y) (r : Result X E)
    (read : Result Y E) → GivesIf asks no_memory view r read → Gives no_memory view r read
gives asks no_memory view (Ok x) read given = given
gives asks no_memory view (Err e) read given =
    elim given [
      | inl none ↦ inl none.1
      | inr fault ↦ inr fault
    ]

-- if nothing is allocated, the result is that of the reading
pub sees_or : {X Y E : Type 0} (asks : Type 0) (no_memory : E) (view : X → Y) (r : Result X E)
    (read : Result Y E) → GivesIf asks no_memory view r read → Sees view r read ⊎ asks
sees_or asks no_memory view (Ok x) read given = inl given
sees_or asks no_memory view (Err e) read given =
    elim given [
      | inl none ↦ inr none.0
      | inr fault ↦ inl fault
    ]

-- ---- records

-- a stream with a record has at least two bytes
pub some_record : (l : List TlvRecord) (bytes : List ℕ) → IsTlvStream l bytes → 0 < length l → 1 < length bytes
some_record [] bytes stream some = absurd (omega arith)
some_record (r ∷ rs) bytes stream some =
    let whole = stream.whole in
    omega (arith, ap length whole, ap length (flat_map-cons record_bytes r rs), two_bytes r (flat_map record_bytes rs))

-- and reading fewer never runs out of memory
pub few_bytes : (bytes : List ℕ) → length bytes < 2 → tlvs_of bytes ≡ Err wire_faults.NoMemory → ⊥
unfolding tlvs_of tlvs_at record_at bigsize_at
few_bytes [] few e = absurd cc
few_bytes (b ∷ []) few e = grind arith
few_bytes (b ∷ c ∷ bs) few e = absurd (omega arith)

-- ---- how long what was read is

pub fixed_len : (n : ℕ) (bytes : List ℕ) (x : List ℕ × List ℕ) → fixed_at n bytes ≡ Ok x → length bytes ≡ n + length x.1
fixed_len n bytes x e =
    elim (chosen (ltb (length bytes) n) (Err Cut) (Ok (take n bytes, drop n bytes)) (Ok x) e) [
      | inl bad ↦ absurd cc
      | inr good ↦
          let le = ltb-false _ _ good.0 in
          let same = ok_is (take n bytes, drop n bytes) x good.1 in
          omega (arith, le, ap (λ (p : List ℕ × List ℕ). length p.1) same, length-drop n bytes)
    ]

pub number_len : (w : Width) (bytes : List ℕ) (x : ℕ × List ℕ) → number_at w bytes ≡ Ok x → length bytes ≡ byte_len w + length x.1
number_len w bytes x e =
    elim (chosen (ltb (length bytes) (byte_len w)) (Err Cut) (Ok (from_be_bytes w (take (byte_len w) bytes), drop (byte_len w) bytes)) (Ok x) e) [
      | inl bad ↦ absurd cc
      | inr good ↦
          let le = ltb-false _ _ good.0 in
          let same = ok_is (from_be_bytes w (take (byte_len w) bytes), drop (byte_len w) bytes) x good.1 in
          omega (arith, le, ap (λ (p : ℕ × List ℕ). length p.1) same, length-drop (byte_len w) bytes)
    ]

counted_len : (bytes : List ℕ) (x : List ℕ × List ℕ) → counted_at bytes ≡ Ok x → 2 + length x.1 ≤ length bytes
counted_len bytes x e =
    let n = bind_ok (number_at w16 bytes) (λ n. fixed_at n.0 n.1) x e in
    omega (arith, number_len w16 bytes n.0 n.1, fixed_len n.0.0 n.0.1 x n.2)

pub enclosed_len : {A : Type 0} (read : List ℕ → Result A DecodeFault) (bytes : List ℕ) (x : A × List ℕ)
    → enclosed_at read bytes ≡ Ok x → 2 + length x.1 ≤ length bytes
enclosed_len {A} read bytes x e =
    let text = bind_ok (counted_at bytes) (λ text. read text.0 >>= λ y. Ok (y, text.1)) x e in
    let value = bind_ok (read text.0.0) (λ y. Ok (y, text.0.1)) x text.2 in
    let same = ok_is (value.0, text.0.1) x value.2 in
    omega (arith, counted_len bytes text.0 text.1, ap (λ (p : A × List ℕ). length p.1) same)

-- a step that fails makes the whole fail; it runs out of memory only if the whole may
pub fails_with : {A B E : Type 0} {asks asked : Type 0} {no_memory e : E} {part : Result A E} {whole : Result B E}
    → (asked → asks) → (part ≡ Err e → whole ≡ Err e) → (asked × (e ≡ no_memory)) ⊎ (part ≡ Err e)
    → (asks × (e ≡ no_memory)) ⊎ (whole ≡ Err e)
fails_with few fault failed = elim failed [
  | inl none ↦ inl (few none.0, none.1)
  | inr bad ↦ inr (fault bad)
]

-- the bytes after the chain and two numbers
pub blocks_len : (bytes : List ℕ) (chain : List ℕ × List ℕ) (first number : ℕ × List ℕ) → fixed_at 32 bytes ≡ Ok chain
    → number_at w32 chain.1 ≡ Ok first → number_at w32 first.1 ≡ Ok number → length bytes ≡ 40 + length number.1
blocks_len bytes chain first number c f n =
    omega (arith, fixed_len 32 bytes chain c, number_len w32 chain.1 first f, number_len w32 first.1 number n)

-- Bytes that were changed, cut off, or are of another chain.
use Rattle.std.proofs.Common.{◌≡◌, ◌≢◌, ℕ, ◌+◌, ◌-◌, ◌%◌, ◌^◌, ◌<◌, ◌≤◌, suc, List, [], ◌∷◌, ◌++◌, length, take, drop, map, refl, sym, ap, ◌∙◌, arith, append_assoc, inl, inr, lit<}
use Rattle.std.specs.List.{AllByRecursion, flat_map, fold as folded}
use Rattle.std.proofs.lemmas.Bool.{cases_lt}
use Rattle.std.proofs.lemmas.List.{length-append, length-take, take-append-drop, take-append-le}
use Rattle.std.proofs.Math.Seq.{take-append_seam, take-append-add, drop-append_seam, drop-append-add}
use Rattle.lgm_wire.specs.declared.chain_hash.ChainHash.{ChainHash}
use Rattle.lgm_store.specs.Rows.{Rows}
use Rattle.lgm_store.specs.History.{fold}
use Rattle.lgm_store.specs.Laws.{IsLawful}
use Rattle.lgm_store.specs.Spelled.{AreSpelled}
use Rattle.lgm_save.specs.declared.checksum.Sums.{Sums}
use Rattle.lgm_save.specs.declared.record.Record.{Record}
use Rattle.lgm_save.specs.Numbers.{in_eight}
use Rattle.lgm_save.specs.Checksum.{with_byte, no_bytes, sums_of, checksum}
use Rattle.lgm_save.specs.Records.{IsRecord, bytes_of, op_of, records_of}
use Rattle.lgm_save.specs.Saved.{opening, headed, sealed, saved_as, saved}
use Rattle.lgm_save.specs.Loaded.{IsLoaded, IsNotSaved}
use Rattle.lgm_save.specs.Changed.{IsChangedAtOne}
use Rattle.lgm_save.proofs.NumberLaws.{length-in_eight, in_eight-same, front_same, rest_same}
use Rattle.lgm_save.proofs.SavedLaws.{length-sealed, length-saved, parts_left, some_bytes}
use Rattle.lgm_save.proofs.LoadLaws.{body_same}
use Rattle.lgm_save.proofs.FoldLaws.{records_leave}

-- ---- the records of bytes

append-nil : {X : Type 0} (xs : List X) → xs ++ [] ≡ xs
append-nil [] = refl
append-nil {X} (x ∷ xs) = ap (λ (ys : List X). x ∷ ys) (append-nil xs)

-- bytes are those of one list of records
records_same : (a b : List Record) → AllByRecursion IsRecord a → AllByRecursion IsRecord b → flat_map bytes_of a ≡ flat_map bytes_of b → b ≡ a
records_same a b lawful lawful' e =
    let left = parts_left a b [] lawful lawful' (append-nil (flat_map bytes_of a) ∙ e) in
    left.2 ∙ ap (λ (rs : List Record). a ++ rs) (none left.0 left.3) ∙ append-nil a
  where
    none : (rs : List Record) → [] ≡ flat_map bytes_of rs → rs ≡ []
    none [] e = refl
    none (r ∷ rs) e = absurd (omega (arith, ap length e, length-append (bytes_of r) (flat_map bytes_of rs), some_bytes r))

pub same_rows : (network : Rows) (chain : ChainHash) (rows : Rows) → IsLawful network → AreSpelled network
    → AllByRecursion IsRecord (records_of network) → IsLoaded chain (saved chain network) rows → rows ≡ network
same_rows network chain rows lawful spelled all loaded =
    let bytes = body_same chain (flat_map bytes_of (records_of network)) (flat_map bytes_of loaded.records) loaded.bytes_are in
    let same = records_same (records_of network) loaded.records all loaded.lawful bytes in
    loaded.rows_are ∙ ap (λ (rs : List Record). fold (map op_of rs)) same ∙ records_leave network lawful spelled

-- ---- one byte that was changed

small_sum : (s : Sums) (byte : ℕ) → (with_byte s byte).first < 2 ^ 64
small_sum s byte = omega arith

apart : (s t : Sums) (bytes : List ℕ) → s.first < 2 ^ 64 → t.first < 2 ^ 64 → s.first ≢ t.first
    → (folded with_byte s bytes).first ≢ (folded with_byte t bytes).first
apart s t [] small small' differ = differ
apart s t (b ∷ bs) small small' differ =
    apart (with_byte s b) (with_byte t b) bs (small_sum s b) (small_sum t b) (λ e. differ (cancel s.first t.first b small small' e))
  where
    cancel : (x y n : ℕ) → x < 2 ^ 64 → y < 2 ^ 64 → (x + n) % 2 ^ 64 ≡ (y + n) % 2 ^ 64 → x ≡ y
    cancel x y n lt lt' e = omega arith

small_fold : (s : Sums) (bytes : List ℕ) → s.first < 2 ^ 64 → (folded with_byte s bytes).first < 2 ^ 64
small_fold s [] small = small
small_fold s (b ∷ bs) small = small_fold (with_byte s b) bs (small_sum s b)

changed_sum : (s : Sums) (front back : List ℕ) (x y : ℕ) → s.first < 2 ^ 64 → x < 256 → y < 256 → x ≢ y
    → (folded with_byte s (front ++ x ∷ back)).first ≢ (folded with_byte s (front ++ y ∷ back)).first
changed_sum s [] back x y small sx sy differ =
    apart (with_byte s x) (with_byte s y) back (small_sum s x) (small_sum s y) (λ e. differ (cancel s.first x y sx sy e))
  where
    cancel : (n a b : ℕ) → a < 256 → b < 256 → (n + a) % 2 ^ 64 ≡ (n + b) % 2 ^ 64 → a ≡ b
    cancel n a b lt lt' e = omega arith
changed_sum s (b ∷ bs) back x y small sx sy differ = changed_sum (with_byte s b) bs back x y (small_sum s b) sx sy differ

-- checksums of such bytes differ
checksums_differ : (front back : List ℕ) (x y : ℕ) → x < 256 → y < 256 → x ≢ y → checksum (front ++ x ∷ back) ≢ checksum (front ++ y ∷ back)
unfolding sums_of
checksums_differ front back x y sx sy differ e =
    let a = sums_of (front ++ x ∷ back) in
    let b = sums_of (front ++ y ∷ back) in
    let len : length (in_eight a.first) ≡ length (in_eight b.first) = length-in_eight a.first ∙ sym (length-in_eight b.first) in
    changed_sum no_bytes front back x y (lit< tt) sx sy differ
    (in_eight-same a.first b.first (small_fold no_bytes (front ++ x ∷ back) (lit< tt)) (small_fold no_bytes (front ++ y ∷ back) (lit< tt))
    (front_same (in_eight a.first) (in_eight b.first) (in_eight a.second) (in_eight b.second) len e))

-- what is in front, of bytes with one at a place
take_past : (front back : List ℕ) (x : ℕ) (n : ℕ) → length front < n → take n (front ++ x ∷ back) ≡ front ++ x ∷ take (n - length front - 1) back
take_past front back x n lt =
    ap (λ (k : ℕ). take k (front ++ x ∷ back)) (split (length front) n lt) ∙ take-append-add front (x ∷ back) (suc (n - length front - 1))
  where
    split : (a b : ℕ) → a < b → b ≡ a + suc (b - a - 1)
    split a b h = omega arith

-- what is behind, of bytes with one at a place
drop_past : (front back : List ℕ) (x : ℕ) (n : ℕ) → length front < n → drop n (front ++ x ∷ back) ≡ drop (n - length front - 1) back
drop_past front back x n lt =
    ap (λ (k : ℕ). drop k (front ++ x ∷ back)) (split (length front) n lt) ∙ drop-append-add front (x ∷ back) (suc (n - length front - 1))
  where
    split : (a b : ℕ) → a < b → b ≡ a + suc (b - a - 1)
    split a b h = omega arith

not_both : (content content' front back : List ℕ) (old new : ℕ) → old < 256 → new < 256 → old ≢ new → length content ≡ length content'
    → sealed content ≡ front ++ old ∷ back → sealed content' ≡ front ++ new ∷ back → ⊥
not_both content content' front back old new so sn differ len a b =
    elim (cases_lt (length front) (length content)) [
      | inl lt ↦ within lt
      | inr le ↦ behind le
    ]
  where
    n : ℕ
    n = length content

    mid : List ℕ
    mid = take (n - length front - 1) back

    within : length front < n → ⊥
    within lt =
        let c : content ≡ front ++ old ∷ mid = sym (take-append_seam content (checksum content)) ∙ ap (take n) a ∙ take_past front back old n lt in
        let c' : content' ≡ front ++ new ∷ mid =
        sym (take-append_seam content' (checksum content')) ∙ ap (λ (k : ℕ). take k (sealed content')) (sym len) ∙ ap (take n) b ∙ take_past front back new n lt in
        let s : checksum content ≡ drop (n - length front - 1) back =
        sym (drop-append_seam content (checksum content)) ∙ ap (drop n) a ∙ drop_past front back old n lt in
        let s' : checksum content' ≡ drop (n - length front - 1) back =
        sym (drop-append_seam content' (checksum content')) ∙ ap (λ (k : ℕ). drop k (sealed content')) (sym len) ∙ ap (drop n) b ∙ drop_past front back new n lt in
        checksums_differ front mid old new so sn differ (sym (ap checksum c) ∙ s ∙ sym s' ∙ ap checksum c')

    behind : n ≤ length front → ⊥
    behind le =
        let c : content ≡ take n front = sym (take-append_seam content (checksum content)) ∙ ap (take n) a ∙ take-append-le n front (old ∷ back) le in
        let c' : content' ≡ take n front =
        sym (take-append_seam content' (checksum content')) ∙ ap (λ (k : ℕ). take k (sealed content')) (sym len) ∙ ap (take n) b ∙ take-append-le n front (new ∷ back) le in
        let same : front ++ old ∷ back ≡ front ++ new ∷ back = sym a ∙ ap sealed (c ∙ sym c') ∙ b in
        let tails = rest_same front front (old ∷ back) (new ∷ back) refl same in
        differ (cc)

-- bytes of which one was changed aren't any bytes with their checksum
pub changed_not_sealed : (content bytes other : List ℕ) → IsChangedAtOne (sealed content) bytes → bytes ≢ sealed other
changed_not_sealed content bytes other changed e =
    let total : length (sealed content) ≡ length (sealed other) =
    ap length changed.before_is ∙ length-append changed.front (changed.old ∷ changed.back)
    ∙ sym (length-append changed.front (changed.new ∷ changed.back)) ∙ sym (ap length changed.after_is) ∙ ap length e in
    not_both content other changed.front changed.back changed.old changed.new changed.old_small changed.new_small changed.differs
    (omega (arith, length-sealed content, length-sealed other)) changed.before_is (sym e ∙ changed.after_is)

pub changed_not_saved : (chain : ChainHash) (records : List Record) (bytes : List ℕ) → IsChangedAtOne (saved_as chain records) bytes → IsNotSaved chain bytes
changed_not_saved chain records bytes changed others lawful e =
    changed_not_sealed (headed chain (flat_map bytes_of records)) bytes (headed chain (flat_map bytes_of others)) changed e

-- ---- bytes that were cut off

pub cut_not_saved : (chain : ChainHash) (records : List Record) (n : ℕ) → length (saved_as chain records) < 2 ^ 64
    → n < length (saved_as chain records) → IsNotSaved chain (take n (saved_as chain records))
cut_not_saved chain records n small lt others lawful e =
    let whole = saved_as chain records in
    let body = flat_map bytes_of records in
    let body' = flat_map bytes_of others in
    let more = drop n whole in
    let parts : whole ≡ saved_as chain others ++ more = sym (take-append-drop n whole) ∙ ap (λ (s : List ℕ). s ++ more) e in
    let len : length (take n whole) ≡ n = omega (arith, length-take n whole) in
    let total : length (saved_as chain others) ≡ n = sym (ap length e) ∙ len in
    let a = unrolled chain body (checksum (headed chain body)) in
    let b = unrolled chain body' (checksum (headed chain body') ++ more) in
    let joined : headed chain body ++ checksum (headed chain body) ≡ headed chain body' ++ (checksum (headed chain body') ++ more) =
    parts ∙ append_assoc (headed chain body') (checksum (headed chain body')) more in
    let one = rest_same opening opening _ _ refl (sym a ∙ joined ∙ b) in
    let two = rest_same chain.0 chain.0 (in_eight (length body) ++ (body ++ checksum (headed chain body)))
    (in_eight (length body') ++ (body' ++ (checksum (headed chain body') ++ more))) refl one in
    let eights : length (in_eight (length body)) ≡ length (in_eight (length body')) = length-in_eight (length body) ∙ sym (length-in_eight (length body')) in
    let bound : length body < 2 ^ 64 = omega (arith, length-saved chain records) in
    let bound' : length body' < 2 ^ 64 = omega (arith, length-saved chain others) in
    let lengths = in_eight-same (length body) (length body') bound bound' (front_same (in_eight (length body)) (in_eight (length body')) _ _ eights two) in
    omega (arith, lengths, length-saved chain records, length-saved chain others)
  where
    unrolled : (c : ChainHash) (bytes after : List ℕ) → headed c bytes ++ after ≡ opening ++ (c.0 ++ (in_eight (length bytes) ++ (bytes ++ after)))
    unrolled c bytes after =
        append_assoc opening (c.0 ++ (in_eight (length bytes) ++ bytes)) after
        ∙ ap (λ (s : List ℕ). opening ++ s) (append_assoc c.0 (in_eight (length bytes) ++ bytes) after
        ∙ ap (λ (s : List ℕ). c.0 ++ s) (append_assoc (in_eight (length bytes)) bytes after))

-- ---- bytes of another chain

pub chain_not_saved : (chain other : ChainHash) (records : List Record) → length chain.0 ≡ length other.0 → chain ≢ other
    → IsNotSaved other (saved_as chain records)
chain_not_saved chain other records len differ others lawful e =
    let body = flat_map bytes_of records in
    let body' = flat_map bytes_of others in
    let contents : length (headed chain body) ≡ length (headed other body') =
    omega (arith, ap length e, length-sealed (headed chain body), length-sealed (headed other body')) in
    let same = front_same (headed chain body) (headed other body') _ _ contents e in
    let behind = rest_same opening opening (chain.0 ++ (in_eight (length body) ++ body)) (other.0 ++ (in_eight (length body') ++ body')) refl same in
    differ (ap (λ (hash : List ℕ). let c : ChainHash = record { 0 = hash } in c)
    (front_same chain.0 other.0 (in_eight (length body) ++ body) (in_eight (length body') ++ body') len behind))

-- Where the first line is in the bytes.
use Rattle.std.proofs.Common.{◌≡◌, ℕ, ◌+◌, ◌<◌, ◌≤◌, List, [], ◌∷◌, ◌++◌, length, take, drop, take-add, get_or}
use Rattle.std.proofs.Common.{Option, Some, None, refl, sym, ap, subst, ◌∙◌, append_assoc, inl, inr, arith}
use Rattle.std.specs.Prelude.{◌≢◌, ◌⊎◌, filter}
use Rattle.std.proofs.lemmas.Bool.{ne_eqb, eqb-true, eq-eqb}
use Rattle.std.proofs.lemmas.List.{append-nil, length-take, length-drop, take-append-drop, take_all}
use Rattle.std.proofs.lemmas.List.{drop_all, drop_more, get_or-take, get_or-drop, get_or_default}
use Rattle.std.proofs.lemmas.List.Elements.{All-head, All-tail, All-append, All-same, filter-append}
use Rattle.memchr.specs.Find.{IsFirstByte, is_byte}
use Rattle.lgm_script.specs.Device.{IsAtEnd}
use Rattle.lgm_script.specs.Lines.{line_feed, lines_of, ends_line, HasNoLineFeed, ahead, IsFirstLine, IsLongerThan}

abbrev pub EndsNoLine : ℕ → Type 0
EndsNoLine byte = byte ≢ line_feed

-- ---- on bytes

pub lines_of-feed : (line rest : List ℕ) → HasNoLineFeed line → lines_of (line ++ 10 ∷ rest) ≡ line ∷ lines_of rest
lines_of-feed [] rest one = refl
lines_of-feed (b ∷ bs) rest one = rw (ne_eqb b 10 (All-head EndsNoLine b bs one), lines_of-feed bs rest (All-tail EndsNoLine b bs one)) refl

pub lines_of-last : (line : List ℕ) → HasNoLineFeed line → 0 < length line → lines_of line ≡ line ∷ []
lines_of-last [] one some = absurd (omega arith)
lines_of-last (b ∷ []) one some = rw (ne_eqb b 10 (All-head EndsNoLine b [] one)) refl
lines_of-last (b ∷ c ∷ bs) one some =
    rw (
      ne_eqb b 10 (All-head EndsNoLine b (c ∷ bs) one),
      lines_of-last (c ∷ bs) (All-tail EndsNoLine b (c ∷ bs) one) (omega arith),
    ) refl

-- the first line extends at least this far
record BeginsWith (bytes line : List ℕ) : Type 0 where
  pub first : List ℕ
  pub others : List (List ℕ)
  pub lines : lines_of bytes ≡ first ∷ others
  pub long : length line ≤ length first

begins_with : (b : ℕ) (line rest : List ℕ) → HasNoLineFeed (b ∷ line) → BeginsWith (b ∷ line ++ rest) (b ∷ line)
begins_with b [] [] one = record { first = b ∷ []; others = []; lines = rw (ne_eqb b 10 (All-head EndsNoLine b [] one)) refl; long = omega arith }
begins_with b [] (c ∷ rest) one = onto b (lines_of (c ∷ rest)) refl
  where
    onto : (x : ℕ) (ls : List (List ℕ)) → lines_of (c ∷ rest) ≡ ls → BeginsWith (b ∷ c ∷ rest) (b ∷ [])
    onto x [] e = record { first = b ∷ []; others = []; lines = rw (ne_eqb b 10 (All-head EndsNoLine b [] one), e) refl; long = omega arith }
    onto x (l ∷ ls) e = record { first = b ∷ l; others = ls; lines = rw (ne_eqb b 10 (All-head EndsNoLine b [] one), e) refl; long = omega arith }
begins_with b (c ∷ line) rest one =
    let h = begins_with c line rest (All-tail EndsNoLine b (c ∷ line) one) in
    record {
      first = b ∷ h.first;
      others = h.others;
      lines = rw (ne_eqb b 10 (All-head EndsNoLine b (c ∷ line) one), h.lines) refl;
      long = let k = h.long in omega arith;
    }

pub longer : (most : ℕ) (line rest : List ℕ) → HasNoLineFeed line → most < length line → (first : List ℕ)
    × (others : List (List ℕ)) × (lines_of (line ++ rest) ≡ first ∷ others) × (most < length first)
longer most [] rest one long = absurd (omega arith)
longer most (b ∷ line) rest one long =
    let h = begins_with b line rest one in
    (h.first, h.others, h.lines, (let k = h.long in omega arith))

-- ---- what a search for a line feed finds

-- a line that ends after bytes that were searched
pub found_line : (bytes : List ℕ) (searched place : ℕ) (left : Option (List ℕ)) → searched ≤ length bytes
    → HasNoLineFeed (take searched bytes) → IsFirstByte (is_byte 10) (drop searched bytes) (Some place)
    → IsFirstLine bytes left (searched + place)
found_line bytes searched place left within one found =
    let high : place < length (drop searched bytes) = found.0.high in
    let inside : searched + place < length bytes = omega (arith, length-drop searched bytes) in
    let here : get_or bytes (searched + place) 0 ≡ 10 =
    sym (get_or-drop searched bytes place 0) ∙ eqb-true (get_or (drop searched bytes) place 0) 10 found.1 in
    record {
      within = omega arith;
      one =
          All-same EndsNoLine (take (searched + place) bytes)
          (take searched bytes ++ take place (drop searched bytes)) (take-add searched place bytes)
          (All-append EndsNoLine (take searched bytes) (take place (drop searched bytes)) one (before (drop searched bytes) place found));
      ends = inl (drop_more bytes (searched + place) 0 inside ∙ ap (λ (b : ℕ). b ∷ drop (searched + place + 1) bytes) here);
    }
  where
    before : (bytes : List ℕ) (k : ℕ) → IsFirstByte (is_byte 10) bytes (Some k) → HasNoLineFeed (take k bytes)
    before bytes k found = λ j d less is.
        let below : j < k = omega (arith, length-take k bytes) in
        let within : j < length bytes = omega (arith, length-take k bytes) in
        let same : get_or bytes j 0 ≡ 10 = get_or_default bytes j 0 d within ∙ sym (get_or-take k bytes j d below) ∙ is in
        found.0.before j (omega arith) below (eq-eqb (get_or bytes j 0) 10 same)

-- no line ends in bytes that were searched whole
pub found_none : (bytes : List ℕ) (searched : ℕ) → HasNoLineFeed (take searched bytes)
    → IsFirstByte (is_byte 10) (drop searched bytes) None → HasNoLineFeed bytes
found_none bytes searched one nowhere =
    All-same EndsNoLine bytes (take searched bytes ++ drop searched bytes) (sym (take-append-drop searched bytes))
    (All-append EndsNoLine (take searched bytes) (drop searched bytes) one (none (drop searched bytes) nowhere))
  where
    none : (bytes : List ℕ) → IsFirstByte (is_byte 10) bytes None → HasNoLineFeed bytes
    none bytes nowhere = λ j d less is.
        let same : get_or bytes j 0 ≡ 10 = get_or_default bytes j 0 d less ∙ is in
        nowhere j (omega arith) less (eq-eqb (get_or bytes j 0) 10 same)

-- ---- with what the source has left

pub has_longer : (most : ℕ) (bytes : List ℕ) (left : Option (List ℕ)) → HasNoLineFeed bytes
    → most < length bytes → IsLongerThan most (ahead bytes left)
has_longer most bytes None one long = tt
has_longer most bytes (Some left) one long = longer most bytes left one long

pub first_is_longer : (most len : ℕ) (bytes : List ℕ) (left : Option (List ℕ)) → IsFirstLine bytes left len
    → most < len → IsLongerThan most (ahead bytes left)
first_is_longer most len bytes None line long = tt
first_is_longer most len bytes (Some left) line long =
    let whole : bytes ++ left ≡ take len bytes ++ (drop len bytes ++ left) =
    ap (λ (s : List ℕ). s ++ left) (sym (take-append-drop len bytes))
    ∙ append_assoc (take len bytes) (drop len bytes) left in
    let within = line.within in
    rw whole (longer most (take len bytes) (drop len bytes ++ left) line.one (omega (arith, length-take len bytes)))

-- ---- the bytes of the first line, and those after it

-- the bytes after the first line is dropped
pub record NextLine (bytes left : List ℕ) (len : ℕ) : Type 0 where
  pub parts : bytes ≡ take (len + 1) bytes ++ drop (len + 1) bytes
  pub lines : lines_of (bytes ++ left) ≡ take len bytes ∷ lines_of (drop (len + 1) bytes ++ left)
  -- its line feed was among them, or nothing is left
  pub feed : (length (filter ends_line (take (len + 1) bytes)) ≡ 1) ⊎ (drop (len + 1) bytes ++ left ≡ [])

no_feed : (bytes : List ℕ) → HasNoLineFeed bytes → filter ends_line bytes ≡ []
no_feed [] one = refl
no_feed (b ∷ bs) one = rw (ne_eqb b 10 (All-head EndsNoLine b bs one)) (no_feed bs (All-tail EndsNoLine b bs one))

pub next_of : (bytes left : List ℕ) (len : ℕ) → IsFirstLine bytes (Some left) len → NextLine bytes left len
next_of bytes left len line = elim line.ends [ inl feed ↦ fed feed | inr last ↦ ended last.0 last.1 last.2 ]
  where
    fed : drop len bytes ≡ line_feed ∷ drop (len + 1) bytes → NextLine bytes left len
    fed feed =
        let whole : bytes ≡ take len bytes ++ 10 ∷ drop (len + 1) bytes =
        sym (take-append-drop len bytes) ∙ ap (λ (s : List ℕ). take len bytes ++ s) feed in
        let front : take (len + 1) bytes ≡ take len bytes ++ 10 ∷ [] = take-add len 1 bytes ∙ ap (λ (s : List ℕ). take len bytes ++ take 1 s) feed in
        record {
          parts = sym (take-append-drop (len + 1) bytes);
          lines =
              ap (λ (s : List ℕ). lines_of (s ++ left)) whole ∙ ap lines_of (append_assoc (take len bytes) (10 ∷ drop (len + 1) bytes) left)
              ∙ lines_of-feed (take len bytes) (drop (len + 1) bytes ++ left) line.one;
          feed =
              inl (ap (λ (s : List ℕ). length (filter ends_line s)) front
              ∙ ap length (filter-append ends_line (take len bytes) (10 ∷ []))
              ∙ ap (λ (s : List ℕ). length (s ++ 10 ∷ [])) (no_feed (take len bytes) line.one));
        }

    ended : len ≡ length bytes → 0 < len → IsAtEnd (Some left) → NextLine bytes left len
    ended is some end =
        let all : take len bytes ≡ bytes = take_all len bytes (omega arith) in
        let none : drop (len + 1) bytes ≡ [] = drop_all (len + 1) bytes (omega arith) in
        let one : HasNoLineFeed bytes = subst HasNoLineFeed all line.one in
        record {
          parts = sym (take-append-drop (len + 1) bytes);
          lines =
              ap (λ (s : List ℕ). lines_of (bytes ++ s)) end ∙ ap lines_of (append-nil bytes) ∙ lines_of-last bytes one (omega arith)
              ∙ ap (λ (l : List ℕ). l ∷ []) (sym all) ∙ ap (λ (s : List ℕ). take len bytes
              ∷ lines_of s) (sym (ap (λ (s : List ℕ). s ++ left) none ∙ end));
          feed = inr (ap (λ (s : List ℕ). s ++ left) none ∙ end);
        }

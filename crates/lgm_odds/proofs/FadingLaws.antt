-- Laws of how what is believed fades.
use Rattle.std.proofs.Common.{◌≡◌, ◌∙◌, ℕ, ◌+◌, ◌-◌, ◌*◌, ◌/◌, ◌^◌, ◌<◌, ◌≤◌, Bool, true, false, ◌&&◌, ◌||◌, [], ◌∷◌, refl, sym, ap, subst, arith, length, take, get_or, Option, Some, None, unwrap_or, true≢false}
use Rattle.std.specs.Prelude.{◌==◌, slice_get, min, IfSome, nat_le, if◌then◌else◌}
use Rattle.std.specs.List.{list_any}
use Rattle.std.specs.Option.{option_map, option_and_then}
use Rattle.std.proofs.Math.Nat.{zero-mul, zero-div}
use Rattle.std.proofs.lemmas.Bool.{and_parts, eqb-true, eq-eqb, le-leb}
use Rattle.std.proofs.lemmas.Map.Entries.{lookup_tail}
use Rattle.std.proofs.lemmas.List.Folds.{list_any_more}
use Rattle.std.proofs.lemmas.Option.{slice_get-get_or}
use Rattle.lgm_wire.specs.declared.point.Point.{Point}
use Rattle.lgm_check.specs.declared.row.ChannelRow.{ChannelRow}
use Rattle.lgm_store.specs.Rows.{Rows, channel_of}
use Rattle.lgm_store.proofs.Points.{same_point, is_point-self}
use Rattle.lgm_graph.specs.declared.estimate.Estimate.{Estimate}
use Rattle.lgm_graph.specs.declared.estimate.EdgeKey.{EdgeKey}
use Rattle.lgm_graph.specs.Estimates.{Entries, is_key, key_of, known_of, estimate_of, no_estimate}
use Rattle.lgm_odds.specs.declared.fading.Elapsed.{Elapsed}
use Rattle.lgm_odds.specs.Fading.{kept, faded, says_little, kept_of, faded_in, faded_at, IsLaid, IsFadedAt, AreFaded}

-- one of the entries is of the edge
abbrev pub has_entry : Entries → ℕ → Point → Bool
has_entry entries scid from = list_any (λ entry. is_key scid from entry.0) entries

-- what the first entries leave: of their edges what faded, and of others nothing
abbrev pub AreLaid : Rows → Elapsed → Entries → Entries → Entries → Type 0
AreLaid rows time learnt done left =
    (scid : ℕ) (from : Point) → estimate_of left scid from
    ≡ (if has_entry done scid from then faded_at rows time scid from (estimate_of learnt scid from) else no_estimate)

-- a key of an edge is that of the edge of a key
key_turned : (scid : ℕ) (from : Point) (key : EdgeKey) → is_key scid from key ≡ false
    → is_key key.scid key.from (key_of scid from) ≡ false
key_turned scid from key other = by (is_key key.scid key.from (key_of scid from)) refl
  where
    by : (b : Bool) → is_key key.scid key.from (key_of scid from) ≡ b → is_key key.scid key.from (key_of scid from) ≡ false
    by false is = is
    by true is =
        let both = and_parts _ _ is in
        let id : key.scid ≡ scid = eqb-true key.scid scid both.0 in
        let node : key.from ≡ from = same_point key.from from both.1 in
        let own : is_key key.scid key.from key ≡ true = rw (is_point-self key.from, eq-eqb key.scid key.scid refl) refl in
        let turned : is_key scid from key ≡ true =
        subst (λ n. is_key n from key ≡ true) id (subst (λ (p : Point). is_key key.scid p key ≡ true) node own) in
        absurd (true≢false (sym turned ∙ other))

-- the edge of a key is this one
key_same : (scid : ℕ) (from : Point) (key : EdgeKey) → is_key scid from key ≡ true → (scid ≡ key.scid) × (from ≡ key.from)
key_same scid from key is =
    let both = and_parts _ _ is in (eqb-true scid key.scid both.0, same_point from key.from both.1)

known_estimate : (entries : Entries) (scid : ℕ) (from : Point) (known : Option Estimate) → known_of entries scid from ≡ known
    → estimate_of entries scid from ≡ unwrap_or known no_estimate
known_estimate entries scid from known is = ap (λ (o : Option Estimate). unwrap_or o no_estimate) is

-- ---- one more entry

module _ (rows : Rows) (time : Elapsed) (learnt : Entries) where
  -- at the edge of the entry
  laid_here : (laid : Option Estimate) (key : EdgeKey) (before : Bool) (old new : Entries) → IsLaid laid key old new
      → estimate_of old key.scid key.from ≡ (if before then unwrap_or laid no_estimate else no_estimate)
      → estimate_of new key.scid key.from ≡ unwrap_or laid no_estimate
  laid_here None key true old new same was = ap (λ (e : Entries). estimate_of e key.scid key.from) same ∙ was
  laid_here None key false old new same was = ap (λ (e : Entries). estimate_of e key.scid key.from) same ∙ was
  laid_here (Some estimate) key before old new set was = known_estimate new key.scid key.from (Some estimate) set.here

  -- at another one
  laid_elsewhere : (laid : Option Estimate) (key : EdgeKey) (scid : ℕ) (from : Point) (old new : Entries) → IsLaid laid key old new
      → is_key scid from key ≡ false → estimate_of new scid from ≡ estimate_of old scid from
  laid_elsewhere None key scid from old new same other = ap (λ (e : Entries). estimate_of e scid from) same
  laid_elsewhere (Some estimate) key scid from old new set other =
      ap (λ (o : Option Estimate). unwrap_or o no_estimate) (set.others (key_of scid from) (key_turned scid from key other))

  or_true : (b : Bool) → (b || true) ≡ true
  or_true true = refl
  or_true false = refl

  or_false : (b : Bool) → (b || false) ≡ b
  or_false true = refl
  or_false false = refl

  abbrev pub IsLaidAs : Entries → ℕ → Point → Bool → Type 0
  IsLaidAs new scid from b =
      estimate_of new scid from ≡ (if b then faded_at rows time scid from (estimate_of learnt scid from) else no_estimate)

  pub laid_more : (done more : Entries) (key : EdgeKey) (old new : Entries)
      → ((scid : ℕ) (from : Point) → has_entry more scid from ≡ (has_entry done scid from || is_key scid from key))
      → AreLaid rows time learnt done old → IsFadedAt rows time learnt key old new → AreLaid rows time learnt more new
  laid_more done more key old new adds before laid = λ scid from. by scid from (is_key scid from key) refl
    where
      by : (scid : ℕ) (from : Point) (b : Bool) → is_key scid from key ≡ b → estimate_of new scid from
          ≡ (if has_entry more scid from then faded_at rows time scid from (estimate_of learnt scid from) else no_estimate)
      by scid from true is =
          let same = key_same scid from key is in
          let named : has_entry more scid from ≡ true =
          adds scid from ∙ ap (λ b. has_entry done scid from || b) is ∙ or_true (has_entry done scid from) in
          let here : IsLaidAs new key.scid key.from true =
          laid_here (faded_in rows time key.scid (estimate_of learnt key.scid key.from)) key (has_entry done key.scid key.from) old new
          laid (before key.scid key.from) in
          let moved : IsLaidAs new scid from true =
          subst (λ n. IsLaidAs new n from true) (sym same.0) (subst (λ (p : Point). IsLaidAs new key.scid p true) (sym same.1) here) in
          subst (λ b. IsLaidAs new scid from b) (sym named) moved
      by scid from false is =
          let named : has_entry more scid from ≡ has_entry done scid from =
          adds scid from ∙ ap (λ b. has_entry done scid from || b) is ∙ or_false (has_entry done scid from) in
          let was : IsLaidAs new scid from (has_entry done scid from) =
          laid_elsewhere (faded_in rows time key.scid (estimate_of learnt key.scid key.from)) key scid from old new laid is
          ∙ before scid from in
          subst (λ b. IsLaidAs new scid from b) (sym named) was

  -- by the entry at a place
  pub laid_at : (place : ℕ) (old new : Entries) → place < length learnt → AreLaid rows time learnt (take place learnt) old
      → IfSome (slice_get learnt place) (λ entry. IsFadedAt rows time learnt entry.0 old new)
      → AreLaid rows time learnt (take (place + 1) learnt) new
  laid_at place old new lt before laid = by (slice_get learnt place) refl laid
    where
      by : (o : Option (EdgeKey × Estimate)) → slice_get learnt place ≡ o
          → IfSome o (λ entry. IsFadedAt rows time learnt entry.0 old new)
          → AreLaid rows time learnt (take (place + 1) learnt) new
      by None is laid =
          let key : EdgeKey = record { scid = 0; from = record { 0 = [] } } in
          let there = slice_get-get_or learnt place (key, no_estimate) lt in
          absurd (some_none (sym there ∙ is))
        where
          some_none : {X : Type 0} {x : X} → Some x ≡ None → ⊥
          some_none e = cc
      by (Some entry) is laid =
          let there : Some (get_or learnt place entry) ≡ Some entry = sym (slice_get-get_or learnt place entry lt) ∙ is in
          let same : get_or learnt place entry ≡ entry = cc in
          laid_more (take place learnt) (take (place + 1) learnt) entry.0 old new
          (λ scid from. list_any_more (λ (e : EdgeKey × Estimate). is_key scid from e.0) learnt place entry lt
          ∙ ap (λ (e : EdgeKey × Estimate). has_entry (take place learnt) scid from || is_key scid from e.0) same) before laid

-- ---- nothing known fades to nothing

nothing_kept : (share n : ℕ) → 0 * share / 1000000 / n ≡ 0
nothing_kept share n = rw (zero-mul share) (zero-div n)

kept_nothing : (time : Elapsed) → kept time 0 ≡ 0
kept_nothing time = nothing_kept _ _

-- what isn't among the entries isn't known
unknown : (entries : Entries) (scid : ℕ) (from : Point) → has_entry entries scid from ≡ false → known_of entries scid from ≡ None
unknown [] scid from none = refl
unknown (entry ∷ entries) scid from none = by (is_key scid from entry.0) refl (unknown entries scid from)
  where
    by : (b : Bool) → is_key scid from entry.0 ≡ b
        → (has_entry entries scid from ≡ false → known_of entries scid from ≡ None)
        → known_of (entry ∷ entries) scid from ≡ None
    by true is rest = let no : true ≡ false = rw is at none in absurd (true≢false no)
    by false is rest = lookup_tail (is_key scid from) entry entries is ∙ rest (rw is at none)

-- so it says little
little : (capacity a b c : ℕ) → a ≡ 0 → b ≡ 0 → c ≡ 0
    → (nat_le (16 * a) capacity && nat_le (16 * (capacity - (capacity - b))) capacity && c == 0) ≡ true
little capacity a b c p q r =
    let first : nat_le (16 * a) capacity ≡ true = le-leb _ _ (omega arith) in
    let second : nat_le (16 * (capacity - (capacity - b))) capacity ≡ true = le-leb _ _ (omega arith) in
    let third : (c == 0) ≡ true = eq-eqb c 0 r in
    rw (first, second, third) refl

faded_little : (time : Elapsed) (capacity : ℕ) → capacity ≤ 2 ^ 64 - 1
    → says_little capacity (faded time capacity no_estimate) ≡ true
faded_little time capacity low =
    let none : capacity - (2 ^ 64 - 1) ≡ 0 = omega arith in
    little capacity (kept time 0) (kept time (capacity - (2 ^ 64 - 1))) (kept time 0) (kept_nothing time)
    (ap (λ n. kept time n) none ∙ kept_nothing time) (kept_nothing time)

faded_nothing : (rows : Rows) (time : Elapsed) (scid : ℕ) (from : Point) → faded_at rows time scid from no_estimate ≡ no_estimate
faded_nothing rows time scid from = by (channel_of rows.channels scid)
  where
    by : (o : Option ChannelRow) → unwrap_or (option_and_then (λ capacity. kept_of capacity (faded time capacity no_estimate))
        (option_map (λ (channel : ChannelRow). min (2 ^ 64 - 1) (channel.sat * 1000)) o)) no_estimate ≡ no_estimate
    by None = refl
    by (Some channel) = rw (faded_little time (min (2 ^ 64 - 1) (channel.sat * 1000)) (omega arith)) refl

-- what all entries leave is what faded
pub laid_all : (rows : Rows) (time : Elapsed) (learnt left : Entries) → AreLaid rows time learnt learnt left
    → AreFaded rows time learnt left
laid_all rows time learnt left laid = λ scid from. by scid from (has_entry learnt scid from) refl (laid scid from)
  where
    by : (scid : ℕ) (from : Point) (b : Bool) → has_entry learnt scid from ≡ b
        → estimate_of left scid from
        ≡ (if has_entry learnt scid from then faded_at rows time scid from (estimate_of learnt scid from) else no_estimate)
        → estimate_of left scid from ≡ faded_at rows time scid from (estimate_of learnt scid from)
    by scid from true is laid = rw is at laid
    by scid from false is laid =
        let none : estimate_of left scid from ≡ no_estimate = rw is at laid in
        let bare : estimate_of learnt scid from ≡ no_estimate =
        known_estimate learnt scid from None (unknown learnt scid from is) in
        none ∙ sym (faded_nothing rows time scid from) ∙ ap (λ (e : Estimate). faded_at rows time scid from e) (sym bare)

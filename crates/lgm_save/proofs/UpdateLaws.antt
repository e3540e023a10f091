-- The updates of a map, channel by channel.
use Rattle.std.proofs.Common.{◌≡◌, ℕ, ◌<◌, ◌≤◌, Bool, true, false, cond, ◌&&◌, List, [], ◌∷◌, ◌++◌, map, Option, Some, None, refl, sym, ap, ◌∙◌, eqb, arith, inl, inr}
use Rattle.std.specs.Prelude.{is_some, nat_lt, ◌⊎◌}
use Rattle.std.specs.Bool.{beq}
use Rattle.std.specs.Option.{option_to_list}
use Rattle.std.specs.List.{AllByRecursion, filter, flat_map}
use Rattle.std.specs.List.Sorted.{IsStrictlySortedBy}
use Rattle.std.specs.Ordering.{nat_cmp, bool_cmp, ordering_then}
use Rattle.std.specs.declared.cmp.Ordering.{Ordering}
use Rattle.std.specs.declared.cmp.Ordering.TheVariants.{Less, Equal, Greater}
use Rattle.std.proofs.lemmas.Bool.Decides.{nat_tests}
use Rattle.std.proofs.lemmas.Bool.{lt-ltb, le-ltb, ltb-true, cases_lt, eq-eqb, eqb-true}
use Rattle.lgm_check.specs.declared.row.ChannelRow.{ChannelRow}
use Rattle.lgm_check.specs.declared.row.UpdateRow.{UpdateRow}
use Rattle.lgm_store.specs.Rows.{Rows, by_id, by_direction, is_second, channel_of, update_of}
use Rattle.lgm_store.specs.ChannelInfo.{stored_at}
use Rattle.lgm_store.proofs.ListLaws.{find-kept, filter-all, All-to}
use Rattle.lgm_store.proofs.AscendingRowLaws.{ascend-filter}
use Rattle.lgm_save.specs.Records.{update_record}
use Rattle.lgm_save.specs.inner.Pushing.{update_list, updates_in}

-- of two updates in order
record IsBefore (id : ℕ) (second : Bool) (id' : ℕ) (second' : Bool) : Type 0 where
  ids : id ≤ id'
  ties : id ≡ id' → (second ≡ false) × (second' ≡ true)

ordered : (a b : UpdateRow) → by_direction a b ≡ Less → IsBefore a.message.short_channel_id (is_second a) b.message.short_channel_id (is_second b)
ordered a b less = by (nat_cmp a.message.short_channel_id b.message.short_channel_id) refl less
  where
    both : (s t : Bool) → bool_cmp s t ≡ Less → (s ≡ false) × (t ≡ true)
    both true true e = absurd cc
    both true false e = absurd cc
    both false true e = (refl, refl)
    both false false e = absurd cc

    below : (m n : ℕ) → nat_cmp m n ≡ Less → m < n
    below m n e = grind (arith, nat_tests)

    same : (m n : ℕ) → nat_cmp m n ≡ Equal → m ≡ n
    same m n e = grind (arith, nat_tests)

    by : (o : Ordering) → nat_cmp a.message.short_channel_id b.message.short_channel_id ≡ o
        → ordering_then o (bool_cmp (is_second a) (is_second b)) ≡ Less
        → IsBefore a.message.short_channel_id (is_second a) b.message.short_channel_id (is_second b)
    by Less is e =
        let lt = below a.message.short_channel_id b.message.short_channel_id is in
        record { ids = omega arith; ties = λ eq. absurd (omega arith) }
    by Equal is e = record { ids = omega (arith, same a.message.short_channel_id b.message.short_channel_id is); ties = λ eq. both (is_second a) (is_second b) e }
    by Greater is e = absurd cc

-- updates of greater ids
abbrev AreAbove : ℕ → List UpdateRow → Type 0
AreAbove id us = AllByRecursion (λ u. id < u.message.short_channel_id) us

none_above : (id : ℕ) (second : Bool) (us : List UpdateRow) → AreAbove id us → update_of us id second ≡ None
none_above id second [] above = refl
none_above id second (u ∷ us) above =
    let differ : eqb u.message.short_channel_id id ≡ false = grind (arith, above.0) in
    rw differ (none_above id second us above.1)

all_above : (id : ℕ) (us : List UpdateRow) → AreAbove id us → filter (λ u. nat_lt id u.message.short_channel_id) us ≡ us
all_above id us above = filter-all _ us (All-to _ _ us (λ u lt. lt-ltb id u.message.short_channel_id lt) above)

-- those behind the update of node 2 are of greater ids
behind_second : (id : ℕ) (u : UpdateRow) (us : List UpdateRow) → u.message.short_channel_id ≡ id → is_second u ≡ true
    → AllByRecursion (λ v. by_direction u v ≡ Less) us → AreAbove id us
behind_second id u [] is second behind = tt
behind_second id u (v ∷ us) is second behind = (one (ordered u v behind.0), behind_second id u us is second behind.1)
  where
    one : IsBefore u.message.short_channel_id (is_second u) v.message.short_channel_id (is_second v) → id < v.message.short_channel_id
    one before =
        elim (cases_lt id v.message.short_channel_id) [
          | inl lt ↦ lt
          | inr le ↦
              let t = before.ties (omega (arith, before.ids)) in
              let bad : false ≡ true = sym t.0 ∙ second in
              absurd cc
        ]

-- and those behind one of a greater id too
behind_greater : (id : ℕ) (u : UpdateRow) (us : List UpdateRow) → id < u.message.short_channel_id
    → AllByRecursion (λ v. by_direction u v ≡ Less) us → AreAbove id us
behind_greater id u [] lt behind = tt
behind_greater id u (v ∷ us) lt behind = (omega (arith, (ordered u v behind.0).ids), behind_greater id u us lt behind.1)

-- behind the update of node 1 there is no other one of node 1
no_first : (id : ℕ) (u : UpdateRow) (us : List UpdateRow) → u.message.short_channel_id ≡ id → AllByRecursion (λ v. by_direction u v ≡ Less) us
    → update_of us id false ≡ None
no_first id u [] is behind = refl
no_first id u (v ∷ us) is behind = by (no_first id u us is behind.1) (eqb v.message.short_channel_id id) refl (is_second v) refl (ordered u v behind.0)
  where
    by : update_of us id false ≡ None → (b : Bool) → eqb v.message.short_channel_id id ≡ b → (s : Bool) → is_second v ≡ s
        → IsBefore u.message.short_channel_id (is_second u) v.message.short_channel_id (is_second v) → update_of (v ∷ us) id false ≡ None
    by others false e s f before = rw e others
    by others true e true f before = rw (e, f) others
    by others true e false f before =
        let same : v.message.short_channel_id ≡ id = eqb-true v.message.short_channel_id id e in
        let t = before.ties (is ∙ sym same) in
        let bad : false ≡ true = sym f ∙ t.1 in
        absurd cc

-- the updates of an id, and those of greater ids
unfoldable pub two : List UpdateRow → ℕ → List UpdateRow
two us id = option_to_list (update_of us id false) ++ option_to_list (update_of us id true)

parted : (id : ℕ) (us : List UpdateRow) → IsStrictlySortedBy by_direction us → AllByRecursion (λ u. id ≤ u.message.short_channel_id) us
    → us ≡ two us id ++ filter (λ u. nat_lt id u.message.short_channel_id) us
unfolding IsStrictlySortedBy two
parted id [] sorted from = refl
parted id (u ∷ us) sorted from =
    elim (cases_lt id u.message.short_channel_id) [
      | inl lt ↦
          let above : AreAbove id (u ∷ us) = (lt, behind_greater id u us lt sorted.0) in
          rw (none_above id false (u ∷ us) above, none_above id true (u ∷ us) above) (sym (all_above id (u ∷ us) above))
      | inr le ↦ by (parted id us sorted.1) (is_second u) refl (omega (arith, from.0))
    ]
  where
    by : (AllByRecursion (λ u. id ≤ u.message.short_channel_id) us → us ≡ two us id ++ filter (λ u. nat_lt id u.message.short_channel_id) us)
        → (s : Bool) → is_second u ≡ s → u.message.short_channel_id ≡ id
        → u ∷ us ≡ two (u ∷ us) id ++ filter (λ u. nat_lt id u.message.short_channel_id) (u ∷ us)
    by others true f is =
        let here : eqb u.message.short_channel_id id ≡ true = eq-eqb u.message.short_channel_id id is in
        let stays : nat_lt id u.message.short_channel_id ≡ false = le-ltb id u.message.short_channel_id (omega arith) in
        let above = behind_second id u us is f sorted.0 in
        rw (here, f, stays, none_above id false us above, all_above id us above) refl
    by before false f is =
        let here : eqb u.message.short_channel_id id ≡ true = eq-eqb u.message.short_channel_id id is in
        let stays : nat_lt id u.message.short_channel_id ≡ false = le-ltb id u.message.short_channel_id (omega arith) in
        let rest = before from.1 in
        let first = no_first id u us is sorted.0 in
        let others : us ≡ option_to_list (update_of us id true) ++ filter (λ u. nat_lt id u.message.short_channel_id) us = rw first at rest in
        rw (here, f, stays) (ap (λ (xs : List UpdateRow). u ∷ xs) others)

-- channels of greater ids
abbrev AreChannelsAbove : ℕ → List ChannelRow → Type 0
AreChannelsAbove id cs = AllByRecursion (λ c. id < c.message.short_channel_id) cs

channels_above : (c : ChannelRow) (cs : List ChannelRow) → AllByRecursion (λ d. by_id c d ≡ Less) cs → AreChannelsAbove c.message.short_channel_id cs
channels_above c [] less = tt
channels_above c (d ∷ cs) less = (below c.message.short_channel_id d.message.short_channel_id less.0, channels_above c cs less.1)
  where
    below : (m n : ℕ) → nat_cmp m n ≡ Less → m < n
    below m n e = grind (arith, nat_tests)

-- an id that has a channel is at least the first one's
at_least : (id : ℕ) (cs : List ChannelRow) (k : ℕ) → AreChannelsAbove id cs → is_some (channel_of cs k) ≡ true → id < k
at_least id [] k above found = absurd cc
at_least id (c ∷ cs) k above found = by (at_least id cs k above.1) (eqb c.message.short_channel_id k) refl found
  where
    by : (is_some (channel_of cs k) ≡ true → id < k) → (b : Bool) → eqb c.message.short_channel_id k ≡ b → is_some (cond (eqb c.message.short_channel_id k) (Some c) (channel_of cs k)) ≡ true → id < k
    by others true e f = omega (arith, above.0, eqb-true c.message.short_channel_id k e)
    by others false e f = others (rw e at f)

-- an id that has a channel is that of the first one, or that of a later one
later : (c : ChannelRow) (cs : List ChannelRow) (k : ℕ) → is_some (channel_of (c ∷ cs) k) ≡ true
    → (c.message.short_channel_id ≡ k) ⊎ (is_some (channel_of cs k) ≡ true)
later c cs k found = by (eqb c.message.short_channel_id k) refl found
  where
    by : (b : Bool) → eqb c.message.short_channel_id k ≡ b → is_some (cond (eqb c.message.short_channel_id k) (Some c) (channel_of cs k)) ≡ true
        → (c.message.short_channel_id ≡ k) ⊎ (is_some (channel_of cs k) ≡ true)
    by true e f = inl (eqb-true c.message.short_channel_id k e)
    by false e f = inr (rw e at f)

from_first : (c : ChannelRow) (cs : List ChannelRow) (vs : List UpdateRow) → AreChannelsAbove c.message.short_channel_id cs
    → AllByRecursion (λ u. is_some (channel_of (c ∷ cs) u.message.short_channel_id) ≡ true) vs
    → AllByRecursion (λ u. c.message.short_channel_id ≤ u.message.short_channel_id) vs
from_first c cs [] above found = tt
from_first c cs (v ∷ vs) above found = (
  elim (later c cs v.message.short_channel_id found.0) [
    | inl e ↦ omega arith
    | inr f ↦ omega (arith, at_least c.message.short_channel_id cs v.message.short_channel_id above f)
  ],
  from_first c cs vs above found.1,
)

kept_behind : (c : ChannelRow) (cs : List ChannelRow) (vs : List UpdateRow)
    → AllByRecursion (λ u. is_some (channel_of (c ∷ cs) u.message.short_channel_id) ≡ true) vs
    → AllByRecursion (λ u. is_some (channel_of cs u.message.short_channel_id) ≡ true)
    (filter (λ u. nat_lt c.message.short_channel_id u.message.short_channel_id) vs)
kept_behind c cs [] found = tt
kept_behind c cs (v ∷ vs) found = by (kept_behind c cs vs found.1) (nat_lt c.message.short_channel_id v.message.short_channel_id) refl
  where
    behind : List UpdateRow
    behind = filter (λ u. nat_lt c.message.short_channel_id u.message.short_channel_id) vs

    by : AllByRecursion (λ u. is_some (channel_of cs u.message.short_channel_id) ≡ true) behind
        → (b : Bool) → nat_lt c.message.short_channel_id v.message.short_channel_id ≡ b
        → AllByRecursion (λ u. is_some (channel_of cs u.message.short_channel_id) ≡ true) (cond b (v ∷ behind) behind)
    by others true e = (
      elim (later c cs v.message.short_channel_id found.0) [
        | inl same ↦ absurd (omega (arith, ltb-true c.message.short_channel_id v.message.short_channel_id e))
        | inr f ↦ f
      ],
      others,
    )
    by others false e = others

-- updates of greater ids are found among those
same_found : (id k : ℕ) (second : Bool) (us : List UpdateRow) → id < k
    → update_of (filter (λ u. nat_lt id u.message.short_channel_id) us) k second ≡ update_of us k second
same_found id k second us lt = find-kept _ _ us (each us)
  where
    one : (v : UpdateRow) (b : Bool) → eqb v.message.short_channel_id k ≡ b → (eqb v.message.short_channel_id k && beq (is_second v) second) ≡ true
        → nat_lt id v.message.short_channel_id ≡ true
    one v true e f = lt-ltb id v.message.short_channel_id (omega (arith, eqb-true v.message.short_channel_id k e))
    one v false e f = let bad : false ≡ true = rw e at f in absurd cc

    each : (vs : List UpdateRow) → AllByRecursion (λ u. (eqb u.message.short_channel_id k && beq (is_second u) second) ≡ true
        → nat_lt id u.message.short_channel_id ≡ true) vs
    each [] = tt
    each (v ∷ vs) = (λ e. one v (eqb v.message.short_channel_id k) refl e, each vs)

alike : (id : ℕ) (us : List UpdateRow) (ds : List ChannelRow) → AreChannelsAbove id ds → flat_map (λ c. two us c.message.short_channel_id) ds
    ≡ flat_map (λ c. two (filter (λ u. nat_lt id u.message.short_channel_id) us) c.message.short_channel_id) ds
unfolding two
alike id us [] up = refl
alike id us (d ∷ ds) up =
    rw (same_found id d.message.short_channel_id false us up.0, same_found id d.message.short_channel_id true us up.0)
    (ap (λ (xs : List UpdateRow). (option_to_list (update_of us d.message.short_channel_id false)
    ++ option_to_list (update_of us d.message.short_channel_id true)) ++ xs) (alike id us ds up.1))

-- the updates of the channels, one channel after the other
pub updates_all : (cs : List ChannelRow) (us : List UpdateRow) → IsStrictlySortedBy by_id cs → IsStrictlySortedBy by_direction us
    → AllByRecursion (λ u. is_some (channel_of cs u.message.short_channel_id) ≡ true) us
    → flat_map (λ c. two us c.message.short_channel_id) cs ≡ us
unfolding IsStrictlySortedBy
updates_all [] [] sorted ascend stored = refl
updates_all [] (u ∷ us) sorted ascend stored = let bad : false ≡ true = stored.0 in absurd cc
updates_all (c ∷ cs) us sorted ascend stored =
    let id = c.message.short_channel_id in
    let above = channels_above c cs sorted.0 in
    let behind = filter (λ u. nat_lt id u.message.short_channel_id) us in
    let others = updates_all cs behind sorted.1 (ascend-filter by_direction _ us ascend) (kept_behind c cs us stored) in
    ap (λ (xs : List UpdateRow). two us id ++ xs) (alike id us cs above ∙ others) ∙ sym (parted id us ascend (from_first c cs us above stored))

-- the records of these updates
pub update_records_all : (rows : Rows) (cs : List ChannelRow) (us : List UpdateRow) → rows.updates ≡ us
    → flat_map updates_in (map (stored_at rows) cs) ≡ map update_record (flat_map (λ c. two us c.message.short_channel_id) cs)
unfolding two
update_records_all rows [] us is = refl
update_records_all rows (c ∷ cs) us is =
    rw (is, update_records_all rows cs us is)
    (joined (update_of us c.message.short_channel_id false) (update_of us c.message.short_channel_id true) (flat_map (λ c. two us c.message.short_channel_id) cs))
  where
    joined : (a b : Option UpdateRow) (xs : List UpdateRow) → (update_list a ++ update_list b) ++ map update_record xs
        ≡ map update_record ((option_to_list a ++ option_to_list b) ++ xs)
    joined None None xs = refl
    joined None (Some b) xs = refl
    joined (Some a) None xs = refl
    joined (Some a) (Some b) xs = refl

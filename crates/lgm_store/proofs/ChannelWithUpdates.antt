-- Channels with their updates, from the rows.
use Rattle.std.proofs.Common.{◌≡◌, ℕ, Bool, true, false, ◌&&◌, cond, List, [], ◌∷◌, ◌++◌, map, Option, Some, None, refl, sym, ap, ◌∙◌, eqb, arith}
use Rattle.std.specs.Prelude.{is_some}
use Rattle.std.specs.Option.{option_map, option_and_then}
use Rattle.std.specs.List.{AllByRecursion, filter}
use Rattle.std.specs.List.Sorted.{IsStrictlySortedBy}
use Rattle.std.specs.Map.{lookup, set_value, keys_of, values_of}
use Rattle.std.specs.BTreeMap.{is_at}
use Rattle.std.specs.declared.cmp.Ordering.TheVariants.{Less}
use Rattle.std.specs.Ordering.{nat_cmp}
use Rattle.std.proofs.lemmas.Bool.Decides.{nat_tests}
use Rattle.std.proofs.lemmas.Bool.{and_right}
use Rattle.lgm_check.specs.declared.row.ChannelRow.{ChannelRow}
use Rattle.lgm_check.specs.declared.row.UpdateRow.{UpdateRow}
use Rattle.lgm_store.specs.declared.channel_info.ChannelInfo.{ChannelInfo}
use Rattle.lgm_store.specs.Keys.{IsKeyed, direction_of, id_of}
use Rattle.lgm_store.specs.ChannelInfo.{update_in, stored_at}
use Rattle.lgm_store.specs.inner.ChannelEntries.{channel_entries, update_entry, update_entries}
use Rattle.lgm_store.specs.inner.ChannelTable.{id_in}
use Rattle.lgm_store.specs.Reading.{is_between, ids_between_of, channels_between_of}
use Rattle.lgm_store.specs.Rows.{Rows, channel_of, update_of}
use Rattle.lgm_store.proofs.ListLaws.{filter-filter, filter-same}
use Rattle.lgm_store.proofs.Lists.{lookup-channel, lookup-update}
use Rattle.lgm_store.proofs.ChannelMapLaws.{lookup-channels, lookup-updates}
use Rattle.lgm_store.proofs.Bans.{id_again}
use Rattle.lgm_store.proofs.NodeIdListLaws.{is_at-id}

-- ---- each update's channel is there

-- so are the channels of entries
HasAll : List ChannelRow → List (ℕ × ChannelInfo) → Type 0
HasAll rows es = AllByRecursion (λ e. is_some (channel_of rows e.0) ≡ true) es

has_more : (row : ChannelRow) (rows : List ChannelRow) (es : List (ℕ × ChannelInfo)) → HasAll rows es → HasAll (row ∷ rows) es
unfolding HasAll
has_more row rows [] all = tt
has_more row rows (e ∷ es) all = (by (eqb (id_of row) e.0), has_more row rows es all.1)
  where
    by : (b : Bool) → is_some (cond b (Some row) (channel_of rows e.0)) ≡ true
    by true = refl
    by false = all.0

has_all : (es : List (ℕ × ChannelInfo)) → IsKeyed id_of (channel_entries es) → HasAll (values_of (channel_entries es)) es
unfolding HasAll
has_all [] keyed = tt
has_all (e ∷ es) keyed = (rw (keyed.0, id_again (id_of e.1.channel)) refl, has_more e.1.channel (values_of (channel_entries es)) es (has_all es keyed.1))

stored_one : (rows : List ChannelRow) (k : ℕ) (b : Bool) (o : Option UpdateRow)
    (us : List ((ℕ × Bool) × UpdateRow)) → is_some (channel_of rows k) ≡ true
    → IsKeyed direction_of (update_entry k b o ++ us)
    → (IsKeyed direction_of us → AllByRecursion (λ row. is_some (channel_of rows row.message.short_channel_id) ≡ true) (values_of us))
    → AllByRecursion (λ row. is_some (channel_of rows row.message.short_channel_id) ≡ true) (values_of (update_entry k b o ++ us))
stored_one rows k b None us here keyed others = others keyed
stored_one rows k b (Some row) us here keyed others =
    let own : k ≡ row.message.short_channel_id = ap (λ (key : ℕ × Bool). key.0) keyed.0 in
    (rw own at here, others keyed.1)

updates_stored : (rows : List ChannelRow) (es : List (ℕ × ChannelInfo)) → HasAll rows es → IsKeyed direction_of (update_entries es)
    → AllByRecursion (λ row. is_some (channel_of rows row.message.short_channel_id) ≡ true) (values_of (update_entries es))
unfolding HasAll
updates_stored rows [] all keyed = tt
updates_stored rows (e ∷ es) all keyed =
    stored_one rows e.0 false e.1.first _ all.0 keyed
    (λ keyed'. stored_one rows e.0 true e.1.second _ all.0 keyed' (λ rest. updates_stored rows es all.1 rest))

pub updates_are_stored : (es : List (ℕ × ChannelInfo)) → IsKeyed id_of (channel_entries es) → IsKeyed direction_of (update_entries es)
    → AllByRecursion (λ row. is_some (channel_of (values_of (channel_entries es))
    row.message.short_channel_id) ≡ true) (values_of (update_entries es))
updates_are_stored es keyed updates_keyed = updates_stored (values_of (channel_entries es)) es (has_all es keyed) updates_keyed

-- ---- what is found has the updates of its id

own_id : (id : ℕ) (es : List (ℕ × ChannelInfo)) (stored : ChannelInfo) → IsKeyed id_of (channel_entries es)
    → lookup (is_at (nat_cmp id)) es ≡ Some stored → id_of stored.channel ≡ id
own_id id [] stored keyed found = absurd cc
own_id id (e ∷ es) stored keyed found = by (own_id id es stored keyed.1) (is_at (nat_cmp id) e.0) refl found
  where
    at : (a b : ℕ) → is_at (nat_cmp a) b ≡ true → a ≡ b
    at a b e = grind (arith, nat_tests)

    by : (lookup (is_at (nat_cmp id)) es ≡ Some stored → id_of stored.channel ≡ id) → (b : Bool) → is_at (nat_cmp id) e.0 ≡ b
        → cond (is_at (nat_cmp id) e.0) (Some e.1) (lookup (is_at (nat_cmp id)) es) ≡ Some stored → id_of stored.channel ≡ id
    by others true is found =
        let here : Some e.1 ≡ Some stored = rw is at found in
        let it : e.1 ≡ stored = cc in
        ap id_of (ap (λ (h : ChannelInfo). h.channel) (sym it)) ∙ sym keyed.0 ∙ sym (at id e.0 is)
    by others false is found = others (rw is at found)

pub is_held_at : (es : List (ℕ × ChannelInfo)) (rows : Rows) (id : ℕ) (stored : ChannelInfo)
    → IsKeyed id_of (channel_entries es) → IsKeyed direction_of (update_entries es)
    → IsStrictlySortedBy nat_cmp (keys_of es) → values_of (update_entries es) ≡ rows.updates
    → lookup (is_at (nat_cmp id)) es ≡ Some stored → stored ≡ stored_at rows stored.channel
is_held_at es rows id stored keyed updates_keyed sorted updates_are found =
    let own = own_id id es stored keyed found in
    let update : (second : Bool) → update_of rows.updates id second ≡ update_in second stored =
    λ second. ap (λ us. update_of us id second) (sym updates_are) ∙ sym (lookup-update (update_entries es) id second updates_keyed)
    ∙ lookup-updates id second es sorted ∙ ap (option_and_then (update_in second)) found in
    rw (own, update false, update true) refl

pub found-is_held_at : (es : List (ℕ × ChannelInfo)) (rows : Rows) (id : ℕ) → IsKeyed id_of (channel_entries es) → IsKeyed direction_of (update_entries es)
    → IsStrictlySortedBy nat_cmp (keys_of es) → values_of (channel_entries es) ≡ rows.channels → values_of (update_entries es) ≡ rows.updates
    → lookup (is_at (nat_cmp id)) es ≡ option_map (stored_at rows) (channel_of rows.channels id)
found-is_held_at es rows id keyed updates_keyed sorted channels_are updates_are =
    by (lookup (is_at (nat_cmp id)) es) refl
    ∙ ap (option_map (stored_at rows)) (sym (lookup-channels (is_at (nat_cmp id)) es)
    ∙ lookup-channel (channel_entries es) id keyed ∙ ap (λ rs. channel_of rs id) channels_are)
  where
    by : (o : Option ChannelInfo) → lookup (is_at (nat_cmp id)) es ≡ o → lookup (is_at (nat_cmp id)) es
        ≡ option_map (stored_at rows) (option_map (λ stored. stored.channel) (lookup (is_at (nat_cmp id)) es))
    by None is = rw is refl
    by (Some stored) is = rw is (ap (λ (h : ChannelInfo). Some h) (is_held_at es rows id stored keyed updates_keyed sorted updates_are is))

-- ---- all of them

not_at : (a b : ℕ) → nat_cmp a b ≡ Less → is_at (nat_cmp b) a ≡ false
not_at a b less = grind (arith, nat_tests)

found_past : (k : ℕ) (stored : ChannelInfo) (all es : List (ℕ × ChannelInfo)) → AllByRecursion (λ j. nat_cmp k j ≡ Less) (keys_of es)
    → AllByRecursion (λ e. lookup (is_at (nat_cmp e.0)) all ≡ Some e.1) es
    → AllByRecursion (λ e. lookup (is_at (nat_cmp e.0)) ((k, stored) ∷ all) ≡ Some e.1) es
found_past k stored all [] above found = tt
found_past k stored all (e ∷ es) above found = (rw (not_at k e.0 above.0) found.0, found_past k stored all es above.1 found.1)

all_found : (es : List (ℕ × ChannelInfo)) → IsStrictlySortedBy nat_cmp (keys_of es) → AllByRecursion (λ e. lookup (is_at (nat_cmp e.0)) es ≡ Some e.1) es
unfolding IsStrictlySortedBy
all_found [] sorted = tt
all_found (e ∷ es) sorted = (rw (is_at-id e.0) refl, found_past e.0 e.1 es es sorted.0 (all_found es sorted.1))

pub values-stored_at : (es : List (ℕ × ChannelInfo)) (rows : Rows) → IsKeyed id_of (channel_entries es) → IsKeyed direction_of (update_entries es)
    → IsStrictlySortedBy nat_cmp (keys_of es) → values_of (channel_entries es) ≡ rows.channels → values_of (update_entries es) ≡ rows.updates
    → (test : ℕ → Bool) → values_of (filter (λ e. test e.0) es) ≡ map (stored_at rows) (filter (λ row. test (id_of row)) rows.channels)
values-stored_at es rows keyed updates_keyed sorted channels_are updates_are test =
    along es keyed (all_found es sorted) ∙ ap (λ rs. map (stored_at rows) (filter (λ row. test (id_of row)) rs)) channels_are
  where
    along : (xs : List (ℕ × ChannelInfo)) → IsKeyed id_of (channel_entries xs) → AllByRecursion (λ e. lookup (is_at (nat_cmp e.0)) es ≡ Some e.1) xs
        → values_of (filter (λ e. test e.0) xs) ≡ map (stored_at rows) (filter (λ row. test (id_of row)) (values_of (channel_entries xs)))
    along [] keyed' found = refl
    along (x ∷ xs) keyed' found =
        by (along xs keyed'.1 found.1) (test x.0)
        ∙ ap (λ k. map (stored_at rows)
        (cond (test k) (x.1.channel ∷ filter (λ row. test (id_of row)) (values_of (channel_entries xs)))
        (filter (λ row. test (id_of row)) (values_of (channel_entries xs))))) keyed'.0
      where
        here : x.1 ≡ stored_at rows x.1.channel
        here = is_held_at es rows x.0 x.1 keyed updates_keyed sorted updates_are found.0

        by : values_of (filter (λ e. test e.0) xs) ≡ map (stored_at rows) (filter (λ row. test (id_of row)) (values_of (channel_entries xs)))
            → (b : Bool) → values_of (cond b (x ∷ filter (λ e. test e.0) xs) (filter (λ e. test e.0) xs))
            ≡ map (stored_at rows) (cond b (x.1.channel ∷ filter (λ row. test (id_of row)) (values_of
            (channel_entries xs))) (filter (λ row. test (id_of row)) (values_of (channel_entries xs))))
        by others true =
            ap (λ (h : ChannelInfo). h ∷ values_of (filter (λ e. test e.0) xs)) here
            ∙ ap (λ (hs : List ChannelInfo). stored_at rows x.1.channel ∷ hs) others
        by others false = others

-- a test that only passes what an earlier one did
pub filter-past : {X : Type 0} (p t : X → Bool) (xs : List X) → ((x : X) → t x ≡ true → p x ≡ true) → filter t (filter p xs) ≡ filter t xs
filter-past {X} p t xs more = filter-filter p t xs ∙ filter-same _ t (λ x. by x (t x) refl) xs
  where
    by : (x : X) (b : Bool) → t x ≡ b → (p x && t x) ≡ t x
    by x true is = rw (is, more x is) refl
    by x false is = rw is (and_right (p x) false refl)

-- the ids of the channels of a range of blocks
pub ids-channels : (rows : Rows) (channels : List ChannelRow) (from to : ℕ)
    → map (λ stored. stored.channel.message.short_channel_id)
    (map (stored_at rows) (channels_between_of channels from to)) ≡ ids_between_of channels from to
ids-channels rows [] from to = refl
ids-channels rows (x ∷ xs) from to = by (ids-channels rows xs from to) (is_between (id_of x) from to)
  where
    by : map id_in (map (stored_at rows) (channels_between_of xs from to)) ≡ ids_between_of xs from to
        → (b : Bool) → map id_in
        (map (stored_at rows) (cond b (x ∷ channels_between_of xs from to) (channels_between_of xs from to)))
        ≡ cond b (id_of x ∷ ids_between_of xs from to) (ids_between_of xs from to)
    by others true = ap (λ (ids : List ℕ). id_of x ∷ ids) others
    by others false = others

-- ---- a channel and its updates, from the ordered map

pub channel_at : (es : List (ℕ × ChannelInfo)) (rows : List ChannelRow) (id : ℕ) → IsKeyed id_of (channel_entries es) → values_of (channel_entries es) ≡ rows
    → channel_of rows id ≡ option_map (λ stored. stored.channel) (lookup (is_at (nat_cmp id)) es)
channel_at es rows id keyed is =
    sym (sym (lookup-channels (is_at (nat_cmp id)) es) ∙ lookup-channel (channel_entries es) id keyed ∙ ap (λ rs. channel_of rs id) is)

pub update_at : (es : List (ℕ × ChannelInfo)) (rows : List UpdateRow) (id : ℕ) (second : Bool) → IsKeyed direction_of (update_entries es)
    → IsStrictlySortedBy nat_cmp (keys_of es) → values_of (update_entries es) ≡ rows
    → update_of rows id second ≡ option_and_then (update_in second) (lookup (is_at (nat_cmp id)) es)
update_at es rows id second keyed sorted is =
    sym (sym (lookup-updates id second es sorted) ∙ lookup-update (update_entries es) id second keyed ∙ ap (λ us. update_of us id second) is)

-- replacing a channel by itself
pub set_value-same : {X : Type 0} (test : ℕ → Bool) (es : List (ℕ × X)) (x : X) → lookup test es ≡ Some x → set_value test es x ≡ es
set_value-same {X} test [] x found = refl
set_value-same {X} test (e ∷ es) x found = by (set_value-same test es x) (test e.0) refl found
  where
    by : (lookup test es ≡ Some x → set_value test es x ≡ es) → (b : Bool) → test e.0 ≡ b → cond (test e.0) (Some e.1) (lookup test es) ≡ Some x
        → cond (test e.0) ((e.0, x) ∷ es) (e ∷ set_value test es x) ≡ e ∷ es
    by others true is found =
        let here : Some e.1 ≡ Some x = rw is at found in
        let it : e.1 ≡ x = cc in
        rw (is, ← it) refl
    by others false is found =
        let later : lookup test es ≡ Some x = rw is at found in
        rw (is, others later) refl

-- a filter of channels by their ids is one of entries
pub filter-keyed : (test p : ℕ → Bool) (es : List (ℕ × ChannelInfo)) → IsKeyed id_of (channel_entries es)
    → filter (λ stored. test (id_in stored)) (values_of (filter (λ e. p e.0) es)) ≡ values_of (filter (λ e. test e.0) (filter (λ e. p e.0) es))
filter-keyed test p [] keyed = refl
filter-keyed test p (e ∷ es) keyed = by (filter-keyed test p es keyed.1) (p e.0) (test e.0) refl (ap test (sym keyed.0))
  where
    left : List (ℕ × ChannelInfo)
    left = filter (λ e. p e.0) es

    by : filter (λ stored. test (id_in stored)) (values_of left) ≡ values_of (filter (λ e. test e.0) left)
        → (b d : Bool) → test e.0 ≡ d → test (id_in e.1) ≡ test e.0
        → filter (λ stored. test (id_in stored)) (values_of (cond b (e ∷ left) left)) ≡ values_of (filter (λ e. test e.0) (cond b (e ∷ left) left))
    by others true true is same = rw (same, is, others) refl
    by others true false is same = rw (same, is) others
    by others false d is same = others

-- Channels with their updates, in one ordered map, as two ordered maps.
use Rattle.std.proofs.Common.{◌≡◌, ℕ, Bool, true, false, cond, List, [], ◌∷◌, ◌++◌, Option, Some, None, refl, sym, ap, ◌∙◌, eqb, arith}
use Rattle.std.specs.Option.{option_map, option_and_then}
use Rattle.std.specs.List.{AllByRecursion, filter}
use Rattle.std.specs.List.Sorted.{IsStrictlySortedBy}
use Rattle.std.specs.Map.{lookup, remove_entry, set_value, keys_of, values_of}
use Rattle.std.specs.BTreeMap.{is_at, insert_entry}
use Rattle.std.specs.declared.cmp.Ordering.{Ordering}
use Rattle.std.specs.declared.cmp.Ordering.TheVariants.{Less, Equal, Greater}
use Rattle.std.specs.Ordering.{is_eq, nat_cmp, match_ordering}
use Rattle.std.proofs.lemmas.Cmp.{nat_cmp_total}
use Rattle.std.proofs.lemmas.Bool.Decides.{nat_tests}
use Rattle.lgm_check.specs.declared.row.ChannelRow.{ChannelRow}
use Rattle.lgm_check.specs.declared.row.UpdateRow.{UpdateRow}
use Rattle.lgm_store.specs.declared.channel_info.ChannelInfo.{ChannelInfo}
use Rattle.lgm_store.specs.Keys.{IsKeyed, direction_cmp, direction_of}
use Rattle.lgm_store.specs.inner.ChannelEntries.{alone, with_update_in, channel_entries, update_entry, update_entries}
use Rattle.lgm_store.specs.ChannelInfo.{update_in}
use Rattle.lgm_store.specs.History.{updates_without}
use Rattle.lgm_store.proofs.Ordered.{lookup-below}
use Rattle.lgm_store.specs.inner.SameKeys.{same_id}
use Rattle.lgm_store.proofs.Lists.{id_test}
use Rattle.lgm_store.proofs.NodeIdListLaws.{is_at-id}
use Rattle.lgm_store.proofs.IterationLaws.{first_value}

-- ---- channels

pub keys-channels : (es : List (ℕ × ChannelInfo)) → keys_of (channel_entries es) ≡ keys_of es
keys-channels [] = refl
keys-channels (e ∷ es) = rw (keys-channels es) refl

pub ascend-stored : (es : List (ℕ × ChannelInfo)) → IsStrictlySortedBy nat_cmp (keys_of (channel_entries es)) → IsStrictlySortedBy nat_cmp (keys_of es)
ascend-stored es sorted = rw (keys-channels es) at sorted

pub lookup-channels : (test : ℕ → Bool) (es : List (ℕ × ChannelInfo)) → lookup test (channel_entries es) ≡ option_map (λ stored. stored.channel) (lookup test es)
lookup-channels test [] = refl
lookup-channels test (e ∷ es) = by (lookup-channels test es) (test e.0)
  where
    by : lookup test (channel_entries es) ≡ option_map (λ stored. stored.channel) (lookup test es)
        → (b : Bool) → cond b (Some e.1.channel) (lookup test (channel_entries es))
        ≡ option_map (λ stored. stored.channel) (cond b (Some e.1) (lookup test es))
    by others true = refl
    by others false = others

pub filter-channels : (p : ℕ → Bool) (es : List (ℕ × ChannelInfo)) → channel_entries (filter (λ e. p e.0) es) ≡ filter (λ e. p e.0) (channel_entries es)
filter-channels p [] = refl
filter-channels p (e ∷ es) = by (filter-channels p es) (p e.0)
  where
    by : channel_entries (filter (λ e. p e.0) es) ≡ filter (λ e. p e.0) (channel_entries es)
        → (b : Bool) → channel_entries (cond b (e ∷ filter (λ e. p e.0) es) (filter (λ e. p e.0) es))
        ≡ cond b ((e.0, e.1.channel)
        ∷ filter (λ e. p e.0) (channel_entries es)) (filter (λ e. p e.0) (channel_entries es))
    by others true = rw others refl
    by others false = others

-- the channel of the first entry
pub first-filtered : (p : ℕ → Bool) (es : List (ℕ × ChannelInfo))
    → option_map (λ stored. stored.channel) (first_value (filter (λ e. p e.0) es)) ≡ first_value (filter (λ e. p e.0) (channel_entries es))
first-filtered p es = first (filter (λ e. p e.0) es) ∙ ap first_value (filter-channels p es)
  where
    first : (xs : List (ℕ × ChannelInfo)) → option_map (λ stored. stored.channel) (first_value xs) ≡ first_value (channel_entries xs)
    first [] = refl
    first (x ∷ xs) = refl

pub insert-channels : (id : ℕ) (stored : ChannelInfo) (es : List (ℕ × ChannelInfo)) → channel_entries
    (insert_entry nat_cmp es id stored) ≡ insert_entry nat_cmp (channel_entries es) id stored.channel
insert-channels id stored [] = refl
insert-channels id stored (e ∷ es) = by (insert-channels id stored es) (nat_cmp id e.0)
  where
    by : channel_entries (insert_entry nat_cmp es id stored) ≡ insert_entry nat_cmp (channel_entries es) id stored.channel
        → (o : Ordering) → channel_entries (match_ordering o ((id, stored) ∷ e ∷ es) ((e.0, stored) ∷ es) (e ∷ insert_entry nat_cmp es id stored))
        ≡ match_ordering o ((id, stored.channel) ∷ (e.0, e.1.channel) ∷ channel_entries es) ((e.0, stored.channel)
        ∷ channel_entries es) ((e.0, e.1.channel) ∷ insert_entry nat_cmp (channel_entries es) id stored.channel)
    by others Less = refl
    by others Equal = refl
    by others Greater = rw others refl

pub remove-channels : (test : ℕ → Bool) (es : List (ℕ × ChannelInfo)) → channel_entries (remove_entry test es) ≡ remove_entry test (channel_entries es)
remove-channels test [] = refl
remove-channels test (e ∷ es) = by (remove-channels test es) (test e.0)
  where
    by : channel_entries (remove_entry test es) ≡ remove_entry test (channel_entries es)
        → (b : Bool) → channel_entries (cond b es (e ∷ remove_entry test es))
        ≡ cond b (channel_entries es) ((e.0, e.1.channel) ∷ remove_entry test (channel_entries es))
    by others true = refl
    by others false = rw others refl

-- replacing an update leaves the channels unchanged
-- nothing is removed if no key passes
pub remove-none : {K X : Type 0} (test : K → Bool) (es : List (K × X)) → lookup test es ≡ None → remove_entry test es ≡ es
remove-none {K} {X} test [] none = refl
remove-none {K} {X} test (e ∷ es) none = by (remove-none test es) (test e.0) refl none
  where
    by : (lookup test es ≡ None → remove_entry test es ≡ es) → (b : Bool) → test e.0 ≡ b → cond (test e.0) (Some e.1) (lookup test es) ≡ None
        → cond (test e.0) es (e ∷ remove_entry test es) ≡ e ∷ es
    by others true is none = let never : Some e.1 ≡ None = rw is at none in absurd cc
    by others false is none = rw (is, others (rw is at none)) refl

-- what is inserted under a new key, and removed again
pub remove-inserted : {X : Type 0} (id : ℕ) (one : X) (es : List (ℕ × X)) → lookup (is_at (nat_cmp id)) es ≡ None
    → remove_entry (is_at (nat_cmp id)) (insert_entry nat_cmp es id one) ≡ es
remove-inserted {X} id one [] none = rw (is_at-id id) refl
remove-inserted {X} id one (e ∷ es) none = by (remove-inserted id one es) (nat_cmp id e.0) refl none
  where
    by : (lookup (is_at (nat_cmp id)) es ≡ None → remove_entry (is_at (nat_cmp id)) (insert_entry nat_cmp es id one) ≡ es)
        → (o : Ordering) → nat_cmp id e.0 ≡ o → cond (is_eq (nat_cmp id e.0)) (Some e.1) (lookup (is_at (nat_cmp id)) es) ≡ None
        → remove_entry (is_at (nat_cmp id)) (match_ordering (nat_cmp id e.0) ((id, one) ∷ e ∷ es) ((e.0, one) ∷ es)
        (e ∷ insert_entry nat_cmp es id one)) ≡ e ∷ es
    by rest Less is none = rw is (rw (is_at-id id) refl)
    by rest Equal is none = let never : Some e.1 ≡ None = rw is at none in absurd cc
    by rest Greater is none = rw is (rw is (ap (λ (xs : List (ℕ × X)). e ∷ xs) (rest (rw is at none))))

pub set-channels : (test : ℕ → Bool) (es : List (ℕ × ChannelInfo)) (old new : ChannelInfo) → lookup test es ≡ Some old → new.channel ≡ old.channel
    → channel_entries (set_value test es new) ≡ channel_entries es
set-channels test [] old new found same = refl
set-channels test (e ∷ es) old new found same = by (set-channels test es old new) (test e.0) refl found
  where
    by : (lookup test es ≡ Some old → new.channel ≡ old.channel → channel_entries (set_value test es new) ≡ channel_entries es)
        → (b : Bool) → test e.0 ≡ b → cond (test e.0) (Some e.1) (lookup test es) ≡ Some old
        → channel_entries (cond (test e.0) ((e.0, new) ∷ es) (e ∷ set_value test es new)) ≡ (e.0, e.1.channel) ∷ channel_entries es
    by others true is found =
        let here : Some e.1 ≡ Some old = rw is at found in
        let own : e.1 ≡ old = cc in
        rw (is, same, own) refl
    by others false is found = rw (is, others (rw is at found) same) refl

pub channel-with : (second : Bool) (old : ChannelInfo) (row : UpdateRow) → (with_update_in second old row).channel ≡ old.channel
channel-with true old row = refl
channel-with false old row = refl

-- ---- keys above one

-- nothing is found below all keys
lookup-above : {X : Type 0} (id : ℕ) (es : List (ℕ × X)) → AllByRecursion (λ k. nat_cmp id k ≡ Less) (keys_of es) → lookup (is_at (nat_cmp id)) es ≡ None
lookup-above id [] above = refl
lookup-above id (e ∷ es) above = rw above.0 (lookup-above id es above.1)

remove-above : (id : ℕ) (es : List (ℕ × ChannelInfo)) → AllByRecursion (λ k. nat_cmp id k ≡ Less) (keys_of es) → remove_entry (is_at (nat_cmp id)) es ≡ es
remove-above id [] above = refl
remove-above id (e ∷ es) above = rw (above.0, remove-above id es above.1) refl

-- from one key to another
above-from : {X : Type 0} (id other : ℕ) (es : List (ℕ × X)) → ((k : ℕ) → nat_cmp other k ≡ Less → nat_cmp id k ≡ Less)
    → AllByRecursion (λ k. nat_cmp other k ≡ Less) (keys_of es) → AllByRecursion (λ k. nat_cmp id k ≡ Less) (keys_of es)
above-from id other [] lower above = tt
above-from id other (e ∷ es) lower above = (lower e.0 above.0, above-from id other es lower above.1)

above-equal : (id other : ℕ) (es : List (ℕ × ChannelInfo)) → nat_cmp id other ≡ Equal
    → AllByRecursion (λ k. nat_cmp other k ≡ Less) (keys_of es) → AllByRecursion (λ k. nat_cmp id k ≡ Less) (keys_of es)
above-equal id other es is = above-from id other es (λ k less. nat_cmp_total.congr id other k is ∙ less)

-- ---- one update in front

abbrev Updates : Type 0
Updates = List ((ℕ × Bool) × UpdateRow)

All-one : (P : ℕ × Bool → Type 0) (k : ℕ) (b : Bool) (o : Option UpdateRow) (us : Updates) → P (k, b)
    → AllByRecursion P (keys_of us) → AllByRecursion P (keys_of (update_entry k b o ++ us))
All-one P k b None us here above = above
All-one P k b (Some row) us here above = (here, above)

ascend-one : (k : ℕ) (b : Bool) (o : Option UpdateRow) (us : Updates) → AllByRecursion (λ j. direction_cmp (k, b) j ≡ Less) (keys_of us)
    → IsStrictlySortedBy direction_cmp (keys_of us) → IsStrictlySortedBy direction_cmp (keys_of (update_entry k b o ++ us))
unfolding IsStrictlySortedBy
ascend-one k b None us above sorted = sorted
ascend-one k b (Some row) us above sorted = (above, sorted)

abbrev no_update : Option UpdateRow
no_update = None

lookup-one : (test : ℕ × Bool → Bool) (k : ℕ) (b : Bool) (o : Option UpdateRow) (us : Updates) → lookup test us ≡ None
    → lookup test (update_entry k b o ++ us) ≡ cond (test (k, b)) o None
lookup-one test k b None us none = none ∙ by (test (k, b))
  where
    by : (t : Bool) → no_update ≡ cond t no_update no_update
    by true = refl
    by false = refl
lookup-one test k b (Some row) us none = rw none refl

lookup-past : (test : ℕ × Bool → Bool) (k : ℕ) (b : Bool) (o : Option UpdateRow) (us : Updates)
    → test (k, b) ≡ false → lookup test (update_entry k b o ++ us) ≡ lookup test us
lookup-past test k b None us not_here = refl
lookup-past test k b (Some row) us not_here = rw not_here refl

insert-past : (k : ℕ) (b : Bool) (o : Option UpdateRow) (us : Updates) (key : ℕ × Bool) (row : UpdateRow) → direction_cmp key (k, b) ≡ Greater
    → insert_entry direction_cmp (update_entry k b o ++ us) key row ≡ update_entry k b o ++ insert_entry direction_cmp us key row
insert-past k b None us key row past = refl
insert-past k b (Some other) us key row past = rw past refl

insert-front : (us : Updates) (key : ℕ × Bool) (row : UpdateRow) → AllByRecursion (λ j. direction_cmp key j
    ≡ Less) (keys_of us) → insert_entry direction_cmp us key row ≡ (key, row) ∷ us
insert-front [] key row above = refl
insert-front (u ∷ us) key row above = rw above.0 refl

-- in place of the update of its own key, or in front
insert-here : (k : ℕ) (b : Bool) (o : Option UpdateRow) (us : Updates) (row : UpdateRow) → direction_cmp (k, b) (k, b) ≡ Equal
    → AllByRecursion (λ j. direction_cmp (k, b) j ≡ Less) (keys_of us)
    → insert_entry direction_cmp (update_entry k b o ++ us) (k, b) row ≡ ((k, b), row) ∷ us
insert-here k b None us row own above = insert-front us (k, b) row above
insert-here k b (Some other) us row own above = rw own refl

keyed-rest : (k : ℕ) (b : Bool) (o : Option UpdateRow) (us : Updates) → IsKeyed direction_of (update_entry k b o ++ us) → IsKeyed direction_of us
keyed-rest k b None us keyed = keyed
keyed-rest k b (Some row) us keyed = keyed.1

keyed-one : (k : ℕ) (b : Bool) (o : Option UpdateRow) (us new : Updates) → IsKeyed direction_of
    (update_entry k b o ++ us) → IsKeyed direction_of new → IsKeyed direction_of (update_entry k b o ++ new)
keyed-one k b None us new keyed keyed' = keyed'
keyed-one k b (Some row) us new keyed keyed' = (keyed.0, keyed')

-- it is removed with its channel, and stays with others
without-own : (id k : ℕ) (b : Bool) (o : Option UpdateRow) (us : Updates) → IsKeyed direction_of (update_entry k b o ++ us) → eqb k id ≡ true
    → updates_without (values_of (update_entry k b o ++ us)) id ≡ updates_without (values_of us) id
without-own id k b None us keyed own = refl
without-own id k b (Some row) us keyed own =
    let here : k ≡ row.message.short_channel_id = ap (λ (key : ℕ × Bool). key.0) keyed.0 in
    rw (← here, own) refl

without-other : (id k : ℕ) (b : Bool) (o : Option UpdateRow) (us new : Updates) → IsKeyed direction_of (update_entry k b o ++ us) → eqb k id ≡ false
    → values_of new ≡ updates_without (values_of us) id
    → values_of (update_entry k b o ++ new) ≡ updates_without (values_of (update_entry k b o ++ us)) id
without-other id k b None us new keyed other rest = rest
without-other id k b (Some row) us new keyed other rest =
    let here : k ≡ row.message.short_channel_id = ap (λ (key : ℕ × Bool). key.0) keyed.0 in
    rw (← here, other, rest) refl

-- ---- updates

self : (k : ℕ) → nat_cmp k k ≡ Equal
self k = grind (arith, nat_tests)

above-updates : (id : ℕ) (second : Bool) (es : List (ℕ × ChannelInfo)) → AllByRecursion (λ k. nat_cmp id k ≡ Less) (keys_of es)
    → AllByRecursion (λ j. direction_cmp (id, second) j ≡ Less) (keys_of (update_entries es))
above-updates id second [] above = tt
above-updates id second (e ∷ es) above =
    let less : (b : Bool) → direction_cmp (id, second) (e.0, b) ≡ Less = λ b. rw above.0 refl in
    All-one _ e.0 false e.1.first _ (less false) (All-one _ e.0 true e.1.second _ (less true) (above-updates id second es above.1))

pub ascend-updates : (es : List (ℕ × ChannelInfo)) → IsStrictlySortedBy nat_cmp (keys_of es) → IsStrictlySortedBy direction_cmp (keys_of (update_entries es))
unfolding IsStrictlySortedBy
ascend-updates [] sorted = tt
ascend-updates (e ∷ es) sorted =
    let less : direction_cmp (e.0, false) (e.0, true) ≡ Less = rw (self e.0) refl in
    ascend-one e.0 false e.1.first _ (All-one _ e.0 true e.1.second _ less (above-updates e.0 false es sorted.0))
    (ascend-one e.0 true e.1.second _ (above-updates e.0 true es sorted.0) (ascend-updates es sorted.1))

lookup-own : (id k : ℕ) (stored : ChannelInfo) (us : Updates) → nat_cmp id k ≡ Equal → (second : Bool) → lookup (is_at (direction_cmp (id, second))) us ≡ None
    → lookup (is_at (direction_cmp (id, second))) (update_entry k false stored.first ++ (update_entry k true stored.second ++ us)) ≡ update_in second stored
lookup-own id k stored us is true none =
    let past : is_at (direction_cmp (id, true)) (k, false) ≡ false = rw is refl in
    let here : is_at (direction_cmp (id, true)) (k, true) ≡ true = rw is refl in
    lookup-past _ k false stored.first _ past ∙ lookup-one _ k true stored.second us none ∙ rw here refl
lookup-own id k stored us is false none =
    let past : is_at (direction_cmp (id, false)) (k, true) ≡ false = rw is refl in
    let here : is_at (direction_cmp (id, false)) (k, false) ≡ true = rw is refl in
    lookup-one _ k false stored.first _ (lookup-past _ k true stored.second us past ∙ none) ∙ rw here refl

pub lookup-updates : (id : ℕ) (second : Bool) (es : List (ℕ × ChannelInfo)) → IsStrictlySortedBy nat_cmp (keys_of es)
    → lookup (is_at (direction_cmp (id, second))) (update_entries es) ≡ option_and_then (update_in second) (lookup (is_at (nat_cmp id)) es)
unfolding IsStrictlySortedBy
lookup-updates id second [] sorted = refl
lookup-updates id second (e ∷ es) sorted = by (lookup-updates id second es sorted.1) (nat_cmp id e.0) refl
  where
    by : lookup (is_at (direction_cmp (id, second))) (update_entries es) ≡ option_and_then (update_in second) (lookup (is_at (nat_cmp id)) es)
        → (o : Ordering) → nat_cmp id e.0 ≡ o
        → lookup (is_at (direction_cmp (id, second))) (update_entry e.0 false e.1.first ++ (update_entry e.0 true e.1.second ++ update_entries es))
        ≡ option_and_then (update_in second) (cond (is_eq (nat_cmp id e.0)) (Some e.1) (lookup (is_at (nat_cmp id)) es))
    by others Less is =
        let no : (b : Bool) → is_at (direction_cmp (id, second)) (e.0, b) ≡ false = λ b. rw is refl in
        lookup-past _ e.0 false e.1.first _ (no false) ∙ lookup-past _ e.0 true e.1.second _ (no true) ∙ rw is others
    by others Equal is =
        let none : lookup (is_at (direction_cmp (id, second))) (update_entries es) ≡ None =
        rw (lookup-above id es (above-equal id e.0 es is sorted.0)) at others in
        rw is (lookup-own id e.0 e.1 (update_entries es) is second none)
    by others Greater is =
        let no : (b : Bool) → is_at (direction_cmp (id, second)) (e.0, b) ≡ false = λ b. rw is refl in
        lookup-past _ e.0 false e.1.first _ (no false) ∙ lookup-past _ e.0 true e.1.second _ (no true) ∙ rw is others

-- replacing an update of a direction
set-here : (k : ℕ) (stored : ChannelInfo) (us : Updates) (row : UpdateRow)
    → ((b : Bool) → AllByRecursion (λ j. direction_cmp (k, b) j ≡ Less) (keys_of us)) → (second : Bool)
    → update_entry k false (with_update_in second stored row).first ++ (update_entry k true (with_update_in second stored row).second ++ us)
    ≡ insert_entry direction_cmp (update_entry k false stored.first ++ (update_entry k true stored.second ++ us)) (k, second) row
set-here k stored us row above true =
    let past : direction_cmp (k, true) (k, false) ≡ Greater = rw (self k) refl in
    let own : direction_cmp (k, true) (k, true) ≡ Equal = rw (self k) refl in
    sym (insert-past k false stored.first _ (k, true) row past ∙ ap (λ (xs : Updates).
    update_entry k false stored.first ++ xs) (insert-here k true stored.second us row own (above true)))
set-here k stored us row above false =
    let less : direction_cmp (k, false) (k, true) ≡ Less = rw (self k) refl in
    let own : direction_cmp (k, false) (k, false) ≡ Equal = rw (self k) refl in
    sym (insert-here k false stored.first _ row own (All-one _ k true stored.second us less (above false)))

pub set-updates : (id : ℕ) (second : Bool) (row : UpdateRow) (es : List (ℕ × ChannelInfo)) (old : ChannelInfo)
    → IsStrictlySortedBy nat_cmp (keys_of es) → lookup (is_at (nat_cmp id)) es ≡ Some old
    → update_entries (set_value (is_at (nat_cmp id)) es (with_update_in second old row))
    ≡ insert_entry direction_cmp (update_entries es) (id, second) row
unfolding IsStrictlySortedBy
set-updates id second row [] old sorted found = absurd cc
set-updates id second row (e ∷ es) old sorted found = by (set-updates id second row es old sorted.1) (nat_cmp id e.0) refl found
  where
    by : (lookup (is_at (nat_cmp id)) es ≡ Some old → update_entries (set_value (is_at (nat_cmp id)) es
        (with_update_in second old row)) ≡ insert_entry direction_cmp (update_entries es) (id, second) row)
        → (o : Ordering) → nat_cmp id e.0 ≡ o → cond (is_eq (nat_cmp id e.0)) (Some e.1) (lookup (is_at (nat_cmp id)) es) ≡ Some old
        → update_entries (cond (is_eq (nat_cmp id e.0)) ((e.0, with_update_in second old row) ∷ es)
        (e ∷ set_value (is_at (nat_cmp id)) es (with_update_in second old row)))
        ≡ insert_entry direction_cmp (update_entry e.0 false e.1.first ++ (update_entry e.0 true e.1.second ++ update_entries es)) (id, second) row
    by others Less is found =
        let found' : lookup (is_at (nat_cmp id)) es ≡ Some old = rw is at found in
        let never : None ≡ Some old = sym (lookup-below nat_cmp_total id e.0 es is sorted.0) ∙ found' in
        absurd cc
    by others Equal is found =
        let here : Some e.1 ≡ Some old = rw is at found in
        let own : e.1 ≡ old = cc in
        let key : id ≡ e.0 = same_id id e.0 is in
        rw (is, ← own, key) (set-here e.0 e.1 (update_entries es) row (λ b. above-updates e.0 b es sorted.0) second)
    by others Greater is found =
        let found' : lookup (is_at (nat_cmp id)) es ≡ Some old = rw is at found in
        let past : (b : Bool) → direction_cmp (id, second) (e.0, b) ≡ Greater = λ b. rw is refl in
        rw (is, others found') (sym (insert-past e.0 false e.1.first _ (id, second) row (past false)
        ∙ ap (λ (xs : Updates). update_entry e.0 false e.1.first ++ xs) (insert-past e.0 true e.1.second _ (id, second) row (past true))))

-- adding a channel without updates leaves the updates unchanged
pub insert-updates : (id : ℕ) (row : ChannelRow) (es : List (ℕ × ChannelInfo)) → lookup (is_at (nat_cmp id)) es
    ≡ None → update_entries (insert_entry nat_cmp es id (alone row)) ≡ update_entries es
insert-updates id row [] none = refl
insert-updates id row (e ∷ es) none = by (insert-updates id row es) (nat_cmp id e.0) refl none
  where
    by : (lookup (is_at (nat_cmp id)) es ≡ None → update_entries (insert_entry nat_cmp es id (alone row)) ≡ update_entries es)
        → (o : Ordering) → nat_cmp id e.0 ≡ o → cond (is_eq (nat_cmp id e.0)) (Some e.1) (lookup (is_at (nat_cmp id)) es) ≡ None
        → update_entries (match_ordering (nat_cmp id e.0) ((id, alone row) ∷ e ∷ es) ((e.0, alone row) ∷ es)
        (e ∷ insert_entry nat_cmp es id (alone row)))
        ≡ update_entry e.0 false e.1.first ++ (update_entry e.0 true e.1.second ++ update_entries es)
    by others Less is none = rw is refl
    by others Equal is none = let never : Some e.1 ≡ None = rw is at none in absurd cc
    by others Greater is none = rw (is, others (rw is at none)) refl

-- the updates of a channel are removed with it
pub values-without : (id : ℕ) (es : List (ℕ × ChannelInfo)) → IsStrictlySortedBy nat_cmp (keys_of es) → IsKeyed direction_of (update_entries es)
    → values_of (update_entries (remove_entry (is_at (nat_cmp id)) es)) ≡ updates_without (values_of (update_entries es)) id
unfolding IsStrictlySortedBy
values-without id [] sorted keyed = refl
values-without id (e ∷ es) sorted keyed =
    by (values-without id es sorted.1
    (keyed-rest e.0 true e.1.second _ (keyed-rest e.0 false e.1.first _ keyed))) (nat_cmp id e.0) refl
  where
    rest : IsKeyed direction_of (update_entry e.0 true e.1.second ++ update_entries es)
    rest = keyed-rest e.0 false e.1.first _ keyed

    by : values_of (update_entries (remove_entry (is_at (nat_cmp id)) es)) ≡ updates_without (values_of (update_entries es)) id
        → (o : Ordering) → nat_cmp id e.0 ≡ o
        → values_of (update_entries (cond (is_eq (nat_cmp id e.0)) es (e ∷ remove_entry (is_at (nat_cmp id)) es)))
        ≡ updates_without (values_of (update_entry e.0 false e.1.first ++ (update_entry e.0 true e.1.second ++ update_entries es))) id
    by others Less is =
        let other : eqb e.0 id ≡ false = sym (id_test e.0 id) ∙ rw is refl in
        rw is (without-other id e.0 false e.1.first _ _ keyed other (without-other id e.0 true e.1.second _ _ rest other others))
    by others Equal is =
        let own : eqb e.0 id ≡ true = sym (id_test e.0 id) ∙ rw is refl in
        rw is (ap (λ (xs : List (ℕ × ChannelInfo)). values_of (update_entries xs)) (sym (remove-above id es (above-equal id e.0 es is sorted.0))) ∙ others
        ∙ sym (without-own id e.0 false e.1.first _ keyed own ∙ without-own id e.0 true e.1.second _ rest own))
    by others Greater is =
        let other : eqb e.0 id ≡ false = sym (id_test e.0 id) ∙ rw is refl in
        rw is (without-other id e.0 false e.1.first _ _ keyed other (without-other id e.0 true e.1.second _ _ rest other others))

pub keyed-without : (test : ℕ → Bool) (es : List (ℕ × ChannelInfo)) → IsKeyed direction_of (update_entries es)
    → IsKeyed direction_of (update_entries (remove_entry test es))
keyed-without test [] keyed = tt
keyed-without test (e ∷ es) keyed = by (keyed-without test es (keyed-rest e.0 true e.1.second _ (keyed-rest e.0 false e.1.first _ keyed))) (test e.0)
  where
    rest : IsKeyed direction_of (update_entry e.0 true e.1.second ++ update_entries es)
    rest = keyed-rest e.0 false e.1.first _ keyed

    by : IsKeyed direction_of (update_entries (remove_entry test es)) → (b : Bool)
        → IsKeyed direction_of (update_entries (cond b es (e ∷ remove_entry test es)))
    by others true = keyed-rest e.0 true e.1.second _ rest
    by others false = keyed-one e.0 false e.1.first _ _ keyed (keyed-one e.0 true e.1.second _ _ rest others)

-- News can be computed key by key, if bytes determine their keys.
use Rattle.std.proofs.Common.{◌≡◌, ℕ, Bool, true, false, ◌||◌, cond, List, [], ◌∷◌, ◌++◌, Option, Some, None, refl, sym, ap, ◌∙◌}
use Rattle.std.specs.Prelude.{nat_eq}
use Rattle.std.specs.Cmp.{IsTotalOrder}
use Rattle.std.specs.Cmp.Lexicographic.{pointwise, same_text}
use Rattle.std.specs.List.{AllByRecursion, filter, find, flat_map, list_any}
use Rattle.std.specs.List.Sorted.{IsStrictlySortedBy}
use Rattle.std.specs.Option.{option_map_or}
use Rattle.std.specs.declared.cmp.Ordering.{Ordering}
use Rattle.std.specs.declared.cmp.Ordering.TheVariants.{Less, Equal, Greater}
use Rattle.std.specs.Ordering.{is_eq, ordering_reverse}
use Rattle.std.proofs.Math.Bool.{or-false}
use Rattle.std.proofs.lemmas.List.Elements.{filter-append}
use Rattle.std.proofs.lemmas.List.Folds.{list_any-append}
use Rattle.lgm_query.specs.Backlog.{is_among}
use Rattle.lgm_query.proofs.Subjects.{Subject, subject_of}

-- a message about something else isn't among these
pub other_subject : (message : List ℕ) (messages : List (List ℕ)) (subject : Subject) → AllByRecursion (λ m. subject_of m ≡ subject) messages
    → (subject_of message ≡ subject → ⊥) → is_among messages message ≡ false
other_subject message [] subject all other = refl
other_subject message (m ∷ ms) subject all other = by (other_subject message ms subject all.1 other) (pointwise nat_eq message m) refl
  where
    by : is_among ms message ≡ false → (b : Bool) → pointwise nat_eq message m ≡ b → (pointwise nat_eq message m || is_among ms message) ≡ false
    by rest true is = absurd (other (ap subject_of (same_text message m (sym is)) ∙ all.0))
    by rest false is = rw (is, rest) refl

-- a filter distributes
pub filter-flat_map : {R : Type 0} (p : List ℕ → Bool) (h : R → List (List ℕ)) (rows : List R)
    → filter p (flat_map h rows) ≡ flat_map (λ row. filter p (h row)) rows
filter-flat_map p h [] = refl
filter-flat_map p h (row ∷ rows) = filter-append p (h row) (flat_map h rows) ∙ ap (λ ms. filter p (h row) ++ ms) (filter-flat_map p h rows)

pub flat_map-alike : {R : Type 0} (g h : R → List (List ℕ)) (rows : List R)
    → AllByRecursion (λ row. g row ≡ h row) rows → flat_map g rows ≡ flat_map h rows
flat_map-alike g h [] same = refl
flat_map-alike g h (row ∷ rows) same = rw (same.0, flat_map-alike g h rows same.1) refl

module _ {R K : Type 0} (key : R → K) (c : K → K → Ordering) (total : IsTotalOrder c) (about : K → Subject)
    (apart : (a b : K) → about a ≡ about b → c a b ≡ Equal) (h : R → List (List ℕ)) where
  -- the row of a key
  abbrev pub row_at : List R → K → Option R
  row_at rows k = find (λ row. is_eq (c (key row) k)) rows

  abbrev pub messages_at : List R → K → List (List ℕ)
  messages_at rows k = option_map_or h (row_at rows k) []

  -- each message is about its row's key
  abbrev pub TellKey : R → Type 0
  TellKey row = AllByRecursion (λ m. subject_of m ≡ about (key row)) (h row)

  -- about another key than that of rows above
  above_apart : (message : List ℕ) (k : K) (low : R) (rows : List R) → subject_of message ≡ about k → c (key low) k ≡ Equal
      → AllByRecursion (λ row. c (key low) (key row) ≡ Less) rows → AllByRecursion TellKey rows → is_among (flat_map h rows) message ≡ false
  above_apart message k low [] is same above tell = refl
  above_apart message k low (row ∷ rows) is same above tell =
      list_any-append (pointwise nat_eq message) (h row) (flat_map h rows)
      ∙ rw (
        other_subject message (h row) (about (key row)) tell.0
            (λ e. differs (apart k (key row) (sym is ∙ e))),
        above_apart message k low rows is same above.1 tell.1,
      ) refl
    where
      differs : c k (key row) ≡ Equal → ⊥
      differs e =
          let less : c k (key row) ≡ Less = sym (total.congr (key low) k (key row) same) ∙ above.0 in
          let never : Less ≡ Equal = sym less ∙ e in
          absurd cc

  -- of all rows a message can only be among those of its key
  pub among_its_row : (message : List ℕ) (k : K) (rows : List R) → subject_of message ≡ about k → IsStrictlySortedBy (λ a b. c (key a) (key b)) rows
      → AllByRecursion TellKey rows → is_among (flat_map h rows) message ≡ is_among (messages_at rows k) message
  unfolding IsStrictlySortedBy
  among_its_row message k [] is sorted tell = refl
  among_its_row message k (row ∷ rows) is sorted tell =
      list_any-append (pointwise nat_eq message) (h row) (flat_map h rows)
      ∙ by (among_its_row message k rows is sorted.1 tell.1) (c (key row) k) refl
    where
      differs : (o : Ordering) → c (key row) k ≡ o → (o ≡ Equal → ⊥) → subject_of message ≡ about (key row) → ⊥
      differs o at other e = other (sym at ∙ apart (key row) k (sym e ∙ is))

      by : is_among (flat_map h rows) message ≡ is_among (messages_at rows k) message → (o : Ordering) → c (key row) k ≡ o
          → (is_among (h row) message || is_among (flat_map h rows) message)
          ≡ is_among (option_map_or h (cond (is_eq (c (key row) k)) (Some row) (row_at rows k)) []) message
      by rest Equal at = rw (at, above_apart message k row rows is at sorted.0 tell.1) (or-false (is_among (h row) message))
      by rest Less at = rw (at, other_subject message (h row) (about (key row)) tell.0 (differs Less at (λ e. absurd cc))) rest
      by rest Greater at = rw (at, other_subject message (h row) (about (key row)) tell.0 (differs Greater at (λ e. absurd cc))) rest

-- ---- news along rows are news along keys

flat_map-none : {X : Type 0} (g : X → List (List ℕ)) (xs : List X) → AllByRecursion (λ x. g x ≡ []) xs → flat_map g xs ≡ []
flat_map-none g [] none = refl
flat_map-none g (x ∷ xs) none = rw (none.0, flat_map-none g xs none.1) refl

pub All-given : {X : Type 0} (P Q S : X → Type 0) (xs : List X) → ((x : X) → P x → Q x → S x)
    → AllByRecursion P xs → AllByRecursion Q xs → AllByRecursion S xs
All-given P Q S [] give p q = tt
All-given P Q S (x ∷ xs) give p q = (give x p.0 q.0, All-given P Q S xs give p.1 q.1)

module _ {R K : Type 0} (key : R → K) (c : K → K → Ordering) (total : IsTotalOrder c)
    (same : (a b : K) → c a b ≡ Equal → a ≡ b) (g : K → List (List ℕ)) where
  -- a key is among these
  abbrev pub is_key_among : List K → K → Bool
  is_key_among ks k = list_any (λ other. is_eq (c k other)) ks

  -- the keys are those of rows
  abbrev pub row_of_key : List R → K → Option R
  row_of_key rows k = find (λ row. is_eq (c (key row) k)) rows

  abbrev RowGives : List K → R → Type 0
  RowGives ks row = is_key_among ks (key row) ≡ false → g (key row) ≡ []

  abbrev KeyGives : List R → K → Type 0
  KeyGives rows k = row_of_key rows k ≡ None → g k ≡ []

  none_above : (k : K) (ks : List K) → AllByRecursion (λ other. c k other ≡ Less) ks → is_key_among ks k ≡ false
  none_above k [] above = refl
  none_above k (other ∷ ks) above = rw (above.0, none_above k ks above.1) refl

  no_row_above : (k : K) (rows : List R) → AllByRecursion (λ row. c k (key row) ≡ Less) rows → row_of_key rows k ≡ None
  no_row_above k [] above = refl
  no_row_above k (row ∷ rows) above = rw (total.antisymm (key row) k ∙ ap ordering_reverse above.0, no_row_above k rows above.1) refl

  -- above a key that is above another
  up : (low k : K) (ks : List K) → c low k ≡ Less → AllByRecursion (λ other. c k other ≡ Less) ks → AllByRecursion (λ other. c low other ≡ Less) ks
  up low k [] less above = tt
  up low k (other ∷ ks) less above = (total.trans low k other less above.0, up low k ks less above.1)

  up_rows : (low k : K) (rows : List R) → c low k ≡ Less → AllByRecursion (λ row. c k (key row) ≡ Less) rows
      → AllByRecursion (λ row. c low (key row) ≡ Less) rows
  up_rows low k [] less above = tt
  up_rows low k (row ∷ rows) less above = (total.trans low k (key row) less above.0, up_rows low k rows less above.1)

  pub along_keys : (rows : List R) (ks : List K) → IsStrictlySortedBy (λ a b. c (key a) (key b)) rows → IsStrictlySortedBy c ks
      → AllByRecursion (RowGives ks) rows → AllByRecursion (KeyGives rows) ks → flat_map (λ row. g (key row)) rows ≡ flat_map g ks
  unfolding IsStrictlySortedBy
  along_keys [] ks rows_ascend ascend row_gives key_gives =
      sym (flat_map-none g ks (All-given _ _ _ ks (λ k give other. give refl) key_gives key_gives))
  along_keys (row ∷ rows) ks rows_ascend ascend row_gives key_gives = inner ks ascend row_gives key_gives (along_keys rows)
    where
      inner : (ks : List K) → IsStrictlySortedBy c ks → AllByRecursion (RowGives ks) (row ∷ rows) → AllByRecursion (KeyGives (row ∷ rows)) ks
          → ((ks : List K) → IsStrictlySortedBy (λ a b. c (key a) (key b)) rows → IsStrictlySortedBy c ks
          → AllByRecursion (RowGives ks) rows → AllByRecursion (KeyGives rows) ks
          → flat_map (λ row. g (key row)) rows ≡ flat_map g ks)
          → flat_map (λ row. g (key row)) (row ∷ rows) ≡ flat_map g ks
      inner [] ascend row_gives key_gives rest =
          flat_map-none (λ row. g (key row)) (row ∷ rows)
          (All-given _ _ _ (row ∷ rows) (λ r give other. give refl) row_gives row_gives)
      inner (k ∷ ks) ascend row_gives key_gives rest = by (c (key row) k) refl (λ a r y. inner ks a r y rest)
        where
          -- one more key: a row that isn't equal to it gives the same as before
          row_further : (r : R) → c (key r) k ≡ Greater → RowGives (k ∷ ks) r → RowGives ks r
          row_further r greater give none = give (rw (greater, none) refl)

          key_further : (other : K) → c (key row) other ≡ Less → KeyGives (row ∷ rows) other → KeyGives rows other
          key_further other less give none = give (rw (less, none) refl)

          turned : (r : R) → c k (key r) ≡ Less → c (key r) k ≡ Greater
          turned r less = total.antisymm (key r) k ∙ ap ordering_reverse less

          by : (o : Ordering) → c (key row) k ≡ o
              → (IsStrictlySortedBy c ks → AllByRecursion (RowGives ks) (row ∷ rows) → AllByRecursion
              (KeyGives (row ∷ rows)) ks → flat_map (λ row. g (key row)) (row ∷ rows) ≡ flat_map g ks)
              → flat_map (λ row. g (key row)) (row ∷ rows) ≡ flat_map g (k ∷ ks)
          by Less at further =
              let above = up (key row) k ks at ascend.0 in
              let none : g (key row) ≡ [] = row_gives.0 (rw (at, none_above (key row) ks above) refl) in
              rw none (rest (k ∷ ks) rows_ascend.1 ascend row_gives.1 (All-given _ _ _ (k ∷ ks) key_further (at, above) key_gives))
          by Greater at further =
              let less : c k (key row) ≡ Less = total.antisymm k (key row) ∙ ap ordering_reverse at in
              let above = up_rows k (key row) rows less rows_ascend.0 in
              let none : g k ≡ [] = key_gives.0 (rw (at, no_row_above k rows above) refl) in
              rw none (further ascend.1 (All-given _ _ _ (row ∷ rows)
              (λ r l give. row_further r (turned r l) give) (less, above) row_gives) key_gives.1)
          by Equal at further =
              let own : key row ≡ k = same (key row) k at in
              let rows_above : AllByRecursion (λ r. c k (key r) ≡ Less) rows = rw own at rows_ascend.0 in
              let keys_above : AllByRecursion (λ other. c (key row) other ≡ Less) ks = rw (← own) at ascend.0 in
              rw (
                own,
                rest ks rows_ascend.1 ascend.1 (All-given _ _ _ rows (λ r l give. row_further r (turned r l) give) rows_above row_gives.1)
                    (All-given _ _ _ ks key_further keys_above key_gives.1),
              ) refl

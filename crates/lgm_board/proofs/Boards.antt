-- Each kind of step preserves the rule of a board.
use Rattle.std.proofs.Common.{◌≡◌, Result, Ok, Err, ℕ, ◌+◌, ◌≤◌, ◌==◌, ◌≢◌, false, fold, length, length-append, append_assoc}
use Rattle.std.proofs.Common.{arith, Option, Some, None, List, [], ◌∷◌, ◌++◌, set, refl, sym, ap, ◌∙◌, subst, ⊎_elim, inl, inr}
use Rattle.std.proofs.lemmas.List.{append-nil}
use Rattle.std.proofs.lemmas.Bool.{cases_Bool}
use Rattle.std.proofs.lemmas.Bool.Decides.{nat_tests}
use mathlib.Core.Option.{some, some-ne-none}
use lib.ListN.{get_elem?}
use Rattle.crossbeam_utils.specs.Register.{Admits, TurnsAt, Forks, Merges}
use Rattle.atomic_table.proofs.Lists.{at_set, at_snoc}
use Rattle.lgm_store.specs.declared.op.Op.{Op}
use Rattle.lgm_store.specs.Rows.{Rows, empty}
use Rattle.lgm_store.specs.History.{fold_from}
use Rattle.lgm_store.specs.History as store
use Rattle.lgm_board.specs.declared.snapshot.TheConstants.{MAX_OPERATIONS}
use Rattle.lgm_board.specs.declared.snapshot.LogEntry.{LogEntry}
use Rattle.lgm_board.specs.declared.snapshot.LogEntry.TheVariants.{Absorb, Reached}
use Rattle.lgm_board.specs.Handles.{History, history}
use Rattle.lgm_board.specs.inner.Contents.{Contents}
use Rattle.lgm_board.specs.inner.Snapshots.{after_op, after_entry}
use Rattle.lgm_board.specs.inner.Shown.{ops_of, reached, whole, IsComplete, Publishes, IsFold, GoesOn, Follows, Holds, Sees}
use Rattle.lgm_board.proofs.Beginnings.{prefix_self, prefix_trans}

-- ---- what a thread saw last

abbrev Last : Type 0
Last = Option Contents

-- the snapshot follows what the thread saw last
abbrev Fits : Contents → Last → Type 0
Fits shown last = (first : Contents) → last ≡ Some first → Follows first shown

-- it follows what each thread saw last
abbrev FitAll : Contents → List Last → Type 0
FitAll shown views = (seat : ℕ) (first : Contents) → get_elem? views seat ≡ some (Some first) → Follows first shown

fits_none : (shown : Contents) → Fits shown None
fits_none shown first is = absurd cc

fits_some : (first shown : Contents) → Follows first shown → Fits shown (Some first)
fits_some first shown follows other is = let same : first ≡ other = cc in subst (λ (m : Contents). Follows m shown) same follows

pub follows_self : (shown : Contents) → Follows shown shown
follows_self shown = (refl, (refl, prefix_self shown.told.ops))

follows_trans : (a b c : Contents) → Follows a b → Follows b c → Follows a c
follows_trans a b c p q = (q.0 ∙ p.0, (q.1.0 ∙ p.1.0, prefix_trans a.told.ops b.told.ops c.told.ops p.1.1 q.1.1))

refits : (shown : Contents) (views : List Last) (seat : ℕ) (w : Last) → FitAll shown views → Fits shown w → FitAll shown (set views seat w)
refits shown views seat w h fits j first e =
    ⊎_elim (λ (t : (j ≡ seat) × (w ≡ Some first)). fits first t.1)
    (λ (t : (j ≢ seat) × (get_elem? views j ≡ some (Some first))). h j first t.1)
    (at_set views seat j w (Some first) e)

one_more : (shown : Contents) (views : List Last) (w : Last) → FitAll shown views → Fits shown w → FitAll shown (views ++ w ∷ [])
one_more shown views w h fits j first e = ⊎_elim (h j first) (λ (same : w ≡ Some first). fits first same) (at_snoc views w (Some first) j e)

fits_at : (shown : Contents) (views : List Last) (seat : ℕ) (v : Last) → FitAll shown views → get_elem? views seat ≡ some v → Fits shown v
fits_at shown views seat v h at first e = h seat first (at ∙ ap some e)

-- ---- the steps

-- a new place, which has seen nothing
pub admits : Admits Holds None
admits x views h = (h.0, one_more x views None h.1 (fits_none x))

-- an empty snapshot, seen by nobody
pub opens : (x : Contents) → x.rows ≡ empty → x.absorbed ≡ 0 → x.told.ops ≡ [] → Holds x (None ∷ [])
opens x rows none ops = (
  (rows ∙ sym (ap store.fold ops), none ∙ sym (ap length ops)),
  one_more x [] None (λ seat first at. absurd (some-ne-none (Some first) (sym at))) (fits_none x),
)

-- a step that shows y in place of x, or takes it if they are the same
pub sees : (seat : ℕ) (v : Last) (x y : Contents) → (IsFold x → IsFold y) → (IsFold x → Follows x y)
    → TurnsAt Holds seat v x y (λ v _ y w. Sees v y w)
sees seat v x y folds follows views h at =
    let h' : FitAll y views = λ j first e. follows_trans first x y (h.1 j first e) (follows h.0) in (
      Some y,
      (folds h.0, refits y views seat (Some y) h' (fits_some y y (follows_self y))),
      (refl, folds h.0, fits_at y views seat v h' at),
    )

-- a copy of what a thread saw
pub forks : (seat : ℕ) (v : Last) → Forks Holds seat v v v
forks seat v x views h at =
    let mine = fits_at x views seat v h.1 at in
    (h.0, one_more x (set views seat v) v (refits x views seat v h.1 mine) mine)

-- another thread takes it over
pub merges : (seat : ℕ) (v : Last) (other : ℕ) (w : Last) → Merges Holds seat v other w w None
merges seat v other w x views h at apart there =
    let theirs =
    ⊎_elim (λ (t : (other ≡ seat) × (w ≡ w)). absurd (apart t.0))
    (λ (t : (other ≢ seat) × (get_elem? views other ≡ some w)). fits_at x views other w h.1 t.1)
    (at_set views seat other w w there) in
    (h.0, refits x (set views seat w) other None (refits x views seat w h.1 theirs) (fits_none x))

-- ---- a snapshot after entries

-- an operation leaves the list alone
op_told : (c : Contents) (op : Op) → (after_op c op).told ≡ c.told
op_told c op = elim (cases_Bool (c.absorbed == MAX_OPERATIONS)) [ inl is ↦ rw is refl | inr is ↦ rw is refl ]

-- and the known features
op_known : (c : Contents) (op : Op) → (after_op c op).known ≡ c.known
op_known c op = elim (cases_Bool (c.absorbed == MAX_OPERATIONS)) [ inl is ↦ rw is refl | inr is ↦ rw is refl ]

-- below the limit it is applied
op_done : (c : Contents) (op : Op) → c.absorbed + 1 ≤ MAX_OPERATIONS
    → after_op c op ≡ record c { rows = store.absorbed c.rows op; absorbed = c.absorbed + 1 }
op_done c op below =
    let other : (c.absorbed == MAX_OPERATIONS) ≡ false = grind (arith, nat_tests) in
    rw other refl

-- the list that a snapshot reaches
pub told_after : (c : Contents) (es : List LogEntry) → (fold after_entry c es).told ≡ reached c.told es
told_after c [] = refl
told_after c (Absorb op ∷ es) = told_after (after_op c op) es ∙ ap (λ told. reached told es) (op_told c op)
told_after c (Reached told ∷ es) = told_after (record c { told = told }) es

-- the known features stay
pub known_after : (c : Contents) (es : List LogEntry) → (fold after_entry c es).known ≡ c.known
known_after c [] = refl
known_after c (Absorb op ∷ es) = known_after (after_op c op) es ∙ op_known c op
known_after c (Reached told ∷ es) = known_after (record c { told = told }) es

-- the number of operations applied, if it is no more than the limit
abbrev Absorbs : Contents → List LogEntry → Contents → Type 0
Absorbs c es d = (d.rows ≡ fold_from c.rows (ops_of es)) × (d.absorbed ≡ c.absorbed + length (ops_of es))

absorbs : (c : Contents) (es : List LogEntry) → c.absorbed + length (ops_of es) ≤ MAX_OPERATIONS → Absorbs c es (fold after_entry c es)
absorbs c [] few = (refl, omega arith)
absorbs c (Absorb op ∷ es) few =
    let next : Contents = record c { rows = store.absorbed c.rows op; absorbed = c.absorbed + 1 } in
    let is : after_op c op ≡ next = op_done c op (omega arith) in
    let rest = absorbs next es (omega arith) in
    subst (λ d. Absorbs c (Absorb op ∷ es) (fold after_entry d es)) (sym is) (rest.0, omega (arith, rest.1))
absorbs c (Reached told ∷ es) few = absorbs (record c { told = told }) es few

fold_append : (rows : Rows) (xs ys : List Op) → fold_from rows (xs ++ ys) ≡ fold_from (fold_from rows xs) ys
fold_append rows [] ys = refl
fold_append rows (x ∷ xs) ys = fold_append (store.absorbed rows x) xs ys

-- a publication, if the entries reach the whole list
pub publishes : (seat : ℕ) (v : Last) (x y : Contents) (es : List LogEntry) → IsComplete x.told es → length (whole x.told es).ops ≤ MAX_OPERATIONS
    → y ≡ fold after_entry x es → TurnsAt Holds seat v x y (λ v _ y w. Sees v y w)
publishes seat v x y es come few is =
    let told : y.told ≡ whole x.told es = ap (λ (c : Contents). c.told) is ∙ (told_after x es ∙ come) in
    let known : y.known ≡ x.known = ap (λ (c : Contents). c.known) is ∙ known_after x es in
    let long = length-append x.told.ops (ops_of es) in
    let done : (f : IsFold x) → Absorbs x es y = λ f. subst (Absorbs x es) (sym is) (absorbs x es (omega (arith, f.1, long, few))) in
    sees seat v x y
    (λ f. rw told (
      (done f).0 ∙ (ap (λ rows. fold_from rows (ops_of es)) f.0
          ∙ sym (fold_append empty x.told.ops (ops_of es))),
      omega (arith, (done f).1, f.1, long),
    ))
    (λ f. (known, rw told (refl, (ops_of es, refl))))

-- ---- the entries

ops_append : (es fs : List LogEntry) → ops_of (es ++ fs) ≡ ops_of es ++ ops_of fs
ops_append [] fs = refl
ops_append (Absorb op ∷ es) fs = ap (λ w. op ∷ w) (ops_append es fs)
ops_append (Reached told ∷ es) fs = ops_append es fs

-- the list that was told last
reached_last : (k : History) (es : List LogEntry) (told : History) → reached k (es ++ Reached told ∷ []) ≡ told
reached_last k [] told = refl
reached_last k (Absorb op ∷ es) told = reached_last k es told
reached_last k (Reached other ∷ es) told = reached_last other es told

-- entries are complete once they end with the list that they reach
pub completes : (k : History) (es : List LogEntry) (told : History) → told ≡ whole k es → IsComplete k (es ++ Reached told ∷ [])
completes k es told is =
    reached_last k es told ∙ (is ∙ ap (λ ops. history k.board (k.ops ++ ops)) (sym (ops_append es (Reached told ∷ []) ∙ append-nil (ops_of es))))

-- telling adds no operation
pub ops_reach : (es : List LogEntry) (told : History) → ops_of (es ++ Reached told ∷ []) ≡ ops_of es
ops_reach es told = ops_append es (Reached told ∷ []) ∙ append-nil (ops_of es)

-- an operation adds itself
pub ops_absorb : (es : List LogEntry) (op : Op) → ops_of (es ++ Absorb op ∷ []) ≡ ops_of es ++ op ∷ []
ops_absorb es op = ops_append es (Absorb op ∷ [])

-- the list of the pen's book is a prefix of the whole, also after one more operation
pub appends : (noted k : History) (es fs : List LogEntry) (op : Op) (n : ℕ) → ops_of fs ≡ ops_of es ++ op ∷ []
    → GoesOn noted (whole k es) → n ≡ length (whole k es).ops
    → GoesOn noted (whole k fs) × (n + 1 ≡ length (whole k fs).ops)
appends noted k es fs op n is h count =
    let longer : k.ops ++ ops_of fs ≡ (k.ops ++ ops_of es) ++ op ∷ [] = ap (λ w. k.ops ++ w) is ∙ sym (append_assoc k.ops (ops_of es) (op ∷ [])) in (
      (
        h.0,
        (
          h.1.0 ++ op ∷ [],
          sym (append_assoc noted.ops h.1.0 (op ∷ []))
              ∙ (ap (λ w. w ++ op ∷ []) h.1.1 ∙ sym longer),
        ),
      ),
      omega (arith, count, ap length longer, length-append (k.ops ++ ops_of es) (op ∷ [])),
    )

-- the book has the whole list once it was extended to it
pub noted_whole : (noted new k l : History) → GoesOn noted k → new.board ≡ noted.board → new.ops ≡ k.ops → l ≡ k → GoesOn new l
noted_whole noted new k l h board ops is = rw is (h.0 ∙ sym board, ([], append-nil new.ops ∙ ops))

-- the whole list is the same whether it is published or not
pub publishes_whole : {A B : Type 0} (done : Result A B) (k l : History) (es fs : List LogEntry) → Publishes done k l es fs → whole l fs ≡ whole k es
publishes_whole (Ok x) k l es fs h = rw (h.0, h.1) (ap (λ w. history k.board w) (append-nil (k.ops ++ ops_of es)))
publishes_whole (Err x) k l es fs h = rw (h.0, h.1) refl
